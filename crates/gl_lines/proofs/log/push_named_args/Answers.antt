use Rattle.std.proofs.Common.{◌≡◌, ◌++◌, ◌∷◌, flat_map, OnOk, ◌∙◌, ap, subst}
use Rattle.gl_value.specs.Value.{text_of}
use Rattle.gl_value.specs.Quote.{quoted}
use Rattle.gl_meaning.specs.Signs.{blank, equals}
use Rattle.gl_lines.proofs.Lists.{entries_flat}
use Rattle.gl_lines.proofs.log.push_named_args.Goals as goal

pub returns : goal.returns
returns c =
    subst (λ t. OnOk c.push_entries.result (c.push_entries.new.out ≡ c.args.out.now ++ t))
    (entries_flat (λ n. blank ∷ (n.0 ++ equals ∷ quoted (text_of n.1))) c.as_slice.result.now ∙ ap (flat_map (λ n. blank ∷ (n.0 ++ equals ∷ quoted (text_of n.1)))) c.as_slice.ensures) c.push_entries.ensures
