use Rattle.std.proofs.Common.{◌≡◌, ◌++◌, ◌∷◌, flat_map, OnOk, ◌∙◌, ap, subst}
use Rattle.gl_value.specs.Value.{text_of}
use Rattle.gl_value.specs.Quote.{quoted}
use Rattle.gl_meaning.specs.Signs.{blank}
use Rattle.gl_lines.proofs.Lists.{items_flat}
use Rattle.gl_lines.proofs.log.push_args.Goals as goal

pub returns : goal.returns
returns c =
    subst (λ t. OnOk c.push_values.result (c.push_values.new.out ≡ c.args.out.now ++ t))
    (items_flat (λ v. blank ∷ quoted (text_of v)) c.as_slice.result.now ∙ ap (flat_map (λ v. blank ∷ quoted (text_of v))) c.as_slice.ensures) c.push_values.ensures
