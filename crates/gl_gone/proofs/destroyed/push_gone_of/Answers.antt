use Rattle.std.proofs.Common.{◌≡◌, ◌++◌, OnOk, flat_map, ap, subst, ◌∙◌}
use Rattle.gl_meaning.specs.View.{manifest_view}
use Rattle.gl_gone.specs.Logs.{stands_in, gone_text}
use Rattle.gl_gone.proofs.NumberSets.{text_is}
use Rattle.gl_gone.proofs.destroyed.push_gone_of.Goals as goal

pub returns : goal.returns
returns c =
    let numbers = c.in_ok-numbers.numbers in let before = c.args.before.now.list.items in let after = c.args.after.now.list.items in let m = manifest_view c.args.manifest.now in
    subst (λ t. OnOk c.push_all.result (c.push_all.new.out ≡ c.args.out.now ++ t))
    (ap (λ xs. flat_map (gone_text numbers m) xs) c.as_slice-2.ensures.value
    ∙ text_is numbers m after before (λ x. c.in_ok-numbers.ensures x ∙ ap (λ ys. stands_in ys x) c.as_slice.ensures.value)) c.push_all.ensures
