use Rattle.std.proofs.Common.{◌∙◌, ap, sym}
use Rattle.gl_meaning.specs.Eval.{values_in}
use Rattle.gl_plain.specs.State.{pair_of}
use Rattle.gl_plain.specs.Tags.{first_values}
use Rattle.gl_vm.specs.View.{state_of}
use Rattle.gl_update.proofs.Arguments.{given, firsts}
use Rattle.gl_update.proofs.Spots.{if_ok, pairs_are}
use Rattle.gl_update.proofs.modifiers.positional.Goals as goal

pub returns-in-Some-split_at_checked : goal.returns-in-Some-split_at_checked
returns-in-Some-split_at_checked c =
    let vm = c.args.vm.now in
    let ids = c.in-Some.ids.now in
    let k = c.args.spot.now.positional in
    if_ok c.values_of.result
    (λ v e n u. let look = pair_of (state_of n vm u).look in
    ap (λ ps. first_values k (values_in ps)) (pairs_are n vm u c.args.spot.now.spot.id ids c.sound.ensures.stamped c.in-Some.ensures)
    ∙ (firsts look k ids ∙ (ap (given look) (sym c.in-Some-split_at_checked.ensures.cases.1) ∙ sym (e n u)))) c.values_of.ensures
