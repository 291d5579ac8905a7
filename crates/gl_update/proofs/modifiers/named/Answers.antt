use Rattle.std.proofs.Common.{◌∙◌, ap, ap₂, sym}
use Rattle.gl_meaning.specs.Eval.{values_in}
use Rattle.gl_plain.specs.State.{pair_of}
use Rattle.gl_plain.specs.Tags.{named_with, values_from}
use Rattle.gl_vm.specs.View.{state_of}
use Rattle.gl_update.proofs.Arguments.{given, lasts}
use Rattle.gl_update.proofs.Spots.{if_ok, pairs_are}
use Rattle.gl_update.proofs.modifiers.named.Goals as goal

pub returns-in-Some-split_at_checked : goal.returns-in-Some-split_at_checked
returns-in-Some-split_at_checked c =
    let vm = c.args.vm.now in
    let ids = c.in-Some.ids.now in
    let k = c.args.spot.now.positional in
    let names = c.args.spot.now.names in
    if_ok c.paired.result
    (λ v e n u. let look = pair_of (state_of n vm u).look in
    ap (λ ps. named_with names (values_from k (values_in ps))) (pairs_are n vm u c.args.spot.now.spot.id ids c.sound.ensures.stamped c.in-Some.ensures)
    ∙ (ap (named_with names) (lasts look k ids) ∙ (ap₂ (λ ns is. named_with ns (given look is)) (sym c.as_slice.ensures) (sym c.in-Some-split_at_checked.ensures.cases.2) ∙ e n u))) c.paired.ensures
