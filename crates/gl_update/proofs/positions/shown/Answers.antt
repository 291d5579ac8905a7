use Rattle.std.proofs.Common.{◌∙◌, ap}
use Rattle.gl_plain.specs.Binding.{first_value}
use Rattle.gl_plain.specs.State.{pair_of}
use Rattle.gl_vm.specs.View.{state_of}
use Rattle.gl_update.proofs.Spots.{if_ok, pairs_are, first_is}
use Rattle.gl_update.proofs.positions.shown.Goals as goal

pub returns-in-Some-len1-up : goal.returns-in-Some-len1-up
returns-in-Some-len1-up c =
    let vm = c.args.vm.now in
    let ids = c.in-Some-len1-up.field-0.now in
    if_ok c.value_of.result
    (λ v e n u. ap first_value (pairs_are n vm u c.args.id ids c.sound.ensures.stamped c.in-Some-len1-up.ensures) ∙ (first_is (pair_of (state_of n vm u).look) ids c.first-item.result c.in-Some-len1-up.len_at_least c.first-item.is ∙ e n u)) c.value_of.ensures
