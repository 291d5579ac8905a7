use Rattle.std.proofs.Common.{◌≡◌, refl}
use Rattle.std.proofs.lemmas.Result.{on_ok_weaker}
use Rattle.gl_vm.specs.declared.vm.Vm.{Vm}
use Rattle.gl_code.proofs.Calming.{tree_calm}
use Rattle.gl_update.proofs.Still.{tree_does}
use Rattle.gl_update.proofs.standing.move_item.Goals as goal

pub returns-clause-step : goal.returns-clause-step
returns-clause-step c =
    let old = c.args.vm.now in
    let new : Vm = record old { tree = c.shift_body.new.tree } in
    on_ok_weaker c.shift_body.result (λ (e : new.tree.nodes ≡ old.tree.nodes). tree_does old new refl e) c.shift_body.ensures.nodes

pub returns-clause-calm : goal.returns-clause-calm
returns-clause-calm c =
    let old = c.args.vm.now in
    let new : Vm = record old { tree = c.shift_body.new.tree } in tree_calm old new refl
