use Rattle.std.proofs.Common.{◌∙◌, ap}
use Rattle.gl_update.proofs.Spots.{reread_idle, reread_done}
use Rattle.gl_vm.specs.declared.vm.Vm.{Vm}
use Rattle.gl_update.proofs.positions.reread.Goals as goal

pub returns-in_ok-evaluate-clause-step : goal.returns-in_ok-evaluate-clause-step
returns-in_ok-evaluate-clause-step c =
    reread_done c.args.id.1 c.args.vm.now c.is_stale.new.vm c.in_ok-is_stale.ensures.still c.evaluate.new.self (λ n u ag. c.in_ok-is_stale.ensures.exact n u ag ∙ c.if-branch.true) c.in_ok-evaluate.ensures.step

pub returns-in_ok-evaluate-clause-stale : goal.returns-in_ok-evaluate-clause-stale
returns-in_ok-evaluate-clause-stale c = λ n u ag. c.in_ok-is_stale.ensures.exact n u ag ∙ c.if-branch.true

pub returns-else-branch-clause-step : goal.returns-else-branch-clause-step
returns-else-branch-clause-step c =
    reread_idle c.args.id.1 c.args.vm.now c.is_stale.new.vm c.in_ok-is_stale.ensures.still (λ n u ag. c.in_ok-is_stale.ensures.exact n u ag ∙ c.if-branch.false)

pub returns-else-branch-clause-stale : goal.returns-else-branch-clause-stale
returns-else-branch-clause-stale c = λ n u ag. c.in_ok-is_stale.ensures.exact n u ag ∙ c.if-branch.false

pub returns-in_ok-evaluate-clause-tree : goal.returns-in_ok-evaluate-clause-tree
returns-in_ok-evaluate-clause-tree c = ap (λ (v : Vm). v.tree) c.evaluate.ensures.rest ∙ ap (λ (v : Vm). v.tree) c.is_stale.ensures.counted.rest

pub returns-else-branch-clause-tree : goal.returns-else-branch-clause-tree
returns-else-branch-clause-tree c = ap (λ (v : Vm). v.tree) c.is_stale.ensures.counted.rest
