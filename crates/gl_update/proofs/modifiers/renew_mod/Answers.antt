use Rattle.std.proofs.Common.{◌∙◌, ap}
use Rattle.std.proofs.lemmas.Result.{on_ok_weaker}
use Rattle.gl_vm.specs.Labels.{all_labelled, names_labelled}
use Rattle.gl_code.specs.CodeView.{seen_mod_spot}
use Rattle.gl_update.proofs.Spots.{mod_idle, mod_renewed}
use Rattle.gl_vm.specs.declared.vm.Vm.{Vm}
use Rattle.gl_update.proofs.Results.{on_ok_always}
use Rattle.gl_update.proofs.modifiers.renew_mod.Goals as goal

pub returns-then-not-branch-clause-step : goal.returns-then-not-branch-clause-step
returns-then-not-branch-clause-step c = mod_idle (seen_mod_spot c.args.spot.now) c.args.vm.now c.is_stale.new.vm c.in_ok-is_stale.ensures.still (λ n u ag. c.in_ok-is_stale.ensures.exact n u ag ∙ c.if-not-branch.true)

pub returns-clause-step : goal.returns-clause-step
returns-clause-step c =
    on_ok_weaker c.refresh.result
    (mod_renewed (seen_mod_spot c.args.spot.now) (all_labelled c.in_ok-args.args) (names_labelled c.in_ok-named.named) c.args.vm.now c.is_stale.new.vm c.evaluate.new.self c.refresh.new.self c.in_ok-is_stale.ensures.still
    (λ n u ag. c.in_ok-is_stale.ensures.exact n u ag ∙ c.if-not-branch.false) c.in_ok-args.ensures c.in_ok-named.ensures c.in_ok-evaluate.ensures.step) c.refresh.ensures.step

pub returns-then-not-branch-clause-tree : goal.returns-then-not-branch-clause-tree
returns-then-not-branch-clause-tree c = ap (λ (v : Vm). v.tree) c.is_stale.ensures.counted.rest

pub returns-clause-tree : goal.returns-clause-tree
returns-clause-tree c =
    on_ok_always c.refresh.result (ap (λ (v : Vm). v.tree) c.refresh.ensures.rest ∙ (ap (λ (v : Vm). v.tree) c.evaluate.ensures.rest ∙ ap (λ (v : Vm). v.tree) c.is_stale.ensures.counted.rest))
