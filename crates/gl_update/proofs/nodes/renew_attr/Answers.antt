use Rattle.std.proofs.Common.{◌∙◌}
use Rattle.std.proofs.lemmas.Result.{on_ok_weaker}
use Rattle.gl_code.specs.CodeView.{seen_attr_spot}
use Rattle.gl_update.proofs.Spots.{attr_idle, attr_renewed}
use Rattle.gl_code.proofs.Rooting.{roots_then}
use Rattle.gl_update.proofs.Renewed.{refs_rooted}
use Rattle.gl_update.proofs.nodes.renew_attr.Goals as goal

pub returns-then-not-branch-clause-step : goal.returns-then-not-branch-clause-step
returns-then-not-branch-clause-step c =
    attr_idle c.args.node.1 (seen_attr_spot c.args.attr.now) c.args.vm.now c.is_stale.new.vm c.in_ok-is_stale.ensures.still (λ n u ag. c.in_ok-is_stale.ensures.exact n u ag ∙ c.if-not-branch.true)

pub returns-clause-step : goal.returns-clause-step
returns-clause-step c =
    on_ok_weaker c.put_attribute.result
    (attr_renewed c.args.node.1 (seen_attr_spot c.args.attr.now) c.in_ok-value.value c.args.vm.now c.is_stale.new.vm c.evaluate.new.self c.put_attribute.new.vm c.in_ok-is_stale.ensures.still (λ n u ag. c.in_ok-is_stale.ensures.exact n u ag ∙ c.if-not-branch.false)
    c.in_ok-value.ensures c.in_ok-evaluate.ensures.step) c.put_attribute.ensures.step

pub returns-then-not-branch-clause-roots : goal.returns-then-not-branch-clause-roots
returns-then-not-branch-clause-roots c = refs_rooted c.args.vm.now c.is_stale.new.vm _ c.is_stale.ensures.counted.rest

pub returns-clause-roots : goal.returns-clause-roots
returns-clause-roots c =
    let stale = refs_rooted c.args.vm.now c.is_stale.new.vm _ c.is_stale.ensures.counted.rest in
    let evaluated = refs_rooted c.is_stale.new.vm c.evaluate.new.self _ c.evaluate.ensures.rest in
    on_ok_weaker c.put_attribute.result (roots_then c.args.vm.now.tree c.evaluate.new.self.tree c.put_attribute.new.vm.tree (roots_then c.args.vm.now.tree c.is_stale.new.vm.tree c.evaluate.new.self.tree stale evaluated)) c.put_attribute.ensures.roots
