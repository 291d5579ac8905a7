use Rattle.std.proofs.Common.{◌∙◌, ap, sym}
use Rattle.std.proofs.lemmas.Result.{on_ok_weaker}
use Rattle.gl_value.specs.Value.{text_of}
use Rattle.gl_value.specs.View.{view}
use Rattle.gl_value.proofs.Owners.{rules_leave_owners}
use Rattle.gl_vm.specs.Labels.{owner_path}
use Rattle.gl_update.proofs.Spots.{text_idle, text_renewed}
use Rattle.gl_code.proofs.Rooting.{roots_then}
use Rattle.gl_update.proofs.Renewed.{refs_rooted}
use Rattle.gl_update.proofs.nodes.renew_text.Goals as goal

pub returns-then-not-branch-clause-step : goal.returns-then-not-branch-clause-step
returns-then-not-branch-clause-step c =
    text_idle c.args.node.1 c.args.id.1 c.args.vm.now c.is_stale.new.vm c.in_ok-is_stale.ensures.still (λ n u ag. c.in_ok-is_stale.ensures.exact n u ag ∙ c.if-not-branch.true)

pub returns-clause-step : goal.returns-clause-step
returns-clause-step c =
    on_ok_weaker c.put_text.result
    (text_renewed c.args.node.1 c.args.id.1 c.in_ok-text.text c.args.vm.now c.is_stale.new.vm c.evaluate.new.self c.put_text.new.vm c.in_ok-is_stale.ensures.still (λ n u ag. c.in_ok-is_stale.ensures.exact n u ag ∙ c.if-not-branch.false)
    (λ n u. ap text_of (c.in_ok-value.ensures n u) ∙ ((rules_leave_owners owner_path (view c.in_ok-value.value)).1 ∙ sym c.in_ok-text.ensures)) c.in_ok-evaluate.ensures.step) c.put_text.ensures.step

pub returns-then-not-branch-clause-roots : goal.returns-then-not-branch-clause-roots
returns-then-not-branch-clause-roots c = refs_rooted c.args.vm.now c.is_stale.new.vm _ c.is_stale.ensures.counted.rest

pub returns-clause-roots : goal.returns-clause-roots
returns-clause-roots c =
    let stale = refs_rooted c.args.vm.now c.is_stale.new.vm _ c.is_stale.ensures.counted.rest in
    let evaluated = refs_rooted c.is_stale.new.vm c.evaluate.new.self _ c.evaluate.ensures.rest in
    on_ok_weaker c.put_text.result (roots_then c.args.vm.now.tree c.evaluate.new.self.tree c.put_text.new.vm.tree (roots_then c.args.vm.now.tree c.is_stale.new.vm.tree c.evaluate.new.self.tree stale evaluated)) c.put_text.ensures.roots
