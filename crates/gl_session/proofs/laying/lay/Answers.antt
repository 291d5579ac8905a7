use Rattle.std.proofs.Common.{refl, ◌∙◌}
use Rattle.gl_session.proofs.Laid.{laid_next, laid_last}
use Rattle.gl_update.proofs.FreshItems.{none_waits}
use Rattle.gl_session.proofs.laying.lay.Goals as goal

pub loop-given-init : goal.loop-given-init
loop-given-init c = record { left = λ new d. d; calm = λ h. h; tree = refl }

pub loop-given-preserved : goal.loop-given-preserved
loop-given-preserved c = record {
  left = laid_next c.args.givens.items c.args.vm.now c.loop-given.vm c.put.new.vm c.loop-given.waiting.items c.pop.new.self.items c.in-Some.given c.in-Some.ensures.items c.in_ok-put.ensures.step c.loop-given.invariant.left;
  calm = λ h. c.put.ensures.calm (c.loop-given.invariant.calm h);
  tree = c.in_ok-put.ensures.tree ∙ c.loop-given.invariant.tree;
}

pub returns-clause-step : goal.returns-clause-step
returns-clause-step c =
    laid_last c.args.givens.items c.args.vm.now c.loop-given.vm c.loop-given.waiting.items (none_waits c.loop-given.waiting.items c.pop.new.self.items _ c.in_default.ensures.items c.in_default.ensures.rest c.in_default.ensures.cases.0)
    c.loop-given.invariant.left
