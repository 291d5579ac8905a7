use Rattle.std.proofs.Common.{◌∙◌}
use Rattle.gl_ends.proofs.Loops.{before_step, before_done}
use Rattle.gl_ends.proofs.references.end_references.Goals as goal

pub returns-in_err-end_reference-clause-led : goal.returns-in_err-end_reference-clause-led
returns-in_err-end_reference-clause-led c = λ h. c.end_reference.ensures.led (c.loop-parts.invariant.led h)

pub loop-parts-preserved : goal.loop-parts-preserved
loop-parts-preserved c = record {
  left = before_step c.args.ids.now c.loop-parts.left.now c.args.vm.now c.loop-parts.vm c.loop-parts.invariant.left c.in-Some.parts.0.now c.in-Some.parts.1.now c.end_reference.new.vm c.in-Some.ensures.cases.0 c.end_reference.ensures.led c.in_ok-end_reference.ensures.ends;
  calm = λ h. c.end_reference.ensures.calm (c.loop-parts.invariant.calm h);
  led = λ h. c.end_reference.ensures.led (c.loop-parts.invariant.led h);
  tree = c.in_ok-end_reference.ensures.tree ∙ c.loop-parts.invariant.tree;
}

pub returns-clause-ends : goal.returns-clause-ends
returns-clause-ends c = before_done c.args.ids.now c.loop-parts.left.now c.args.vm.now c.loop-parts.vm c.loop-parts.invariant.left c.in_default.ensures.cases

pub returns-clause-tree : goal.returns-clause-tree
returns-clause-tree c = c.loop-parts.invariant.tree
