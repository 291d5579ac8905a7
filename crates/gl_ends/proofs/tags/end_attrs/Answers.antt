use Rattle.std.proofs.Common.{◌∙◌}
use Rattle.gl_ends.proofs.Joins.{ends_as}
use Rattle.gl_ends.proofs.Loops.{left_step, left_done}
use Rattle.gl_ends.proofs.CodeCounts.{count_attr, attrs_count}
use Rattle.gl_ends.proofs.tags.end_attrs.Goals as goal

pub loop-attr-preserved : goal.loop-attr-preserved
loop-attr-preserved c = record {
  left = left_step count_attr c.args.attrs.now c.loop-attr.attr-index c.args.vm.now c.loop-attr.vm c.loop-attr.invariant.left c.attr-item.result c.end_spot.new.vm c.loop-attr-test.true c.attr-item.is c.end_spot.ensures.led c.in_ok-end_spot.ensures.ends;
  calm = λ h. c.end_spot.ensures.calm (c.loop-attr.invariant.calm h);
  led = λ h. c.end_spot.ensures.led (c.loop-attr.invariant.led h);
  tree = c.in_ok-end_spot.ensures.tree ∙ c.loop-attr.invariant.tree;
}

pub returns-clause-ends : goal.returns-clause-ends
returns-clause-ends c n =
    ends_as n c.args.vm.now c.loop-attr.vm _ _ (λ q. attrs_count n q c.args.attrs.now) (left_done count_attr c.args.attrs.now c.loop-attr.attr-index c.args.vm.now c.loop-attr.vm c.loop-attr.invariant.left c.loop-attr-test.false n)

pub returns-in_err-end_spot-clause-led : goal.returns-in_err-end_spot-clause-led
returns-in_err-end_spot-clause-led c = λ h. c.end_spot.ensures.led (c.loop-attr.invariant.led h)

pub returns-clause-tree : goal.returns-clause-tree
returns-clause-tree c = c.loop-attr.invariant.tree
