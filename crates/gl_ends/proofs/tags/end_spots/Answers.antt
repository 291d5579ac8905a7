use Rattle.std.proofs.Common.{◌∙◌}
use Rattle.gl_ends.proofs.Joins.{ends_as}
use Rattle.gl_ends.proofs.Loops.{left_step, left_done}
use Rattle.gl_ends.proofs.CodeCounts.{count_mod, spots_count}
use Rattle.gl_ends.proofs.tags.end_spots.Goals as goal

pub loop-one-preserved : goal.loop-one-preserved
loop-one-preserved c = record {
  left = left_step count_mod c.args.mods.now c.loop-one.one-index c.args.vm.now c.loop-one.vm c.loop-one.invariant.left c.one-item.result c.end_spot.new.vm c.loop-one-test.true c.one-item.is c.end_spot.ensures.led c.in_ok-end_spot.ensures.ends;
  calm = λ h. c.end_spot.ensures.calm (c.loop-one.invariant.calm h);
  led = λ h. c.end_spot.ensures.led (c.loop-one.invariant.led h);
  tree = c.in_ok-end_spot.ensures.tree ∙ c.loop-one.invariant.tree;
}

pub returns-clause-ends : goal.returns-clause-ends
returns-clause-ends c n =
    ends_as n c.args.vm.now c.loop-one.vm _ _ (λ q. spots_count n q c.args.mods.now) (left_done count_mod c.args.mods.now c.loop-one.one-index c.args.vm.now c.loop-one.vm c.loop-one.invariant.left c.loop-one-test.false n)

pub returns-in_err-end_spot-clause-led : goal.returns-in_err-end_spot-clause-led
returns-in_err-end_spot-clause-led c = λ h. c.end_spot.ensures.led (c.loop-one.invariant.led h)

pub returns-clause-tree : goal.returns-clause-tree
returns-clause-tree c = c.loop-one.invariant.tree
