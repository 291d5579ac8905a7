use Rattle.gl_actions.proofs.ClassLaws.{depth_end}
use Rattle.gl_actions.proofs.turn.depth_of.Goals as goal

pub returns : goal.returns
returns c = depth_end c.args.owner.now.path.steps c.as_slice-step-items.result.now c.loop-step.step-index c.loop-step.count c.as_slice-step-items.ensures c.loop-step-test.false c.loop-step.invariant
