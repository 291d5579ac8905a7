use Rattle.std.proofs.Common.{◌≡◌, ◌+◌, drop}
use Rattle.gl_meaning.specs.View.{seen_path_steps}
use Rattle.gl_actions.specs.Classes.{intos}
use Rattle.gl_actions.proofs.turn.depth_of.Given as goal

abbrev pub invariant-loop-step : goal.invariant-loop-step
invariant-loop-step l = l.count + intos (seen_path_steps (drop l.step-index l.step-items)) ≡ 1 + intos (seen_path_steps l.step-items)
