use Rattle.std.proofs.Common.{◌≡◌, ◌++◌, drop}
use Rattle.gl_meaning.specs.View.{seen_path_steps}
use Rattle.gl_code.proofs.paths.roomy_copy.Given as goal

abbrev pub invariant-loop-step : goal.invariant-loop-step
invariant-loop-step l = l.steps ++ seen_path_steps (drop l.step-index l.step-items) ≡ seen_path_steps l.step-items
