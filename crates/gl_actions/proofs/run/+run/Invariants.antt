use Rattle.std.proofs.Common.{◌≡◌, ◌+◌, ◌*◌, drop}
use Rattle.gl_meaning.specs.Actions.{run_steps}
use Rattle.gl_meaning.specs.View.{seen_steps}
use Rattle.gl_actions.specs.World.{World, app_in, sets_in}
use Rattle.gl_actions.specs.Frames.{Fits, scope_in}
use Rattle.gl_actions.specs.Reads.{Reads}
use Rattle.gl_actions.specs.Own.{IsOnPage, AddsOwn}
use Rattle.gl_actions.specs.Steps.{calls_in}
use Rattle.gl_actions.proofs.run.+run.Given as goal

abbrev pub decreases-action_on : goal.decreases-action_on
decreases-action_on l = 4 * l.levels

abbrev pub decreases-value_on : goal.decreases-value_on
decreases-value_on l = 4 * l.levels + 1

abbrev pub decreases-step_on : goal.decreases-step_on
decreases-step_on l = 4 * l.levels + 2

abbrev pub decreases-steps_on : goal.decreases-steps_on
decreases-steps_on l = 4 * l.levels + 3

abbrev pub invariant-steps_on-loop-step : goal.invariant-steps_on-loop-step
invariant-steps_on-loop-step l = ((w : World) → Reads l.turn.app.now l.turn.page.now w → Fits w l.frame
    → run_steps (app_in w) w.store (calls_in w l.levels) (scope_in w l.frame l.params) (seen_steps (drop l.step-index l.steps)) (sets_in w l.sets)
    ≡ run_steps (app_in w) w.store (calls_in w l.levels) (scope_in w l.frame l.params) (seen_steps l.steps) (sets_in w l.fn.sets))
    × (IsOnPage l.turn.app.now l.turn.page.now l.frame → AddsOwn l.turn.app.now l.turn.page.now l.fn.sets l.sets)
