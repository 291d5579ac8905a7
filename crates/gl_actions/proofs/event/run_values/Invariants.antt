use Rattle.std.proofs.Common.{◌≡◌, map, drop}
use Rattle.gl_value.specs.View.{view, seen_items}
use Rattle.gl_actions.specs.World.{World, value_in, sets_in}
use Rattle.gl_actions.specs.Reads.{Reads}
use Rattle.gl_actions.specs.Own.{AddsOwn}
use Rattle.gl_actions.specs.Steps.{runs_all}
use Rattle.gl_actions.proofs.event.run_values.Given as goal

abbrev pub invariant-loop-value : goal.invariant-loop-value
invariant-loop-value l = ((w : World) → Reads l.turn.app.now l.turn.page.now w
    → runs_all w (map (value_in w) (seen_items (drop l.value-index l.values))) (value_in w (view l.payload)) (sets_in w l.sets)
    ≡ runs_all w (map (value_in w) (seen_items l.values)) (value_in w (view l.payload)) (sets_in w l.fn.sets))
    × AddsOwn l.turn.app.now l.turn.page.now l.fn.sets l.sets
