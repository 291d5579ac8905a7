use Rattle.std.proofs.Common.{◌≡◌, take, map}
use Rattle.std.specs.List.{range_with_len}
use Rattle.gl_each.specs.Sync.{kept, has_place}
use Rattle.gl_each.specs.View.{seen_steps}
use Rattle.gl_each.proofs.planning.marks.Given as goal

abbrev pub invariant-loop-step : goal.invariant-loop-step
invariant-loop-step l = l.list.items ≡ map (has_place (kept (seen_steps (take l.step-index l.steps)))) (range_with_len 0 l.count)
