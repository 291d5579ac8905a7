use Rattle.std.proofs.Common.{◌≡◌, length}
use Rattle.gl_meaning.specs.Path.{path_eq}
use Rattle.gl_meaning.specs.View.{seen_path_steps}
use Rattle.gl_code.proofs.cells.same_steps.Given as goal

-- what is left decides
abbrev pub invariant-loop-step : goal.invariant-loop-step
invariant-loop-step l =
    (path_eq (seen_path_steps l.one) (seen_path_steps l.with) ≡ path_eq (seen_path_steps l.step-iterator.a.rest.now) (seen_path_steps l.step-iterator.b.rest.now))
    × (length l.step-iterator.a.rest.now ≡ length l.step-iterator.b.rest.now)
