use Rattle.std.proofs.Common.{◌≡◌, drop}
use Rattle.gl_value.specs.Helpers.{first_with}
use Rattle.gl_value.specs.View.{view, seen_items}
use Rattle.gl_helpers.proofs.choose.first_with.Given as goal

-- what is left decides
abbrev pub invariant-loop-value : goal.invariant-loop-value
invariant-loop-value l = first_with l.truth (view l.found) (seen_items (drop l.value-index l.values)) ≡ first_with l.truth (view l.last) (seen_items l.values)
