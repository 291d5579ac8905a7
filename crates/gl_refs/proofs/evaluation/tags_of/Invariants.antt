use Rattle.std.proofs.Common.{◌≡◌, ◌++◌, map, drop}
use Rattle.gl_refs.specs.Forms.{reads}
use Rattle.gl_refs.specs.State.{held_tag, held_value}
use Rattle.gl_refs.specs.View.{rows_of, seen_kind}
use Rattle.gl_refs.proofs.evaluation.tags_of.Given as goal

abbrev pub invariant-loop-at : goal.invariant-loop-at
invariant-loop-at l =
    l.ids.items ++ map (held_tag l.tags (rows_of l.rows)) (drop l.at (reads (held_value (rows_of l.rows)) (seen_kind l.kind))) ≡ map (held_tag l.tags (rows_of l.rows)) (reads (held_value (rows_of l.rows)) (seen_kind l.kind))
