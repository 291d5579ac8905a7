use Rattle.std.proofs.Common.{◌≡◌, ◌≤◌, ◌+◌, ◌*◌, ◌++◌, max, drop, true}
use Rattle.std.specs.Prelude.{string_bytes}
use Rattle.gl_wire.specs.Depth.{stmt_depth, body_depth, slots_depth}
use Rattle.gl_wire.specs.Json.{body_rows, slots_rows}
use Rattle.gl_wire.specs.View.{stmt_view, seen_stmts, seen_slots}
use Rattle.gl_wire.specs.Wire.{body_of, slots_of}
use Rattle.gl_wire.specs.Written.{rows_text}
use Rattle.gl_wire.specs.declared.version.Version.TheVariants.{Second}
use Rattle.gl_wire.proofs.writing.+statement.Given as goal

abbrev pub decreases-write_stmt : goal.decreases-write_stmt
decreases-write_stmt l = 5 * stmt_depth (stmt_view l.stmt.now)

abbrev pub decreases-write_stmts : goal.decreases-write_stmts
decreases-write_stmts l = 5 * body_depth (body_of l.body.now) + 1

abbrev pub decreases-write_else : goal.decreases-write_else
decreases-write_else l = 5 * body_depth (body_of l.otherwise.now) + 2

abbrev pub decreases-write_ended : goal.decreases-write_ended
decreases-write_ended l = 5 * body_depth (body_of l.body.now) + 2

abbrev pub decreases-write_bodies : goal.decreases-write_bodies
decreases-write_bodies l = 5 * max (body_depth (body_of l.body.now)) (body_depth (body_of l.otherwise.now)) + 3

abbrev pub decreases-write_tag : goal.decreases-write_tag
decreases-write_tag l = 5 * body_depth (body_of l.body.now) + 4

abbrev pub decreases-write_if : goal.decreases-write_if
decreases-write_if l = 5 * max (body_depth (body_of l.body.now)) (body_depth (body_of l.otherwise.now)) + 4

abbrev pub decreases-write_each : goal.decreases-write_each
decreases-write_each l = 5 * max (body_depth (body_of l.body.now)) (body_depth (body_of l.otherwise.now)) + 4

abbrev pub decreases-write_let : goal.decreases-write_let
decreases-write_let l = 5 * body_depth (body_of l.body.now) + 4

abbrev pub decreases-write_component : goal.decreases-write_component
decreases-write_component l = 5 * slots_depth (slots_of l.slots.now) + 3

abbrev pub decreases-write_slots : goal.decreases-write_slots
decreases-write_slots l = 5 * slots_depth (slots_of l.slots.now) + 2

-- what is written and what is left are all, and what is left is no deeper
abbrev pub invariant-write_stmts-loop-stmt : goal.invariant-write_stmts-loop-stmt
invariant-write_stmts-loop-stmt l = record {
  written : string_bytes l.text ++ rows_text true (body_rows Second (body_of (seen_stmts (drop l.stmt-index l.stmt-items)))) ≡ string_bytes l.initial.text ++ rows_text true (body_rows Second (body_of l.body));
  shallow : body_depth (body_of (seen_stmts (drop l.stmt-index l.stmt-items))) ≤ body_depth (body_of l.body);
}

abbrev pub invariant-write_slots-loop-slot : goal.invariant-write_slots-loop-slot
invariant-write_slots-loop-slot l = record {
  written : string_bytes l.text ++ rows_text true (slots_rows Second (slots_of (seen_slots (drop l.slot-index l.slot-items)))) ≡ string_bytes l.initial.text ++ rows_text true (slots_rows Second (slots_of l.slots));
  shallow : slots_depth (slots_of (seen_slots (drop l.slot-index l.slot-items))) ≤ slots_depth (slots_of l.slots);
}
