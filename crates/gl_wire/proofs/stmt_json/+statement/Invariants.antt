use Rattle.std.proofs.Common.{◌≡◌, ◌≤◌, ◌+◌, ◌*◌, ◌++◌, max, drop}
use Rattle.gl_wire.specs.Depth.{stmt_depth, body_depth, slots_depth}
use Rattle.gl_wire.specs.Json.{body_rows, slots_rows}
use Rattle.gl_wire.specs.Rows.{shown}
use Rattle.gl_wire.specs.View.{stmt_view, seen_stmts, seen_slots}
use Rattle.gl_wire.specs.Wire.{body_of, slots_of}
use Rattle.gl_wire.specs.declared.version.Version.TheVariants.{Second}
use Rattle.gl_wire.proofs.stmt_json.+statement.Given as goal

abbrev pub decreases-push_stmt : goal.decreases-push_stmt
decreases-push_stmt l = 4 * stmt_depth (stmt_view l.stmt.now)

abbrev pub decreases-push_body : goal.decreases-push_body
decreases-push_body l = 4 * body_depth (body_of l.body.now) + 1

abbrev pub decreases-push_else : goal.decreases-push_else
decreases-push_else l = 4 * body_depth (body_of l.otherwise.now) + 2

abbrev pub decreases-push_bodies : goal.decreases-push_bodies
decreases-push_bodies l = 4 * max (body_depth (body_of l.body.now)) (body_depth (body_of l.otherwise.now)) + 3

abbrev pub decreases-push_component : goal.decreases-push_component
decreases-push_component l = 4 * slots_depth (slots_of l.slots.now) + 3

abbrev pub decreases-push_slots : goal.decreases-push_slots
decreases-push_slots l = 4 * slots_depth (slots_of l.slots.now) + 2

-- the rows so far and those of what is left are all, and what is left is no deeper
abbrev pub invariant-push_body-loop-stmt : goal.invariant-push_body-loop-stmt
invariant-push_body-loop-stmt l = record {
  written : shown l.out ++ body_rows l.version (body_of (seen_stmts (drop l.stmt-index l.stmt-items))) ≡ shown l.initial.out ++ body_rows l.version (body_of l.body);
  shallow : body_depth (body_of (seen_stmts (drop l.stmt-index l.stmt-items))) ≤ body_depth (body_of l.body);
}

abbrev pub invariant-push_slots-loop-slot : goal.invariant-push_slots-loop-slot
invariant-push_slots-loop-slot l = record {
  written : shown l.out ++ slots_rows Second (slots_of (seen_slots (drop l.slot-index l.slot-items))) ≡ shown l.initial.out ++ slots_rows Second (slots_of l.slots);
  shallow : slots_depth (slots_of (seen_slots (drop l.slot-index l.slot-items))) ≤ slots_depth (slots_of l.slots);
}
