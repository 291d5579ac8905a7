use Rattle.std.proofs.Common.{◌≡◌, ◌≤◌, ◌+◌, ◌*◌, drop}
use Rattle.gl_wire.specs.Depth.{stmt_depth, body_depth, slots_depth}
use Rattle.gl_wire.specs.Unnamed.{is_unnamed_body}
use Rattle.gl_wire.specs.View.{stmt_view, seen_stmts}
use Rattle.gl_wire.specs.Wire.{body_of, slots_of}
use Rattle.gl_wire.proofs.unnamed.+unnamed.Given as goal

abbrev pub decreases-is_unnamed_stmt : goal.decreases-is_unnamed_stmt
decreases-is_unnamed_stmt l = 2 * stmt_depth (stmt_view l.stmt.now)

abbrev pub decreases-is_unnamed_body : goal.decreases-is_unnamed_body
decreases-is_unnamed_body l = 2 * body_depth (body_of l.body.now) + 1

abbrev pub decreases-is_unnamed_slots : goal.decreases-is_unnamed_slots
decreases-is_unnamed_slots l = 2 * slots_depth (slots_of l.slots.now) + 1

-- what is left decides, and is no deeper
abbrev pub invariant-is_unnamed_body-loop-stmt : goal.invariant-is_unnamed_body-loop-stmt
invariant-is_unnamed_body-loop-stmt l = record {
  decides : is_unnamed_body (body_of (seen_stmts (drop l.stmt-index l.stmt-items))) ≡ is_unnamed_body (body_of l.body);
  shallow : body_depth (body_of (seen_stmts (drop l.stmt-index l.stmt-items))) ≤ body_depth (body_of l.body);
}
