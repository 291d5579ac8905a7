use Rattle.std.proofs.Common.{◌≡◌, ◌≤◌, ◌+◌, ◌*◌, ◌++◌, max, drop, false}
use Rattle.gl_ast.specs.Canon.{body_text, blocks_text}
use Rattle.gl_ast.specs.Depth.{stmt_depth, body_depth, slots_depth}
use Rattle.gl_ast.specs.Template.{body_of, slots_of}
use Rattle.gl_ast.specs.View.{stmt_view, seen_stmts, seen_slots}
use Rattle.gl_show.proofs.stmt.+statement.Given as goal

abbrev pub decreases-write_stmt : goal.decreases-write_stmt
decreases-write_stmt l = 5 * stmt_depth (stmt_view l.stmt.now)

abbrev pub decreases-write_body : goal.decreases-write_body
decreases-write_body l = 5 * body_depth (body_of l.body.now) + 1

abbrev pub decreases-write_else : goal.decreases-write_else
decreases-write_else l = 5 * body_depth (body_of l.otherwise.now) + 2

abbrev pub decreases-write_bodies : goal.decreases-write_bodies
decreases-write_bodies l = 5 * max (body_depth (body_of l.body.now)) (body_depth (body_of l.otherwise.now)) + 3

abbrev pub decreases-write_element : goal.decreases-write_element
decreases-write_element l = 5 * body_depth (body_of l.body.now) + 2

abbrev pub decreases-write_let : goal.decreases-write_let
decreases-write_let l = 5 * body_depth (body_of l.body.now) + 2

abbrev pub decreases-write_slot : goal.decreases-write_slot
decreases-write_slot l = 5 * body_depth (body_of l.slot.now.block.body) + 2

abbrev pub decreases-write_blocks : goal.decreases-write_blocks
decreases-write_blocks l = 5 * slots_depth (slots_of (seen_slots l.slots.now)) + 3

abbrev pub decreases-write_slots : goal.decreases-write_slots
decreases-write_slots l = 5 * slots_depth (slots_of l.slots.now) + 4

-- the text so far and that of what is left are the whole text, and what is left is no deeper
abbrev pub invariant-write_body-loop-stmt : goal.invariant-write_body-loop-stmt
invariant-write_body-loop-stmt l = record {
  written : l.out ++ body_text l.after_text (body_of (seen_stmts (drop l.stmt-index l.stmt-items))) ≡ l.initial.out ++ body_text false (body_of l.body);
  shallow : body_depth (body_of (seen_stmts (drop l.stmt-index l.stmt-items))) ≤ body_depth (body_of l.body);
}

abbrev pub invariant-write_blocks-loop-slot : goal.invariant-write_blocks-loop-slot
invariant-write_blocks-loop-slot l = record {
  written : l.out ++ blocks_text (slots_of (seen_slots (drop l.slot-index l.slots))) ≡ l.initial.out ++ blocks_text (slots_of (seen_slots l.slots));
  shallow : slots_depth (slots_of (seen_slots (drop l.slot-index l.slots))) ≤ slots_depth (slots_of (seen_slots l.slots));
}
