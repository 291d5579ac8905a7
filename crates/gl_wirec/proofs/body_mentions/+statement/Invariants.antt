use Rattle.std.proofs.Common.{◌≡◌, ◌≤◌, ◌+◌, ◌*◌, max, drop}
use Rattle.gl_ast.specs.Depth.{stmt_depth, body_depth, slots_depth}
use Rattle.gl_ast.specs.Template.{body_of, slots_of}
use Rattle.gl_ast.specs.View.{stmt_view, seen_stmts, seen_slots}
use Rattle.gl_wire.specs.Symbols.{with_names, body_mentions, slots_mentions}
use Rattle.gl_wirec.proofs.body_mentions.+statement.Given as goal

abbrev pub decreases-note_stmt : goal.decreases-note_stmt
decreases-note_stmt l = 3 * stmt_depth (stmt_view l.stmt.now)

abbrev pub decreases-note_body : goal.decreases-note_body
decreases-note_body l = 3 * body_depth (body_of l.body.now) + 1

abbrev pub decreases-note_bodies : goal.decreases-note_bodies
decreases-note_bodies l = 3 * max (body_depth (body_of l.body.now)) (body_depth (body_of l.otherwise.now)) + 2

abbrev pub decreases-note_slots : goal.decreases-note_slots
decreases-note_slots l = 3 * slots_depth (slots_of l.slots.now) + 2

-- the names so far with those of what is left are all, and what is left is no deeper
abbrev pub invariant-note_body-loop-stmt : goal.invariant-note_body-loop-stmt
invariant-note_body-loop-stmt l = record {
  noted : with_names l.symbols (body_mentions (body_of (seen_stmts (drop l.stmt-index l.stmt-items)))) ≡ with_names l.initial.symbols (body_mentions (body_of l.body));
  shallow : body_depth (body_of (seen_stmts (drop l.stmt-index l.stmt-items))) ≤ body_depth (body_of l.body);
}

abbrev pub invariant-note_slots-loop-slot : goal.invariant-note_slots-loop-slot
invariant-note_slots-loop-slot l = record {
  noted : with_names l.symbols (slots_mentions (slots_of (seen_slots (drop l.slot-index l.slot-items)))) ≡ with_names l.initial.symbols (slots_mentions (slots_of l.slots));
  shallow : slots_depth (slots_of (seen_slots (drop l.slot-index l.slot-items))) ≤ slots_depth (slots_of l.slots);
}
