use Rattle.std.proofs.Common.{◌≡◌, ◌≤◌, ◌+◌, ◌*◌, ◌++◌, max, drop}
use Rattle.gl_ast.specs.Depth.{stmt_depth, body_depth, slots_depth}
use Rattle.gl_ast.specs.Template.{body_of, slots_of}
use Rattle.gl_ast.specs.View.{stmt_view, seen_stmts, seen_slots}
use Rattle.gl_wire.specs.WireOf.{body_wire, slots_wire}
use Rattle.gl_wirec.specs.Lists.{stmt_list, slot_list}
use Rattle.gl_wirec.proofs.stmt_wire.+statement.Given as goal

abbrev pub decreases-stmt_wire : goal.decreases-stmt_wire
decreases-stmt_wire l = 4 * stmt_depth (stmt_view l.stmt.now)

abbrev pub decreases-body_wire : goal.decreases-body_wire
decreases-body_wire l = 4 * body_depth (body_of l.body.now) + 1

abbrev pub decreases-block_wire : goal.decreases-block_wire
decreases-block_wire l = 4 * body_depth (body_of l.body.now) + 2

abbrev pub decreases-element_wire : goal.decreases-element_wire
decreases-element_wire l = 4 * body_depth (body_of l.body.now) + 3

abbrev pub decreases-let_wire : goal.decreases-let_wire
decreases-let_wire l = 4 * body_depth (body_of l.body.now) + 3

abbrev pub decreases-if_wire : goal.decreases-if_wire
decreases-if_wire l = 4 * max (body_depth (body_of l.body.now)) (body_depth (body_of l.otherwise.now)) + 3

abbrev pub decreases-each_wire : goal.decreases-each_wire
decreases-each_wire l = 4 * max (body_depth (body_of l.body.now)) (body_depth (body_of l.otherwise.now)) + 3

abbrev pub decreases-slots_wire : goal.decreases-slots_wire
decreases-slots_wire l = 4 * slots_depth (slots_of l.slots.now) + 2

abbrev pub decreases-component_wire : goal.decreases-component_wire
decreases-component_wire l = 4 * slots_depth (slots_of l.slots.now) + 3

-- the list so far and what is left make all, what is left is no deeper, and the scope stays
abbrev pub invariant-body_wire-loop-stmt : goal.invariant-body_wire-loop-stmt
invariant-body_wire-loop-stmt l = record {
  made : l.list ++ stmt_list (body_wire l.symbols l.initial.scope (body_of (seen_stmts (drop l.stmt-index l.stmt-items)))) ≡ stmt_list (body_wire l.symbols l.initial.scope (body_of l.body));
  shallow : body_depth (body_of (seen_stmts (drop l.stmt-index l.stmt-items))) ≤ body_depth (body_of l.body);
  scope : l.scope ≡ l.initial.scope;
}

abbrev pub invariant-slots_wire-loop-slot : goal.invariant-slots_wire-loop-slot
invariant-slots_wire-loop-slot l = record {
  made : l.list ++ slot_list (slots_wire l.symbols l.initial.scope (slots_of (seen_slots (drop l.slot-index l.slot-items)))) ≡ slot_list (slots_wire l.symbols l.initial.scope (slots_of l.slots));
  shallow : slots_depth (slots_of (seen_slots (drop l.slot-index l.slot-items))) ≤ slots_depth (slots_of l.slots);
  scope : l.scope ≡ l.initial.scope;
}
