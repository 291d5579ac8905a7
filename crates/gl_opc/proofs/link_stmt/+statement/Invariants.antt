use Rattle.std.proofs.Common.{◌≡◌, ◌≤◌, ◌+◌, ◌*◌, max, drop}
use Rattle.gl_wire.specs.Depth.{stmt_depth, body_depth, slots_depth}
use Rattle.gl_wire.specs.View.{stmt_view, seen_stmts, seen_slots}
use Rattle.gl_wire.specs.Wire.{body_of, slots_of}
use Rattle.gl_opc.specs.Linked.{body_linked, slots_linked}
use Rattle.gl_opc.specs.State.{context_view, state_view}
use Rattle.gl_opc.proofs.link_stmt.+statement.Given as goal

abbrev pub decreases-link_stmt : goal.decreases-link_stmt
decreases-link_stmt l = 5 * stmt_depth (stmt_view l.stmt.now)

abbrev pub decreases-link_body : goal.decreases-link_body
decreases-link_body l = 5 * body_depth (body_of l.body.now) + 1

abbrev pub decreases-link_element : goal.decreases-link_element
decreases-link_element l = 5 * body_depth (body_of l.body.now) + 3

abbrev pub decreases-link_component : goal.decreases-link_component
decreases-link_component l = 5 * slots_depth (slots_of l.slots.now) + 3

abbrev pub decreases-link_if : goal.decreases-link_if
decreases-link_if l = 5 * max (body_depth (body_of l.body.now)) (body_depth (body_of l.otherwise.now)) + 3

abbrev pub decreases-link_item : goal.decreases-link_item
decreases-link_item l = 5 * body_depth (body_of l.body.now) + 2

abbrev pub decreases-link_each : goal.decreases-link_each
decreases-link_each l = 5 * max (body_depth (body_of l.body.now)) (body_depth (body_of l.otherwise.now)) + 3

abbrev pub decreases-link_let : goal.decreases-link_let
decreases-link_let l = 5 * body_depth (body_of l.body.now) + 3

abbrev pub decreases-link_slot : goal.decreases-link_slot
decreases-link_slot l = 5 * body_depth (body_of l.slot.now.body) + 2

abbrev pub decreases-link_slots : goal.decreases-link_slots
decreases-link_slots l = 5 * slots_depth (slots_of l.slots.now) + 1

-- what is linked so far, with what is left, is all, and what is left is no deeper
abbrev pub invariant-link_body-loop-stmt : goal.invariant-link_body-loop-stmt
invariant-link_body-loop-stmt l = record {
  linked : body_linked (context_view l.context) (body_of (seen_stmts (drop l.stmt-index l.stmt-items))) (state_view l.out) ≡ body_linked (context_view l.context) (body_of l.body) (state_view l.initial.out);
  shallow : body_depth (body_of (seen_stmts (drop l.stmt-index l.stmt-items))) ≤ body_depth (body_of l.body);
}

abbrev pub invariant-link_slots-loop-slot : goal.invariant-link_slots-loop-slot
invariant-link_slots-loop-slot l = record {
  linked : slots_linked (context_view l.context) (slots_of (seen_slots (drop l.slot-index l.slot-items))) (state_view l.out) ≡ slots_linked (context_view l.context) (slots_of l.slots) (state_view l.initial.out);
  shallow : slots_depth (slots_of (seen_slots (drop l.slot-index l.slot-items))) ≤ slots_depth (slots_of l.slots);
}
