use Rattle.std.proofs.Common.{◌≡◌, drop}
use Rattle.gl_nodes.specs.Forest.{Forest}
use Rattle.gl_nodes.specs.Flat.{IsFlat, stamp_of}
use Rattle.gl_vm.specs.View.{Tables}
use Rattle.gl_seats.specs.Parts.{code_nest, item_nest}
use Rattle.gl_seats.specs.Seats.{SeatsBefore}
use Rattle.gl_seats.proofs.Rows.{row}
use Rattle.gl_seats.proofs.seating.+seating.Given as goal

-- where what is left is put in, all is
abbrev pub invariant-seat_codes-loop-code : goal.invariant-seat_codes-loop-code
invariant-seat_codes-loop-code l = record {
  flat : IsFlat l.tree;
  nodes : l.tree.nodes ≡ l.fn.tree.nodes;
  moves : l.tree.moves ≡ l.fn.tree.moves;
  left : (n : Tables) (v : Forest) → SeatsBefore l.tree.forest v (stamp_of l.seat.parent) (stamp_of l.seat.next) (row (code_nest n) (drop l.code-index l.code-items))
      → SeatsBefore l.fn.tree.forest v (stamp_of l.seat.parent) (stamp_of l.seat.next) (row (code_nest n) l.code-items);
}

abbrev pub invariant-seat_items-loop-item : goal.invariant-seat_items-loop-item
invariant-seat_items-loop-item l = record {
  flat : IsFlat l.tree;
  nodes : l.tree.nodes ≡ l.fn.tree.nodes;
  moves : l.tree.moves ≡ l.fn.tree.moves;
  left : (n : Tables) (v : Forest) → SeatsBefore l.tree.forest v (stamp_of l.seat.parent) (stamp_of l.seat.next) (row (item_nest n) (drop l.item-index l.items))
      → SeatsBefore l.fn.tree.forest v (stamp_of l.seat.parent) (stamp_of l.seat.next) (row (item_nest n) l.items);
}
