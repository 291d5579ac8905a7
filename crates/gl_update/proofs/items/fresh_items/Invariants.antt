use Rattle.std.proofs.Common.{◌≡◌, vec_len}
use Rattle.gl_meaning.specs.View.{path_view}
use Rattle.gl_nodes.specs.Flat.{stamp_of}
use Rattle.gl_vm.specs.View.{Tables, Calm}
use Rattle.gl_seats.specs.Parts.{items_nest}
use Rattle.gl_seats.specs.Seats.{SeatsBefore}
use Rattle.gl_update.proofs.Onward.{Onward}
use Rattle.gl_update.proofs.FreshItems.{All, Left}
use Rattle.gl_update.proofs.items.fresh_items.Given as goal

abbrev pub invariant-loop-entry : goal.invariant-loop-entry
invariant-loop-entry g l = record {
  calm : Calm l.vm;
  onward : Onward l.app l.cells (All l.app l.cells l.left l.listing (path_view l.base) l.fn.entries.items) l.fn.vm (Left l.app l.cells l.left l.listing (path_view l.base) l.done.items l.waiting.items) l.vm;
  seats : (n : Tables) → SeatsBefore l.fn.vm.tree.forest l.vm.tree.forest (stamp_of l.seat.parent) (stamp_of l.seat.next) (items_nest n l.done.items);
  moves : l.vm.tree.moves ≡ l.fn.vm.tree.moves;
}

abbrev pub decreases-loop-entry : goal.decreases-loop-entry
decreases-loop-entry g l = vec_len l.waiting
