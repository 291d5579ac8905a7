use Rattle.std.proofs.Common.{◌≡◌, ℕ, ◌+◌, ◌-◌, ◌*◌, ◌^◌, length, vec_len}
use Rattle.gl_nodes.specs.Flat.{stamp_of}
use Rattle.gl_vm.specs.View.{Calm}
use Rattle.gl_seats.specs.Parts.{code_nest, item_nest}
use Rattle.gl_update.proofs.RenewedRows.{RowRenewed}
use Rattle.gl_update.specs.ListItems.{there}
use Rattle.gl_update.specs.OldItems.{IsReady}
use Rattle.gl_update.proofs.StayingItems.{Stays}
use Rattle.gl_meaning.specs.View.{path_view}
use Rattle.gl_update.specs.View.{trail_view}
use Rattle.gl_update.proofs.Onward.{Onward}
use Rattle.gl_update.proofs.SyncItems.{All, Left}
use Rattle.gl_update.proofs.MovedCodes.{Walked}
use Rattle.gl_update.proofs.SyncCounts.{Syncing}
use Rattle.gl_update.proofs.SyncNodes.{NodesSyncing}
use Rattle.gl_update.proofs.Walking.{Walks}
use Rattle.gl_update.proofs.AskedCodes.{AsksWalk}
use Rattle.gl_update.proofs.AlongCounts.{Along}
use Rattle.gl_update.proofs.AlongItems.{WalksItems}
use Rattle.gl_code.specs.Entries.{seen_left}
use Rattle.gl_update.proofs.AskedItems.{AsksWalkItems}
use Rattle.gl_update.proofs.AskedStaying.{AsksStays}
use Rattle.gl_update.proofs.AskedSync.{AsksOf, StaysOn}
use Rattle.gl_update.proofs.Asking.{AsksOn}
use Rattle.gl_update.proofs.+renewing.Given as goal

-- The trail grows, and no list is longer than that; where it begins anew, one level of nesting less is left.
abbrev room : ℕ → ℕ → ℕ → ℕ
room left steps rank = 16 * (left * (2 ^ 64 + 1) + (2 ^ 64 - steps)) + rank

abbrev pub decreases-codes::renew_code : goal.decreases-codes::renew_code
decreases-codes::renew_code g l = room l.left (length l.trail.now.path.steps) 10

abbrev pub decreases-codes::renew_component : goal.decreases-codes::renew_component
decreases-codes::renew_component g l = 16 * (l.left * (2 ^ 64 + 1)) + 7

abbrev pub decreases-codes::renew_element : goal.decreases-codes::renew_element
decreases-codes::renew_element g l = room l.left (length l.trail.now.path.steps) 1

abbrev pub decreases-codes::renew_let : goal.decreases-codes::renew_let
decreases-codes::renew_let g l = room l.left (length l.trail.now.path.steps) 2

abbrev pub decreases-codes::renew_else : goal.decreases-codes::renew_else
decreases-codes::renew_else g l = room l.left (length l.trail.now.path.steps) 3

abbrev pub decreases-codes::renew_yield : goal.decreases-codes::renew_yield
decreases-codes::renew_yield g l = room l.left (length l.trail.now.path.steps) 2

abbrev pub decreases-codes::renew_below : goal.decreases-codes::renew_below
decreases-codes::renew_below g l = room l.left (length l.trail.now.path.steps) 1

abbrev pub decreases-codes::renew_codes : goal.decreases-codes::renew_codes
decreases-codes::renew_codes g l = room l.left (length l.trail.now.path.steps) 0

abbrev pub decreases-codes::renew_body : goal.decreases-codes::renew_body
decreases-codes::renew_body g l = room l.left (length l.trail.now.path.steps) 1

abbrev pub decreases-codes::renew_side : goal.decreases-codes::renew_side
decreases-codes::renew_side g l = room l.left (length l.trail.now.path.steps) 2

abbrev pub decreases-branches::renew_branch : goal.decreases-branches::renew_branch
decreases-branches::renew_branch g l = room l.left (length l.trail.now.path.steps) 3

abbrev pub decreases-lists::renew_list : goal.decreases-lists::renew_list
decreases-lists::renew_list g l = room l.left (length l.trail.now.path.steps) 9

abbrev pub decreases-lists::renew_listed : goal.decreases-lists::renew_listed
decreases-lists::renew_listed g l = room l.left (length l.trail.now.path.steps) 8

abbrev pub decreases-lists::relist : goal.decreases-lists::relist
decreases-lists::relist g l = room l.left (length l.trail.now.path.steps) 7

abbrev pub decreases-along::walk_list : goal.decreases-along::walk_list
decreases-along::walk_list g l = room l.left (length l.trail.now.path.steps) 6

abbrev pub decreases-along::walk_entered : goal.decreases-along::walk_entered
decreases-along::walk_entered g l = room l.left (length l.trail.now.path.steps) 5

abbrev pub decreases-along::walk_items : goal.decreases-along::walk_items
decreases-along::walk_items g l = room l.left (length l.trail.now.path.steps) 4

abbrev pub decreases-along::walk_item : goal.decreases-along::walk_item
decreases-along::walk_item g l = room l.left (length l.trail.now.path.steps) 3

abbrev pub decreases-lists::renew_unlisted : goal.decreases-lists::renew_unlisted
decreases-lists::renew_unlisted g l = room l.left (length l.trail.now.path.steps) 6

abbrev pub decreases-staying::stay_list : goal.decreases-staying::stay_list
decreases-staying::stay_list g l = room l.left (length l.trail.now.path.steps) 5

abbrev pub decreases-staying::stay_items : goal.decreases-staying::stay_items
decreases-staying::stay_items g l = room l.left (length l.trail.now.path.steps) 4

abbrev pub decreases-syncing::sync_list : goal.decreases-syncing::sync_list
decreases-syncing::sync_list g l = room l.left (length l.trail.now.path.steps) 5

abbrev pub decreases-syncing::sync_items : goal.decreases-syncing::sync_items
decreases-syncing::sync_items g l = room l.left (length l.trail.now.path.steps) 4

abbrev pub decreases-syncing::entry_item : goal.decreases-syncing::entry_item
decreases-syncing::entry_item g l = room l.left (length l.trail.now.path.steps) 3

abbrev pub decreases-syncing::kept_item : goal.decreases-syncing::kept_item
decreases-syncing::kept_item g l = room l.left (length l.trail.now.path.steps) 2

-- where what is left goes on, all goes
abbrev pub invariant-codes::renew_codes-loop-place : goal.invariant-codes::renew_codes-loop-place
invariant-codes::renew_codes-loop-place g l = record {
  unvisited : goal.unvisited-codes::renew_codes-loop-place g l;
  trail : l.trail ≡ l.fn.trail;
  calm : Calm l.vm;
  walks : Walks l.app l.cells l.left (trail_view l.fn.trail) l.fn.codes l.fn.vm l.code-items l.place l.vm;
  moved : Walked l.fn.moved l.moved l.fn.codes.list.items l.code-items l.place;
  asks : AsksWalk l.app l.cells l.left (trail_view l.fn.trail) l.fn.codes l.fn.vm l.fn.moved.asked l.code-items l.place l.vm l.moved.asked;
  nodes : RowRenewed code_nest l.fn.vm.tree l.vm.tree l.fn.moved.items l.moved.items (stamp_of l.parent) l.fn.codes.list.items l.code-items l.place;
}

abbrev pub invariant-along::walk_items-loop-item : goal.invariant-along::walk_items-loop-item
invariant-along::walk_items-loop-item g l = record {
  unvisited : goal.unvisited-along::walk_items-loop-item g l;
  trail : l.trail ≡ l.fn.trail;
  calm : Calm l.vm;
  walks : WalksItems l.app l.cells l.left (trail_view l.fn.trail) l.fn.items.items l.fn.vm l.item-items l.item-index l.vm;
  moved : Along l.fn.moved l.moved l.fn.items.items l.item-items l.item-index;
  asks : AsksWalkItems l.app l.cells l.left (trail_view l.fn.trail) l.fn.items.items l.fn.vm l.fn.moved.asked l.item-items l.item-index l.vm l.moved.asked;
  nodes : RowRenewed item_nest l.fn.vm.tree l.vm.tree l.fn.moved.items l.moved.items (stamp_of l.parent) l.fn.items.items l.item-items l.item-index;
}

abbrev pub invariant-staying::stay_items-loop-kept : goal.invariant-staying::stay_items-loop-kept
invariant-staying::stay_items-loop-kept g l = record {
  unvisited : goal.unvisited-staying::stay_items-loop-kept g l;
  trail : l.trail ≡ l.fn.trail;
  calm : Calm l.vm;
  index : l.index ≡ l.kept-index;
  stays : Stays l.app l.cells l.left (trail_view l.fn.trail) l.values l.fn.items.items l.fn.vm l.kept-items l.kept-index l.vm;
  moved : Along l.fn.moved l.moved l.fn.items.items l.kept-items l.kept-index;
  asks : AsksStays l.app l.cells l.left (trail_view l.fn.trail) l.values l.fn.items.items l.fn.vm l.fn.moved.asked l.kept-index l.vm l.moved.asked;
  nodes : RowRenewed item_nest l.fn.vm.tree l.vm.tree l.fn.moved.items l.moved.items (stamp_of l.parent) l.fn.items.items l.kept-items l.kept-index;
}

abbrev pub invariant-syncing::sync_items-loop-done : goal.invariant-syncing::sync_items-loop-done
invariant-syncing::sync_items-loop-done g l = record {
  trail : l.trail ≡ l.fn.trail;
  calm : Calm l.vm;
  listing : l.begun.listing ≡ l.fn.begun.listing;
  spot : l.begun.spot ≡ l.fn.begun.spot;
  base : path_view l.begun.base ≡ trail_view l.trail;
  ready : IsReady l.begun.work;
  onward : Onward l.app l.cells (All l.app l.cells l.left l.fn.begun.listing (trail_view l.fn.trail) l.fn.begun.work.waiting.items (there l.fn.begun.work.olds.items)) l.fn.vm
      (Left l.app l.cells l.left l.fn.begun.listing (trail_view l.fn.trail) l.done.items l.begun.work.waiting.items (there l.begun.work.olds.items)) l.vm;
  moved : Syncing l.fn.moved l.moved l.fn.begun.work l.begun.work l.done.items;
  asks : AsksOn l.app l.cells (AsksOf l.app l.cells l.left l.fn.begun.listing (trail_view l.fn.trail) (seen_left l.fn.begun.work.waiting.items) l.fn.begun.work.olds.items) l.fn.vm l.fn.moved.asked
      (AsksOf l.app l.cells l.left l.fn.begun.listing (trail_view l.fn.trail) (seen_left l.begun.work.waiting.items) l.begun.work.olds.items) l.vm l.moved.asked;
  nodes : NodesSyncing l.fn.vm.tree l.vm.tree l.fn.moved.items l.moved.items l.fn.begun.seat l.begun.seat l.fn.begun.work l.begun.work l.done.items;
  stayed : StaysOn l.left l.fn.begun.stayed (seen_left l.fn.begun.work.waiting.items) l.fn.begun.work.olds.items l.begun.stayed (seen_left l.begun.work.waiting.items) l.begun.work.olds.items;
}

abbrev pub decreases-syncing::sync_items-loop-done : goal.decreases-syncing::sync_items-loop-done
decreases-syncing::sync_items-loop-done g l = vec_len l.begun.work.waiting
