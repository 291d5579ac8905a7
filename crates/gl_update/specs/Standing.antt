-- Where the nodes of the items of a list are put while they are updated. Words of private clauses.
use Rattle.std.specs.Prelude.{◌≡◌, ℕ, ◌+◌, List, ◌++◌, Bool, true, false, Option, Some, None}
use Rattle.gl_nodes.specs.Tree.{Tree}
use Rattle.gl_nodes.specs.Flat.{stamp_of, head_of}
use Rattle.gl_machine.specs.Shape.{Nest}
use Rattle.gl_vm.specs.View.{Tables}
use Rattle.gl_code.specs.Hung.{tops}
use Rattle.gl_code.specs.declared.code.ItemCode.{ItemCode}
use Rattle.gl_seats.specs.Parts.{item_nest, items_nest}
use Rattle.gl_seats.specs.Seats.{Stood, Replaced, SeatsBefore, ShiftsBefore, IsBehind, NodesRenewed}
use Rattle.gl_seats.specs.declared.places.Seat.{Seat}
use Rattle.gl_update.specs.Counted.{one_if}

-- What is to move stands at the seat, by one move of nodes. What stays is where it was.
abbrev pub Places : Tree → Tree → Bool → Seat → Nest ℕ → Type 0
Places old new true seat x = ShiftsBefore old.forest new.forest (stamp_of seat.parent) (stamp_of seat.next) x × (new.moves ≡ old.moves + 1)
Places old new false seat x = new ≡ old

-- The seat is behind what stayed, and where it was behind what moved.
abbrev pub Settles : Tree → Bool → Seat → Seat → Nest ℕ → Type 0
Settles t true old new x = new ≡ old
Settles t false old new x = (new.parent ≡ old.parent) × IsBehind t.forest (stamp_of old.parent) x (stamp_of new.next)

-- An old item moves or stays, is changed in its place, and the seat is for the next item then.
pub record ItemKept (old new : Tree) (before after : ℕ) (moves : Bool) (seat next : Seat) (x y : Tables → Nest ℕ) : Type 0 where
  pub mid : Tree
  pub places : (n : Tables) → Places old mid moves seat (x n)
  pub renewed : NodesRenewed mid new (before + one_if moves) after (stamp_of seat.parent) x y
  pub settles : (n : Tables) → Settles new moves seat next (y n)

-- a new item stands at the seat, which is for the next one too
pub record ItemSeated (old new : Tree) (before after : ℕ) (seat next : Seat) (y : Tables → Nest ℕ) : Type 0 where
  pub seats : (n : Tables) → SeatsBefore old.forest new.forest (stamp_of seat.parent) (stamp_of seat.next) (y n)
  pub moves : new.moves ≡ old.moves
  pub counts : after ≡ before
  pub same : next ≡ seat

-- the item of an entry
abbrev pub OneKept : Tree → Tree → ℕ → ℕ → Bool → Seat → Seat → Option ItemCode → ItemCode → Type 0
OneKept old new before after moves seat next None y = ItemSeated old new before after seat next (λ n. item_nest n y)
OneKept old new before after moves seat next (Some x) y = ItemKept old new before after moves seat next (λ n. item_nest n x) (λ n. item_nest n y)

-- The items of a list become others, where the seat was before the first of them.
pub record NodesSynced (old new : Tree) (before after : ℕ) (seat : Seat) (olds news : List ItemCode) : Type 0 where
  pub replaces : (n : Tables) (front back : List ℕ) → let p = stamp_of seat.parent in Stood old.forest p front (items_nest n olds) back
      → stamp_of seat.next ≡ head_of (tops (items_nest n olds) ++ back) → Replaced old.forest new.forest p front (items_nest n olds) (items_nest n news) back
  pub moves : new.moves + before ≡ old.moves + after
