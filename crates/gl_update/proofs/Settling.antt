-- An item that is kept moves to the seat or stays, by what is told of it.
use Rattle.std.proofs.Common.{◌≡◌, ℕ, ◌+◌, Bool, true, false}
use Rattle.gl_nodes.specs.Tree.{Tree}
use Rattle.gl_nodes.specs.Flat.{stamp_of}
use Rattle.gl_machine.specs.Shape.{Nest}
use Rattle.gl_seats.specs.Seats.{ShiftsBefore, IsBehind}
use Rattle.gl_seats.specs.declared.places.Seat.{Seat}
use Rattle.gl_update.specs.Standing.{Places, Settles}

pub moves_placed : (old new : Tree) (moves : Bool) (seat : Seat) (x : Nest ℕ) → moves ≡ true → ShiftsBefore old.forest new.forest (stamp_of seat.parent) (stamp_of seat.next) x → new.moves ≡ old.moves + 1 → Places old new moves seat x
moves_placed old new true seat x e shifts one = (shifts, one)
moves_placed old new false seat x e shifts one = let no : false ≡ true = e in absurd (cc)

pub stays_settled : (t : Tree) (moves : Bool) (old new : Seat) (x : Nest ℕ) → moves ≡ false → new.parent ≡ old.parent → IsBehind t.forest (stamp_of old.parent) x (stamp_of new.next) → Settles t moves old new x
stays_settled t false old new x e same behind = (same, behind)
stays_settled t true old new x e same behind = let no : true ≡ false = e in absurd (cc)
