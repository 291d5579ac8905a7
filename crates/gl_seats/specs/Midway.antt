-- A list of items in the middle of its update, among the children of its parent.
use Rattle.std.specs.Prelude.{◌≡◌, ◌≢◌, ℕ, ◌+◌, ◌≤◌, List, [], ◌∷◌, ◌++◌, Bool, true, false, Option, Some}
use Rattle.gl_nodes.specs.Forest.{Forest}
use Rattle.gl_nodes.specs.Flat.{kids, stands, head_of}
use Rattle.gl_machine.specs.Shape.{Nest, end, joined}
use Rattle.gl_code.specs.Hung.{tops, stands_in}
use Rattle.gl_seats.specs.Seats.{Stood}

-- nests side by side
abbrev pub all : List (Nest ℕ) → Nest ℕ
all [] = end
all (x ∷ xs) = joined x (all xs)

-- nests side by side of which each is of a done item, or of an old one that was passed over
abbrev pub Row : Type 0
Row = List (Bool × Nest ℕ)

abbrev pub row_nest : Row → Nest ℕ
row_nest [] = end
row_nest (r ∷ rs) = joined r.1 (row_nest rs)

-- the done ones of a row, and the old ones
abbrev pub done_in : Row → List (Nest ℕ)
done_in [] = []
done_in ((true, x) ∷ rs) = x ∷ done_in rs
done_in ((false, x) ∷ rs) = done_in rs

abbrev pub olds_in : Row → List (Nest ℕ)
olds_in [] = []
olds_in ((true, x) ∷ rs) = olds_in rs
olds_in ((false, x) ∷ rs) = x ∷ olds_in rs

-- A list with these nodes is being updated: its done items stand in their order, and between them the old ones that were passed over; behind
-- them all the old ones that were not come to, of which the next one is the first, or what stands behind the list. What stood in the list
-- and is not left to be done is gone, and all else is as it was.
pub record Midway (f g : Forest) (p : Option ℕ) (front : List ℕ) (whole : Nest ℕ) (back : List ℕ) (done passed ahead : List (Nest ℕ)) (next : Option ℕ) : Type 0 where
  pub row : Row
  pub stood : Stood g p front (joined (row_nest row) (all ahead)) back
  pub done_are : done_in row ≡ done
  pub passed_are : olds_in row ≡ passed
  pub next_is : next ≡ head_of (tops (all ahead) ++ back)
  pub among : (s : ℕ) → stands_in s (all passed) + stands_in s (all ahead) ≤ stands_in s whole
  pub others : (q : Option ℕ) → q ≢ p → ((s : ℕ) → q ≡ Some s → (stands_in s whole ≡ 0) × (stands_in s (all done) ≡ 0)) → kids q g ≡ kids q f
  pub counts : (s : ℕ) → stands s g + stands_in s whole ≡ stands s f + (stands_in s (all done) + (stands_in s (all passed) + stands_in s (all ahead)))
