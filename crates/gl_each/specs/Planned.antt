-- What is kept in mind while the steps of a plan are made: the greatest old place that was kept so far.
use Rattle.std.specs.Prelude.{ℕ, max, Bool, false, nat_lt, if◌then◌else◌, Option, Some, None}
use Rattle.gl_each.specs.Sync.{Step, retain, move, insert}

abbrev pub is_below : ℕ → Option ℕ → Bool
is_below i None = false
is_below i (Some j) = nat_lt i j

-- the step of a key that stands at a place of the old list, or nowhere
abbrev pub step_for : Option ℕ → Option ℕ → Step
step_for None greatest = insert
step_for (Some i) greatest = if is_below i greatest then move i else retain i

abbrev pub greater : Option ℕ → Option ℕ → Option ℕ
greater None greatest = greatest
greater (Some i) None = Some i
greater (Some i) (Some j) = Some (max i j)
