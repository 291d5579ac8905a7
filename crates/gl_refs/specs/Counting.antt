-- How often references are named by live forms, and what the rows in code count of it.
use Rattle.std.specs.Prelude.{◌≡◌, ℕ, zero, suc, ◌+◌, ◌<◌, ◌^◌, cond, List, [], ◌∷◌, Option, Some, None}
use Rattle.gl_arena.specs.Id.{Id, same_id}
use Rattle.gl_arena.specs.Arena.{Arena, by_stamp, named}
use Rattle.gl_arena.specs.Mapped.{mapped}
use Rattle.gl_refs.specs.Forms.{parts}
use Rattle.gl_refs.specs.State as s
use Rattle.gl_refs.specs.View.{rows_in}
use Rattle.gl_refs.specs.declared.row.Row.{Row}

-- 1 where both are the same
abbrev pub once : Id → Id → ℕ
once c x = cond (same_id c x) 1 0

-- how often an id stands in a list
abbrev pub times : Id → List Id → ℕ
times c [] = 0
times c (x ∷ xs) = once c x + times c xs

abbrev pub listed : Id → Option (List Id) → ℕ
listed c None = 0
listed c (Some xs) = times c xs

abbrev pub sum_below : (ℕ → ℕ) → ℕ → ℕ
sum_below f zero = 0
sum_below f (suc n) = f n + sum_below f n

-- how often it stands in all lists of an arena, stamp by stamp
abbrev pub total : Arena (List Id) → Id → ℕ
total a c = sum_below (λ s. listed c (by_stamp a s)) a.made

-- what each row names
abbrev pub lists : Arena s.Row → Arena (List Id)
lists a = mapped (λ (r : s.Row). parts r.form) a

-- how often live forms name it
abbrev pub readers : Arena s.Row → Id → ℕ
readers a c = total (lists a) c

-- Each row counts how often live forms name it, without those of the first list, and with those of the second: between
-- the steps of a change these are not counted yet, or still counted.
abbrev pub Counts : Arena Row → List Id → List Id → Type 0
Counts a owed over = (c : Id) (r : Row) → named a c ≡ Some r → r.readers + times c owed ≡ readers (rows_in a) c + times c over

-- there is room to count it as often as it stands in the list
abbrev pub Fits : Arena s.Row → List Id → Id → Type 0
Fits a xs q = readers a q + times q xs < 2 ^ 64
