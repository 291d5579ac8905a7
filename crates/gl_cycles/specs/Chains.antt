-- Chains through rows of marks.
use Rattle.std.specs.Prelude.{◌≡◌, ℕ, List, IsTrue, slice_index, ◌↔◌, bit_or, if◌then◌else◌}
use Rattle.gl_cycles.specs.Marks.{has_mark}

-- row i has the mark j
abbrev pub IsMarked : List ℕ → ℕ → ℕ → Type 0
IsMarked rows i j = IsTrue (has_mark (slice_index rows i) j)

-- a chain of marks leads from i to j
pub data Chain (rows : List ℕ) : ℕ → ℕ → Type 0 where
  link : {i j : ℕ} → IsMarked rows i j → Chain rows i j
  joined : {i k j : ℕ} → Chain rows i k → Chain rows k j → Chain rows i j

-- The new rows have just the marks to which chains of the old ones lead.
abbrev pub IsClosureOf : List ℕ → List ℕ → Type 0
IsClosureOf old new = (i j : ℕ) → IsMarked new i j ↔ Chain old i j

-- what the row has with what is onward of the middle, where it leads there
abbrev pub through : ℕ → ℕ → ℕ → ℕ
through middle onward row = if has_mark row middle then bit_or row onward else row

-- Each row that leads to the middle has what the middle's row has too.
abbrev pub IsLedThrough : ℕ → List ℕ → List ℕ → Type 0
IsLedThrough middle old new = (k : ℕ) → slice_index new k ≡ through middle (slice_index old middle) (slice_index old k)
