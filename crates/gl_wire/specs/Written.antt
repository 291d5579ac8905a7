-- The text of rows, one after another.
use Rattle.std.specs.Prelude.{ℕ, List, [], ◌∷◌, ◌++◌, Bool, true}
use Rattle.serde_json.specs.Data.{Data}
use Rattle.serde_json.specs.Written.{comma_if, compact_text}

-- the texts of the values, each after a comma where something stands before it
abbrev pub rows_text : Bool → List Data → List ℕ
rows_text later [] = []
rows_text later (d ∷ ds) = comma_if later ++ (compact_text d ++ rows_text true ds)

-- whether something stands before what follows the values
abbrev pub later_after : Bool → List Data → Bool
later_after later [] = later
later_after later (d ∷ ds) = true
