-- The table of the helpers' names.
use Rattle.std.specs.Prelude.{ℕ, suc, List, [], ◌∷◌}
use Rattle.gl_base.specs.Texts.{Text}
use Rattle.gl_value.specs.Helpers.{Helper}

-- each name with its place, where the first has the place i
abbrev pub numbered_from : ℕ → List (Text × Helper) → List (Text × ℕ)
numbered_from i [] = []
numbered_from i (row ∷ rows) = (row.0, i) ∷ numbered_from (suc i) rows
