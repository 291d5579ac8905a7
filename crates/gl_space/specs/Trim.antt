-- A text without the run that ends it.
use Rattle.std.specs.Prelude.{ℕ, List, [], ◌∷◌, Bool, if◌then◌else◌}
use Rattle.std.specs.List.{list_all}

abbrev pub trim : (ℕ → Bool) → List ℕ → List ℕ
trim p [] = []
trim p (b ∷ bs) = if list_all p (b ∷ bs) then [] else b ∷ trim p bs
