-- The marks of names one after another, and rows of marks.
use Rattle.std.proofs.Common.{◌≡◌, ℕ, List, [], ◌∷◌, ◌++◌, refl}
use Rattle.gl_base.specs.Texts.{Text}
use Rattle.gl_cycles.specs.Marks.{Getters, with_names, with_place, place}

pub names_after : (gs : Getters) (m : ℕ) (xs ys : List Text) → with_names gs m (xs ++ ys) ≡ with_names gs (with_names gs m xs) ys
names_after gs m [] ys = refl
names_after gs m (x ∷ xs) ys = names_after gs (with_place m (place x gs)) xs ys
