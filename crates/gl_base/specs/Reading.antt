-- A list that is read element by element.
use Rattle.std.specs.Prelude.{List, [], ◌∷◌, ◌++◌, Option, Some}
use Rattle.gl_base.specs.Answers.{◌>>=◌}

-- what each element reads as, or nothing where one can't be read
abbrev pub read_all : {A B : Type 0} → (A → Option B) → List A → Option (List B)
read_all f [] = Some []
read_all f (x ∷ xs) = f x >>= λ y. (read_all f xs >>= λ ys. Some (y ∷ ys))

-- a reading that goes on after what is read already
abbrev pub after_front : {A : Type 0} → List A → Option (List A) → Option (List A)
after_front front read = read >>= λ rest. Some (front ++ rest)
