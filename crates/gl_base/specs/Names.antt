-- Lists of names with what they stand for.
use Rattle.std.specs.Prelude.{ℕ, zero, suc, List, [], ◌∷◌, Bool, false, ◌||◌, if◌then◌else◌, Option, Some, None}
use Rattle.std.specs.Str.{bytes_eq}
use Rattle.gl_base.specs.Texts.{Text}

-- the first of a name
abbrev pub named : {A : Type 0} → Text → List (Text × A) → Option A
named n [] = None
named n (e ∷ es) = if bytes_eq n e.0 then Some e.1 else named n es

abbrev pub or_else : {A : Type 0} → Option A → Option A → Option A
or_else (Some x) y = Some x
or_else None y = y

-- the last of a name
abbrev pub last_named : {A : Type 0} → Text → List (Text × A) → Option A
last_named n [] = None
last_named n (e ∷ es) = or_else (last_named n es) (if bytes_eq n e.0 then Some e.1 else None)

-- the text stands in the list
abbrev pub has_text : Text → List Text → Bool
has_text n [] = false
has_text n (m ∷ ms) = bytes_eq n m || has_text n ms

-- the element at a place, or else d
abbrev pub at_place : {A : Type 0} → A → ℕ → List A → A
at_place d i [] = d
at_place d zero (x ∷ xs) = x
at_place d (suc i) (x ∷ xs) = at_place d i xs
