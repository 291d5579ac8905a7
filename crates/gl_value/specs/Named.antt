-- Lists of names with values, that change.
use Rattle.std.specs.Prelude.{List, [], ◌∷◌, if◌then◌else◌}
use Rattle.std.specs.Str.{bytes_eq}
use Rattle.gl_base.specs.Texts.{Text}

-- another value for the first of that name
abbrev pub set_named : {A : Type 0} → Text → A → List (Text × A) → List (Text × A)
set_named n v [] = []
set_named n v (e ∷ es) = if bytes_eq n e.0 then (e.0, v) ∷ es else e ∷ set_named n v es
