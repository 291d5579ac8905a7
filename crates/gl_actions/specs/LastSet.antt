-- What a field was set to last, by numbers.
use Rattle.std.specs.Prelude.{ℕ, ◌==◌, ◌&&◌, List, [], ◌∷◌, map, if◌then◌else◌, Option, Some, None}
use Rattle.std.specs.Str.{bytes_eq}
use Rattle.gl_base.specs.Texts.{Text}
use Rattle.gl_base.specs.Names.{at_place, or_else}
use Rattle.gl_value.specs.Value as v
use Rattle.gl_value.specs.View.{view}
use Rattle.gl_value.specs.declared.value.Value.{Value}
use Rattle.gl_actions.specs.declared.sets.Set.{Set}

abbrev pub field_names : List (Text × Value) → List Text
field_names fs = map (λ f. f.0) fs

-- the field of a name, of the instance with a number, whose fields have these names
abbrev pub last_set : ℕ → List Text → Text → List Set → Option (v.Value ℕ)
last_set k names x [] = None
last_set k names x (s ∷ ss) = or_else (last_set k names x ss) (if (k == s.owner.1) && bytes_eq x (at_place [] s.field names) then Some (view s.to) else None)
