-- What is left of a class name at a place in it.
use Rattle.std.specs.Prelude.{◌≡◌, ℕ, ◌∷◌, Bool, false, Option, Some, None}
use Rattle.gl_base.specs.Texts.{Text}
use Rattle.gl_meaning.specs.NameTests.{is_class_name, ends_class, after_colon}
use Rattle.gl_shape.specs.declared.names.Place.{Place}
use Rattle.gl_shape.specs.declared.names.Place.TheVariants as v

-- whether what is left ends a class name well
abbrev pub ends_at : Place → Text → Bool
ends_at v.Start s = is_class_name s
ends_at v.Part s = ends_class s
ends_at v.Colon s = after_colon s

-- the place after one more character; where there is none, no class name goes on so
abbrev pub PlaceAfter : Place → ℕ → Option Place → Type 0
PlaceAfter place c (Some next) = (s : Text) → ends_at place (c ∷ s) ≡ ends_at next s
PlaceAfter place c None = (s : Text) → ends_at place (c ∷ s) ≡ false
