-- The order of the names of a manifest.
use Rattle.std.specs.Prelude.{List, [], ◌∷◌, map, IsTrue}
use Rattle.gl_base.specs.Texts.{Text, text_less}
use Rattle.gl_meaning.specs.Manifest.{Manifest, ClassEntry}
use Rattle.gl_meaning.specs.ManifestRules.{Each}

-- each text is less, by bytes, than every later one
abbrev pub Rise : List Text → Type 0
Rise [] = Unit {0}
Rise (t ∷ ts) = Each (λ u. IsTrue (text_less t u)) ts × Rise ts

abbrev pub names_of : {A : Type 0} → List (Text × A) → List Text
names_of xs = map (λ x. x.0) xs

pub record ClassRises (c : ClassEntry) : Type 0 where
  pub fields : Rise (names_of c.fields)
  pub getters : Rise (names_of c.getters)
  pub actions : Rise (names_of c.actions)

-- The names of the classes rise, and in each class those of its fields, of its getters and of its actions.
pub record NamesRise (m : Manifest) : Type 0 where
  pub classes : Rise (map (λ c. c.name) m.classes)
  pub each : Each ClassRises m.classes
