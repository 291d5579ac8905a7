-- The class of an instance, by its path and by its number.
use Rattle.std.specs.Prelude.{◌≡◌, ℕ, List, [], ◌∷◌, ◌+◌, if◌then◌else◌, Option, Some, None}
use Rattle.std.specs.Str.{bytes_eq}
use Rattle.gl_base.specs.Texts.{Text}
use Rattle.gl_meaning.specs.Path.{PathStep, into, Path}
use Rattle.gl_meaning.specs.Manifest.{Manifest, ClassEntry}

-- the name of the class of the instance at a path
abbrev pub class_name : Manifest → Path → Option Text
class_name m [] = Some m.root
class_name m (into c ∷ p) = Some c
class_name m (s ∷ p) = None

-- the first class of a name
abbrev pub entry_named : Text → List ClassEntry → Option ClassEntry
entry_named n [] = None
entry_named n (c ∷ cs) = if bytes_eq n c.name then Some c else entry_named n cs

-- the class of the instance at a path
pub record IsClassOf (m : Manifest) (p : Path) (c : ClassEntry) : Type 0 where
  pub name : Text
  pub names : class_name m p ≡ Some name
  pub is : entry_named name m.classes ≡ Some c

-- whether a step is into a component, as a count
abbrev pub weight : PathStep → ℕ
weight (into c) = 1
weight s = 0

-- how many components stand on the way
abbrev pub intos : List PathStep → ℕ
intos [] = 0
intos (s ∷ p) = weight s + intos p
