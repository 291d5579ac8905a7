-- The rules that each manifest which is read keeps.
use Rattle.std.specs.Prelude.{◌≡◌, List, [], IsTrue, codes}
use Rattle.gl_base.specs.Texts.{Text}
use Rattle.gl_meaning.specs.Known.{Among}
use Rattle.gl_meaning.specs.Laws.{NoRepeat}
use Rattle.gl_meaning.specs.Manifest.{Manifest, ClassEntry}
use Rattle.gl_meaning.specs.ManifestRules.{Each, KeepsLimits}
use Rattle.gl_meaning.specs.NameTests.{is_free_name}
use Rattle.gl_meaning.specs.Order.{NamesRise, names_of}

-- no text stands in both lists
abbrev pub Apart : List Text → List Text → Type 0
Apart xs ys = (n : Text) → Among n xs → Among n ys → ⊥

-- In a class no name is that of two members of different kinds, the parameters of each action differ, and the file of the template has
-- a name.
pub record ClassNames (c : ClassEntry) : Type 0 where
  pub fields : Apart (names_of c.fields) (names_of c.actions)
  pub getters : Apart (names_of c.getters) (names_of c.actions)
  pub computed : Apart (names_of c.getters) (names_of c.fields)
  pub params : Each (λ x. NoRepeat x.1.params) c.actions
  pub file : c.file ≡ [] → ⊥

-- A modifier has a name that is not reserved, and it is not `on`: that modifier there is always.
pub record ModifierName (n : Text) : Type 0 where
  pub free : IsTrue (is_free_name n)
  pub other : n ≡ codes "on" → ⊥

-- A manifest keeps its limits, its names rise, those of its classes differ where they have to, and its modifiers have names that they may
-- have.
pub record KeepsRules (m : Manifest) : Type 0 where
  pub limits : KeepsLimits m
  pub order : NamesRise m
  pub names : Each ClassNames m.classes
  pub modifiers : Each ModifierName m.modifiers
