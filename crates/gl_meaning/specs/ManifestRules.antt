-- The limits that each manifest keeps.
use Rattle.std.specs.Prelude.{◌≤◌, List, [], ◌∷◌, length}
use Rattle.gl_base.specs.Texts.{Text}
use Rattle.gl_meaning.specs.App.{Action}
use Rattle.gl_meaning.specs.Manifest.{Manifest, ClassEntry}
use Rattle.gl_meaning.specs.ManifestLimits as most

-- it holds of each of a list
abbrev pub Each : {A : Type 0} → (A → Type 0) → List A → Type 0
Each P [] = Unit {0}
Each P (x ∷ xs) = P x × Each P xs

-- an action has no more parameters than it may
abbrev pub ActionKeeps : Text × Action → Type 0
ActionKeeps x = length x.1.params ≤ most.params

pub record ClassKeeps (c : ClassEntry) : Type 0 where
  pub fields : length c.fields ≤ most.fields
  pub getters : length c.getters ≤ most.getters
  pub actions : length c.actions ≤ most.actions
  pub each : Each ActionKeeps c.actions

pub record KeepsLimits (m : Manifest) : Type 0 where
  pub least : 1 ≤ m.limit
  pub limit : m.limit ≤ most.nesting
  pub modifiers : length m.modifiers ≤ most.modifiers
  pub classes : length m.classes ≤ most.classes
  pub each : Each ClassKeeps m.classes
