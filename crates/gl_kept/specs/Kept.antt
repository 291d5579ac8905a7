-- The state keeps just what the tree names.
use Rattle.std.specs.Prelude.{◌≡◌, ◌<◌, ℕ, List, [], ◌∷◌, Option, Some, None}
use Rattle.gl_meaning.specs.App.{App}
use Rattle.gl_plain.specs.Ids.{Id, ref}
use Rattle.gl_plain.specs.State.{row, Thing, State}
use Rattle.gl_plain.specs.Live.{Live, times}
use Rattle.gl_kept.specs.Around.{There}

-- All that the tree names is there, and reads only what stands around it; and nothing else is there. Nothing stands around the root.
pub record Kept (app : App) (st : State) (l : Live) : Type 0 where
  pub there : There app st.look (λ q. 0) l
  pub nothing : (q : Id) → times q l ≡ 0 → st.look q ≡ None

abbrev pub IsRow : Option Thing → Type 0
IsRow (Some (row x)) = Unit {0}
IsRow _ = ⊥

-- each of the references is there, and has a number below n
abbrev pub LiveBelow : (Id → Option Thing) → ℕ → List ℕ → Type 0
LiveBelow look n [] = Unit {0}
LiveBelow look n (r ∷ rs) = (r < n) × IsRow (look (ref r)) × LiveBelow look n rs
