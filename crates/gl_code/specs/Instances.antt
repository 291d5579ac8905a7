-- The cells of an instance, and the applications in which it is made.
use Rattle.std.specs.Prelude.{◌≡◌, ℕ, zero, suc, List, [], ◌∷◌, ◌++◌, Bool, length}
use Rattle.gl_ast.specs.Template.{Body}
use Rattle.gl_value.specs.Value.{Value}
use Rattle.gl_arena.specs.Id.{Id as CodeId}
use Rattle.gl_meaning.specs.Manifest.{app_of}
use Rattle.gl_meaning.specs.Order.{NamesRise}
use Rattle.gl_meaning.specs.Path.{V}
use Rattle.gl_meaning.specs.Scope.{Source}
use Rattle.gl_plain.specs.Ids.{a_ref}
use Rattle.gl_plain.specs.State.{State}
use Rattle.gl_plain.specs.Naming.{by_number, made_source}
use Rattle.gl_machine.specs.Env.{Env}
use Rattle.gl_vm.specs.Labels.{label, labelled}
use Rattle.gl_vm.specs.View.{Tables, Agrees, stamps, state_of}
use Rattle.gl_vm.specs.Steps.{Follows, Does, Numbers}
use Rattle.gl_vm.specs.declared.vm.Vm.{Vm}

-- Cells are made that hold these values in turn.
abbrev pub cells_laid : List V → State → State
cells_laid [] st = st
cells_laid (v ∷ vs) st = cells_laid vs (made_source by_number (label (st.next a_ref)) v st)

-- so many numbers from one on
abbrev pub numbers_from : ℕ → ℕ → List ℕ
numbers_from k zero = []
numbers_from k (suc n) = k ∷ numbers_from (suc k) n

-- The code keeps cells with these values in turn, made in that state, and they have these ids.
pub record Laid (n : Tables) (vs : List V) (ids : List CodeId) (st : State) (new : Vm) : Type 0 where
  pub follows : Follows n (cells_laid vs st) new
  pub numbered : stamps ids ≡ numbers_from (st.next a_ref) (length vs)

abbrev pub Lays : List V → List CodeId → Vm → Vm → Type 0
Lays vs ids old new = (n : Tables) (touched : Source → Bool) → Agrees touched old → Laid n vs ids (state_of n old touched) new

-- One cell more is there, and its id stands last.
pub record LaysOne (v : Value ℕ) (ids more : List CodeId) (old new : Vm) : Type 0 where
  pub id : CodeId
  pub last : more ≡ ids ++ id ∷ []
  pub step : Does (λ n. made_source by_number (label old.refs.rows.made) (labelled v)) old new
  pub numbers : Numbers old.refs.rows new.refs.rows id

-- The application is that of the manifest, of which the names rise.
pub record Suits (env : Env) : Type 0 where
  pub templates : List Body
  pub app : env.app ≡ app_of env.manifest templates
  pub rise : NamesRise env.manifest
