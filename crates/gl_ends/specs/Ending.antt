-- What a call that ends things does to the state.
use Rattle.std.specs.Prelude.{ℕ, ◌+◌, List, [], ◌∷◌, Bool}
use Rattle.gl_meaning.specs.Scope.{Source}
use Rattle.gl_plain.specs.Ids.{Id as Name, occurs}
use Rattle.gl_plain.specs.Naming.{by_number, dropped_as}
use Rattle.gl_vm.specs.Led.{Led}
use Rattle.gl_vm.specs.View.{Tables, state_of, Agrees}
use Rattle.gl_vm.specs.Steps.{Follows}
use Rattle.gl_vm.specs.declared.vm.Vm.{Vm}
use Rattle.gl_code.specs.CodeView.{seen_mod_spot}
use Rattle.gl_code.specs.declared.code.ModSpot.{ModSpot}

-- All ids that are counted go, and no others, where what positions read last lives.
pub record Ends (n : Tables) (count : Name → ℕ) (old new : Vm) : Type 0 where
  pub step : Led old.refs → (touched : Source → Bool) → Agrees touched old → Follows n (dropped_as by_number count (state_of n old touched)) new

-- how often an id stands among the positions of modifiers
abbrev pub times_spots : Name → List ModSpot → ℕ
times_spots q [] = 0
times_spots q (m ∷ ms) = occurs q (seen_mod_spot m).spot.made + times_spots q ms
