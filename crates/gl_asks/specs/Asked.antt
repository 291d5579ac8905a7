-- Positions that are asked one after another, up to the first that is stale, or one too many.
use Rattle.std.specs.Prelude.{◌≡◌, ℕ, ◌+◌, ◌^◌, ◌<◌, ◌≤◌, List, length, Bool, true, false, Result, IsOk}
use Rattle.gl_arena.specs.Id.{Id}
use Rattle.gl_refs.specs.Forms.{Each}
use Rattle.gl_refs.specs.State.{is_position}
use Rattle.gl_refs.specs.Refs.{Refs, rows_of}
use Rattle.gl_meaning.specs.Scope.{Source}
use Rattle.gl_guards.specs.Along.{enters_over}
use Rattle.gl_vm.specs.View.{Tables, Agrees, state_of}
use Rattle.gl_vm.specs.declared.vm.Vm.{Vm}

-- These were asked, where so many positions could be, and so many can be now: it is known of them whether one is stale or they are too many; where
-- it isn't so, there are as many less to ask.
pub record Asked (vm : Vm) (old new : ℕ) (rs : Tables → List ℕ) (b : Bool) : Type 0 where
  pub enters : (n : Tables) (touched : Source → Bool) → Agrees touched vm → enters_over old (state_of n vm touched) (rs n) ≡ b
  pub leaves : b ≡ false → (n : Tables) → new + length (rs n) ≡ old

-- These can be asked one after another: each is a position that was evaluated, a turn was begun, and there is room to count so many questions.
pub record CanAskAll (r : Refs) (ids : List Id) : Type 0 where
  pub asks : r.asks + length ids < 2 ^ 128
  pub begun : 0 < r.tags.clock
  pub positions : Each (λ i. is_position (rows_of r i) ≡ true) ids

-- Some of these were asked, and counted, and nothing else changed. Where all of them can be asked, there is an answer.
pub record Counted {A E : Type 0} (old new : Vm) (ids : List Id) (result : Result A E) : Type 0 where
  pub rest : new ≡ record old { refs = record old.refs { asks = new.refs.asks } }
  pub most : new.refs.asks ≤ old.refs.asks + length ids
  pub answers : CanAskAll old.refs ids → IsOk result
