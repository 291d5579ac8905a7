-- Steps that begin with what is kept of references.
use Rattle.std.proofs.Common.{◌≡◌, ℕ, Bool, true, Option, Some, None, IsSome, refl, sym, subst, ◌∙◌, ap}
use Rattle.gl_arena.specs.Id.{Id}
use Rattle.gl_refs.specs.Forms.{Form, Look}
use Rattle.gl_refs.specs.State.{is_readable}
use Rattle.gl_meaning.specs.Scope.{Source}
use Rattle.gl_plain.specs.State.{State, pair_of}
use Rattle.gl_vm.specs.View.{Tables, state_of}
use Rattle.gl_vm.specs.Steps.{Does, Numbers, Prepares}
use Rattle.gl_vm.specs.declared.vm.Vm.{Vm}
use Rattle.gl_code.proofs.Doing.{does_then}

pub prepares_none : (vm : Vm) → Prepares vm vm
prepares_none vm = record { same = λ n u. refl; step = λ n u a. record { state = refl; agrees = a }; made = refl; owns = λ i o. o }

pub prepares_then : (a b c : Vm) → Prepares a b → Prepares b c → Prepares a c
prepares_then a b c p q = record { same = λ n u. q.same n u ∙ p.same n u; step = does_then (λ n st. st) (λ n st. st) a b c p.step q.step; made = q.made ∙ p.made; owns = λ i o. q.owns i (p.owns i o) }

pub prepared_does : (f : Tables → State → State) (a b c : Vm) → Prepares a b → Does f b c → Does f a c
prepared_does f a b c p d = does_then (λ n st. st) f a b c p.step d

pub prepared_numbers : (a b c : Vm) (id : Id) → Prepares a b → Numbers b.refs.rows c.refs.rows id → Numbers a.refs.rows c.refs.rows id
prepared_numbers a b c id p i = record { stamp = i.stamp ∙ p.made; own = i.own; olds = λ k o. i.olds k (p.owns k o) }

-- what a reference gives is as it was
pub prepared_value : (a b : Vm) (r : ℕ) → Prepares a b → (n : Tables) (u : Source → Bool) → (pair_of (state_of n a u).look r).value ≡ (pair_of (state_of n b u).look r).value
prepared_value a b r p n u = ap (λ (st : State). (pair_of st.look r).value) (sym (p.same n u))

live : (o : Option Form) → is_readable o ≡ true → IsSome o
live None e = e
live (Some g) e = refl

-- what may be read is there, also afterwards
pub still_there : (l m : Look) (id : Id) → m ≡ l → is_readable (l id) ≡ true → IsSome (m id)
still_there l m id e r = subst (λ (x : Look). IsSome (x id)) (sym e) (live (l id) r)
