-- What ends one after another.
use Rattle.std.proofs.Common.{◌≡◌, ℕ, ◌+◌, true, Result, Ok, Err, OnOk, refl, sym, ap, subst, ◌∙◌}
use Rattle.gl_plain.specs.Ids.{Id as Name, hit}
use Rattle.gl_plain.specs.State.{State}
use Rattle.gl_plain.specs.Naming.{by_number, dropped_as}
use Rattle.gl_vm.specs.Led.{Led}
use Rattle.gl_vm.specs.View.{Tables, state_of}
use Rattle.gl_vm.specs.Steps.{Follows, Does}
use Rattle.gl_vm.specs.declared.vm.Vm.{Vm}
use Rattle.gl_vm.proofs.States.{state_is}
use Rattle.gl_vm.proofs.Drops.{dropped_twice, all_stay}
use Rattle.gl_ends.specs.Ending.{Ends}

-- counts that are the same
pub ends_as : (n : Tables) (old new : Vm) (c d : Name → ℕ) → ((q : Name) → c q ≡ d q) → Ends n c old new → Ends n d old new
ends_as n old new c d e x = subst (λ f. Ends n f old new) (λ z q. e q z) x

none_dropped : (st : State) → st ≡ dropped_as by_number (λ q. 0) st
none_dropped st = state_is st (dropped_as by_number (λ q. 0) st) refl refl refl refl (sym (all_stay (λ m. true) (λ m. refl) st.installs)) (sym (all_stay (λ m. true) (λ m. refl) st.updates))

pub ends_nothing : (n : Tables) (v : Vm) → Ends n (λ q. 0) v v
ends_nothing n v = record { step = λ led touched agrees. record { state = none_dropped (state_of n v touched); agrees = agrees } }

module _ (n : Tables) (a b c : Vm) (first second : Name → ℕ) where
  -- both, as one drop of the sum
  pub ends_both : (Led a.refs → Led b.refs) → Ends n first a b → Ends n second b c → Ends n (λ q. second q + first q) a c
  ends_both s x y = record {
    step = λ led touched agrees.
        let st = state_of n a touched in
        let u = x.step led touched agrees in
        let w : Follows n (dropped_as by_number second (state_of n b touched)) c = y.step (s led) touched u.agrees in
        subst (λ r. Follows n r c) (ap (dropped_as by_number second) u.state ∙ dropped_twice second first st) w;
  }

  -- with a count that is the sum
  pub ends_then : (whole : Name → ℕ) → ((q : Name) → second q + first q ≡ whole q) → (Led a.refs → Led b.refs) → Ends n first a b → Ends n second b c → Ends n whole a c
  ends_then whole e s x y = ends_as n a c (λ q. second q + first q) whole e (ends_both s x y)

-- for each naming of fields and modifiers it is a step of the state
pub does_of : {T E : Type 0} (r : Result T E) (old new : Vm) (count : Tables → Name → ℕ) → Led old.refs → ((n : Tables) → OnOk r (Ends n (count n) old new)) → OnOk r (Does (λ n. dropped_as by_number (count n)) old new)
does_of (Ok v) old new count led h = λ n touched agrees. (h n).step led touched agrees
does_of (Err e) old new count led h = tt

pub on_ok_as : {T E : Type 0} (r : Result T E) (n : Tables) (old new : Vm) (c d : Name → ℕ) → ((q : Name) → c q ≡ d q) → OnOk r (Ends n c old new) → OnOk r (Ends n d old new)
on_ok_as (Ok v) n old new c d e h = ends_as n old new c d e h
on_ok_as (Err x) n old new c d e h = h

-- one thing that goes
pub ends_one : (n : Tables) (old new : Vm) (i : Name) → (Led old.refs → Does (λ n. dropped_as by_number (λ q. hit q i)) old new) → Ends n (λ q. hit q i) old new
ends_one n old new i h = record { step = λ led touched agrees. h led n touched agrees }
