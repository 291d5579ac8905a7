-- Cells that are laid one after another.
use Rattle.std.proofs.Common.{◌≡◌, ℕ, zero, suc, List, [], ◌∷◌, ◌++◌, Bool, length, Option, refl, sym, ◌∙◌, ap, subst}
use Rattle.std.proofs.lemmas.List.{map-append, append_assoc, append-nil}
use Rattle.std.specs.Prelude.{slice_get, unwrap_or}
use Rattle.gl_base.specs.Texts.{Text}
use Rattle.gl_base.specs.Names.{at_place}
use Rattle.gl_value.specs.Value.{Value, undefined}
use Rattle.gl_arena.specs.Id.{Id}
use Rattle.gl_meaning.specs.Path.{V}
use Rattle.gl_meaning.specs.Scope.{Source}
use Rattle.gl_plain.specs.Ids.{a_ref}
use Rattle.gl_plain.specs.State.{State}
use Rattle.gl_plain.specs.Naming.{by_number, made_source}
use Rattle.gl_vm.specs.Labels.{label, labelled, all_labelled}
use Rattle.gl_vm.specs.View.{Tables, Agrees, stamps, state_of}
use Rattle.gl_vm.specs.Steps.{Follows, Does, Numbers}
use Rattle.gl_vm.specs.declared.vm.Vm.{Vm}
use Rattle.gl_code.specs.Cells.{initial_value, initial_values}
use Rattle.gl_code.specs.Instances.{cells_laid, numbers_from, LaysOne, Lays}

-- What is kept now, with the cells of the fields that are left, is what is to be kept.
pub record Lasts (n : Tables) (all rest : List V) (ids : List Id) (st : State) (now : Vm) : Type 0 where
  pub state : State
  pub follows : Follows n state now
  pub laid : cells_laid rest state ≡ cells_laid all st
  pub numbered : stamps ids ++ numbers_from (state.next a_ref) (length rest) ≡ numbers_from (st.next a_ref) (length all)

abbrev pub StillLays : Option (List (Value ℕ)) → List (Text × Value ℕ) → List (Text × Value ℕ) → List Id → Vm → Vm → Type 0
StillLays o fields rest ids vm now =
    (n : Tables) (touched : Source → Bool) → Agrees touched vm → Lasts n (all_labelled (initial_values o 0 fields)) (all_labelled (initial_values o (length ids) rest)) ids (state_of n vm touched) now

pub lays_begin : (o : Option (List (Value ℕ))) (fields : List (Text × Value ℕ)) (ids : List Id) (vm : Vm) → ids ≡ [] → StillLays o fields fields ids vm vm
lays_begin o fields ids vm e =
    subst (λ is. StillLays o fields fields is vm vm) (sym e) (λ n t a. record { state = state_of n vm t; follows = record { state = refl; agrees = a }; laid = refl; numbered = refl })

lays_more : (n : Tables) (all rest : List V) (ids : List Id) (id : Id) (st : State) (v : Value ℕ) (vm vm' : Vm) → Lasts n all (labelled v ∷ rest) ids st vm → Does (λ m. made_source by_number (label vm.refs.rows.made) (labelled v)) vm vm'
    → Numbers vm.refs.rows vm'.refs.rows id → Lasts n all rest (ids ++ id ∷ []) st vm'
lays_more n all rest ids id st v vm vm' x d i =
    let r : State = x.state in
    let next : vm.refs.rows.made ≡ r.next a_ref = ap (λ (s : State). s.next a_ref) x.follows.state in
    let done : Follows n (made_source by_number (label vm.refs.rows.made) (labelled v) r) vm'
    = subst (λ (s : State). Follows n (made_source by_number (label vm.refs.rows.made) (labelled v) s) vm') x.follows.state (d n r.touched x.follows.agrees) in
    record {
      state = made_source by_number (label (r.next a_ref)) (labelled v) r;
      follows = subst (λ k. Follows n (made_source by_number (label k) (labelled v) r) vm') next done;
      laid = x.laid;
      numbered =
          ap (λ is. is ++ numbers_from (suc (r.next a_ref)) (length rest)) (map-append (λ j. j.1) ids (id ∷ []))
          ∙ (append_assoc (stamps ids) (id.1 ∷ []) (numbers_from (suc (r.next a_ref)) (length rest))
          ∙ (ap (λ k. stamps ids ++ k ∷ numbers_from (suc (r.next a_ref)) (length rest)) (i.stamp ∙ next) ∙ x.numbered));
    }

pub lays_step : (o : Option (List (Value ℕ))) (fields rest : List (Text × Value ℕ)) (x : Text × Value ℕ) (ids ids' : List Id) (v : Value ℕ) (vm now now' : Vm) → v ≡ initial_value o (length ids) x.1
    → LaysOne v ids ids' now now' → StillLays o fields (x ∷ rest) ids vm now → StillLays o fields rest ids' vm now'
lays_step o fields rest x ids ids' v vm now now' e y s =
    subst (λ js. StillLays o fields rest js vm now') (sym y.last)
    (λ n t a. subst (λ k. Lasts n (all_labelled (initial_values o 0 fields)) (all_labelled (initial_values o k rest)) (ids ++ y.id ∷ []) (state_of n vm t) now') (sym (length_more ids y.id))
    (lays_more n (all_labelled (initial_values o 0 fields)) (all_labelled (initial_values o (suc (length ids)) rest)) ids y.id (state_of n vm t) v now now'
    (subst (λ w. Lasts n (all_labelled (initial_values o 0 fields)) (labelled w ∷ all_labelled (initial_values o (suc (length ids)) rest)) ids (state_of n vm t) now) (sym e) (s n t a)) y.step y.numbers))
  where
    length_more : (js : List Id) (j : Id) → length (js ++ j ∷ []) ≡ suc (length js)
    length_more [] j = refl
    length_more (k ∷ js) j = ap suc (length_more js j)

pub lays_end : (o : Option (List (Value ℕ))) (fields rest : List (Text × Value ℕ)) (ids : List Id) (vm now : Vm) → rest ≡ [] → StillLays o fields rest ids vm now → Lays (all_labelled (initial_values o 0 fields)) ids vm now
lays_end o fields rest ids vm now e s n t a =
    let x : Lasts n (all_labelled (initial_values o 0 fields)) [] ids (state_of n vm t) now
    = subst (λ fs. Lasts n (all_labelled (initial_values o 0 fields)) (all_labelled (initial_values o (length ids) fs)) ids (state_of n vm t) now) e (s n t a) in
    record { follows = subst (λ st. Follows n st now) x.laid x.follows; numbered = sym (append-nil (stamps ids)) ∙ x.numbered }

pub place_of : (vs : List (Value ℕ)) (i : ℕ) (o : Option (Value ℕ)) → o ≡ slice_get vs i → unwrap_or o undefined ≡ at_place undefined i vs
place_of [] i o e = ap (λ x. unwrap_or x undefined) e
place_of (v ∷ vs) zero o e = ap (λ x. unwrap_or x undefined) e
place_of (v ∷ vs) (suc i) o e = place_of vs i o e
