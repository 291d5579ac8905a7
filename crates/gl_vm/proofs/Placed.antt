-- A position that is made and evaluated at once.
use Rattle.std.proofs.Common.{◌≡◌, ℕ, ◌<◌, Bool, true, false, Option, Some, None, option_map, IsSome, is_some, List, [], ◌∷◌, map, refl, sym, ap, ap₂, ◌∙◌, arith}
use Rattle.std.specs.Prelude.{if◌then◌else◌}
use Rattle.gl_arena.specs.Id.{Id}
use Rattle.gl_arena.specs.Arena.{named, by_stamp, IsStamped, IsOwn}
use Rattle.gl_arena.proofs.Stamps.{by_stamp-id, by_stamp-live}
use Rattle.gl_refs.specs.Forms as f
use Rattle.gl_refs.specs.State as s
use Rattle.gl_refs.specs.Refs.{Refs, rows_of, forms_of}
use Rattle.gl_meaning.specs.Scope.{sources_of}
use Rattle.gl_plain.specs.Ids.{a_ref, id_eq, ref}
use Rattle.gl_plain.specs.State.{any_of, all_form, row, Thing, State, pair_of, make, put_thing, note_evaluated}
use Rattle.gl_plain.specs.Binding.{made_row, place}
use Rattle.gl_plain.specs.Renew.{spot_ids, evaluate}
use Rattle.gl_plain.proofs.Pairs.{pairs_agree}
use Rattle.gl_vm.specs.View.{stamps, state_of}
use Rattle.gl_vm.specs.Steps.{Does}
use Rattle.gl_vm.specs.declared.vm.Vm.{Vm}
use Rattle.gl_vm.proofs.States.{num_yes, num_no, state_is}
use Rattle.gl_vm.proofs.Rows.{none_not}
use Rattle.gl_vm.proofs.Settled.{some_row}
use Rattle.gl_vm.proofs.Calms.{live_of}

-- a position over references that are there, made and then evaluated, is the position that is placed
module _ (st : State) (xs : List ℕ) where
  abbrev r : ℕ
  r = st.next a_ref

  abbrev made : State
  made = made_row (all_form xs) st

  abbrev Below : List ℕ → Type 0
  Below [] = Unit {0}
  Below (y ∷ ys) = (y < r) × Below ys

  ids-are : spot_ids (made.look (ref r)) ≡ xs
  ids-are = ap (λ b. spot_ids (if b then Some (row (record { form = all_form xs; last = any_of [] })) else st.look (ref r))) (num_yes r r refl)

  pairs-are : (ys : List ℕ) → Below ys → map (pair_of made.look) ys ≡ map (pair_of st.look) ys
  pairs-are [] h = refl
  pairs-are (y ∷ ys) h = ap₂ (λ p ps. p ∷ ps) (pairs_agree st.look made.look r (λ q lt. ap (λ b. if b then Some (row (record { form = all_form xs; last = any_of [] })) else st.look (ref q)) (num_no r q (λ e. absurd (omega (arith, lt, e))))) y h.0) (pairs-are ys h.1)

  twice : (x : Thing) (b : Bool) (o : Option Thing) → (if b then Some x else (if b then Some (row (record { form = all_form xs; last = any_of [] })) else o)) ≡ (if b then Some x else o)
  twice x true o = refl
  twice x false o = refl

  put_made : (x : Thing) → put_thing (ref r) x made ≡ make a_ref x st
  put_made x = state_is (put_thing (ref r) x made) (make a_ref x st) (λ z q. twice x (id_eq q (ref r)) (st.look q) z) refl refl refl refl refl

  pub place_is : Below xs → evaluate r made ≡ (place (record { ids = xs; made = []; state = st })).state
  place_is h =
      ap₂ (λ ys ps. note_evaluated r (put_thing (ref r) (row (record { form = all_form ys; last = any_of (sources_of ps) })) made)) ids-are (ap (map (pair_of made.look)) ids-are ∙ pairs-are xs h)
      ∙ ap (note_evaluated r) (put_made (row (record { form = all_form xs; last = any_of (sources_of (map (pair_of st.look) xs)) })))

pub below_stamps : (refs : Refs) → IsStamped refs.rows → (st : State) (xs ids : List ℕ) → st.next a_ref ≡ refs.rows.made → (qs : List Id) → f.Each (λ q. s.is_readable (forms_of refs q) ≡ true) qs → Below st xs (stamps qs)
below_stamps refs stamped st xs ids e [] h = tt
below_stamps refs stamped st xs ids e (q ∷ qs) h =
    (let lt = stamped.below q (live (rows_of refs q) (live_of (forms_of refs q) h.0)) in omega (arith, lt, e), below_stamps refs stamped st xs ids e qs h.1) where
      live : (o : Option s.Row) → IsSome (option_map (λ (x : s.Row). x.form) o) → IsSome o
      live None h = h
      live (Some x) h = refl

pub place_step : (old mid new : Vm) (id : Id) (ids : List Id) → IsStamped old.refs.rows → f.Each (λ q. s.is_readable (forms_of old.refs q) ≡ true) ids → Does (λ n. made_row (all_form (stamps ids))) old mid → id.1 ≡ old.refs.rows.made → Does (λ n. evaluate id.1) mid new
    → Does (λ n st. (place (record { ids = stamps ids; made = []; state = st })).state) old new
place_step old mid new id ids stamped live makes number evaluates n touched a =
    let m = makes n touched a in
    let e = evaluates n touched m.agrees in
    let is : evaluate id.1 (state_of n mid touched) ≡ (place (record { ids = stamps ids; made = []; state = state_of n old touched })).state =
    ap₂ (λ k (q : State). evaluate k q) number m.state ∙ place_is (state_of n old touched) (stamps ids) (below_stamps old.refs stamped (state_of n old touched) (stamps ids) [] refl ids live) in
    record { state = e.state ∙ is; agrees = e.agrees }

abbrev form_in : s.Row → f.Form
form_in x = x.form

-- ids that were given stay so, where forms do
pub owns_same : (a b : Refs) → IsStamped a.rows → IsStamped b.rows → b.rows.made ≡ a.rows.made → forms_of b ≡ forms_of a → (i : Id) → IsOwn a.rows i → IsOwn b.rows i
owns_same a b sa sb made forms i own = record { below = let lt = own.below in omega (arith, lt, made); same = by (by_stamp b.rows i.1) refl (named b.rows i) refl } where
  by : (o : Option s.Row) → by_stamp b.rows i.1 ≡ o → (u : Option s.Row) → named b.rows i ≡ u → named b.rows i ≡ by_stamp b.rows i.1
  by None e None g = g ∙ sym e
  by o e (Some v) g = g ∙ sym (by_stamp-live b.rows i v sb g)
  by (Some v) e None g = absurd (none_not v (sym g ∙ there)) where
    j : (k : Id) × (k.1 ≡ i.1) × (named b.rows k ≡ Some v)
    j = by_stamp-id b.rows i.1 v e

    was : (y : s.Row) × (rows_of a j.0 ≡ Some y) × (y.form ≡ v.form)
    was = some_row (rows_of a j.0) v.form (sym (ap (λ l. l j.0) forms) ∙ ap (option_map form_in) j.2)

    here : named a.rows i ≡ Some was.0
    here = own.same ∙ (ap (by_stamp a.rows) (sym j.1) ∙ by_stamp-live a.rows j.0 was.0 sa was.1)

    one : i ≡ j.0
    one = sa.apart i j.0 (ap is_some here) (ap is_some was.1) (sym j.1)

    there : named b.rows i ≡ Some v
    there = ap (named b.rows) one ∙ j.2
