-- Steps that change what a part has and nothing else: a position is read again, a text, an attribute or a modifier is changed, a value is given.
use Rattle.std.proofs.Common.{◌≡◌, ℕ, ◌<◌, ◌≤◌, Bool, true, false, List, [], ◌∷◌, Option, Some, refl, sym, ◌∙◌, ap, subst, arith, inl, inr}
use Rattle.std.specs.Prelude.{if◌then◌else◌}
use Rattle.gl_value.specs.Value.{text_of, same}
use Rattle.gl_meaning.specs.Path.{V, path_eq}
use Rattle.gl_meaning.specs.Scope.{Source, sources_of}
use Rattle.gl_meaning.specs.Eval.{values_in}
use Rattle.gl_meaning.specs.Parts.{attribute_value}
use Rattle.gl_plain.specs.Ids.{a_ref, Id, id_eq, ref, node, modifier_id}
use Rattle.gl_plain.specs.State.{any_of, Form, constant_form, source_form, property_form, call_form, joined_form, all_form, content, text_content, row, modifier_row, Thing, State, put_thing, touch, held_value, note_updated}
use Rattle.gl_plain.specs.Binding.{first_value}
use Rattle.gl_plain.specs.Live.{AttrSpot, ModSpot}
use Rattle.gl_plain.specs.Reads.{reads}
use Rattle.gl_plain.specs.Renew.{form_ids, spot_ids, spot_pairs, is_stale, evaluate, reread, renew_text, changed_attr, renew_attrs, refreshed, renew_mods, give}
use Rattle.gl_plain.proofs.Moves.{IdCase, id_case}
use Rattle.gl_kept.specs.Around.{AllIn, IsThing}
use Rattle.gl_kept.proofs.Frames.{Frame, next}

-- what was there is there, and reads no more than it did
abbrev pub Softer : (Id → Option Thing) → (Id → Option Thing) → Type 0
Softer look look' = (q : Id) (c : Id → ℕ) → IsThing c q.kind (look q) → IsThing c q.kind (look' q)

-- all that is counted has been given
abbrev pub Old : State → (Id → ℕ) → Type 0
Old st count = (q : Id) → st.next q.kind ≤ q.num → count q ≡ 0

pub record Calm (st st' : State) (count : Id → ℕ) : Type 0 where
  pub frame : Frame (Unit {0}) st st' count count
  pub softer : Softer st.look st'.look

pub no_calm : (st : State) (count : Id → ℕ) → Old st count → Calm st st count
no_calm st count o = record {
  frame = record { more = λ q. omega arith; kept = λ q lt z. refl; fresh = λ q lt z. z; old = o; clean = λ g q z h. h z };
  softer = λ q c h. h;
}

pub then_calm : (st st1 st2 : State) (count : Id → ℕ) → Calm st st1 count → Calm st1 st2 count → Calm st st2 count
then_calm st st1 st2 count m n = record {
  frame = next (Unit {0}) st st1 st2 count count count m.frame n.frame;
  softer = λ q c h. n.softer q c (m.softer q c h);
}

-- another thing for an id of the part, which reads no more
pub put_calm : (st : State) (count : Id → ℕ) (i : Id) (x : Thing) → Old st count → 0 < count i → ((c : Id → ℕ) → IsThing c i.kind (st.look i) → IsThing c i.kind (Some x)) → Calm st (put_thing i x st) count
put_calm st count i x o w soft = record {
  frame = record {
    more = λ q. omega arith;
    kept = λ q lt z. other q (count_other q z (id_case q i));
    fresh = λ q lt z. z;
    old = o;
    clean = λ g q z h. other q (count_other q z (id_case q i)) ∙ h z;
  };
  softer = λ q c h. by q c h (id_case q i);
} where
  count_other : (q : Id) → count q ≡ 0 → IdCase q i → id_eq q i ≡ false
  count_other q z (inl k) = let j : count q ≡ count i = ap count k.1 in absurd (omega (arith, z, j, w))
  count_other q z (inr k) = k

  other : (q : Id) → id_eq q i ≡ false → (put_thing i x st).look q ≡ st.look q
  other q e = ap (λ b. if b then Some x else st.look q) e

  by : (q : Id) (c : Id → ℕ) → IsThing c q.kind (st.look q) → IdCase q i → IsThing c q.kind ((put_thing i x st).look q)
  by q c h (inl k) =
      subst (λ b. IsThing c q.kind (if b then Some x else st.look q)) (sym k.0)
      (subst (λ j. IsThing c j.kind (Some x)) (sym k.1) (soft c (subst (λ j. IsThing c j.kind (st.look j)) k.1 h)))
  by q c h (inr k) = subst (λ b. IsThing c q.kind (if b then Some x else st.look q)) (sym k) h

pub calm_old : (st st' : State) (count : Id → ℕ) → Calm st st' count → Old st' count
calm_old st st' count m = m.frame.old

-- Positions

form_in : (c : Id → ℕ) (f : Form) → AllIn c (reads f) → AllIn c (form_ids f)
form_in c (constant_form v) h = tt
form_in c (source_form x v) h = tt
form_in c (property_form r k) h = tt
form_in c (call_form n rs ns) h = tt
form_in c (joined_form rs) h = tt
form_in c (all_form rs) h = h

ids_in : (c : Id → ℕ) (o : Option Thing) → IsThing c a_ref o → AllIn c (spot_ids o)
ids_in c (Some (row x)) h = form_in c x.form h
ids_in c _ h = absurd h

pub evaluate_calm : (st : State) (count : Id → ℕ) (r : ℕ) → Old st count → 0 < count (ref r) → Calm st (evaluate r st) count
evaluate_calm st count r o w =
    let m = put_calm st count (ref r) (row (record { form = all_form (spot_ids (st.look (ref r))); last = any_of (sources_of (spot_pairs st r)) })) o w (λ c h. ids_in c (st.look (ref r)) h) in
    record {
      frame = record { more = m.frame.more; kept = m.frame.kept; fresh = m.frame.fresh; old = m.frame.old; clean = m.frame.clean };
      softer = m.softer;
    }

pub reread_calm : (st : State) (count : Id → ℕ) (r : ℕ) → Old st count → 0 < count (ref r) → Calm st (reread r st) count
reread_calm st count r o w = by (is_stale st r) where
  by : (b : Bool) → Calm st (if b then evaluate r st else st) count
  by true = evaluate_calm st count r o w
  by false = no_calm st count o

pub text_calm : (st : State) (count : Id → ℕ) (n r : ℕ) → Old st count → 0 < count (node n) → 0 < count (ref r) → Calm st (renew_text n r st) count
text_calm st count n r o v w = by (is_stale st r) where
  by : (b : Bool) → Calm st (if b then put_thing (node n) (content (text_content (text_of (first_value (spot_pairs st r))))) (evaluate r st) else st) count
  by true =
      let st1 = evaluate r st in
      let m = evaluate_calm st count r o w in
      then_calm st st1 _ count m (put_calm st1 count (node n) (content (text_content (text_of (first_value (spot_pairs st r))))) m.frame.old v (λ c h. tt))
  by false = no_calm st count o

-- the references of positions are counted
abbrev pub AttrsCounted : (Id → ℕ) → List AttrSpot → Type 0
AttrsCounted count [] = Unit {0}
AttrsCounted count (a ∷ xs) = (0 < count (ref a.spot.ref)) × AttrsCounted count xs

abbrev pub ModsCounted : (Id → ℕ) → List ModSpot → Type 0
ModsCounted count [] = Unit {0}
ModsCounted count (z ∷ zs) = (0 < count (modifier_id z.id)) × (0 < count (ref z.spot.ref)) × ModsCounted count zs

pub attrs_calm : (count : Id → ℕ) (n : ℕ) (xs : List AttrSpot) (st : State) → Old st count → 0 < count (node n) → AttrsCounted count xs → Calm st (renew_attrs n xs st) count
attrs_calm count n [] st o v h = no_calm st count o
attrs_calm count n (a ∷ xs) st o v h = by (is_stale st a.spot.ref) (λ st' o'. attrs_calm count n xs st' o' v h.1) where
  by : (b : Bool) → ((st' : State) → Old st' count → Calm st' (renew_attrs n xs st') count)
      → Calm st (renew_attrs n xs (if b then put_thing (node n) (content (changed_attr a.name (attribute_value (spot_pairs st a.spot.ref)) (st.look (node n)))) (evaluate a.spot.ref st) else st)) count
  by true rec =
      let st1 = evaluate a.spot.ref st in
      let x = content (changed_attr a.name (attribute_value (spot_pairs st a.spot.ref)) (st.look (node n))) in
      let st2 = put_thing (node n) x st1 in
      let m = evaluate_calm st count a.spot.ref o h.0 in
      let k = then_calm st st1 st2 count m (put_calm st1 count (node n) x m.frame.old v (λ c e. tt)) in
      then_calm st st2 (renew_attrs n xs st2) count k (rec st2 k.frame.old)
  by false rec = rec st o

pub mods_calm : (count : Id → ℕ) (zs : List ModSpot) (st : State) → Old st count → ModsCounted count zs → Calm st (renew_mods zs st) count
mods_calm count [] st o h = no_calm st count o
mods_calm count (z ∷ zs) st o h = by (is_stale st z.spot.ref) (λ st' o'. mods_calm count zs st' o' h.2) where
  by : (b : Bool) → ((st' : State) → Old st' count → Calm st' (renew_mods zs st') count)
      → Calm st (renew_mods zs (if b then note_updated z.id (put_thing (modifier_id z.id) (modifier_row (refreshed z (values_in (spot_pairs st z.spot.ref)) (st.look (modifier_id z.id)))) (evaluate z.spot.ref st)) else st)) count
  by true rec =
      let st1 = evaluate z.spot.ref st in
      let x = modifier_row (refreshed z (values_in (spot_pairs st z.spot.ref)) (st.look (modifier_id z.id))) in
      let st2 = note_updated z.id (put_thing (modifier_id z.id) x st1) in
      let m = evaluate_calm st count z.spot.ref o h.1 in
      let k = then_calm st st1 (put_thing (modifier_id z.id) x st1) count m (put_calm st1 count (modifier_id z.id) x m.frame.old h.0 (λ c e. tt)) in
      let k2 : Calm st st2 count = record { frame = record { more = k.frame.more; kept = k.frame.kept; fresh = k.frame.fresh; old = k.frame.old; clean = k.frame.clean }; softer = k.softer } in
      then_calm st st2 (renew_mods zs st2) count k2 (rec st2 k2.frame.old)
  by false rec = rec st o

-- a value that is given
pub touch_calm : (st : State) (count : Id → ℕ) (r : ℕ) (x : Source) (v : V) → Old st count → 0 < count (ref r) → Calm st (touch r x v st) count
touch_calm st count r x v o w =
    let m = put_calm st count (ref r) (row (record { form = source_form x v; last = any_of [] })) o w (λ c h. tt) in
    record {
      frame = record { more = m.frame.more; kept = m.frame.kept; fresh = m.frame.fresh; old = m.frame.old; clean = m.frame.clean };
      softer = m.softer;
    }

pub give_calm : (st : State) (count : Id → ℕ) (r : ℕ) (x : Source) (v : V) → Old st count → 0 < count (ref r) → Calm st (give r x v st) count
give_calm st count r x v o w = by (same path_eq (held_value (st.look (ref r))) v) where
  by : (b : Bool) → Calm st (if b then st else touch r x v st) count
  by true = no_calm st count o
  by false = touch_calm st count r x v o w
