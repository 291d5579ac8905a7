-- What agrees with a state agrees with it after a step over what stands beside it, and after it was given another value.
use Rattle.std.proofs.Common.{◌≡◌, ℕ, suc, ◌+◌, ◌<◌, ◌≤◌, List, [], ◌∷◌, map, Bool, true, false, ◌||◌, true≢false, Option, Some, refl, sym, ◌∙◌, ap, subst, arith, inl, inr, ◌⊎◌}
use Rattle.std.specs.Prelude.{if◌then◌else◌}
use Rattle.std.proofs.lemmas.Bool.{cases_lt}
use Rattle.gl_value.specs.Value.{Values, no_values, value, same}
use Rattle.gl_meaning.specs.Path.{at, main, otherwise, items, item, slot, Path, V, path_eq}
use Rattle.gl_meaning.specs.Scope.{Source, Pair, sources_of}
use Rattle.gl_meaning.specs.Render.{Entry, entries, values_listed}
use Rattle.gl_meaning.specs.Laws.{Untouched, Keeps}
use Rattle.gl_meaning.proofs.Frame.{keeps_itself, keeps_list}
use Rattle.gl_plain.specs.Ids.{a_ref, Id, ref, occurs}
use Rattle.gl_plain.specs.State.{any_of, source_form, row, Thing, State, thing_pair, pair_of, held_value, touch, source_eq}
use Rattle.gl_plain.specs.Naming.{Naming}
use Rattle.gl_plain.specs.Binding.{Spot, first_value}
use Rattle.gl_plain.specs.Live.{item_made, times, times_in, times_items, times_comment}
use Rattle.gl_plain.specs.Renew.{spot_ids, spot_pairs, last_of, is_stale, give}
use Rattle.gl_plain.specs.Stands.{WhereValues, below}
use Rattle.gl_plain.proofs.Moves.{IdCase, id_case, hit_self}
use Rattle.gl_plain.proofs.Pairs.{pair_law}
use Rattle.gl_plain.proofs.Rereads.{Cold, none_touched}
use Rattle.gl_naming.proofs.Steps.{source_itself}
use Rattle.gl_kept.specs.Around.{IsThing, with_made, AllThere}
use Rattle.gl_kept.proofs.Stays.{thing_more, thing_same, same_eases, all_stay}
use Rattle.gl_machine.specs.Code.{Code, still_code, put_code, element_code, branch_code, listed_code, unlisted_code, let_code, component_code, yield_code, ItemCodes, no_item_codes, item_code, items_of, Codes, no_codes, code_and, live_of, lives_of}
use Rattle.gl_machine.specs.RenewCode.{Runs}
use Rattle.gl_guards.specs.Settled.{IsGiven, Leaves, Owns, OwnsItems, OwnsIn, Told, Fits, HoldsSource, Settled, SettledItems, SettledIn, Room}
use Rattle.gl_guards.proofs.Leaves.{given_more}
use Rattle.gl_guards.proofs.Keep.{list_keeps, pairs_keep, ids_in}

-- Rooms

pub room_less : (st : State) (around a c : Id → ℕ) → ((q : Id) → a q ≤ c q) → Room st around c → Room st around a
room_less st around a c f r = record {
  once = λ q. let i = r.once q in let j = f q in omega (arith, i, j);
  old = λ q le. let i = r.old q le in let j = f q in omega (arith, i, j);
  closed = r.closed;
}

pub room_into : (st : State) (around count : Id → ℕ) (made : List Id) → AllThere st.look around made → Room st around (λ q. occurs q made + count q) → Room st (with_made made around) count
room_into st around count made h r = record {
  once = λ q. let i = r.once q in omega (arith, i);
  old = λ q le. let i = r.old q le in omega (arith, i);
  closed = λ n w. by n w (cases_lt 0 (occurs (ref n) made));
} where
  by : (n : ℕ) → 0 < with_made made around (ref n) → ((0 < occurs (ref n) made) ⊎ (occurs (ref n) made ≤ 0)) → IsThing (with_made made around) a_ref (st.look (ref n))
  by n w (inl v) = h (ref n) v
  by n w (inr v) = thing_more around (with_made made around) (λ q. omega arith) a_ref (st.look (ref n)) (r.closed n (omega (arith, w, v)))

module _ (naming : Naming) where
  -- A step from one state to another: what is touched stays so, what stands around means the same where it isn't touched, and the things of the
  -- part are the same.
  pub record Step (st st' : State) (around count : Id → ℕ) : Type 0 where
    pub more : (q : Id) → st.next q.kind ≤ st'.next q.kind
    pub still : (y : Source) → IsGiven naming st y → st'.touched y ≡ false → st.touched y ≡ false
    pub keep : (r : ℕ) → 0 < around (ref r) → Keeps (Cold st') (pair_of st.look r) (pair_of st'.look r)
    pub rows : (q : Id) → 0 < count q → st'.look q ≡ st.look q

  pub no_step : (st : State) (around count : Id → ℕ) → Step st st around count
  no_step st around count = record { more = λ q. omega arith; still = λ y g e. e; keep = λ r w. keeps_itself (Cold st) _; rows = λ q w. refl }

  pub step_less : (st st' : State) (around a c : Id → ℕ) → ((q : Id) → 0 < a q → 0 < c q) → Step st st' around c → Step st st' around a
  step_less st st' around a c f s = record { more = s.more; still = s.still; keep = s.keep; rows = λ q w. s.rows q (f q w) }

  -- with what was made for a statement around
  pub step_into : (st st' : State) (around count : Id → ℕ) (made : List Id) → AllThere st.look around made → Step st st' around (λ q. occurs q made + count q) → Step st st' (with_made made around) count
  step_into st st' around count made h s = record {
    more = s.more;
    still = s.still;
    keep = pairs_keep (Cold st') st.look st'.look (with_made made around) (λ r w. by r w (cases_lt 0 (occurs (ref r) made)));
    rows = λ q w. s.rows q (omega (arith, w));
  } where
    by : (r : ℕ) → 0 < with_made made around (ref r) → ((0 < occurs (ref r) made) ⊎ (occurs (ref r) made ≤ 0))
        → ((st'.look (ref r) ≡ st.look (ref r)) × IsThing (with_made made around) a_ref (st.look (ref r))) ⊎ Keeps (Cold st') (pair_of st.look r) (pair_of st'.look r)
    by r w (inl v) = inl (s.rows (ref r) (omega (arith, v)), h (ref r) v)
    by r w (inr v) = inr (s.keep r (omega (arith, w, v)))

  -- Positions

  told_goes : (st st' : State) (around count : Id → ℕ) (s : Spot) (P Q : V → Type 0) → 0 < occurs (ref s.ref) s.made → Step st st' around (λ q. occurs q s.made + count q) → ((v : V) → P v → Q v) → Told naming st around s P → Told naming st' around s Q
  told_goes st st' around count s P Q own step f t = record {
    there = all_stay st.look st'.look around s.made (same_eases st.look st'.look (λ q. occurs q s.made) (λ q w. step.rows q (omega (arith, w)))) t.there;
    grows = λ a b h e. ap (λ g. g a) row_last ∙ t.grows a b (λ y g. h y (given_more naming st st' step.more y g)) (ap (λ g. g b) (sym row_last) ∙ e);
    reads = λ e. row_last ∙ (t.reads (fresh e) ∙ ap (λ ps. any_of (sources_of ps)) (pairs e));
    holds = λ e. f (first_value (spot_pairs st' s.ref)) (subst (λ ps. P (first_value ps)) (pairs e) (t.holds (fresh e)));
  } where
    same_row : st'.look (ref s.ref) ≡ st.look (ref s.ref)
    same_row = step.rows (ref s.ref) (omega (arith, own))

    row_last : last_of (st'.look (ref s.ref)) ≡ last_of (st.look (ref s.ref))
    row_last = ap last_of same_row

    fresh : is_stale st' s.ref ≡ false → is_stale st s.ref ≡ false
    fresh e = t.grows st.touched st'.touched step.still (ap (λ g. g st'.touched) (sym row_last) ∙ e)

    pairs : is_stale st' s.ref ≡ false → spot_pairs st s.ref ≡ spot_pairs st' s.ref
    pairs e =
        let c = with_made s.made around in
        let into = step_into st st' around count s.made t.there step in
        let k = list_keeps (Cold st') (pair_of st.look) (pair_of st'.look) c into.keep (spot_ids (st.look (ref s.ref))) (ids_in c (st.look (ref s.ref)) (t.there (ref s.ref) own)) in
        let cold : Untouched (Cold st') (sources_of (spot_pairs st s.ref)) =
        none_touched st' (sources_of (spot_pairs st s.ref)) (ap (λ g. g st'.touched) (sym (t.reads (fresh e)) ∙ sym row_last) ∙ e) in
        keeps_list (Cold st') k cold ∙ ap (λ o. map (pair_of st'.look) (spot_ids o)) (sym same_row)

  pub fits_goes : (look look' : Id → Option Thing) (xs : List Entry) (is : ItemCodes) → ((q : Id) → 0 < times_items q (items_of is) → look' q ≡ look q) → Fits look xs is → Fits look' xs is
  fits_goes look look' [] no_item_codes f h = tt
  fits_goes look look' (x ∷ xs) (item_code z k cs is) f h = (
    h.0,
    h.1,
    ap held_value (f (ref z.value) (let i = hit_self (ref z.value) in omega (arith, i))) ∙ h.2,
    ap held_value (f (ref z.index) (let i = hit_self (ref z.index) in omega (arith, i))) ∙ h.3,
    fits_goes look look' xs is (λ q w. f q (omega (arith, w))) h.4,
  )
  fits_goes look look' _ _ f h = absurd h

  values_go : (vs : Values Path) (P Q : Values Path → Type 0) → ((us : Values Path) → P us → Q us) → WhereValues vs P ⊥ → WhereValues vs Q ⊥
  values_go no_values P Q f h = absurd h
  values_go (value v vs) P Q f h = f (value v vs) h

  -- Parts

  module _ (run : Runs) (st st' : State) where
    pub made_goes : (around : Id → ℕ) (made : List Id) (count : Id → ℕ) → Step st st' around (λ q. occurs q made + count q) → AllThere st.look around made → AllThere st'.look around made
    made_goes around made count s h = all_stay st.look st'.look around made (same_eases st.look st'.look (λ q. occurs q made) (λ q w. s.rows q (omega (arith, w)))) h

    mutual
      pub code_goes : (around : Id → ℕ) (p : Path) (c : Code) → Step st st' around (λ q. times q (live_of c)) → Owns naming run c → Settled naming st around p c → Settled naming st' around p c
      code_goes around p (still_code n) s o h = tt
      code_goes around p (put_code n x) s o h = tt
      code_goes around p (element_code n made xs zs cs) s o h = codes_go around p 0 cs (step_less st st' around (λ q. times_in q (lives_of cs)) _ (λ q w. omega (arith, w)) s) o.2 h
      code_goes around p (branch_code z x true k cs) s o h = (
        told_goes st st' around (λ q. times_in q (lives_of cs) + times_comment q k) x _ _ o.0 s (λ v e. e) h.0,
        codes_go around (main ∷ p) 0 cs (step_less st st' around (λ q. times_in q (lives_of cs)) _ (λ q w. omega (arith, w)) s) o.2 h.1,
      )
      code_goes around p (branch_code z x false k cs) s o h = (
        told_goes st st' around (λ q. times_in q (lives_of cs) + times_comment q k) x _ _ o.0 s (λ v e. e) h.0,
        codes_go around (otherwise ∷ p) 0 cs (step_less st st' around (λ q. times_in q (lives_of cs)) _ (λ q w. omega (arith, w)) s) o.2 h.1,
      )
      code_goes around p (listed_code z x is) s o h = (
        told_goes st st' around (λ q. times_items q (items_of is)) x (λ v. WhereValues (values_listed v) (λ vs. Fits st.look (entries z.key 0 [] vs) is) ⊥) (λ v. WhereValues (values_listed v) (λ vs. Fits st'.look (entries z.key 0 [] vs) is) ⊥) o.0 s
            (λ v. values_go (values_listed v) (λ vs. Fits st.look (entries z.key 0 [] vs) is) (λ vs. Fits st'.look (entries z.key 0 [] vs) is)
            (λ vs. fits_goes st.look st'.look (entries z.key 0 [] vs) is (λ q w. s.rows q (omega (arith, w))))) h.0,
        items_go around (items ∷ p) is (step_less st st' around (λ q. times_items q (items_of is)) _ (λ q w. omega (arith, w)) s) o.2 h.1,
      )
      code_goes around p (unlisted_code z x k cs) s o h = (
        told_goes st st' around (λ q. times_in q (lives_of cs) + times_comment q k) x _ _ o.0 s (λ v e. e) h.0,
        codes_go around (otherwise ∷ p) 0 cs (step_less st st' around (λ q. times_in q (lives_of cs)) _ (λ q w. omega (arith, w)) s) o.2 h.1,
      )
      code_goes around p (let_code made rs cs) s o h = (made_goes around made (λ q. times_in q (lives_of cs)) s h.0, codes_go (with_made made around) (main ∷ p) 0 cs (step_into st st' around (λ q. times_in q (lives_of cs)) made h.0 s) o h.1)
      code_goes around p (component_code i made gm args k cs) s o h = (made_goes around made (λ q. times_in q (lives_of cs)) s h.0, codes_go (with_made made around) i.path 0 cs (step_into st st' around (λ q. times_in q (lives_of cs)) made h.0 s) o h.1)
      code_goes around p (yield_code n made rs cs) s o h = (made_goes around made (λ q. times_in q (lives_of cs)) s h.0, codes_go (with_made made around) (slot n ∷ p) 0 cs (step_into st st' around (λ q. times_in q (lives_of cs)) made h.0 s) o h.1)

      pub items_go : (around : Id → ℕ) (p : Path) (is : ItemCodes) → Step st st' around (λ q. times_items q (items_of is)) → OwnsItems naming run is → SettledItems naming st around p is → SettledItems naming st' around p is
      items_go around p no_item_codes s o h = tt
      items_go around p (item_code z k cs is) s o h =
          let q = item z.key z.occurrence ∷ p in
          let own = step_less st st' around (λ i. occurs i (item_made z) + times_in i (lives_of cs)) _ (λ i w. omega (arith, w)) s in (
            (
              made_goes around (item_made z) (λ i. times_in i (lives_of cs)) own h.0.0,
              (h.0.1.0, own.rows (ref z.value) (let i = hit_self (ref z.value) in omega (arith, i)) ∙ h.0.1.1),
              (h.0.2.0, own.rows (ref z.index) (let i = hit_self (ref z.index) in omega (arith, i)) ∙ h.0.2.1),
              codes_go (with_made (item_made z) around) q 0 cs (step_into st st' around (λ i. times_in i (lives_of cs)) (item_made z) h.0.0 own) o.0 h.0.3,
            ),
            items_go around p is (step_less st st' around (λ i. times_items i (items_of is)) _ (λ i w. omega (arith, w)) s) o.1 h.1,
          )

      pub codes_go : (around : Id → ℕ) (p : Path) (i : ℕ) (cs : Codes) → Step st st' around (λ q. times_in q (lives_of cs)) → OwnsIn naming run cs → SettledIn naming st around p i cs → SettledIn naming st' around p i cs
      codes_go around p i no_codes s o h = tt
      codes_go around p i (code_and c cs) s o h = (
        code_goes around (at i ∷ p) c (step_less st st' around (λ q. times q (live_of c)) _ (λ q w. omega (arith, w)) s) o.0 h.0,
        codes_go around p (suc i) cs (step_less st st' around (λ q. times_in q (lives_of cs)) _ (λ q w. omega (arith, w)) s) o.1 h.1,
      )

  -- what stands beside a part that was updated
  pub beside_same : (st st' : State) (around a b : Id → ℕ) → Room st around (λ q. a q + b q) → Leaves naming st st' a → (q : Id) → 0 < around q + b q → st'.look q ≡ st.look q
  beside_same st st' around a b r l q w = l.rows q (by (cases_lt q.num (st.next q.kind))) (let i = r.once q in omega (arith, i, w)) where
    by : ((q.num < st.next q.kind) ⊎ (st.next q.kind ≤ q.num)) → q.num < st.next q.kind
    by (inl lt) = lt
    by (inr le) = let i = r.old q le in absurd (omega (arith, i, w))

  pub room_beside : (st st' : State) (around a b : Id → ℕ) → Room st around (λ q. a q + b q) → Leaves naming st st' a → Room st' around b
  room_beside st st' around a b r l = record {
    once = λ q. let i = r.once q in omega (arith, i);
    old = λ q le. let m = l.more q in let i = r.old q (omega (arith, m, le)) in omega (arith, i);
    closed = λ n w. thing_same around a_ref (st.look (ref n)) (st'.look (ref n)) (beside_same st st' around a b r l (ref n) (omega (arith, w))) (r.closed n w);
  }

  pub step_beside : (st st' : State) (around a b : Id → ℕ) → Room st around (λ q. a q + b q) → Leaves naming st st' a → Step st st' around b
  step_beside st st' around a b r l = record {
    more = l.more;
    still = l.still;
    keep = pairs_keep (Cold st') st.look st'.look around (λ n w. inl (beside_same st st' around a b r l (ref n) (omega (arith, w)), r.closed n w));
    rows = λ q w. beside_same st st' around a b r l q (omega (arith, w));
  }

  -- Giving

  or_true : (a b : Bool) → a ≡ true → (a || b) ≡ true
  or_true true b e = refl
  or_true false b e = absurd (true≢false (sym e))

  -- a reference around holds another value of its source
  module _ (st : State) (around count : Id → ℕ) (r : ℕ) (x : Source) (v : V) (holds : HoldsSource st.look r x) (room : Room st around count) (in_around : 0 < around (ref r)) where
    abbrev after : State
    after = touch r x v st

    other : (q : Id) → count q ≡ count q → (0 < count q) ⊎ ((q ≡ ref r) → ⊥) → after.look q ≡ st.look q
    other q _ c = by c (id_case q (ref r)) where
      by : (0 < count q) ⊎ ((q ≡ ref r) → ⊥) → IdCase q (ref r) → after.look q ≡ st.look q
      by c (inr e) = ap (λ b. if b then Some (row (record { form = source_form x v; last = any_of [] })) else st.look q) e
      by (inl w) (inl e) = let i = room.once q in let k : around q ≡ around (ref r) = ap around e.1 in absurd (omega (arith, i, k, w, in_around))
      by (inr ne) (inl e) = absurd (ne e.1)

    means : pair_of st.look r ≡ record { value = holds.0; sources = x ∷ [] }
    means = pair_law st.look r ∙ ap (thing_pair (below r (pair_of st.look))) holds.1

    touch_step : Step st after around count
    touch_step = record {
      more = λ q. omega arith;
      still = λ y g e. by (source_eq y x) (st.touched y) e;
      keep = pairs_keep (Cold after) st.look after.look around (λ n w. case n w (id_case (ref n) (ref r)));
      rows = λ q w. other q refl (inl w);
    } where
      by : (a b : Bool) → (a || b) ≡ false → b ≡ false
      by false b e = e
      by true b e = absurd (true≢false e)

      case : (n : ℕ) → 0 < around (ref n) → IdCase (ref n) (ref r) → ((after.look (ref n) ≡ st.look (ref n)) × IsThing around a_ref (st.look (ref n))) ⊎ Keeps (Cold after) (pair_of st.look n) (pair_of after.look n)
      case n w (inr e) = inl (ap (λ b. if b then Some (row (record { form = source_form x v; last = any_of [] })) else st.look (ref n)) e, room.closed n w)
      case n w (inl e) = inr (λ u.
          let here : n ≡ r = ap (λ q. q.num) e.1 in
          let c : Untouched (Cold after) (x ∷ []) = subst (λ (z : Pair). Untouched (Cold after) z.sources) (ap (pair_of st.look) here ∙ means) u in
          absurd (true≢false (sym (or_true (source_eq x x) (st.touched x) (source_itself x)) ∙ c.0)))

    touch_room : Room after around count
    touch_room = record { once = room.once; old = room.old; closed = λ n w. case n w (id_case (ref n) (ref r)) } where
      case : (n : ℕ) → 0 < around (ref n) → IdCase (ref n) (ref r) → IsThing around a_ref (after.look (ref n))
      case n w (inr e) = thing_same around a_ref (st.look (ref n)) (after.look (ref n)) (ap (λ b. if b then Some (row (record { form = source_form x v; last = any_of [] })) else st.look (ref n)) e) (room.closed n w)
      case n w (inl e) = thing_same around a_ref (Some (row (record { form = source_form x v; last = any_of [] }))) (after.look (ref n)) (ap (λ b. if b then Some (row (record { form = source_form x v; last = any_of [] })) else st.look (ref n)) e.0) tt

    pub give_step : Step st (give r x v st) around count × Room (give r x v st) around count
    give_step = by (same path_eq (held_value (st.look (ref r))) v) where
      by : (b : Bool) → Step st (if b then st else after) around count × Room (if b then st else after) around count
      by true = (no_step st around count, room)
      by false = (touch_step, touch_room)

    -- another reference holds its source still
    pub give_holds : (i : ℕ) (y : Source) → HoldsSource st.look i y → (i ≡ r → x ≡ y) → HoldsSource (give r x v st).look i y
    give_holds i y h e = by (same path_eq (held_value (st.look (ref r))) v) where
      case : IdCase (ref i) (ref r) → HoldsSource after.look i y
      case (inr f) = (h.0, ap (λ b. if b then Some (row (record { form = source_form x v; last = any_of [] })) else st.look (ref i)) f ∙ h.1)
      case (inl f) =
          (v, ap (λ b. if b then Some (row (record { form = source_form x v; last = any_of [] })) else st.look (ref i)) f.0 ∙ ap (λ z. Some (row (record { form = source_form z v; last = any_of [] }))) (e (ap (λ q. q.num) f.1)))

      by : (b : Bool) → HoldsSource (if b then st else after).look i y
      by true = h
      by false = case (id_case (ref i) (ref r))
