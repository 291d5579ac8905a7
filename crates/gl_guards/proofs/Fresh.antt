-- Where no position of a part is stale, its update leaves the part and the state.
use Rattle.std.proofs.Common.{◌≡◌, ℕ, zero, suc, ◌+◌, List, [], ◌∷◌, ◌++◌, Bool, true, false, ◌||◌, true≢false, cond, Option, Some, refl, sym, ◌∙◌, ap, ap₂, subst}
use Rattle.std.specs.Prelude.{if◌then◌else◌}
use Rattle.std.proofs.lemmas.List.Folds.{list_any-append}
use Rattle.std.proofs.lemmas.Bool.Decides.{Decides-eqb}
use Rattle.gl_value.specs.Value.{Values, no_values, value, count_value, text_of, same}
use Rattle.gl_meaning.specs.Path.{at, main, otherwise, items, item, slot, Path, V, path_eq, no_owners}
use Rattle.gl_meaning.specs.Scope.{Source}
use Rattle.gl_meaning.specs.Eval.{takes_first, values_in}
use Rattle.gl_meaning.specs.Parts.{attribute_value}
use Rattle.gl_meaning.specs.Render.{Entry, entries, values_listed}
use Rattle.gl_meaning.proofs.Equal.{same_itself, no_owners-Decides, both_true}
use Rattle.gl_plain.specs.Ids.{Id, ref, node, modifier_id}
use Rattle.gl_plain.specs.State.{State, put_thing, touch, note_updated, held_value, content, text_content, modifier_row}
use Rattle.gl_plain.specs.Naming.{Naming, dropped_as}
use Rattle.gl_plain.specs.Binding.{first_value}
use Rattle.gl_plain.specs.Live.{AttrSpot, ModSpot, item_made, times_in, times_items, times_comment}
use Rattle.gl_plain.specs.Counts.{attr_positions, mod_positions, positions_of, positions_in, positions_items}
use Rattle.gl_plain.specs.Renew.{spot_pairs, is_stale, evaluate, reread, renew_attrs, renew_mods, changed_attr, refreshed, give}
use Rattle.gl_plain.specs.Stands.{WhereValues}
use Rattle.gl_plain.proofs.Syncs.{path-Decides}
use Rattle.gl_kept.specs.Around.{with_made}
use Rattle.gl_machine.specs.Code.{Code, still_code, put_code, element_code, branch_code, listed_code, unlisted_code, let_code, component_code, yield_code, ItemCodes, no_item_codes, item_code, items_of, Codes, no_codes, code_and, live_of, lives_of}
use Rattle.gl_machine.specs.Outcome.{Outcome, ok, on_ok}
use Rattle.gl_machine.specs.Nesting.{Nests, NestsIn, NestsItems}
use Rattle.gl_machine.specs.RenewCode.{Runs, kept, branch_with, unlisted_with, ItemDone, item_done, CodeHandle, is_code_of, with_code_front, taken_code, with_left, item_with, sync_one_code_as, sync_codes_as, fresh_codes, by_values, fresh_branch, fresh_other, fresh_item_as, renew_code_as, renew_codes_as, code_handles_as}
use Rattle.gl_guards.specs.Guarded.{any_stale}
use Rattle.gl_guards.specs.Settled.{NotesApart, Fits, Settled, SettledItems, SettledIn}

pub or_left : (a b : Bool) → (a || b) ≡ false → a ≡ false
or_left false b e = refl
or_left true b e = absurd (true≢false e)

pub or_right : (a b : Bool) → (a || b) ≡ false → b ≡ false
or_right false b e = e
or_right true b e = absurd (true≢false e)

pub none_left : (st : State) (xs ys : List ℕ) → any_stale st (xs ++ ys) ≡ false → any_stale st xs ≡ false
none_left st xs ys e = or_left (any_stale st xs) (any_stale st ys) (sym (list_any-append (λ r. is_stale st r) xs ys) ∙ e)

pub none_right : (st : State) (xs ys : List ℕ) → any_stale st (xs ++ ys) ≡ false → any_stale st ys ≡ false
none_right st xs ys e = or_right (any_stale st xs) (any_stale st ys) (sym (list_any-append (λ r. is_stale st r) xs ys) ∙ e)

-- nothing is done to a position
attrs_idle : (n : ℕ) (xs : List AttrSpot) (st : State) → any_stale st (attr_positions xs) ≡ false → renew_attrs n xs st ≡ st
attrs_idle n [] st h = refl
attrs_idle n (a ∷ xs) st h =
    ap (λ b. renew_attrs n xs (if b then put_thing (node n) (content (changed_attr a.name (attribute_value (spot_pairs st a.spot.ref)) (st.look (node n)))) (evaluate a.spot.ref st) else st))
    (or_left (is_stale st a.spot.ref) (any_stale st (attr_positions xs)) h)
    ∙ attrs_idle n xs st (or_right (is_stale st a.spot.ref) (any_stale st (attr_positions xs)) h)

mods_idle : (zs : List ModSpot) (st : State) → any_stale st (mod_positions zs) ≡ false → renew_mods zs st ≡ st
mods_idle [] st h = refl
mods_idle (z ∷ zs) st h =
    ap (λ b. renew_mods zs (if b then note_updated z.id (put_thing (modifier_id z.id) (modifier_row (refreshed z (values_in (spot_pairs st z.spot.ref)) (st.look (modifier_id z.id)))) (evaluate z.spot.ref st)) else st))
    (or_left (is_stale st z.spot.ref) (any_stale st (mod_positions zs)) h)
    ∙ mods_idle zs st (or_right (is_stale st z.spot.ref) (any_stale st (mod_positions zs)) h)

pub reread_idle : (r : ℕ) (st : State) → is_stale st r ≡ false → reread r st ≡ st
reread_idle r st h = ap (λ b. if b then evaluate r st else st) h

pub give_idle : (r : ℕ) (x : Source) (v : V) (st : State) → held_value (st.look (ref r)) ≡ v → give r x v st ≡ st
give_idle r x v st e = ap (λ b. if b then st else touch r x v st) (ap (λ u. same path_eq u v) e ∙ same_itself Path path_eq path-Decides v)

-- the first of the old items is the one of its entry
pub first_is : (x : Entry) (h : CodeHandle) → h.spot.key ≡ x.key → h.spot.occurrence ≡ x.occurrence → is_code_of x h ≡ true
first_is x h e f = both_true _ _ (ap (same no_owners x.key) e ∙ same_itself ⊥ no_owners no_owners-Decides x.key) ((Decides-eqb x.occurrence h.spot.occurrence).1 (sym f))

-- what is chosen by values
pub list_chosen : {A : Type 0} (vs : Values Path) (P : Values Path → Type 0) (F : Values Path → A) (g y : A) → ((us : Values Path) → P us → F us ≡ y) → WhereValues vs P ⊥ → by_values vs F g ≡ y
list_chosen no_values P F g y f h = absurd h
list_chosen (value v vs) P F g y f h = f (value v vs) h

else_chosen : {A : Type 0} (vs : Values Path) (F : Values Path → A) (g y : A) → g ≡ y → WhereValues vs (λ us. ⊥) (Unit {0}) → by_values vs F g ≡ y
else_chosen no_values F g y e h = e
else_chosen (value v vs) F g y e h = absurd h

module _ (naming : Naming) (notes : NotesApart naming) (run : Runs) (st : State) where
  mutual
    pub code_stays : (m : ℕ) (p : Path) (around : Id → ℕ) (c : Code) → Settled naming st around p c → Nests (live_of c) m → any_stale st (positions_of (live_of c)) ≡ false
        → renew_code_as naming run m p c st ≡ ok (c, st)
    code_stays m p around (still_code n) s d e = refl
    code_stays m p around (put_code n x) s d e =
        ap (λ b. ok (put_code n x, if b then put_thing (node n) (content (text_content (text_of (first_value (spot_pairs st x.ref))))) (evaluate x.ref st) else st)) (or_left (is_stale st x.ref) false e)
    code_stays m p around (element_code n made xs zs cs) s d e =
        let rest = none_right st (attr_positions xs) (positions_in (lives_of cs) ++ mod_positions zs) e in
        ap (λ t. on_ok (renew_codes_as naming run m p 0 cs t) (λ r. ok (element_code n made xs zs r.0, renew_mods zs r.1))) (attrs_idle n xs st (none_left st (attr_positions xs) (positions_in (lives_of cs) ++ mod_positions zs) e))
        ∙ (ap (λ o. on_ok o (λ r. ok (element_code n made xs zs r.0, renew_mods zs r.1))) (codes_stay m p 0 around cs s d (none_left st (positions_in (lives_of cs)) (mod_positions zs) rest))
        ∙ ap (λ t. ok (element_code n made xs zs cs, t)) (mods_idle zs st (none_right st (positions_in (lives_of cs)) (mod_positions zs) rest)))
    code_stays m p around (branch_code z x true k cs) s d e =
        let fresh = or_left (is_stale st x.ref) (any_stale st (positions_in (lives_of cs))) e in
        let A : State → Outcome (Code × State) = λ t. on_ok (renew_codes_as naming run m (main ∷ p) 0 cs t) (λ r. ok (branch_with z x true (kept k r))) in
        let B : State → Outcome (Code × State) = λ t. fresh_branch run z x false p m (dropped_as naming (λ q. times_in q (lives_of cs) + times_comment q k) t) in
        ap (λ t. cond {A = Outcome (Code × State)} (takes_first z.unless (first_value (spot_pairs t x.ref))) (A t) (B t)) (reread_idle x.ref st fresh)
        ∙ (ap (λ u. cond {A = Outcome (Code × State)} u (A st) (B st)) (s.0.holds fresh)
        ∙ ap (λ o. on_ok o (λ r. ok (branch_with z x true (kept k r)))) (codes_stay m (main ∷ p) 0 around cs s.1 d (or_right (is_stale st x.ref) (any_stale st (positions_in (lives_of cs))) e)))
    code_stays m p around (branch_code z x false k cs) s d e =
        let fresh = or_left (is_stale st x.ref) (any_stale st (positions_in (lives_of cs))) e in
        let A : State → Outcome (Code × State) = λ t. fresh_branch run z x true p m (dropped_as naming (λ q. times_in q (lives_of cs) + times_comment q k) t) in
        let B : State → Outcome (Code × State) = λ t. on_ok (renew_codes_as naming run m (otherwise ∷ p) 0 cs t) (λ r. ok (branch_with z x false (kept k r))) in
        ap (λ t. cond {A = Outcome (Code × State)} (takes_first z.unless (first_value (spot_pairs t x.ref))) (A t) (B t)) (reread_idle x.ref st fresh)
        ∙ (ap (λ u. cond {A = Outcome (Code × State)} u (A st) (B st)) (s.0.holds fresh)
        ∙ ap (λ o. on_ok o (λ r. ok (branch_with z x false (kept k r)))) (codes_stay m (otherwise ∷ p) 0 around cs s.1 d (or_right (is_stale st x.ref) (any_stale st (positions_in (lives_of cs))) e)))
    code_stays m p around (listed_code z x is) s d e =
        let fresh = or_left (is_stale st x.ref) (any_stale st (positions_items (items_of is))) e in
        let one = fresh_item_as naming run z m in
        let A : Values Path → State → Outcome (Code × State) = λ vs t. on_ok (sync_codes_as naming one (items ∷ p) (entries z.key 0 [] vs) (code_handles_as naming run m is) t) (λ r. ok (listed_code z x r.0, r.1)) in
        let B : State → Outcome (Code × State) = λ t. fresh_other run z x p m (dropped_as naming (λ q. times_items q (items_of is)) t) in
        ap (λ t. by_values (values_listed (first_value (spot_pairs t x.ref))) (λ vs. A vs t) (B t)) (reread_idle x.ref st fresh)
        ∙ list_chosen (values_listed (first_value (spot_pairs st x.ref))) (λ vs. Fits st.look (entries z.key 0 [] vs) is) (λ vs. A vs st) (B st) (ok (listed_code z x is, st))
        (λ vs f. ap (λ o. on_ok o (λ r. ok (listed_code z x r.0, r.1)))
        (items_stay one m (items ∷ p) around (entries z.key 0 [] vs) is f s.1 d (or_right (is_stale st x.ref) (any_stale st (positions_items (items_of is))) e))) (s.0.holds fresh)
    code_stays m p around (unlisted_code z x k cs) s d e =
        let fresh = or_left (is_stale st x.ref) (any_stale st (positions_in (lives_of cs))) e in
        let A : Values Path → State → Outcome (Code × State) = λ vs t.
        on_ok (fresh_codes (fresh_item_as naming run z m) (items ∷ p) (entries z.key 0 [] vs) (dropped_as naming (λ q. times_in q (lives_of cs) + times_comment q k) t)) (λ r. ok (listed_code z x r.0, r.1)) in
        let B : State → Outcome (Code × State) = λ t. on_ok (renew_codes_as naming run m (otherwise ∷ p) 0 cs t) (λ r. ok (unlisted_with z x (kept k r))) in
        ap (λ t. by_values (values_listed (first_value (spot_pairs t x.ref))) (λ vs. A vs t) (B t)) (reread_idle x.ref st fresh)
        ∙ else_chosen (values_listed (first_value (spot_pairs st x.ref))) (λ vs. A vs st) (B st) (ok (unlisted_code z x k cs, st))
        (ap (λ o. on_ok o (λ r. ok (unlisted_with z x (kept k r)))) (codes_stay m (otherwise ∷ p) 0 around cs s.1 d (or_right (is_stale st x.ref) (any_stale st (positions_in (lives_of cs))) e))) (s.0.holds fresh)
    code_stays m p around (let_code made rs cs) s d e = ap (λ o. on_ok o (λ r. ok (let_code made rs r.0, r.1))) (codes_stay m (main ∷ p) 0 (with_made made around) cs s.1 d e)
    code_stays zero p around (component_code i made gm args k cs) s d e = absurd d
    code_stays (suc m) p around (component_code i made gm args k cs) s d e = ap (λ o. on_ok o (λ r. ok (component_code i made gm args k r.0, r.1))) (codes_stay m i.path 0 (with_made made around) cs s.1 d e)
    code_stays m p around (yield_code n made rs cs) s d e = ap (λ o. on_ok o (λ r. ok (yield_code n made rs r.0, r.1))) (codes_stay m (slot n ∷ p) 0 (with_made made around) cs s.1 d e)

    pub codes_stay : (m : ℕ) (p : Path) (i : ℕ) (around : Id → ℕ) (cs : Codes) → SettledIn naming st around p i cs → NestsIn (lives_of cs) m → any_stale st (positions_in (lives_of cs)) ≡ false
        → renew_codes_as naming run m p i cs st ≡ ok (cs, st)
    codes_stay m p i around no_codes s d e = refl
    codes_stay m p i around (code_and c cs) s d e =
        ap (λ o. on_ok o (λ r. on_ok (renew_codes_as naming run m p (suc i) cs r.1) (λ z. ok (code_and r.0 z.0, z.1)))) (code_stays m (at i ∷ p) around c s.0 d.0 (none_left st (positions_of (live_of c)) (positions_in (lives_of cs)) e))
        ∙ ap (λ o. on_ok o (λ z. ok (code_and c z.0, z.1))) (codes_stay m p (suc i) around cs s.1 d.1 (none_right st (positions_of (live_of c)) (positions_in (lives_of cs)) e))

    -- the items of a list, of which the entries are what they were
    pub items_stay : (one : Path → Entry → State → Outcome ItemDone) (m : ℕ) (p : Path) (around : Id → ℕ) (xs : List Entry) (is : ItemCodes) → Fits st.look xs is → SettledItems naming st around p is → NestsItems (items_of is) m
        → any_stale st (positions_items (items_of is)) ≡ false → sync_codes_as naming one p xs (code_handles_as naming run m is) st ≡ ok (is, st)
    items_stay one m p around [] no_item_codes f s d e = ap (λ t. ok (no_item_codes, t)) (notes.none st)
    items_stay one m p around (x ∷ xs) (item_code z k cs is) f s d e =
        let q = item x.key x.occurrence ∷ p in
        let hs = code_handles_as naming run m is in
        let h : CodeHandle = record { spot = z; comment = k; codes = cs; go = λ q' t. renew_codes_as naming run m q' 0 cs t } in
        let S : Option (CodeHandle × List CodeHandle) → Outcome (ItemCodes × State) = λ o.
        on_ok (sync_one_code_as naming one q x (h ∷ hs) o st) (λ g. on_ok (sync_codes_as naming one p xs g.1 g.0.arm.state) (λ r. ok (item_with g.0 r))) in
        let T : Outcome (Codes × State) → Outcome (ItemCodes × State) = λ o.
        on_ok (on_ok (on_ok o (λ r. ok (item_done z (kept k r)))) (with_left hs)) (λ g. on_ok (sync_codes_as naming one p xs g.1 g.0.arm.state) (λ r. ok (item_with g.0 r))) in
        let e1 : item z.key z.occurrence ∷ p ≡ q = ap₂ (λ a n. item a n ∷ p) f.0 f.1 in
        let given : give z.index (naming.index_source z.index q) (count_value x.index) (give z.value (naming.value_source z.value q) x.value st) ≡ st =
        ap (give z.index (naming.index_source z.index q) (count_value x.index)) (give_idle z.value (naming.value_source z.value q) x.value st f.2) ∙ give_idle z.index (naming.index_source z.index q) (count_value x.index) st f.3 in
        ap (λ b. S (if b then Some (h, hs) else with_code_front h (taken_code x hs))) (first_is x h f.0 f.1)
        ∙ (ap (λ t. T (renew_codes_as naming run m q 0 cs t)) given
        ∙ (ap T (subst (λ q'. renew_codes_as naming run m q' 0 cs st ≡ ok (cs, st)) e1
        (codes_stay m (item z.key z.occurrence ∷ p) 0 (with_made (item_made z) around) cs s.0.3 d.0 (none_left st (positions_in (lives_of cs)) (positions_items (items_of is)) e)))
        ∙ ap (λ o. on_ok o (λ r. ok (item_code z k cs r.0, r.1))) (items_stay one m p around xs is f.4 s.1 d.1 (none_right st (positions_in (lives_of cs)) (positions_items (items_of is)) e))))
    items_stay one m p around _ _ f s d e = absurd f
