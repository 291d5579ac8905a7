-- What a turn logs of modifiers, and that the blocks of a page rise.
use Rattle.std.proofs.Common.{◌≡◌, ◌<◌, ◌≤◌, ℕ, suc, List, [], ◌∷◌, ◌++◌, map, Bool, true, false, Option, Some, None, cond, refl, sym, ◌∙◌, ap, ap₂, subst, arith, inl, inr, ◌⊎◌}
use Rattle.std.specs.Prelude.{filter_map, filter, nat_le}
use Rattle.std.specs.List.{cons_option}
use Rattle.std.proofs.lemmas.List.{append_cancel_left, map-append}
use Rattle.std.proofs.lemmas.Bool.Decides.{leb_tells}
use Rattle.gl_meaning.specs.App.{App}
use Rattle.gl_meaning.specs.Eval.{Store, class_at}
use Rattle.gl_plain.specs.Ids.{a_modifier, Id, ref, modifier_id, occurs}
use Rattle.gl_plain.specs.State.{mscope, mnothing, State}
use Rattle.gl_plain.specs.Live
use Rattle.gl_plain.specs.Live.{Live, Lives, Items, AttrSpot, ModSpot, times, times_in, times_items, times_mods}
use Rattle.gl_plain.specs.Renew.{renew_root, renew_app}
use Rattle.gl_plain.specs.Stands.{Owned}
use Rattle.gl_plain.specs.Machine.{StandsFor}
use Rattle.gl_plain.specs.Counts.{attr_positions, mod_positions, positions_of, positions_items, positions_in, is_due}
use Rattle.gl_plain.proofs.Moves.{hit_self, is_old}
use Rattle.gl_plain.proofs.Stay.{left_above, right_above}
use Rattle.gl_plain.proofs.Roots.{updated_stands}
use Rattle.gl_plain.proofs.CountStands.{updated_evaluates_due}
use Rattle.gl_plain.proofs.CountOnce.{each_stands_once}
use Rattle.gl_machine.specs.Marks.{Mark, attr_marks, mod_marks, marked, marked_items, marked_in, modifiers_among, new_from, UpdatedInstalls, UpdatedUpdates, BlocksRise}
use Rattle.gl_machine.proofs.MarkGrows.{app_grown}
use Rattle.gl_machine.proofs.MarkRenews.{old, new, must, AllOld, Sub, RenewedOf, nothing_renewed, body_renewed}

-- The modifiers of a tree are its own.
module _ (n0 : ℕ) where
  old_join : (xs ys : List Mark) → AllOld n0 xs → AllOld n0 ys → AllOld n0 (xs ++ ys)
  old_join [] ys h g = g
  old_join (x ∷ xs) ys h g = (h.0, old_join xs ys h.1 g)

  abbrev ModsOld : (Id → ℕ) → Type 0
  ModsOld count = (m : ℕ) → 0 < count (modifier_id m) → nat_le n0 m ≡ false

  attrs_old : (xs : List AttrSpot) → AllOld n0 (attr_marks xs)
  attrs_old [] = tt
  attrs_old (a ∷ xs) = (refl, attrs_old xs)

  mods_old : (zs : List ModSpot) → ModsOld (λ q. times_mods q zs) → AllOld n0 (mod_marks zs)
  mods_old [] f = tt
  mods_old (z ∷ zs) f = (f z.id (left_above _ _ (left_above _ _ (hit_self (modifier_id z.id)))), mods_old zs (λ m w. f m (right_above _ _ w)))

  mutual
    marks_old : (l : Live) → ModsOld (λ q. times q l) → AllOld n0 (marked l)
    marks_old (Live.still n) f = tt
    marks_old (Live.put_live n z) f = (refl, tt)
    marks_old (Live.element_live n made xs zs ls) f =
        old_join (attr_marks xs) (marked_in ls ++ mod_marks zs) (attrs_old xs)
        (old_join (marked_in ls) (mod_marks zs) (marks_in_old ls (λ m w. f m (right_above _ _ (left_above _ _ w)))) (mods_old zs (λ m w. f m (right_above _ _ (right_above _ _ w)))))
    marks_old (Live.branch_live z u k ls) f = (refl, marks_in_old ls (λ m w. f m (right_above _ _ (left_above _ _ w))))
    marks_old (Live.listed z is) f = (refl, marks_items_old is (λ m w. f m (right_above _ _ w)))
    marks_old (Live.unlisted z k ls) f = (refl, marks_in_old ls (λ m w. f m (right_above _ _ (left_above _ _ w))))
    marks_old (Live.let_live made rs ls) f = marks_in_old ls (λ m w. f m (right_above _ _ w))
    marks_old (Live.component_live i made gm args b ls) f = marks_in_old ls (λ m w. f m (right_above _ _ w))
    marks_old (Live.yield_live k made rs ls) f = marks_in_old ls (λ m w. f m (right_above _ _ w))
    marks_old (Live.deep_live p) f = tt

    marks_items_old : (is : Items) → ModsOld (λ q. times_items q is) → AllOld n0 (marked_items is)
    marks_items_old Live.no_items f = tt
    marks_items_old (Live.item_live z k ls is) f =
        old_join (marked_in ls) (marked_items is) (marks_in_old ls (λ m w. f m (left_above _ _ (right_above _ _ (left_above _ _ w))))) (marks_items_old is (λ m w. f m (right_above _ _ w)))

    marks_in_old : (ls : Lives) → ModsOld (λ q. times_in q ls) → AllOld n0 (marked_in ls)
    marks_in_old Live.no_lives f = tt
    marks_in_old (Live.live_and l ls) f = old_join (marked l) (marked_in ls) (marks_old l (λ m w. f m (left_above _ _ w))) (marks_in_old ls (λ m w. f m (right_above _ _ w)))

page_old : (st : State) (l : Live) → Owned st (λ q. times q l) → AllOld (st.next a_modifier) (marked l)
page_old st l o = marks_old (st.next a_modifier) l (λ m w. below m (is_old st (λ q. times q l) o (modifier_id m) w)) where
  below : (m : ℕ) → m < st.next a_modifier → nat_le (st.next a_modifier) m ≡ false
  below m lt = by (leb_tells (st.next a_modifier) m) where
    by : ((nat_le (st.next a_modifier) m ≡ true) × (st.next a_modifier ≤ m)) ⊎ ((nat_le (st.next a_modifier) m ≡ false) × (m < st.next a_modifier)) → nat_le (st.next a_modifier) m ≡ false
    by (inl h) = let i = h.1 in absurd (omega (arith, i, lt))
    by (inr h) = h.0

root_renewed : (n0 : ℕ) (app : App) (τ : Store) (m : ℕ) (l : Live) (st : State) → n0 ≤ st.next a_modifier → AllOld n0 (marked l) → RenewedOf n0 st l (renew_root m app τ l st)
root_renewed n0 app τ (suc m) (Live.component_live i made gm args None ls) st le o =
    let g = body_renewed n0 app τ m (mscope i args [] mnothing) [] 0 (class_at app []).template ls st le o in record { turns = g.turns; rises = g.rises }
root_renewed n0 app τ (suc m) (Live.component_live i made gm args (Some k) ls) st le o =
    let g = body_renewed n0 app τ m (mscope i args [] mnothing) [] 0 (class_at app []).template ls st le o in
    record { turns = g.turns; rises = λ b lt w. (w.0, let i = w.1 in let j = g.turns.blocks in omega (arith, i, j), g.rises (suc k) (let i = w.1 in omega (arith, i)) w.2) }
root_renewed n0 app τ _ l st le o = nothing_renewed n0 app τ st l o

page_renewed : (app : App) (σ τ : Store) (st : State) (l : Live) → StandsFor app σ τ st l → RenewedOf (st.next a_modifier) st l (renew_app app τ l st)
page_renewed app σ τ st l h = root_renewed (st.next a_modifier) app τ app.limit l st (omega arith) (page_old st l h.owned)

-- Lists of marks

module _ (n0 : ℕ) where
  none_new : (o : Option ℕ) → must n0 o ≡ false → new_from n0 o ≡ None
  none_new None e = refl
  none_new (Some m) e = ap (λ b. cond b (Some m) None) e

  sub_new : (zs rs : List Mark) → Sub n0 zs rs → filter_map (new n0) rs ≡ filter_map (new n0) zs
  sub_new [] [] h = refl
  sub_new [] (r ∷ rs) h = absurd h
  sub_new (z ∷ zs) [] h = sub_new zs [] h.1 ∙ sym (ap (λ o. cons_option o (filter_map (new n0) zs)) (none_new z.1 h.0))
  sub_new (z ∷ zs) (r ∷ rs) (inl h) = ap₂ (λ (y : Mark) xs. cons_option (new n0 y) xs) (sym h.0) (sub_new zs rs h.1)
  sub_new (z ∷ zs) (r ∷ rs) (inr h) = sub_new zs (r ∷ rs) h.1 ∙ sym (ap (λ o. cons_option o (filter_map (new n0) zs)) (none_new z.1 h.0))

  new_passes : (zs : List Mark) → filter_map (new n0) zs ≡ filter (λ m. nat_le n0 m) (modifiers_among zs)
  new_passes [] = refl
  new_passes ((r, None) ∷ zs) = new_passes zs
  new_passes ((r, Some m) ∷ zs) = by (nat_le n0 m) (new_passes zs) where
    by : (b : Bool) → filter_map (new n0) zs ≡ filter (λ m. nat_le n0 m) (modifiers_among zs)
        → cons_option (cond b (Some m) None) (filter_map (new n0) zs) ≡ cond b (m ∷ filter (λ m. nat_le n0 m) (modifiers_among zs)) (filter (λ m. nat_le n0 m) (modifiers_among zs))
    by true h = ap (λ xs. m ∷ xs) h
    by false h = h

pub updated_installs : UpdatedInstalls
updated_installs app σ τ st l h =
    let g = (page_renewed app σ τ st l h).turns in
    let n0 = st.next a_modifier in
    let r = renew_app app τ l st in
    g.installs ∙ ap (λ xs. st.installs ++ xs) (sub_new n0 (marked r.0) g.reads g.sub ∙ new_passes n0 (marked r.0))

-- The positions of the marks

abbrev refs : List Mark → List ℕ
refs zs = map (λ z. z.0) zs

attr_refs : (xs : List AttrSpot) → refs (attr_marks xs) ≡ attr_positions xs
attr_refs [] = refl
attr_refs (a ∷ xs) = ap (λ rs. a.spot.ref ∷ rs) (attr_refs xs)

mod_refs : (zs : List ModSpot) → refs (mod_marks zs) ≡ mod_positions zs
mod_refs [] = refl
mod_refs (z ∷ zs) = ap (λ rs. z.spot.ref ∷ rs) (mod_refs zs)

mutual
  refs_are : (l : Live) → refs (marked l) ≡ positions_of l
  refs_are (Live.still n) = refl
  refs_are (Live.put_live n z) = refl
  refs_are (Live.element_live n made xs zs ls) =
      map-append (λ z. z.0) (attr_marks xs) (marked_in ls ++ mod_marks zs)
      ∙ ap₂ (λ a b. a ++ b) (attr_refs xs) (map-append (λ z. z.0) (marked_in ls) (mod_marks zs) ∙ ap₂ (λ a b. a ++ b) (refs_in ls) (mod_refs zs))
  refs_are (Live.branch_live z u k ls) = ap (λ rs. z.ref ∷ rs) (refs_in ls)
  refs_are (Live.listed z is) = ap (λ rs. z.ref ∷ rs) (refs_items is)
  refs_are (Live.unlisted z k ls) = ap (λ rs. z.ref ∷ rs) (refs_in ls)
  refs_are (Live.let_live made rs ls) = refs_in ls
  refs_are (Live.component_live i made gm args b ls) = refs_in ls
  refs_are (Live.yield_live k made rs ls) = refs_in ls
  refs_are (Live.deep_live p) = refl

  refs_items : (is : Items) → refs (marked_items is) ≡ positions_items is
  refs_items Live.no_items = refl
  refs_items (Live.item_live z k ls is) = map-append (λ z. z.0) (marked_in ls) (marked_items is) ∙ ap₂ (λ a b. a ++ b) (refs_in ls) (refs_items is)

  refs_in : (ls : Lives) → refs (marked_in ls) ≡ positions_in ls
  refs_in Live.no_lives = refl
  refs_in (Live.live_and l ls) = map-append (λ z. z.0) (marked l) (marked_in ls) ∙ ap₂ (λ a b. a ++ b) (refs_are l) (refs_in ls)

-- Of a list in which each position stands once, two lists of some marks with the same positions are the same.

abbrev Times : ℕ → List ℕ → ℕ
Times r rs = occurs (ref r) (map ref rs)

sub_there : (n0 : ℕ) (zs rs : List Mark) (r : Mark) → Sub n0 zs (r ∷ rs) → 0 < Times r.0 (refs zs)
sub_there n0 [] rs r h = absurd h
sub_there n0 (z ∷ zs) rs r (inl h) = subst (λ (y : Mark). 0 < Times y.0 (z.0 ∷ refs zs)) h.0 (left_above _ _ (hit_self (ref z.0)))
sub_there n0 (z ∷ zs) rs r (inr h) = right_above _ _ (sub_there n0 zs rs r h.1)

passed_there : (due : ℕ → Bool) (zs : List Mark) (r : ℕ) (rs : List ℕ) → filter due (refs zs) ≡ r ∷ rs → 0 < Times r (refs zs)
passed_there due [] r rs e = absurd cc
passed_there due (z ∷ zs) r rs e = by (due z.0) e (passed_there due zs r rs) where
  by : (b : Bool) → cond b (z.0 ∷ filter due (refs zs)) (filter due (refs zs)) ≡ r ∷ rs → (filter due (refs zs) ≡ r ∷ rs → 0 < Times r (refs zs)) → 0 < Times r (z.0 ∷ refs zs)
  by true e f = subst (λ k. 0 < Times k (z.0 ∷ refs zs)) (head_same z.0 r (filter due (refs zs)) rs e) (left_above _ _ (hit_self (ref z.0))) where
    head_same : (a b : ℕ) (xs ys : List ℕ) → a ∷ xs ≡ b ∷ ys → a ≡ b
    head_same a b xs ys e = cc
  by false e f = right_above _ _ (f e)

same_heads : (a b : ℕ) (xs ys : List ℕ) → a ∷ xs ≡ b ∷ ys → (a ≡ b) × (xs ≡ ys)
same_heads a b xs ys e = (cc, cc)

same_marks : (n0 : ℕ) (due : ℕ → Bool) (zs rs : List Mark) → ((r : ℕ) → Times r (refs zs) ≤ 1) → Sub n0 zs rs → refs rs ≡ filter due (refs zs) → rs ≡ filter (λ z. due z.0) zs
same_marks n0 due [] [] once h e = refl
same_marks n0 due [] (r ∷ rs) once h e = absurd h
same_marks n0 due (z ∷ zs) [] once h e = by (due z.0) e (same_marks n0 due zs [] (λ r. let i = once r in omega (arith, i)) h.1) where
  by : (b : Bool) → [] ≡ cond b (z.0 ∷ filter due (refs zs)) (filter due (refs zs)) → ([] ≡ filter due (refs zs) → [] ≡ filter (λ z. due z.0) zs) → [] ≡ cond b (z ∷ filter (λ z. due z.0) zs) (filter (λ z. due z.0) zs)
  by true e f = absurd (not_empty z.0 (filter due (refs zs)) e) where
    not_empty : (a : ℕ) (xs : List ℕ) → [] ≡ a ∷ xs → ⊥
    not_empty a xs e = cc
  by false e f = f e
same_marks n0 due (z ∷ zs) (r ∷ rs) once (inl h) e =
    by (due z.0) e (same_marks n0 due zs rs (λ k. let i = once k in omega (arith, i)) h.1)
  where
    by : (b : Bool) → r.0 ∷ refs rs ≡ cond b (z.0 ∷ filter due (refs zs)) (filter due (refs zs)) → (refs rs ≡ filter due (refs zs) → rs ≡ filter (λ z. due z.0) zs) → r ∷ rs ≡ cond b (z ∷ filter (λ z. due z.0) zs) (filter (λ z. due z.0) zs)
    by true e f = ap₂ (λ (y : Mark) ys. y ∷ ys) (sym h.0) (f (same_heads r.0 z.0 (refs rs) (filter due (refs zs)) e).1)
    by false e f =
        let i = passed_there due zs r.0 (refs rs) (sym e) in
        let j = subst (λ (y : Mark). 0 < Times y.0 (refs zs)) (sym h.0) i in
        let k = hit_self (ref z.0) in
        let o = once z.0 in absurd (omega (arith, j, k, o))
same_marks n0 due (z ∷ zs) (r ∷ rs) once (inr h) e =
    by (due z.0) e (same_marks n0 due zs (r ∷ rs) (λ k. let i = once k in omega (arith, i)) h.1)
  where
    by : (b : Bool) → r.0 ∷ refs rs ≡ cond b (z.0 ∷ filter due (refs zs)) (filter due (refs zs)) → (r.0 ∷ refs rs ≡ filter due (refs zs) → r ∷ rs ≡ filter (λ z. due z.0) zs) → r ∷ rs ≡ cond b (z ∷ filter (λ z. due z.0) zs) (filter (λ z. due z.0) zs)
    by true e f =
        let s = (same_heads r.0 z.0 (refs rs) (filter due (refs zs)) e).0 in
        let i = subst (λ k. 0 < Times k (refs zs)) s (sub_there n0 zs rs r h.1) in
        let k = hit_self (ref z.0) in
        let o = once z.0 in absurd (omega (arith, i, k, o))
    by false e f = f e

pub updated_updates : UpdatedUpdates
updated_updates app σ τ st l h cells none =
    let g = (page_renewed app σ τ st l h).turns in
    let n0 = st.next a_modifier in
    let r = renew_app app τ l st in
    let due : ℕ → Bool = is_due st r.1.touched in
    let once = (each_stands_once app τ τ r.1 r.0 (updated_stands app σ τ st l h cells)).1 in
    let e : refs g.reads ≡ filter due (positions_of r.0) = append_cancel_left st.evaluated (refs g.reads) (filter due (positions_of r.0)) (sym g.evaluated ∙ updated_evaluates_due app σ τ st l h none) in
    let a : refs (marked r.0) ≡ positions_of r.0 = refs_are r.0 in
    g.updates ∙ ap (λ xs. st.updates ++ filter_map (old n0) xs)
    (same_marks n0 due (marked r.0) g.reads (λ k. subst (λ xs. Times k xs ≤ 1) (sym a) (once k)) g.sub (e ∙ ap (filter due) (sym a)))

pub blocks_rise : BlocksRise
blocks_rise = (λ app τ st. (app_grown app τ st).rises, λ app σ τ b st l h le w. (page_renewed app σ τ st l h).rises b le w)
