-- A plan carried out on the list of old items gives the new list.
use Rattle.std.proofs.Common.{◌≡◌, ◌≢◌, ℕ, zero, suc, ◌+◌, ◌<◌, ◌≤◌, List, [], ◌∷◌, ◌++◌, length, map, Bool, true, false, Some, None, true≢false, add-one, refl, sym, ap, ap₂, subst, ◌∙◌, append_assoc, inl, inr, arith, eq-eqb, eqb-true, ltb-true, lt-ltb}
use Rattle.std.specs.Prelude.{◌||◌, ◌⊎◌, filter, not, nat_eq, nat_lt, slice_get, if◌then◌else◌}
use Rattle.std.specs.List.{list_any, range_with_len}
use Rattle.std.proofs.lemmas.List.{append-nil}
use Rattle.std.proofs.lemmas.List.Elements.{filter-append}
use Rattle.gl_meaning.specs.Known.{Among}
use Rattle.gl_meaning.specs.Laws.{NoRepeat}
use Rattle.gl_each.specs.Sync.{Step, retain, move, insert, kept, is_passed, has_place, AreSteps, unkept, IsSync}
use Rattle.gl_each.specs.Carried.{Item, old_item, new_item, is_old, old_items, without, up_to, behind, carried, carried_out, wanted, item_key}

-- an item that a later step keeps
abbrev pending : List ℕ → Item → Bool
pending places (old_item i) = has_place places i
pending places (new_item n) = false

-- Booleans

or_cases : (a b : Bool) → (a || b) ≡ true → (a ≡ true) ⊎ (b ≡ true)
or_cases true b e = inl refl
or_cases false b e = inr e

or_left : (a b : Bool) → a ≡ true → (a || b) ≡ true
or_left true b e = refl
or_left false b e = absurd (true≢false (sym e))

or_right : (a b : Bool) → b ≡ true → (a || b) ≡ true
or_right true b e = refl
or_right false b e = e

is_false : (b : Bool) → (b ≡ true → ⊥) → b ≡ false
is_false true h = absurd (h refl)
is_false false h = refl

both : (b : Bool) → b ≡ true → b ≡ false → ⊥
both b t f = true≢false (sym t ∙ f)

eq_flip : (i j : ℕ) → nat_eq i j ≡ nat_eq j i
eq_flip i j = chosen (nat_eq i j) refl where
  chosen : (b : Bool) → nat_eq i j ≡ b → nat_eq i j ≡ nat_eq j i
  chosen true e = e ∙ sym (eq-eqb j i (sym (eqb-true i j e)))
  chosen false e = e ∙ sym (is_false _ (λ t. both (nat_eq i j) (eq-eqb i j (sym (eqb-true j i t))) e))

-- Places

has_cases : (j i : ℕ) (ks : List ℕ) → has_place (i ∷ ks) j ≡ true → (j ≡ i) ⊎ (has_place ks j ≡ true)
has_cases j i ks h = elim (or_cases (nat_eq j i) (has_place ks j) h) [ inl e ↦ inl (eqb-true j i e) | inr e ↦ inr e ]

has_more : (j i : ℕ) (ks : List ℕ) → has_place ks j ≡ true → has_place (i ∷ ks) j ≡ true
has_more j i ks h = or_right (nat_eq j i) _ h

has_head : (i : ℕ) (ks : List ℕ) → has_place (i ∷ ks) i ≡ true
has_head i ks = or_left (nat_eq i i) _ (eq-eqb i i refl)

passed_more : (ds es : List ℕ) (j : ℕ) → is_passed ds j ≡ true → is_passed (ds ++ es) j ≡ true
passed_more (d ∷ ds) es j h = elim (or_cases (nat_lt j d) (is_passed ds j) h) [ inl e ↦ or_left _ _ e | inr e ↦ or_right (nat_lt j d) _ (passed_more ds es j e) ]
passed_more [] es j h = absurd (true≢false (sym h))

passed_last : (ds : List ℕ) (i j : ℕ) → j < i → is_passed (ds ++ i ∷ []) j ≡ true
passed_last [] i j h = or_left _ _ (lt-ltb j i h)
passed_last (d ∷ ds) i j h = or_right (nat_lt j d) _ (passed_last ds i j h)

passed_cases : (ds : List ℕ) (i j : ℕ) → is_passed (ds ++ i ∷ []) j ≡ true → (is_passed ds j ≡ true) ⊎ (j < i)
passed_cases [] i j h = elim (or_cases (nat_lt j i) false h) [ inl e ↦ inr (ltb-true j i e) | inr e ↦ inl e ]
passed_cases (d ∷ ds) i j h = elim (or_cases (nat_lt j d) (is_passed (ds ++ i ∷ []) j) h) [ inl e ↦ inl (or_left _ _ e) | inr e ↦ later (passed_cases ds i j e) ] where
  later : (is_passed ds j ≡ true) ⊎ (j < i) → (is_passed (d ∷ ds) j ≡ true) ⊎ (j < i)
  later (inl p) = inl (or_right (nat_lt j d) _ p)
  later (inr p) = inr p

passed_below : (ds : List ℕ) (i j : ℕ) → j < i → is_passed ds i ≡ true → is_passed ds j ≡ true
passed_below [] i j h p = absurd (true≢false (sym p))
passed_below (d ∷ ds) i j h p = elim (or_cases (nat_lt i d) (is_passed ds i) p) [ inl e ↦ or_left _ _ (first e) | inr e ↦ or_right (nat_lt j d) _ (passed_below ds i j h e) ] where
  first : nat_lt i d ≡ true → nat_lt j d ≡ true
  first e = let k : i < d = ltb-true i d e in lt-ltb j d (omega arith)

-- Rising places

abbrev Rises : ℕ → List ℕ → Type 0
Rises low [] = Unit {0}
Rises low (j ∷ js) = (low ≤ j) × Rises (suc j) js

rises_low : (low lower : ℕ) (js : List ℕ) → lower ≤ low → Rises low js → Rises lower js
rises_low low lower [] h r = tt
rises_low low lower (j ∷ js) h r = let a = r.0 in (omega arith, r.1)

rises_above : (low : ℕ) (js : List ℕ) (j : ℕ) → Rises low js → has_place js j ≡ true → low ≤ j
rises_above low [] j r h = absurd (true≢false (sym h))
rises_above low (k ∷ js) j r h = elim (has_cases j k js h) [ inl e ↦ (let a = r.0 in omega arith) | inr e ↦ (let a = r.0 in let b = rises_above (suc k) js j r.1 e in omega arith) ]

behind_has : (i : ℕ) (js : List ℕ) (j : ℕ) → has_place (behind i js) j ≡ true → has_place js j ≡ true
behind_has i [] j h = h
behind_has i (k ∷ js) j h = chosen (nat_eq i k) (behind_has i js j) h where
  chosen : (b : Bool) → (has_place (behind i js) j ≡ true → has_place js j ≡ true) → has_place (if b then js else behind i js) j ≡ true → has_place (k ∷ js) j ≡ true
  chosen true rest g = has_more j k js g
  chosen false rest g = has_more j k js (rest g)

behind_above : (low i : ℕ) (js : List ℕ) (j : ℕ) → Rises low js → has_place (behind i js) j ≡ true → i < j
behind_above low i [] j r h = absurd (true≢false (sym h))
behind_above low i (k ∷ js) j r h = chosen (nat_eq i k) refl (behind_above (suc k) i js j r.1) h where
  chosen : (b : Bool) → nat_eq i k ≡ b → (has_place (behind i js) j ≡ true → i < j) → has_place (if b then js else behind i js) j ≡ true → i < j
  chosen true e rest g = let a = eqb-true i k e in let b = rises_above (suc k) js j r.1 g in omega arith
  chosen false e rest g = rest g

behind_rises : (low i : ℕ) (js : List ℕ) → Rises low js → Rises 0 (behind i js)
behind_rises low i [] r = tt
behind_rises low i (k ∷ js) r = chosen (nat_eq i k) (behind_rises (suc k) i js r.1) where
  chosen : (b : Bool) → Rises 0 (behind i js) → Rises 0 (if b then js else behind i js)
  chosen true rest = rises_low (suc k) 0 js (omega arith) r.1
  chosen false rest = rest

up_to_has : (low i : ℕ) (js : List ℕ) (j : ℕ) → Rises low js → has_place js i ≡ true → has_place (up_to i js) j ≡ true → (j ≤ i) × (has_place js j ≡ true)
up_to_has low i [] j r there h = absurd (true≢false (sym h))
up_to_has low i (k ∷ js) j r there h = chosen (nat_eq i k) refl (up_to_has (suc k) i js j r.1) h where
  chosen : (b : Bool) → nat_eq i k ≡ b → (has_place js i ≡ true → has_place (up_to i js) j ≡ true → (j ≤ i) × (has_place js j ≡ true)) → has_place (if b then k ∷ [] else k ∷ up_to i js) j ≡ true → (j ≤ i) × (has_place (k ∷ js) j ≡ true)
  chosen true e rest g = elim (has_cases j k [] g) [ inl f ↦ (let a = eqb-true i k e in omega arith, or_left _ _ (eq-eqb j k f)) | inr f ↦ absurd (true≢false (sym f)) ]
  chosen false e rest g = elim (has_cases i k js there) [ inl f ↦ absurd (both (nat_eq i k) (eq-eqb i k f) e) | inr f ↦ within f g ] where
    within : has_place js i ≡ true → has_place (k ∷ up_to i js) j ≡ true → (j ≤ i) × (has_place (k ∷ js) j ≡ true)
    within f u =
        let above = rises_above (suc k) js i r.1 f in
        elim (has_cases j k (up_to i js) u) [ inl q ↦ (omega arith, or_left _ _ (eq-eqb j k q)) | inr q ↦ (let more = rest f q in (more.0, has_more j k js more.1)) ]

behind_of : (low i : ℕ) (js : List ℕ) (j : ℕ) → Rises low js → has_place js i ≡ true → i < j → has_place js j ≡ true → has_place (behind i js) j ≡ true
behind_of low i [] j r there above h = absurd (true≢false (sym h))
behind_of low i (k ∷ js) j r there above h = chosen (nat_eq i k) refl (λ f q. behind_of (suc k) i js j r.1 f above q) where
  chosen : (b : Bool) → nat_eq i k ≡ b → (has_place js i ≡ true → has_place js j ≡ true → has_place (behind i js) j ≡ true) → has_place (if b then js else behind i js) j ≡ true
  chosen true e rest = elim (has_cases j k js h) [ inl f ↦ (let a = eqb-true i k e in absurd (omega arith)) | inr f ↦ f ]
  chosen false e rest = elim (has_cases i k js there) [ inl f ↦ absurd (both (nat_eq i k) (eq-eqb i k f) e) | inr f ↦ within f ] where
    within : has_place js i ≡ true → has_place (behind i js) j ≡ true
    within f =
        let low_i = rises_above (suc k) js i r.1 f in
        elim (has_cases j k js h) [ inl q ↦ absurd (omega arith) | inr q ↦ rest f q ]

-- What holds of the steps alone: the places of those that are moved are passed, and no place is kept twice

abbrev Fits : List ℕ → List Step → Type 0
Fits ds [] = Unit {0}
Fits ds (retain i ∷ ss) = (is_passed ds i ≡ false) × (has_place (kept ss) i ≡ false) × Fits (ds ++ i ∷ []) ss
Fits ds (move i ∷ ss) = (is_passed ds i ≡ true) × (has_place (kept ss) i ≡ false) × Fits (ds ++ i ∷ []) ss
Fits ds (insert ∷ ss) = Fits ds ss

module _ {K : Type 0} (old : List K) where
  -- the key of a place that is kept
  kept_among : (ds : List ℕ) (ks : List K) (ss : List Step) (i : ℕ) → AreSteps old ds ks ss → has_place (kept ss) i ≡ true → (k : K) × (slice_get old i ≡ Some k) × Among k ks
  kept_among ds [] [] i h m = absurd (true≢false (sym m))
  kept_among ds [] (s ∷ ss) i h m = absurd h
  kept_among ds (k ∷ ks) [] i h m = absurd h
  kept_among ds (k ∷ ks) (retain j ∷ ss) i h m = elim (has_cases i j (kept ss) m) [
    | inl e ↦ (k, ap (slice_get old) e ∙ h.0.0, inl refl)
    | inr e ↦ (let r = kept_among (ds ++ j ∷ []) ks ss i h.1 e in (r.0, r.1, inr r.2))
  ]
  kept_among ds (k ∷ ks) (move j ∷ ss) i h m = elim (has_cases i j (kept ss) m) [
    | inl e ↦ (k, ap (slice_get old) e ∙ h.0.0, inl refl)
    | inr e ↦ (let r = kept_among (ds ++ j ∷ []) ks ss i h.1 e in (r.0, r.1, inr r.2))
  ]
  kept_among ds (k ∷ ks) (insert ∷ ss) i h m = let r = kept_among (ds ++ []) ks ss i h.1 m in (r.0, r.1, inr r.2)

  once : (ds : List ℕ) (k : K) (ks : List K) (ss : List Step) (i : ℕ) → slice_get old i ≡ Some k → (Among k ks → ⊥) → AreSteps old ds ks ss → has_place (kept ss) i ≡ false
  once ds k ks ss i at apart h =
      is_false _ (λ m.
      let r = kept_among ds ks ss i h m in
      let e : Some r.0 ≡ Some k = sym r.1 ∙ at in
      let same : r.0 ≡ k = cc in
      apart (subst (λ z. Among z ks) same r.2))

  steps_fit : (ds : List ℕ) (ks : List K) (ss : List Step) → NoRepeat ks → AreSteps old ds ks ss → Fits ds ss
  steps_fit ds [] [] n h = tt
  steps_fit ds [] (s ∷ ss) n h = absurd h
  steps_fit ds (k ∷ ks) [] n h = absurd h
  steps_fit ds (k ∷ ks) (retain i ∷ ss) n h = (h.0.1, once (ds ++ i ∷ []) k ks ss i h.0.0 n.0 h.1, steps_fit (ds ++ i ∷ []) ks ss n.1 h.1)
  steps_fit ds (k ∷ ks) (move i ∷ ss) n h = (h.0.1, once (ds ++ i ∷ []) k ks ss i h.0.0 n.0 h.1, steps_fit (ds ++ i ∷ []) ks ss n.1 h.1)
  steps_fit ds (k ∷ ks) (insert ∷ ss) n h = steps_fit ds ks ss n.1 (subst (λ es. AreSteps old es ks ss) (append-nil ds) h.1)

-- Items in front of the mark

abbrev has_old : ℕ → List Item → Bool
has_old i xs = list_any (is_old i) xs

has_old-append : (i : ℕ) (xs ys : List Item) → has_old i (xs ++ ys) ≡ true → (has_old i xs ≡ true) ⊎ (has_old i ys ≡ true)
has_old-append i [] ys h = inr h
has_old-append i (x ∷ xs) ys h = elim (or_cases (is_old i x) (list_any (is_old i) (xs ++ ys)) h) [ inl e ↦ inl (or_left _ _ e) | inr e ↦ later (has_old-append i xs ys e) ] where
  later : (has_old i xs ≡ true) ⊎ (has_old i ys ≡ true) → (has_old i (x ∷ xs) ≡ true) ⊎ (has_old i ys ≡ true)
  later (inl p) = inl (or_right (is_old i x) _ p)
  later (inr p) = inr p

has_old-places : (i : ℕ) (js : List ℕ) → has_old i (old_items js) ≡ has_place js i
has_old-places i [] = refl
has_old-places i (j ∷ js) = ap₂ (λ a b. a || b) (eq_flip j i) (has_old-places i js)

has_old-without : (i j : ℕ) (xs : List Item) → has_old j (without i xs) ≡ true → has_old j xs ≡ true
has_old-without i j [] h = h
has_old-without i j (x ∷ xs) h = chosen (is_old i x) (has_old-without i j xs) h where
  chosen : (b : Bool) → (has_old j (without i xs) ≡ true → has_old j xs ≡ true) → list_any (is_old j) (if not b then x ∷ without i xs else without i xs) ≡ true → has_old j (x ∷ xs) ≡ true
  chosen true rest g = or_right (is_old j x) _ (rest g)
  chosen false rest g = elim (or_cases (is_old j x) (list_any (is_old j) (without i xs)) g) [ inl e ↦ or_left _ _ e | inr e ↦ or_right (is_old j x) _ (rest e) ]

-- the items that are in their places
abbrev settled : List ℕ → List Item → List Item
settled ks xs = filter (λ x. not (pending ks x)) xs

settled-append : (ks : List ℕ) (xs ys : List Item) → settled ks (xs ++ ys) ≡ settled ks xs ++ settled ks ys
settled-append ks xs ys = filter-append (λ x. not (pending ks x)) xs ys

pending_more : (i : ℕ) (ks : List ℕ) (x : Item) → is_old i x ≡ false → pending (i ∷ ks) x ≡ pending ks x
pending_more i ks (old_item j) e = ap (λ b. b || has_place ks j) e
pending_more i ks (new_item n) e = refl

-- an item that doesn't stand in front may be forgotten
settled_less : (i : ℕ) (ks : List ℕ) (xs : List Item) → has_old i xs ≡ false → settled ks xs ≡ settled (i ∷ ks) xs
settled_less i ks [] h = refl
settled_less i ks (x ∷ xs) h =
    let a : is_old i x ≡ false = is_false _ (λ t. both (is_old i x || list_any (is_old i) xs) (or_left _ _ t) h) in
    let b : list_any (is_old i) xs ≡ false = is_false _ (λ t. both (is_old i x || list_any (is_old i) xs) (or_right (is_old i x) _ t) h) in
    ap₂ (λ c l. if not c then x ∷ l else l) (sym (pending_more i ks x a)) (settled_less i ks xs b)

-- an item that is taken out was pending
settled_without : (i : ℕ) (ks : List ℕ) (xs : List Item) → settled ks (without i xs) ≡ settled (i ∷ ks) xs
settled_without i ks [] = refl
settled_without i ks (x ∷ xs) = by (settled_without i ks xs) x (is_old i x) refl where
  by : settled ks (without i xs) ≡ settled (i ∷ ks) xs → (y : Item) (b : Bool) → is_old i y ≡ b → settled ks (without i (y ∷ xs)) ≡ settled (i ∷ ks) (y ∷ xs)
  by rest y true e =
      ap (λ c. settled ks (if not c then y ∷ without i xs else without i xs)) e ∙ rest
      ∙ ap (λ c. if not c then y ∷ settled (i ∷ ks) xs else settled (i ∷ ks) xs) (sym (pending_old y e))
    where
      pending_old : (z : Item) → is_old i z ≡ true → pending (i ∷ ks) z ≡ true
      pending_old (old_item j) t = or_left _ _ t
      pending_old (new_item n) t = absurd (true≢false (sym t))
  by rest y false e =
      ap (λ c. settled ks (if not c then y ∷ without i xs else without i xs)) e
      ∙ ap₂ (λ c l. if not c then y ∷ l else l) (sym (pending_more i ks y e)) (rest)

-- of the places up to i, only the last one is in its place
settled_up_to : (i : ℕ) (ks : List ℕ) (js : List ℕ) → has_place ks i ≡ false → has_place js i ≡ true → ((j : ℕ) → has_place js j ≡ true → has_place (i ∷ ks) j ≡ true)
    → settled ks (old_items (up_to i js)) ≡ old_item i ∷ []
settled_up_to i ks [] out there all = absurd (true≢false (sym there))
settled_up_to i ks (k ∷ js) out there all = chosen (nat_eq i k) refl (λ f g. settled_up_to i ks js out f g) where
  chosen : (b : Bool) → nat_eq i k ≡ b → (has_place js i ≡ true → ((j : ℕ) → has_place js j ≡ true → has_place (i ∷ ks) j ≡ true) → settled ks (old_items (up_to i js)) ≡ old_item i ∷ []) → settled ks (old_items (if b then k ∷ [] else k ∷ up_to i js)) ≡ old_item i ∷ []
  chosen true e rest =
      let same : i ≡ k = eqb-true i k e in
      ap (λ z. settled ks (old_item z ∷ [])) (sym same) ∙ ap (λ c. if not c then old_item i ∷ [] else []) out
  chosen false e rest = elim (has_cases i k js there) [ inl f ↦ absurd (both (nat_eq i k) (eq-eqb i k f) e) | inr f ↦ within f ] where
    within : has_place js i ≡ true → settled ks (old_items (k ∷ up_to i js)) ≡ old_item i ∷ []
    within f =
        let kept_k : has_place ks k ≡ true = elim (has_cases k i ks (all k (has_head k js))) [ inl q ↦ absurd (both (nat_eq i k) (eq-eqb i k (sym q)) e) | inr q ↦ q ] in
        ap (λ c. if not c then old_item k ∷ settled ks (old_items (up_to i js)) else settled ks (old_items (up_to i js))) kept_k
        ∙ rest f (λ j h. all j (has_more j k js h))

-- While the steps are carried out

record State (ds back : List ℕ) (ss : List Step) (front done : List Item) : Type 0 where
  fits : Fits ds ss
  settles : settled (kept ss) front ≡ done
  later : (j : ℕ) → has_place back j ≡ true → has_place (kept ss) j ≡ true
  there : (j : ℕ) → has_place (kept ss) j ≡ true → is_passed ds j ≡ false → has_place back j ≡ true
  gone : (j : ℕ) → has_place (kept ss) j ≡ true → has_old j front ≡ true → is_passed ds j ≡ true
  rises : Rises 0 back
  ahead : (j : ℕ) → has_place back j ≡ true → is_passed ds j ≡ false

not_passed : (ds : List ℕ) (i j : ℕ) → is_passed (ds ++ i ∷ []) j ≡ false → is_passed ds j ≡ false
not_passed ds i j h = is_false _ (λ t. both _ (passed_more ds (i ∷ []) j t) h)

after_retain : (ds back : List ℕ) (i : ℕ) (ss : List Step) (front done : List Item) → State ds back (retain i ∷ ss) front done
    → State (ds ++ i ∷ []) (behind i back) ss (front ++ old_items (up_to i back)) (done ++ old_item i ∷ [])
after_retain ds back i ss front done s =
    let ks : List ℕ = kept ss in
    let in_back : has_place back i ≡ true = s.there i (has_head i ks) s.fits.0 in
    let away : has_old i front ≡ false = is_false _ (λ t. both _ (s.gone i (has_head i ks) t) s.fits.0) in
    record {
      fits = s.fits.2;
      settles =
          settled-append ks front (old_items (up_to i back))
          ∙ ap₂ (λ l m. l ++ m) (settled_less i ks front away ∙ s.settles) (settled_up_to i ks back s.fits.1 in_back s.later);
      later = λ j h.
          let above = behind_above 0 i back j s.rises h in
          elim (has_cases j i ks (s.later j (behind_has i back j h))) [ inl e ↦ absurd (omega arith) | inr e ↦ e ];
      there = λ j h p. behind_of 0 i back j s.rises in_back (beyond j h p) (s.there j (has_more j i ks h) (not_passed ds i j p));
      gone = λ j h m. elim (has_old-append j front (old_items (up_to i back)) m) [
        | inl e ↦ passed_more ds (i ∷ []) j (s.gone j (has_more j i ks h) e)
        | inr e ↦ passed_last ds i j (short j h (sym (has_old-places j (up_to i back)) ∙ e))
      ];
      rises = behind_rises 0 i back s.rises;
      ahead = λ j h. is_false _ (λ t. elim (passed_cases ds i j t) [
        | inl e ↦ both _ e (s.ahead j (behind_has i back j h))
        | inr e ↦ (let above = behind_above 0 i back j s.rises h in omega arith)
      ]);
    }
  where
    differs : (j : ℕ) → has_place (kept ss) j ≡ true → j ≢ i
    differs j h e = both _ (subst (λ z. has_place (kept ss) z ≡ true) e h) s.fits.1

    beyond : (j : ℕ) → has_place (kept ss) j ≡ true → is_passed (ds ++ i ∷ []) j ≡ false → i < j
    beyond j h p =
        let a : j < i → ⊥ = λ u. both _ (passed_last ds i j u) p in
        let b : j ≢ i = differs j h in
        omega arith

    short : (j : ℕ) → has_place (kept ss) j ≡ true → has_place (up_to i back) j ≡ true → j < i
    short j h m =
        let a = up_to_has 0 i back j s.rises (s.there i (has_head i (kept ss)) s.fits.0) m in
        let le : j ≤ i = a.0 in
        let b : j ≢ i = differs j h in
        omega arith

after_move : (ds back : List ℕ) (i : ℕ) (ss : List Step) (front done : List Item) → State ds back (move i ∷ ss) front done
    → State (ds ++ i ∷ []) back ss (without i front ++ old_item i ∷ []) (done ++ old_item i ∷ [])
after_move ds back i ss front done s =
    let ks : List ℕ = kept ss in
    record {
      fits = s.fits.2;
      settles =
          settled-append ks (without i front) (old_item i ∷ [])
          ∙ ap₂ (λ l m. l ++ m) (settled_without i ks front ∙ s.settles) (ap (λ c. if not c then old_item i ∷ [] else []) s.fits.1);
      later = λ j h. elim (has_cases j i ks (s.later j h)) [
        | inl e ↦ absurd (both _ (subst (λ z. is_passed ds z ≡ true) (sym e) s.fits.0) (s.ahead j h))
        | inr e ↦ e
      ];
      there = λ j h p. s.there j (has_more j i ks h) (not_passed ds i j p);
      gone = λ j h m. elim (has_old-append j (without i front) (old_item i ∷ []) m) [
        | inl e ↦ passed_more ds (i ∷ []) j (s.gone j (has_more j i ks h) (has_old-without i j front e))
        | inr e ↦ elim (or_cases (nat_eq i j) false e) [ inl q ↦ absurd (both _ (subst (λ z. has_place ks z ≡ true) (sym (eqb-true i j q)) h) s.fits.1) | inr q ↦ absurd (true≢false (sym q)) ]
      ];
      rises = s.rises;
      ahead = λ j h. is_false _ (λ t. elim (passed_cases ds i j t) [
        | inl e ↦ both _ e (s.ahead j h)
        | inr e ↦ both _ (passed_below ds i j e s.fits.0) (s.ahead j h)
      ]);
    }

after_insert : (ds back : List ℕ) (n : ℕ) (ss : List Step) (front done : List Item) → State ds back (insert ∷ ss) front done
    → State ds back ss (front ++ new_item n ∷ []) (done ++ new_item n ∷ [])
after_insert ds back n ss front done s = record {
  fits = s.fits;
  settles = settled-append (kept ss) front (new_item n ∷ []) ∙ ap (λ l. l ++ new_item n ∷ []) s.settles;
  later = s.later;
  there = s.there;
  gone = λ j h m. elim (has_old-append j front (new_item n ∷ []) m) [ inl e ↦ s.gone j h e | inr e ↦ absurd (true≢false (sym e)) ];
  rises = s.rises;
  ahead = s.ahead;
}

settled_none : (xs : List Item) → settled [] xs ≡ xs
settled_none [] = refl
settled_none (old_item i ∷ xs) = ap (λ l. old_item i ∷ l) (settled_none xs)
settled_none (new_item n ∷ xs) = ap (λ l. new_item n ∷ l) (settled_none xs)

carried_from : (n : ℕ) (ds back : List ℕ) (ss : List Step) (front done : List Item) → State ds back ss front done → carried n ss front back ≡ done ++ wanted n ss
carried_from n ds [] [] front done s = ap (λ l. l ++ []) (sym (settled_none front) ∙ s.settles)
carried_from n ds (j ∷ back) [] front done s = absurd (true≢false (sym (s.later j (has_head j back))))
carried_from n ds back (retain i ∷ ss) front done s =
    carried_from (suc n) (ds ++ i ∷ []) (behind i back) ss _ (done ++ old_item i ∷ []) (after_retain ds back i ss front done s) ∙ append_assoc done (old_item i ∷ []) (wanted (suc n) ss)
carried_from n ds back (move i ∷ ss) front done s =
    carried_from (suc n) (ds ++ i ∷ []) back ss _ (done ++ old_item i ∷ []) (after_move ds back i ss front done s) ∙ append_assoc done (old_item i ∷ []) (wanted (suc n) ss)
carried_from n ds back (insert ∷ ss) front done s =
    carried_from (suc n) ds back ss _ (done ++ new_item n ∷ []) (after_insert ds back n ss front done s) ∙ append_assoc done (new_item n ∷ []) (wanted (suc n) ss)

-- The start

has_filter : (p : ℕ → Bool) (xs : List ℕ) (j : ℕ) → has_place (filter p xs) j ≡ true → (p j ≡ true) × (has_place xs j ≡ true)
has_filter p [] j h = absurd (true≢false (sym h))
has_filter p (x ∷ xs) j h = chosen (p x) refl (has_filter p xs j) h where
  chosen : (b : Bool) → p x ≡ b → (has_place (filter p xs) j ≡ true → (p j ≡ true) × (has_place xs j ≡ true)) → has_place (if b then x ∷ filter p xs else filter p xs) j ≡ true → (p j ≡ true) × (has_place (x ∷ xs) j ≡ true)
  chosen true e rest g = elim (has_cases j x (filter p xs) g) [ inl q ↦ (ap p q ∙ e, or_left _ _ (eq-eqb j x q)) | inr q ↦ (let r = rest q in (r.0, has_more j x xs r.1)) ]
  chosen false e rest g = let r = rest g in (r.0, has_more j x xs r.1)

filter_has : (p : ℕ → Bool) (xs : List ℕ) (j : ℕ) → p j ≡ true → has_place xs j ≡ true → has_place (filter p xs) j ≡ true
filter_has p [] j t h = h
filter_has p (x ∷ xs) j t h = chosen (p x) refl (filter_has p xs j t) where
  chosen : (b : Bool) → p x ≡ b → (has_place xs j ≡ true → has_place (filter p xs) j ≡ true) → has_place (if b then x ∷ filter p xs else filter p xs) j ≡ true
  chosen true e rest = elim (has_cases j x xs h) [ inl q ↦ or_left _ _ (eq-eqb j x q) | inr q ↦ has_more j x _ (rest q) ]
  chosen false e rest = elim (has_cases j x xs h) [ inl q ↦ absurd (both _ (sym (ap p q) ∙ t) e) | inr q ↦ rest q ]

has_range : (a n j : ℕ) → a ≤ j → j < a + n → has_place (range_with_len a n) j ≡ true
has_range a zero j low high = absurd (omega arith)
has_range a (suc n) j low high = chosen (nat_eq j a) refl (has_range (a + 1) n j) where
  chosen : (b : Bool) → nat_eq j a ≡ b → (a + 1 ≤ j → j < (a + 1) + n → has_place (range_with_len (a + 1) n) j ≡ true) → has_place (range_with_len a (suc n)) j ≡ true
  chosen true e rest = or_left _ _ e
  chosen false e rest =
      let apart : j ≢ a = λ q. both _ (eq-eqb j a q) e in
      or_right (nat_eq j a) _ (rest (omega arith) (omega arith))

range_has : (a n j : ℕ) → has_place (range_with_len a n) j ≡ true → j < a + n
range_has a zero j h = absurd (true≢false (sym h))
range_has a (suc n) j h = elim (has_cases j a (range_with_len (a + 1) n) h) [ inl q ↦ omega arith | inr q ↦ (let r = range_has (a + 1) n j q in omega arith) ]

filter_rises : (p : ℕ → Bool) (a n : ℕ) → Rises a (filter p (range_with_len a n))
filter_rises p a zero = tt
filter_rises p a (suc n) = chosen (p a) (subst (λ m. Rises m (filter p (range_with_len (a + 1) n))) (add-one a) (filter_rises p (a + 1) n)) where
  chosen : (b : Bool) → Rises (suc a) (filter p (range_with_len (a + 1) n)) → Rises a (if b then a ∷ filter p (range_with_len (a + 1) n) else filter p (range_with_len (a + 1) n))
  chosen true next = (omega arith, next)
  chosen false next = rises_low (suc a) a _ (omega arith) next

not_not : (b : Bool) → not b ≡ true → b ≡ false
not_not true e = absurd (true≢false (sym e))
not_not false e = refl

within_old : {K : Type 0} (old : List K) (i : ℕ) (k : K) → slice_get old i ≡ Some k → i < length old
within_old [] i k e = let f : None ≡ Some k = e in cc
within_old (x ∷ old) zero k e = omega arith
within_old (x ∷ old) (suc i) k e = let r = within_old old i k e in omega arith

pub carried_is_wanted : {K : Type 0} (old new : List K) (steps : List Step) (removed : List ℕ) → NoRepeat new → IsSync old new steps removed
    → carried_out (length old) steps removed ≡ wanted 0 steps
carried_is_wanted old new steps removed n h =
    let back : List ℕ = filter (λ i. not (has_place removed i)) (range_with_len 0 (length old)) in
    carried_from 0 [] back steps [] [] (record {
      fits = steps_fit old [] new steps n h.steps_are;
      settles = refl;
      later = λ j m.
          let r = has_filter (λ i. not (has_place removed i)) (range_with_len 0 (length old)) j m in
          stays j r.1 (not_not _ r.0);
      there = λ j m p.
          let k = kept_among old [] new steps j h.steps_are m in
          let low = within_old old j k.0 k.1 in
          filter_has (λ i. not (has_place removed i)) (range_with_len 0 (length old)) j
          (ap not (is_false _ (λ t. both _ m (out j t)))) (has_range 0 (length old) j (omega arith) (omega arith));
      gone = λ j m f. absurd (true≢false (sym f));
      rises = filter_rises (λ i. not (has_place removed i)) 0 (length old);
      ahead = λ j m. refl;
    })
  where
    out : (j : ℕ) → has_place removed j ≡ true → has_place (kept steps) j ≡ false
    out j t =
        let m : has_place (unkept (length old) steps) j ≡ true = subst (λ l. has_place l j ≡ true) h.removed_are t in
        not_not _ (has_filter (λ i. not (has_place (kept steps) i)) (range_with_len 0 (length old)) j m).0

    stays : (j : ℕ) → has_place (range_with_len 0 (length old)) j ≡ true → has_place removed j ≡ false → has_place (kept steps) j ≡ true
    stays j m f = chosen (has_place (kept steps) j) refl where
      chosen : (b : Bool) → has_place (kept steps) j ≡ b → has_place (kept steps) j ≡ true
      chosen true e = e
      chosen false e =
          let t : has_place (unkept (length old) steps) j ≡ true = filter_has (λ i. not (has_place (kept steps) i)) (range_with_len 0 (length old)) j (ap not e) m in
          absurd (both _ (subst (λ l. has_place l j ≡ true) (sym h.removed_are) t) f)

-- The keys of the items

module _ {K : Type 0} (old all : List K) where
  next : (n : ℕ) {k : K} (ks : List K) → ((m : ℕ) (l : K) → slice_get (k ∷ ks) m ≡ Some l → slice_get all (n + m) ≡ Some l) → (m : ℕ) (l : K) → slice_get ks m ≡ Some l → slice_get all (suc n + m) ≡ Some l
  next n ks at m l e = let z : suc n + m ≡ n + suc m = omega arith in ap (slice_get all) z ∙ at (suc m) l e

  here : (n : ℕ) (k : K) (ks : List K) → ((m : ℕ) (l : K) → slice_get (k ∷ ks) m ≡ Some l → slice_get all (n + m) ≡ Some l) → slice_get all n ≡ Some k
  here n k ks at = let z : n ≡ n + 0 = omega arith in ap (slice_get all) z ∙ at 0 k refl

  wanted_keys : (n : ℕ) (ds : List ℕ) (ks : List K) (ss : List Step) → AreSteps old ds ks ss → ((m : ℕ) (k : K) → slice_get ks m ≡ Some k → slice_get all (n + m) ≡ Some k)
      → map (item_key old all) (wanted n ss) ≡ map Some ks
  wanted_keys n ds [] [] h at = refl
  wanted_keys n ds [] (s ∷ ss) h at = absurd h
  wanted_keys n ds (k ∷ ks) [] h at = absurd h
  wanted_keys n ds (k ∷ ks) (retain i ∷ ss) h at = ap₂ (λ x l. x ∷ l) h.0.0 (wanted_keys (suc n) (ds ++ i ∷ []) ks ss h.1 (next n ks at))
  wanted_keys n ds (k ∷ ks) (move i ∷ ss) h at = ap₂ (λ x l. x ∷ l) h.0.0 (wanted_keys (suc n) (ds ++ i ∷ []) ks ss h.1 (next n ks at))
  wanted_keys n ds (k ∷ ks) (insert ∷ ss) h at = ap₂ (λ x l. x ∷ l) (here n k ks at) (wanted_keys (suc n) (ds ++ []) ks ss h.1 (next n ks at))

pub wanted_is_new : {K : Type 0} (old new : List K) (steps : List Step) (removed : List ℕ) → IsSync old new steps removed
    → map (item_key old new) (wanted 0 steps) ≡ map Some new
wanted_is_new old new steps removed h = wanted_keys old new 0 [] new steps h.steps_are (λ m k e. let z : 0 + m ≡ m = omega arith in ap (slice_get new) z ∙ e)
