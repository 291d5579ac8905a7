-- The steps of a plan, one after another, and the places that they do not keep.
use Rattle.std.proofs.Common.{◌≡◌, ◌≢◌, ℕ, zero, suc, ◌+◌, ◌<◌, ◌≤◌, max, List, [], ◌∷◌, ◌++◌, length, get_or, set, take, map, replicate, cond, Bool, true, false, Option, Some, None, add-one, refl, sym, ap, ap₂, subst, ◌∙◌, append_assoc, inl, inr, lt-ltb, eq-eqb, ne_eqb, arith}
use Rattle.std.specs.Prelude.{◌||◌, filter, not, nat_eq, nat_lt, slice_get, position, if◌then◌else◌}
use Rattle.std.specs.List.{list_any, range_with_len, prefix_len}
use Rattle.std.proofs.lemmas.Option.{slice_get-get_or}
use Rattle.std.proofs.lemmas.List.FromFn.{length-map-range_with_len, get_or-map-range_with_len}
use Rattle.std.proofs.lemmas.Bool.Decides.{nat_tests}
use Rattle.std.proofs.lemmas.List.{append-nil, map_more}
use Rattle.std.proofs.lemmas.List.Folds.{list_any-append}
use Rattle.std.proofs.lemmas.List.Elements.{filter-append}
use Rattle.std.proofs.lemmas.List.Quantifiers.{position-Some}
use Rattle.std.specs.Bool.{Decides}
use Rattle.gl_meaning.specs.Known.{Among}
use Rattle.gl_meaning.specs.Laws.{NoRepeat}
use Rattle.gl_each.specs.Sync.{Step, retain, move, kept_by, kept, is_passed, has_place, IsStep, AreSteps, unkept}
use Rattle.indexmap.specs.IndexSet.{insert_key}
use Rattle.gl_each.specs.Planned.{is_below, step_for, greater}

kept-append : (ss tt : List Step) → kept (ss ++ tt) ≡ kept ss ++ kept tt
kept-append [] tt = refl
kept-append (s ∷ ss) tt = ap (λ l. kept_by s ++ l) (kept-append ss tt) ∙ sym (append_assoc (kept_by s) (kept ss) (kept tt))

pub kept-push : (ss : List Step) (s : Step) → kept (ss ++ s ∷ []) ≡ kept ss ++ kept_by s
kept-push ss s = kept-append ss (s ∷ []) ∙ ap (λ l. kept ss ++ l) (append-nil (kept_by s))

-- one more step
pub AreSteps-push : {K : Type 0} (old : List K) (before : List ℕ) (ks : List K) (ss : List Step) (k : K) (s : Step)
    → AreSteps old before ks ss → IsStep old (before ++ kept ss) k s → AreSteps old before (ks ++ k ∷ []) (ss ++ s ∷ [])
AreSteps-push old before [] [] k s h is = (subst (λ l. IsStep old l k s) (append-nil before) is, tt)
AreSteps-push old before (l ∷ ks) (t ∷ ss) k s h is =
    (h.0, AreSteps-push old (before ++ kept_by t) ks ss k s h.1 (subst (λ m. IsStep old m k s) (sym (append_assoc before (kept_by t) (kept ss))) is))
AreSteps-push old before [] (t ∷ ss) k s h is = absurd h
AreSteps-push old before (l ∷ ks) [] k s h is = absurd h

-- Where a key stands

within : {K : Type 0} (p : K → Bool) (xs : List K) (i : ℕ) (k : K) → slice_get xs i ≡ Some k → p k ≡ true → prefix_len (λ x. not (p x)) xs < length xs
within p [] i k at is = let e : None ≡ Some k = at in cc
within p (x ∷ xs) zero k at is = let e : Some x ≡ Some k = at in let same : x ≡ k = cc in let t : p x ≡ true = ap p same ∙ is in rw t (omega arith)
within p (x ∷ xs) (suc i) k at is = chosen (p x) (within p xs i k at is) where
  chosen : (b : Bool) → prefix_len (λ y. not (p y)) xs < length xs → cond (not b) (1 + prefix_len (λ y. not (p y)) xs) 0 < suc (length xs)
  chosen true h = omega arith
  chosen false h = omega arith

module _ {K : Type 0} (eq : K → K → Bool) (decides : (x y : K) → Decides (eq x y) (x ≡ y)) where
  no_place : (old : List K) (k : K) → position (eq k) old ≡ None → (i : ℕ) → slice_get old i ≢ Some k
  no_place old k none i at =
      let h = within (eq k) old i k at ((decides k k).1 refl) in
      let t : nat_lt (prefix_len (λ x. not (eq k x)) old) (length old) ≡ true = lt-ltb _ _ h in
      let e : Some (prefix_len (λ x. not (eq k x)) old) ≡ None = sym (ap (λ b. if b then Some (prefix_len (λ x. not (eq k x)) old) else None) t) ∙ none in
      cc

  at_place : (old : List K) (k : K) (i : ℕ) → position (eq k) old ≡ Some i → slice_get old i ≡ Some k
  at_place old k i is =
      let h = position-Some (eq k) old i k is in
      slice_get-get_or old i k h.0 ∙ ap Some (sym ((decides k (get_or old i k)).0 h.1))

  -- the step that is chosen for a key is right
  pub step_fits : (old : List K) (places : List ℕ) (greatest : Option ℕ) (k : K) → ((i : ℕ) → is_passed places i ≡ is_below i greatest)
      → IsStep old places k (step_for (position (eq k) old) greatest)
  step_fits old places greatest k reached = by (position (eq k) old) refl where
    chosen : (i : ℕ) (b : Bool) → slice_get old i ≡ Some k → is_passed places i ≡ b → IsStep old places k (if b then move i else retain i)
    chosen i true at is = (at, is)
    chosen i false at is = (at, is)

    by : (o : Option ℕ) → position (eq k) old ≡ o → IsStep old places k (step_for o greatest)
    by None e = no_place old k e
    by (Some i) e = chosen i (is_below i greatest) (at_place old k i e) (reached i)

  -- a key of a list without repeats is not among those before it
  pub fresh : {A : Type 0} (f : A → K) (xs : List A) (i : ℕ) (d : A) → NoRepeat (map f xs) → i < length xs → list_any (eq (f (get_or xs i d))) (map f (take i xs)) ≡ false
  fresh f [] i d apart h = absurd (omega arith)
  fresh f (x ∷ xs) zero d apart h = refl
  fresh f (x ∷ xs) (suc i) d apart h =
      let k : i < length xs = omega arith in
      neither (eq (f (get_or xs i d)) (f x)) _
      (λ t. apart.0 (subst (λ z. Among z (map f xs)) ((decides (f (get_or xs i d)) (f x)).0 t) (among xs i k)))
      (fresh f xs i d apart.1 k)
    where
      among : (ys : List _) (j : ℕ) → j < length ys → Among (f (get_or ys j d)) (map f ys)
      among [] j u = absurd (omega arith)
      among (y ∷ ys) zero u = inl refl
      among (y ∷ ys) (suc j) u = let v : j < length ys = omega arith in inr (among ys j v)

      neither : (a b : Bool) → (a ≡ true → ⊥) → b ≡ false → (a || b) ≡ false
      neither true b n e = absurd (n refl)
      neither false b n e = e

below_max : (i j m : ℕ) → (nat_lt i m || (nat_lt i j || false)) ≡ nat_lt i (max j m)
below_max i j m = grind (arith, nat_tests)

-- the table of old keys has one more
pub table_more : {A K : Type 0} (eq : K → K → Bool) (decides : (x y : K) → Decides (eq x y) (x ≡ y)) (f : A → K) (xs : List A) (i : ℕ) (x : A) (before after : List K)
    → NoRepeat (map f xs) → i < length xs → x ≡ get_or xs i x → before ≡ map f (take i xs) → after ≡ insert_key eq before (f x) → after ≡ map f (take (i + 1) xs)
table_more eq decides f xs i x before after apart h is was now =
    let new : list_any (eq (f x)) before ≡ false = ap₂ (λ y l. list_any (eq (f y)) l) is was ∙ fresh eq decides f xs i x apart h in
    now ∙ ap (λ b. if b then before else before ++ f x ∷ []) new ∙ ap₂ (λ l y. l ++ f y ∷ []) was is ∙ sym (map_more f xs i x h)

-- one more step of the plan, and of what was reached
pub steps_more : {A K : Type 0} (eq : K → K → Bool) (decides : (x y : K) → Decides (eq x y) (x ≡ y)) (f : A → K) (old : List K) (xs : List A) (i : ℕ) (x : A)
    (before after : List Step) (o greatest : Option ℕ) → i < length xs → x ≡ get_or xs i x → o ≡ position (eq (f x)) old
    → ((j : ℕ) → is_passed (kept before) j ≡ is_below j greatest) → after ≡ before ++ step_for o greatest ∷ []
    → AreSteps old [] (map f (take i xs)) before → AreSteps old [] (map f (take (i + 1) xs)) after
steps_more eq decides f old xs i x before after o greatest h is at reached now made =
    let fits : IsStep old (kept before) (f x) (step_for o greatest) = subst (λ p. IsStep old (kept before) (f x) (step_for p greatest)) (sym at) (step_fits eq decides old (kept before) greatest (f x) reached) in
    let keys : map f (take (i + 1) xs) ≡ map f (take i xs) ++ f x ∷ [] = map_more f xs i x h ∙ ap (λ y. map f (take i xs) ++ f y ∷ []) (sym is) in
    subst (λ ks. AreSteps old [] ks after) (sym keys)
    (subst (λ ss. AreSteps old [] (map f (take i xs) ++ f x ∷ []) ss) (sym now) (AreSteps-push old [] (map f (take i xs)) before (f x) (step_for o greatest) made fits))

-- the greatest place that was kept
pub reached_next : (ss : List Step) (o : Option ℕ) (greatest : Option ℕ) → ((i : ℕ) → is_passed (kept ss) i ≡ is_below i greatest)
    → (i : ℕ) → is_passed (kept (ss ++ step_for o greatest ∷ [])) i ≡ is_below i (greater o greatest)
reached_next ss o greatest reached i =
    ap (λ l. is_passed l i) (kept-push ss (step_for o greatest)) ∙ list_any-append (λ j. nat_lt i j) (kept ss) (kept_by (step_for o greatest))
    ∙ ap (λ b. b || is_passed (kept_by (step_for o greatest)) i) (reached i) ∙ by o greatest
  where
    or_false : (b : Bool) → (b || false) ≡ b
    or_false true = refl
    or_false false = refl

    keeps : (b : Bool) (j : ℕ) → kept_by (if b then move j else retain j) ≡ j ∷ []
    keeps true j = refl
    keeps false j = refl

    by : (p g : Option ℕ) → (is_below i g || is_passed (kept_by (step_for p g)) i) ≡ is_below i (greater p g)
    by None g = or_false (is_below i g)
    by (Some j) None = or_false (nat_lt i j)
    by (Some j) (Some m) = ap (λ l. nat_lt i m || is_passed l i) (keeps (nat_lt j m) j) ∙ below_max i j m

-- Marks

has_place-push : (ps : List ℕ) (j i : ℕ) → has_place (ps ++ j ∷ []) i ≡ (has_place ps i || (nat_eq i j || false))
has_place-push ps j i = list_any-append (nat_eq i) ps (j ∷ [])

or_true : (b : Bool) → (b || (true || false)) ≡ true
or_true true = refl
or_true false = refl

or_not : (b : Bool) → (b || (false || false)) ≡ b
or_not true = refl
or_not false = refl

marked_below : (ps : List ℕ) (a n j : ℕ) → j < a → map (has_place ps) (range_with_len a n) ≡ map (has_place (ps ++ j ∷ [])) (range_with_len a n)
marked_below ps a zero j h = refl
marked_below ps a (suc n) j h =
    let apart : nat_eq a j ≡ false = ne_eqb a j (λ e. absurd (omega arith)) in
    ap₂ (λ x xs. x ∷ xs) (sym (has_place-push ps j a ∙ ap (λ b. has_place ps a || (b || false)) apart ∙ or_not (has_place ps a))) (marked_below ps (a + 1) n j (omega arith))

marks_set : (ps : List ℕ) (a n j : ℕ) → set (map (has_place ps) (range_with_len a n)) j true ≡ map (has_place (ps ++ (a + j) ∷ [])) (range_with_len a n)
marks_set ps a zero j = refl
marks_set ps a (suc n) zero =
    let same : nat_eq a (a + 0) ≡ true = eq-eqb a (a + 0) (omega arith) in
    ap₂ (λ x xs. x ∷ xs) (sym (has_place-push ps (a + 0) a ∙ ap (λ b. has_place ps a || (b || false)) same ∙ or_true (has_place ps a)))
    (marked_below ps (a + 1) n (a + 0) (omega arith))
marks_set ps a (suc n) (suc j) =
    let apart : nat_eq a (a + suc j) ≡ false = ne_eqb a (a + suc j) (λ e. absurd (omega arith)) in
    let shifted : (a + 1) + j ≡ a + suc j = omega arith in
    ap₂ (λ x xs. x ∷ xs) (sym (has_place-push ps (a + suc j) a ∙ ap (λ b. has_place ps a || (b || false)) apart ∙ or_not (has_place ps a)))
    (marks_set ps (a + 1) n j ∙ ap (λ z. map (has_place (ps ++ z ∷ [])) (range_with_len (a + 1) n)) shifted)

-- a place is marked
pub marks_more : (ps : List ℕ) (n j : ℕ) → set (map (has_place ps) (range_with_len 0 n)) j true ≡ map (has_place (ps ++ j ∷ [])) (range_with_len 0 n)
marks_more ps n j = let e : 0 + j ≡ j = omega arith in marks_set ps 0 n j ∙ ap (λ z. map (has_place (ps ++ z ∷ [])) (range_with_len 0 n)) e

-- a place past the end isn't
pub marks_past : (ps : List ℕ) (n j : ℕ) → n ≤ j → map (has_place ps) (range_with_len 0 n) ≡ map (has_place (ps ++ j ∷ [])) (range_with_len 0 n)
marks_past ps n j h =
    let e : length (map (has_place ps) (range_with_len 0 n)) ≤ j = rw (length-map-range_with_len (has_place ps) 0 n) h in
    sym (set_past (map (has_place ps) (range_with_len 0 n)) j true e) ∙ marks_more ps n j
  where
    set_past : (xs : List Bool) (i : ℕ) (x : Bool) → length xs ≤ i → set xs i x ≡ xs
    set_past [] i x u = refl
    set_past (y ∷ xs) zero x u = absurd (omega arith)
    set_past (y ∷ xs) (suc i) x u = let v : length xs ≤ i = omega arith in ap (λ l. y ∷ l) (set_past xs i x v)

pub unmarked : (n : ℕ) → replicate n false ≡ map (has_place []) (range_with_len 0 n)
unmarked n = from 0 n where
  from : (a m : ℕ) → replicate m false ≡ map (has_place []) (range_with_len a m)
  from a zero = refl
  from a (suc m) = ap (λ l. false ∷ l) (from (a + 1) m)

range-more : (a n : ℕ) → range_with_len a (suc n) ≡ range_with_len a n ++ (a + n) ∷ []
range-more a zero = let e : a + 0 ≡ a = omega arith in ap (λ z. z ∷ []) (sym e)
range-more a (suc n) = let e : (a + 1) + n ≡ a + suc n = omega arith in ap (λ l. a ∷ l) (range-more (a + 1) n ∙ ap (λ z. range_with_len (a + 1) n ++ z ∷ []) e)

-- one more place that no step keeps, or that one keeps
pub unkept-more : (n : ℕ) (ss : List Step) → unkept (n + 1) ss ≡ unkept n ss ++ (if not (has_place (kept ss) n) then n ∷ [] else [])
unkept-more n ss =
    let e : 0 + n ≡ n = omega arith in
    ap (λ m. unkept m ss) (add-one n)
    ∙ ap (filter (λ i. not (has_place (kept ss) i))) (range-more 0 n ∙ ap (λ z. range_with_len 0 n ++ z ∷ []) e)
    ∙ filter-append (λ i. not (has_place (kept ss) i)) (range_with_len 0 n) (n ∷ [])

pub marked_at : (ss : List Step) (n i : ℕ) → i < n → get_or (map (has_place (kept ss)) (range_with_len 0 n)) i false ≡ has_place (kept ss) i
marked_at ss n i h = get_or-map-range_with_len (has_place (kept ss)) 0 n i i false h (omega arith)

-- what one more step keeps
kept_take : {A : Type 0} (f : A → Step) (xs : List A) (i : ℕ) (x : A) → i < length xs → x ≡ get_or xs i x → kept (map f (take (i + 1) xs)) ≡ kept (map f (take i xs)) ++ kept_by (f x)
kept_take f xs i x h is = ap kept (map_more f xs i x h ∙ ap (λ y. map f (take i xs) ++ f y ∷ []) (sym is)) ∙ kept-push (map f (take i xs)) (f x)

module _ {A : Type 0} (f : A → Step) (xs : List A) (i : ℕ) (x : A) (n : ℕ) (before after : List Bool) (h : i < length xs) (is : x ≡ get_or xs i x)
    (was : before ≡ map (has_place (kept (map f (take i xs)))) (range_with_len 0 n)) where
  pub marks_none : [] ≡ kept_by (f x) → after ≡ before → after ≡ map (has_place (kept (map f (take (i + 1) xs)))) (range_with_len 0 n)
  marks_none e now =
      now ∙ was ∙ ap (λ ps. map (has_place ps) (range_with_len 0 n)) (sym (append-nil (kept (map f (take i xs)))) ∙ ap (λ l. kept (map f (take i xs)) ++ l) e ∙ sym (kept_take f xs i x h is))

  pub marks_one : (j : ℕ) → j ∷ [] ≡ kept_by (f x) → after ≡ set before j true → after ≡ map (has_place (kept (map f (take (i + 1) xs)))) (range_with_len 0 n)
  marks_one j e now =
      now ∙ ap (λ l. set l j true) was ∙ marks_more (kept (map f (take i xs))) n j
      ∙ ap (λ ps. map (has_place ps) (range_with_len 0 n)) (ap (λ l. kept (map f (take i xs)) ++ l) e ∙ sym (kept_take f xs i x h is))

  pub marks_far : (j : ℕ) → j ∷ [] ≡ kept_by (f x) → length before ≤ j → after ≡ before → after ≡ map (has_place (kept (map f (take (i + 1) xs)))) (range_with_len 0 n)
  marks_far j e far now =
      let m : n ≤ j = omega (arith, ap length was, length-map-range_with_len (has_place (kept (map f (take i xs)))) 0 n) in
      now ∙ was ∙ marks_past (kept (map f (take i xs))) n j m
      ∙ ap (λ ps. map (has_place ps) (range_with_len 0 n)) (ap (λ l. kept (map f (take i xs)) ++ l) e ∙ sym (kept_take f xs i x h is))

-- the places that are not kept, one more
module _ (ss : List Step) (n place : ℕ) (marks : List Bool) (before after : List ℕ) (h : place < length marks) (is : marks ≡ map (has_place (kept ss)) (range_with_len 0 n))
    (was : before ≡ unkept place ss) where
  mark_is : get_or marks place false ≡ has_place (kept ss) place
  mark_is =
      let small : place < n = omega (arith, ap length is, length-map-range_with_len (has_place (kept ss)) 0 n) in
      ap (λ l. get_or l place false) is ∙ marked_at ss n place small

  pub unkept_one : get_or marks place false ≡ false → after ≡ before ++ place ∷ [] → after ≡ unkept (place + 1) ss
  unkept_one m now = now ∙ ap (λ l. l ++ place ∷ []) was ∙ sym (unkept-more place ss ∙ ap (λ b. unkept place ss ++ (if not b then place ∷ [] else [])) (sym mark_is ∙ m))

  pub unkept_none : get_or marks place false ≡ true → after ≡ before → after ≡ unkept (place + 1) ss
  unkept_none m now = now ∙ was ∙ sym (unkept-more place ss ∙ ap (λ b. unkept place ss ++ (if not b then place ∷ [] else [])) (sym mark_is ∙ m) ∙ append-nil (unkept place ss))

-- all places are gone over
pub unkept_all : (ss : List Step) (n place : ℕ) (marks : List Bool) → marks ≡ map (has_place (kept ss)) (range_with_len 0 n) → place ≤ length marks → length marks ≤ place → unkept place ss ≡ unkept n ss
unkept_all ss n place marks is low high =
    let e : place ≡ n = omega (arith, ap length is, length-map-range_with_len (has_place (kept ss)) 0 n) in ap (λ m. unkept m ss) e

-- within a list it doesn't matter what is read past its end
pub get_or-within : {A : Type 0} (xs : List A) (i : ℕ) (d e : A) → i < length xs → get_or xs i d ≡ get_or xs i e
get_or-within [] i d e h = absurd (omega arith)
get_or-within (x ∷ xs) zero d e h = refl
get_or-within (x ∷ xs) (suc i) d e h = let k : i < length xs = omega arith in get_or-within xs i d e k
