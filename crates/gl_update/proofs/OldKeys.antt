-- The keys of the old items, and the plan over them.
use Rattle.std.proofs.Common.{◌≡◌, ◌<◌, ◌≤◌, ℕ, suc, ◌+◌, Bool, true, false, List, [], ◌∷◌, ◌++◌, map, reverse, drop, length, get_or, append-nil, Option, Some, None, true≢false, refl, sym, ◌∙◌, ap, ap₂, subst, arith, ltb-true}
use Rattle.std.specs.Prelude.{◌||◌, filter_map, nat_lt}
use Rattle.std.proofs.Math.Bool.{or-false}
use Rattle.std.proofs.lemmas.Bool.{ltb-false}
use Rattle.std.proofs.lemmas.List.{drop_all, map-append, reverse-append, reverse-reverse}
use Rattle.std.proofs.lemmas.List.Folds.{list_any-append}
use Rattle.gl_base.proofs.Lists.{drop_item}
use Rattle.gl_ast.specs.ExprCode.{owned, unowned, unowned-owned}
use Rattle.gl_meaning.specs.Render.{Entry}
use Rattle.gl_each.specs.Key.{Key as PlainKey, same_key, entry_keys}
use Rattle.gl_each.specs.SameKeys.{same_key-Decides}
use Rattle.gl_each.specs.Sync.{Step, retain, move, insert, is_passed, AreSteps}
use Rattle.gl_each.specs.View.{key_view, seen_keys, step_view, seen_steps}
use Rattle.gl_each.specs.declared.key.Key.{Key}
use Rattle.gl_each.specs.declared.step.PlanStep.{PlanStep}
use Rattle.gl_code.specs.declared.code.ItemCode.{ItemCode}
use Rattle.gl_update.specs.ListItems.{there}
use Rattle.gl_update.specs.OldItems.{raw_key, code_key, Plans, CodeKeys, Rising}

-- the keys and the items agree from a place on, where they do at it and behind it
pub keys_next : (ks : List Key) (xs : List ItemCode) (i : ℕ) (k : Key) (x : ItemCode) → i < length ks → i < length xs → k ≡ get_or ks i k → x ≡ get_or xs i x → same_key (key_view k) (raw_key x) ≡ true
    → seen_keys (drop (i + 1) ks) ≡ map raw_key (drop (i + 1) xs) → seen_keys (drop i ks) ≡ map raw_key (drop i xs)
keys_next ks xs i k x lt less is at same e =
    ap seen_keys (drop_item ks i k lt is)
    ∙ (ap₂ (λ y ys. y ∷ ys) ((same_key-Decides (key_view k) (raw_key x)).0 same) e ∙ sym (ap (map raw_key) (drop_item xs i x less at)))

pub keys_end : (ks : List Key) (xs : List ItemCode) (i : ℕ) → length ks ≤ i → length xs ≤ i → seen_keys (drop i ks) ≡ map raw_key (drop i xs)
keys_end ks xs i le more = ap seen_keys (drop_all i ks le) ∙ sym (ap (map raw_key) (drop_all i xs more))

-- keys of entries have no owners
replain : PlainKey → PlainKey
replain k = (owned (unowned k.0), k.1)

entries_plain : (es : List Entry) → map replain (entry_keys es) ≡ entry_keys es
unfolding replain
entries_plain [] = refl
entries_plain (e ∷ es) = ap₂ (λ (k : PlainKey) ks. k ∷ ks) (ap (λ y. (owned y, e.occurrence)) (unowned-owned e.key)) (entries_plain es)

raw_plain : (xs : List ItemCode) → map replain (map raw_key xs) ≡ map code_key xs
unfolding replain
raw_plain [] = refl
raw_plain (x ∷ xs) = ap (λ ks. code_key x ∷ ks) (raw_plain xs)

pub plain_keys : (ks : List PlainKey) (es : List Entry) (xs : List ItemCode) → ks ≡ entry_keys es → ks ≡ map raw_key xs → ks ≡ map code_key xs
plain_keys ks es xs e d = e ∙ (sym (entries_plain es) ∙ (ap (map replain) (sym e ∙ d) ∙ raw_plain xs))

-- a plan without what was kept before
pub plans_of : (old : List PlainKey) (before : List ℕ) (ks : List PlainKey) (ss : List Step) → AreSteps old before ks ss → Plans old ks ss
plans_of old before [] [] h = h
plans_of old before (k ∷ ks) (retain i ∷ ss) h = (h.0.0, plans_of old (before ++ i ∷ []) ks ss h.1)
plans_of old before (k ∷ ks) (move i ∷ ss) h = (h.0.0, plans_of old (before ++ i ∷ []) ks ss h.1)
plans_of old before (k ∷ ks) (insert ∷ ss) h = (h.0, plans_of old (before ++ []) ks ss h.1)
plans_of old before [] (s ∷ ss) h = absurd h
plans_of old before (k ∷ ks) [] h = absurd h

-- The place is the one behind the greatest of those that steps keep: the places before are those of which a greater one is kept.
abbrev pub Highest : List ℕ → ℕ → Type 0
Highest before k = (j : ℕ) → (is_passed before j ≡ true → suc j < k) × (is_passed before j ≡ false → k ≤ suc j)

pub highest_none : Highest [] 0
highest_none j = (λ e. absurd (true≢false (sym e)), λ e. omega arith)

one_more : (before : List ℕ) (i j : ℕ) → is_passed (before ++ i ∷ []) j ≡ (is_passed before j || nat_lt j i)
one_more before i j = list_any-append (λ d. nat_lt j d) before (i ∷ []) ∙ ap (λ b. is_passed before j || b) (or-false (nat_lt j i))

-- where one more place is kept
highest_more : (before : List ℕ) (k i m : ℕ) → Highest before k → k ≤ m → i < m → ((j : ℕ) → k ≤ suc j → i ≤ j → m ≤ suc j) → Highest (before ++ i ∷ []) m
highest_more before k i m t le lt least j = (
  (λ e. passed (is_passed before j) (nat_lt j i) refl refl (sym (one_more before i j) ∙ e)),
  (λ e. not_passed (is_passed before j) (nat_lt j i) refl refl (sym (one_more before i j) ∙ e)),
) where
  passed : (b c : Bool) → is_passed before j ≡ b → nat_lt j i ≡ c → (b || c) ≡ true → suc j < m
  passed true c d e f = let h = (t j).0 d in omega (arith, h, le)
  passed false true d e f = let h = ltb-true j i e in omega (arith, h, lt)
  passed false false d e f = absurd (true≢false (sym f))

  not_passed : (b c : Bool) → is_passed before j ≡ b → nat_lt j i ≡ c → (b || c) ≡ false → m ≤ suc j
  not_passed true c d e f = absurd (true≢false f)
  not_passed false true d e f = absurd (true≢false f)
  not_passed false false d e f = least j ((t j).1 d) (ltb-false j i e)

-- a plan comes to the old places in order
pub rising_of : (old : List PlainKey) (before : List ℕ) (k : ℕ) (ks : List PlainKey) (ss : List Step) → Highest before k → AreSteps old before ks ss → Rising k ss
rising_of old before k [] [] t h = tt
rising_of old before k (x ∷ ks) (retain i ∷ ss) t h =
    let le = (t i).1 h.0.1 in
    (le, rising_of old (before ++ i ∷ []) (suc i) ks ss (highest_more before k i (suc i) t le (omega arith) (λ j a b. omega (arith, b))) h.1)
rising_of old before k (x ∷ ks) (move i ∷ ss) t h =
    let lt = (t i).0 h.0.1 in
    (omega (arith, lt), rising_of old (before ++ i ∷ []) k ks ss (highest_more before k i k t (omega arith) (omega (arith, lt)) (λ j a b. a)) h.1)
rising_of old before k (x ∷ ks) (insert ∷ ss) t h = rising_of old (before ++ []) k ks ss (subst (λ b. Highest b k) (sym (append-nil before)) t) h.1
rising_of old before k [] (s ∷ ss) t h = absurd h
rising_of old before k (x ∷ ks) [] t h = absurd h

steps-reverse : (ss : List PlanStep) → seen_steps (reverse ss) ≡ reverse (seen_steps ss)
steps-reverse [] = refl
steps-reverse (s ∷ ss) =
    ap seen_steps (reverse-append (s ∷ []) ss)
    ∙ (map-append step_view (reverse ss) (s ∷ []) ∙ (ap (λ ys. ys ++ step_view s ∷ []) (steps-reverse ss) ∙ sym (reverse-append (step_view s ∷ []) (seen_steps ss))))

pub steps_reversed : (ss ts : List PlanStep) → ts ≡ reverse ss → reverse (seen_steps ts) ≡ seen_steps ss
steps_reversed ss ts e = ap (λ us. reverse (seen_steps us)) e ∙ (ap reverse (steps-reverse ss) ∙ reverse-reverse (seen_steps ss))

-- all are there at first
pub all_have : (xs : List ItemCode) → CodeKeys (map code_key xs) (map Some xs)
all_have [] = tt
all_have (x ∷ xs) = (refl, all_have xs)

pub there_all : (xs : List ItemCode) → there (map Some xs) ≡ xs
there_all [] = refl
there_all (x ∷ xs) = ap (λ ys. x ∷ ys) (there_all xs)

pub there_is : (os : List (Option ItemCode)) → filter_map (λ o. o) os ≡ there os
there_is [] = refl
there_is (None ∷ os) = there_is os
there_is (Some x ∷ os) = ap (λ ys. x ∷ ys) (there_is os)
