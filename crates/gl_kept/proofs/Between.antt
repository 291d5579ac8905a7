-- What a plan moves is what is moved between the lists of keys.
use Rattle.std.proofs.Common.{◌≡◌, ◌≢◌, ◌<◌, ℕ, zero, suc, ◌+◌, List, [], ◌∷◌, ◌++◌, get_or, length, map, Bool, true, false, Option, Some, None, refl, sym, ap, ap₂, subst, ◌∙◌, arith}
use Rattle.std.specs.Prelude.{position, slice_get, sum, if◌then◌else◌}
use Rattle.std.proofs.lemmas.List.Quantifiers.{position-Some}
use Rattle.std.proofs.lemmas.List.Sums.{sum_by-cons}
use Rattle.std.proofs.lemmas.Option.{slice_get-get_or}
use Rattle.gl_meaning.specs.Laws.{NoRepeat}
use Rattle.gl_meaning.specs.Path.{Path}
use Rattle.gl_each.specs.Key.{Key, same_key}
use Rattle.gl_each.specs.SameKeys.{same_key-Decides}
use Rattle.gl_each.specs.Sync.{Step, retain, move, insert, kept_by, is_passed, IsStep, AreSteps, unkept}
use Rattle.gl_each.specs.Moved.{moves}
use Rattle.gl_each.specs.Planned.{step_for}
use Rattle.gl_each.proofs.Plans.{step_fits}
use Rattle.gl_each.proofs.Standing.{stands, nowhere}
use Rattle.gl_kept.specs.Listed.{keys_at, ArePlans}
use Rattle.gl_kept.specs.Laws.{PlansMoveBetween}
use Rattle.gl_kept.specs.Between.{kept_place, one_passed, moves_from, moves_between}

none : (m n : ℕ) → m ≡ n → m ≡ 0 + n
none m n h = omega (arith, h)

more : (m n : ℕ) → m ≡ n → suc m ≡ 1 + n
more m n h = omega (arith, h)

-- Where a key stands

stands_at : (ks : List Key) (i : ℕ) (k : Key) → slice_get ks i ≡ Some k → (i < length ks) × (get_or ks i k ≡ k)
stands_at [] i k h = let e : None ≡ Some k = h in absurd cc
stands_at (x ∷ ks) zero k h = let e : Some x ≡ Some k = h in (omega arith, cc)
stands_at (x ∷ ks) (suc i) k h = let r = stands_at ks i k h in let n = r.0 in (omega (arith, n), r.1)

there : (ks : List Key) (i : ℕ) (k : Key) → NoRepeat ks → slice_get ks i ≡ Some k → position (same_key k) ks ≡ Some i
there ks i k apart h =
    let r = stands_at ks i k h in
    stands same_key same_key-Decides k ks i apart r.0 (subst (λ z. same_key k z ≡ true) (sym r.1) ((same_key-Decides k k).1 refl))

found_there : (ks : List Key) (i : ℕ) (k : Key) → position (same_key k) ks ≡ Some i → slice_get ks i ≡ Some k
found_there ks i k is =
    let h = position-Some (same_key k) ks i k is in
    slice_get-get_or ks i k h.0 ∙ ap Some (sym ((same_key-Decides k (get_or ks i k)).0 h.1))

not_there : (ks : List Key) (k : Key) → ((i : ℕ) → slice_get ks i ≢ Some k) → position (same_key k) ks ≡ None
not_there ks k h = nowhere same_key same_key-Decides k ks (λ i lt e. h i (found_there ks i k e))

no_place : (ks : List Key) (k : Key) → position (same_key k) ks ≡ None → (i : ℕ) → slice_get ks i ≢ Some k
no_place ks k none = subst (λ o. IsStep ks [] k (step_for o None)) none (step_fits same_key same_key-Decides ks [] None k (λ i. refl))

-- A plan of a list without repeats moves just those.
pub moves_are_planned : (old new : List Key) (before : List ℕ) (steps : List Step) → NoRepeat old → AreSteps old before new steps → moves steps ≡ moves_from old before new
moves_are_planned old [] before [] apart h = refl
moves_are_planned old (k ∷ ks) before (retain i ∷ ss) apart h =
    let rest = moves_are_planned old ks (before ++ i ∷ []) ss apart h.1 in
    subst (λ o. moves ss ≡ one_passed before o + moves_from old (before ++ kept_place o) ks) (sym (there old i k apart h.0.0))
    (subst (λ b. moves ss ≡ (if b then 1 else 0) + moves_from old (before ++ i ∷ []) ks) (sym h.0.1) (none (moves ss) (moves_from old (before ++ i ∷ []) ks) rest))
moves_are_planned old (k ∷ ks) before (move i ∷ ss) apart h =
    let rest = moves_are_planned old ks (before ++ i ∷ []) ss apart h.1 in
    subst (λ o. suc (moves ss) ≡ one_passed before o + moves_from old (before ++ kept_place o) ks) (sym (there old i k apart h.0.0))
    (subst (λ b. suc (moves ss) ≡ (if b then 1 else 0) + moves_from old (before ++ i ∷ []) ks) (sym h.0.1) (more (moves ss) (moves_from old (before ++ i ∷ []) ks) rest))
moves_are_planned old (k ∷ ks) before (insert ∷ ss) apart h =
    let rest = moves_are_planned old ks (before ++ []) ss apart h.1 in
    subst (λ o. moves ss ≡ one_passed before o + moves_from old (before ++ kept_place o) ks) (sym (not_there old k h.0)) (none (moves ss) (moves_from old (before ++ []) ks) rest)
moves_are_planned old [] before (s ∷ ss) apart h = absurd h
moves_are_planned old (k ∷ ks) before [] apart h = absurd h

-- There is always a plan

abbrev step_at : List ℕ → Option ℕ → Step
step_at before None = insert
step_at before (Some i) = if is_passed before i then move i else retain i

abbrev plan_from : List Key → List ℕ → List Key → List Step
plan_from old before [] = []
plan_from old before (k ∷ ks) = let o = position (same_key k) old in step_at before o ∷ plan_from old (before ++ kept_place o) ks

keeps_place : (before : List ℕ) (o : Option ℕ) → kept_by (step_at before o) ≡ kept_place o
keeps_place before None = refl
keeps_place before (Some i) = by (is_passed before i) where
  by : (b : Bool) → kept_by (if b then move i else retain i) ≡ i ∷ []
  by true = refl
  by false = refl

planned : (old new : List Key) (before : List ℕ) → AreSteps old before new (plan_from old before new)
planned old [] before = tt
planned old (k ∷ ks) before =
    let o = position (same_key k) old in (
      by o refl,
      subst (λ ps. AreSteps old (before ++ ps) ks (plan_from old (before ++ kept_place o) ks)) (sym (keeps_place before o)) (planned old ks (before ++ kept_place o)),
    ) where
      chosen : (i : ℕ) (b : Bool) → slice_get old i ≡ Some k → is_passed before i ≡ b → IsStep old before k (if b then move i else retain i)
      chosen i true at is = (at, is)
      chosen i false at is = (at, is)

      by : (o : Option ℕ) → position (same_key k) old ≡ o → IsStep old before k (step_at before o)
      by None e = no_place old k e
      by (Some i) e = chosen i (is_passed before i) (found_there old i k e) refl

plan_moves : (old new : List Key) (before : List ℕ) → moves (plan_from old before new) ≡ moves_from old before new
plan_moves old [] before = refl
plan_moves old (k ∷ ks) before = let o = position (same_key k) old in by o (plan_moves old ks (before ++ kept_place o)) where
  one : (i : ℕ) (ss : List Step) (n : ℕ) (b : Bool) → moves ss ≡ n → moves ((if b then move i else retain i) ∷ ss) ≡ (if b then 1 else 0) + n
  one i ss n true h = more (moves ss) n h
  one i ss n false h = none (moves ss) n h

  by : (o : Option ℕ) → moves (plan_from old (before ++ kept_place o) ks) ≡ moves_from old (before ++ kept_place o) ks
      → moves (step_at before o ∷ plan_from old (before ++ kept_place o) ks) ≡ one_passed before o + moves_from old (before ++ kept_place o) ks
  by None h = none (moves (plan_from old (before ++ []) ks)) (moves_from old (before ++ []) ks) h
  by (Some i) h = one i (plan_from old (before ++ i ∷ []) ks) (moves_from old (before ++ i ∷ []) ks) (is_passed before i) h

-- Lists at their paths

-- how many items are moved in all of these lists
abbrev pub moves_in_lists : List (Path × List Key) → List (Path × List Key) → ℕ
moves_in_lists olds [] = 0
moves_in_lists olds (l ∷ ls) = moves_between (keys_at l.0 olds) l.1 + moves_in_lists olds ls

abbrev pub plans_for : List (Path × List Key) → List (Path × List Key) → List (List Step)
plans_for olds [] = []
plans_for olds (l ∷ ls) = plan_from (keys_at l.0 olds) [] l.1 ∷ plans_for olds ls

pub are_plans : (olds news : List (Path × List Key)) → ArePlans olds news (plans_for olds news)
are_plans olds [] = tt
are_plans olds (l ∷ ls) =
    let old = keys_at l.0 olds in
    let steps = plan_from old [] l.1 in
    ((unkept (length old) steps, record { steps_are = planned old l.1 []; removed_are = refl }), are_plans olds ls)

pub plans_move : (olds news : List (Path × List Key)) → sum (map moves (plans_for olds news)) ≡ moves_in_lists olds news
plans_move olds [] = refl
plans_move olds (l ∷ ls) =
    let steps = plan_from (keys_at l.0 olds) [] l.1 in
    sum_by-cons (λ n. n) (moves steps) (map moves (plans_for olds ls)) ∙ ap₂ (λ a b. a + b) (plan_moves (keys_at l.0 olds) l.1 []) (plans_move olds ls)

pub plans_move_between : PlansMoveBetween
plans_move_between old new steps removed apart h = moves_are_planned old new [] steps apart h.steps_are
