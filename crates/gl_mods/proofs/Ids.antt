-- Lists of ids: how often one stands, and those that live.
use Rattle.std.proofs.Common.{◌≡◌, ◌≢◌, ℕ, ◌+◌, ◌<◌, ◌≤◌, Bool, true, false, cond, List, [], ◌∷◌, ◌++◌, filter, Option, Some, None, refl, sym, ap, subst, ◌∙◌, arith, is_some, IsSome, append-nil, inl, inr}
use Rattle.std.specs.Prelude.{if◌then◌else◌}
use Rattle.std.proofs.lemmas.List.Elements.{filter-append}
use Rattle.gl_arena.specs.Id.{Id, same_id}
use Rattle.gl_arena.specs.Arena.{Arena, named}
use Rattle.gl_arena.proofs.Ids.{same_id-refl, same_id-other, id_cases}
use Rattle.gl_mods.specs.Mods.{Installed, hit, times, living, with_id, without_node, off_node}
use Rattle.gl_mods.specs.Kept.{AreGiven}

pub hit-is : (x i : Id) → x ≡ i → hit x i ≡ 1
unfolding hit
hit-is x i e = ap (λ b. cond b 1 0) (ap (λ j. same_id j i) e ∙ same_id-refl i)

pub hit-other : (x i : Id) → x ≢ i → hit x i ≡ 0
unfolding hit
hit-other x i ne = ap (λ b. cond b 1 0) (same_id-other x i ne)

pub times-append : (x : Id) (is js : List Id) → times x (is ++ js) ≡ times x is + times x js
times-append x [] js = omega arith
times-append x (i ∷ is) js = omega (arith, times-append x is js)

pub none_some : {A : Type 0} (o : Option A) (a : A) → o ≡ None → o ≡ Some a → ⊥
none_some o a n s = let no : None ≡ Some a = sym n ∙ s in cc

-- Ids that were given.

pub given_later : (m n : ℕ) (is : List Id) → m ≤ n → AreGiven m is → AreGiven n is
given_later m n [] le h = tt
given_later m n (i ∷ is) le h = (let lt = h.0 in omega (arith, lt, le), given_later m n is le h.1)

pub given_more : (m : ℕ) (is : List Id) (i : Id) → AreGiven m is → i.1 < m → AreGiven m (is ++ i ∷ [])
given_more m [] i h lt = (lt, tt)
given_more m (j ∷ js) i h lt = (h.0, given_more m js i h.1 lt)

-- Those that live.

-- where all that were given name what they named
pub living-given : (a b : Arena Installed) (made : ℕ) (is : List Id) → AreGiven made is → ((i : Id) → i.1 < made → named b i ≡ named a i) → living b is ≡ living a is
living-given a b made [] h same = refl
living-given a b made (i ∷ is) h same =
    ap (λ o. cond (is_some o) (i ∷ living b is) (living b is)) (same i h.0)
    ∙ ap (λ t. cond (is_some (named a i)) (i ∷ t) t) (living-given a b made is h.1 same)

-- where the same ids live
pub living-same : (a b : Arena Installed) (is : List Id) → ((i : Id) → is_some (named b i) ≡ is_some (named a i)) → living b is ≡ living a is
living-same a b [] same = refl
living-same a b (i ∷ is) same =
    ap (λ t. cond t (i ∷ living b is) (living b is)) (same i) ∙ ap (λ t. cond (is_some (named a i)) (i ∷ t) t) (living-same a b is same)

-- one more at the end
pub living-more : (a : Arena Installed) (is : List Id) (i : Id) → IsSome (named a i) → living a (is ++ i ∷ []) ≡ living a is ++ i ∷ []
living-more a is i live = filter-append (λ j. is_some (named a j)) is (i ∷ []) ∙ ap (λ b. living a is ++ cond b (i ∷ []) []) live

pub living-ended : (a : Arena Installed) (is : List Id) (i : Id) → named a i ≡ None → living a (is ++ i ∷ []) ≡ living a is
living-ended a is i gone =
    filter-append (λ j. is_some (named a j)) is (i ∷ [])
    ∙ (ap (λ o. living a is ++ cond (is_some o) (i ∷ []) []) gone ∙ append-nil (living a is))

-- each of them lives
pub living_lives : (a : Arena Installed) (is : List Id) (i : Id) → 0 < times i (living a is) → IsSome (named a i)
living_lives a [] i lt = absurd (omega (arith, lt))
living_lives a (k ∷ ks) i lt = by_case (is_some (named a k)) refl lt (λ h. living_lives a ks i h)
  where
    by_case : (b : Bool) → is_some (named a k) ≡ b → 0 < times i (cond b (k ∷ living a ks) (living a ks)) → (0 < times i (living a ks) → IsSome (named a i)) → IsSome (named a i)
    by_case false e h rest = rest h
    by_case true e h rest = elim (id_cases i k) [
      | inl q ↦ subst (λ j. IsSome (named a j)) (sym q) e
      | inr ne ↦ let off = hit-other i k ne in rest (omega (arith, off, h))
    ]

-- where those of a node live no more
pub living-off : (a b : Arena Installed) (node : Id) (is : List Id) → ((i : Id) → named b i ≡ off_node node (named a i)) → living b is ≡ filter (λ i. is_some (off_node node (named a i))) (living a is)
living-off a b node [] now = refl
living-off a b node (i ∷ is) now =
    ap (λ o. cond (is_some o) (i ∷ living b is) (living b is)) (now i)
    ∙ (ap (λ t. cond (is_some (off_node node (named a i))) (i ∷ t) t) (living-off a b node is now) ∙ sym (by_case (named a i) refl))
  where
    test : Id → Bool
    test j = is_some (off_node node (named a j))

    by_case : (o : Option Installed) → named a i ≡ o → filter test (cond (is_some (named a i)) (i ∷ living a is) (living a is)) ≡ cond (test i) (i ∷ filter test (living a is)) (filter test (living a is))
    by_case None e =
        ap (λ o. filter test (cond (is_some o) (i ∷ living a is) (living a is))) e
        ∙ sym (ap (λ o. cond (is_some (off_node node o)) (i ∷ filter test (living a is)) (filter test (living a is))) e)
    by_case (Some m) e = ap (λ o. filter test (cond (is_some o) (i ∷ living a is) (living a is))) e

-- The ids of nodes.

pub times-with_id : (x k id n : Id) (on : Id → List Id) → n ≡ k → times x (with_id k id on n) ≡ times x (on n) + hit x id
times-with_id x k id n on e =
    ap (λ b. times x (if b then on n ++ id ∷ [] else on n)) (ap (λ j. same_id j k) e ∙ same_id-refl k)
    ∙ (let t = times-append x (on n) (id ∷ []) in omega (arith, t))

pub times-with_other : (x k id n : Id) (on : Id → List Id) → n ≢ k → times x (with_id k id on n) ≡ times x (on n)
times-with_other x k id n on ne = ap (λ b. times x (if b then on n ++ id ∷ [] else on n)) (same_id-other n k ne)

pub times-without : (x k n : Id) (on : Id → List Id) → n ≡ k → times x (without_node k on n) ≡ 0
times-without x k n on e = ap (λ b. times x (if b then [] else on n)) (ap (λ j. same_id j k) e ∙ same_id-refl k)

pub times-without_other : (x k n : Id) (on : Id → List Id) → n ≢ k → times x (without_node k on n) ≡ times x (on n)
times-without_other x k n on ne = ap (λ b. times x (if b then [] else on n)) (same_id-other n k ne)
