-- Keys whose hashes differ.
use Rattle.std.proofs.Common.{◌≡◌, ℕ, Bool, List, [], ◌∷◌, ◌++◌, map, true, false, true≢false, refl, sym, subst, ◌∙◌, inl, inr, arith}
use Rattle.std.specs.Prelude.{◌||◌, nat_eq}
use Rattle.std.specs.List.{list_any}
use Rattle.std.proofs.lemmas.List.Folds.{list_any-append}
use Rattle.std.proofs.lemmas.Grind.{common_steps}
use Rattle.gl_meaning.specs.Known.{Among}
use Rattle.gl_meaning.specs.Laws.{NoRepeat}
use Rattle.gl_each.specs.Counted.{key_values, AreNew}
use Rattle.gl_each.specs.Hashed.{value_hash}
use Rattle.gl_each.specs.Key.{Key}

-- what stands before stands there with more behind it
any-before : (n : ℕ) (before more : List ℕ) → list_any (nat_eq n) before ≡ true → list_any (nat_eq n) (before ++ more) ≡ true
any-before n before more h = list_any-append (nat_eq n) before more ∙ rw h refl

any-last : (n : ℕ) (before : List ℕ) → list_any (nat_eq n) (before ++ n ∷ []) ≡ true
any-last n before = list_any-append (nat_eq n) before (n ∷ []) ∙ last (list_any (nat_eq n) before)
  where
    last : (b : Bool) → (b || (nat_eq n n || false)) ≡ true
    last b = grind (arith, common_steps)

-- a key whose hash stands before is none of keys whose hashes are new
not-among : (k : Key) (before : List ℕ) (ks : List Key) → list_any (nat_eq (value_hash k.0)) before ≡ true → AreNew before (map value_hash (key_values ks)) → Among k ks → ⊥
not-among k before [] there new m = elim m [ ]
not-among k before (x ∷ xs) there new (inl e) = true≢false (sym (subst (λ y. list_any (nat_eq (value_hash y.0)) before ≡ true) e there) ∙ new.0)
not-among k before (x ∷ xs) there new (inr m) = not-among k (before ++ value_hash x.0 ∷ []) xs (any-before (value_hash k.0) before (value_hash x.0 ∷ []) there) new.1 m

once-after : (before : List ℕ) (ks : List Key) → AreNew before (map value_hash (key_values ks)) → NoRepeat ks
once-after before [] new = tt
once-after before (k ∷ ks) new = (not-among k (before ++ value_hash k.0 ∷ []) ks (any-last (value_hash k.0) before) new.1, once-after (before ++ value_hash k.0 ∷ []) ks new.1)

pub hashes-apart : (ks : List Key) → AreNew [] (map value_hash (key_values ks)) → NoRepeat ks
hashes-apart ks new = once-after [] ks new
