-- Where a key stands in a list without repeats.
use Rattle.std.proofs.Common.{◌≡◌, ◌≢◌, ℕ, zero, suc, ◌+◌, ◌<◌, ◌≤◌, List, [], ◌∷◌, length, get_or, map, cond, Bool, true, false, Option, Some, None, refl, sym, ap, subst, ◌∙◌, inl, inr, lt-ltb, arith}
use Rattle.std.specs.Prelude.{not, nat_lt, position, if◌then◌else◌}
use Rattle.std.specs.List.{prefix_len}
use Rattle.std.specs.Bool.{Decides}
use Rattle.std.proofs.lemmas.List.{length-map}
use Rattle.std.proofs.lemmas.List.Quantifiers.{position-Some}
use Rattle.gl_meaning.specs.Known.{Among}
use Rattle.gl_meaning.specs.Laws.{NoRepeat}

module _ {K : Type 0} (eq : K → K → Bool) (decides : (x y : K) → Decides (eq x y) (x ≡ y)) (k : K) where
  among : (ks : List K) (i : ℕ) → i < length ks → Among (get_or ks i k) ks
  among [] i h = absurd (omega arith)
  among (x ∷ ks) zero h = inl refl
  among (x ∷ ks) (suc i) h = let n : i < length ks = omega arith in inr (among ks i n)

  before : (ks : List K) (i : ℕ) → NoRepeat ks → i < length ks → eq k (get_or ks i k) ≡ true → prefix_len (λ y. not (eq k y)) ks ≡ i
  before [] i apart h is = absurd (omega arith)
  before (x ∷ ks) zero apart h is = ap (λ b. cond (not b) (1 + prefix_len (λ y. not (eq k y)) ks) 0) is
  before (x ∷ ks) (suc i) apart h is =
      let n : i < length ks = omega arith in
      chosen (eq k x) refl (before ks i apart.1 n is)
    where
      chosen : (b : Bool) → eq k x ≡ b → prefix_len (λ y. not (eq k y)) ks ≡ i → cond (not b) (1 + prefix_len (λ y. not (eq k y)) ks) 0 ≡ suc i
      chosen false e rest = let n : 1 + prefix_len (λ y. not (eq k y)) ks ≡ suc i = omega (arith, rest) in n
      chosen true e rest =
          let n : i < length ks = omega arith in
          let one : k ≡ x = (decides k x).0 e in
          let two : k ≡ get_or ks i k = (decides k (get_or ks i k)).0 is in
          absurd (apart.0 (subst (λ z. Among z ks) (sym two ∙ one) (among ks i n)))

  -- the key that is found at a place stands there ..
  pub stands : (ks : List K) (i : ℕ) → NoRepeat ks → i < length ks → eq k (get_or ks i k) ≡ true → position (eq k) ks ≡ Some i
  stands ks i apart h is =
      ap (λ m. if nat_lt m (length ks) then Some m else None) (before ks i apart h is) ∙ ap (λ b. if b then Some i else None) (lt-ltb i (length ks) h)

  -- .. and the other way round
  pub found : (ks : List K) (i : ℕ) → position (eq k) ks ≡ Some i → (i < length ks) × (eq k (get_or ks i k) ≡ true)
  found ks i e = let h = position-Some (eq k) ks i k e in (h.0, h.1)

  -- a key that stands at no place is not found
  pub nowhere : (ks : List K) → ((i : ℕ) → i < length ks → position (eq k) ks ≢ Some i) → position (eq k) ks ≡ None
  nowhere ks h = by (position (eq k) ks) refl where
    by : (o : Option ℕ) → position (eq k) ks ≡ o → position (eq k) ks ≡ None
    by None e = e
    by (Some i) e = absurd (h i (found ks i e).0 e)

module _ {A K : Type 0} (eq : K → K → Bool) (decides : (x y : K) → Decides (eq x y) (x ≡ y)) (f : A → K) where
  read_map : (xs : List A) (i : ℕ) (x : A) (k : K) → i < length xs → x ≡ get_or xs i x → get_or (map f xs) i k ≡ f x
  read_map [] i x k h is = absurd (omega arith)
  read_map (y ∷ xs) zero x k h is = ap f (sym is)
  read_map (y ∷ xs) (suc i) x k h is = let n : i < length xs = omega arith in read_map xs i x k n is

  -- a key stands at a place just where the one that is there is the same
  pub stands_just : (xs : List A) (i : ℕ) (x : A) (k : K) → NoRepeat (map f xs) → i < length xs → x ≡ get_or xs i x
      → (eq k (f x) ≡ true → position (eq k) (map f xs) ≡ Some i) × (position (eq k) (map f xs) ≡ Some i → eq k (f x) ≡ true)
  stands_just xs i x k apart h is =
      let n : i < length (map f xs) = omega (arith, length-map xs f) in
      let same : get_or (map f xs) i k ≡ f x = read_map xs i x k h is in
      ((λ e. stands eq decides k (map f xs) i apart n (ap (eq k) same ∙ e)), λ e. ap (eq k) (sym same) ∙ (found eq decides k (map f xs) i e).1)

  -- it stands at no place past the end
  pub stands_not : (xs : List A) (i : ℕ) (k : K) → length xs ≤ i → position (eq k) (map f xs) ≢ Some i
  stands_not xs i k h e = let n = (found eq decides k (map f xs) i e).0 in absurd (omega (arith, length-map xs f))
