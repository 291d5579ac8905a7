-- Places of names: by halves where names rise, and by an index where none stands twice.
use Rattle.std.proofs.Common.{◌≡◌, ◌≤◌, ◌<◌, ℕ, zero, suc, List, [], ◌∷◌, map, length, cond, get_or, Bool, true, false, true≢false, Some, None, refl, sym, ap, ◌∙◌, subst, inl, inr, arith, String, Global, string_bytes}
use Rattle.std.specs.Prelude.{IsTrue, position, nat_lt, ◌&&◌}
use Rattle.std.specs.List.{position_or_len}
use Rattle.std.specs.List.Sorted.{IsPartitionedBy, IsPartitionPoint}
use Rattle.std.specs.Ordering.{nat_cmp, is_lt}
use Rattle.std.specs.Cmp.Lexicographic.{slice_cmp}
use Rattle.std.specs.declared.cmp.Ordering.{Ordering}
use Rattle.std.specs.declared.cmp.Ordering.TheVariants.{Less, Equal, Greater}
use Rattle.std.specs.Str.{bytes_eq, chars, IsUtf8}
use Rattle.std.proofs.lemmas.Bool.{cases_lt, false_from_ne_true}
use Rattle.std.proofs.lemmas.Cmp.{nat_list_cmp_total, tied_itself}
use Rattle.std.proofs.lemmas.Slice.Eq.{bytes_eq-Decides}
use Rattle.std.proofs.lemmas.Str.{IsUtf8-string_bytes}
use Rattle.gl_base.proofs.Chars.{bytes_eq-chars}
use Rattle.gl_base.specs.Texts.{Text, bytes_of, text_less}
use Rattle.gl_meaning.specs.ManifestRules.{Each}
use Rattle.gl_meaning.specs.Order.{Rise}
use Rattle.gl_opc.specs.NamePlaces.{rising}

-- The order of texts

is-less : (o : Ordering) → is_lt o ≡ true → o ≡ Less
is-less Less e = refl
is-less Equal e = cc
is-less Greater e = cc

less_less : (s t u : Text) → text_less s t ≡ true → text_less t u ≡ true → text_less s u ≡ true
less_less s t u a b =
    ap is_lt (nat_list_cmp_total.trans (bytes_of s) (bytes_of t) (bytes_of u) (is-less (slice_cmp nat_cmp (bytes_of s) (bytes_of t)) a) (is-less (slice_cmp nat_cmp (bytes_of t) (bytes_of u)) b))

not_itself : (t : Text) → text_less t t ≡ false
not_itself t = ap is_lt (tied_itself nat_list_cmp_total (bytes_of t))

-- a name is none that is less
less_differs : (t n : Text) → text_less t n ≡ true → bytes_eq n t ≡ false
less_differs t n less =
    false_from_ne_true (bytes_eq n t) (λ e. let same : n ≡ t = (bytes_eq-Decides n t).0 e in
    true≢false (sym (subst (λ u. text_less t u ≡ true) same less) ∙ not_itself t))

-- The first place that passes a test

module _ {X : Type 0} (p : X → Bool) where
  first_at : (xs : List X) (i : ℕ) (d : X) → i < length xs → p (get_or xs i d) ≡ true → ((k : ℕ) → k < i → p (get_or xs k d) ≡ false) → position_or_len p xs ≡ i
  first_at [] i d below here before = absurd (omega arith)
  first_at (x ∷ xs) zero d below here before = rw here refl
  first_at (x ∷ xs) (suc i) d below here before =
      let first : p x ≡ false = before 0 (omega arith) in
      let rest : position_or_len p xs ≡ i = first_at xs i d (omega arith) here (λ k h. before (suc k) (omega arith)) in
      rw first (omega (arith, rest))

  none_at : (xs : List X) (d : X) → ((k : ℕ) → k < length xs → p (get_or xs k d) ≡ false) → position_or_len p xs ≡ length xs
  none_at [] d none = refl
  none_at (x ∷ xs) d none =
      let first : p x ≡ false = none 0 (omega arith) in
      let rest : position_or_len p xs ≡ length xs = none_at xs d (λ k h. none (suc k) (omega arith)) in
      rw first (omega (arith, rest))

  within : (b : Bool) (i n : ℕ) → nat_lt i n ≡ b → i < n → cond b (Some i) None ≡ Some i
  within true i n e h = refl
  within false i n e h = absurd (grind arith)

  beyond : (b : Bool) (n : ℕ) → nat_lt n n ≡ b → cond b (Some n) None ≡ None
  beyond true n e = absurd (grind arith)
  beyond false n e = refl

  is_first : (xs : List X) (i : ℕ) (d : X) → i < length xs → p (get_or xs i d) ≡ true → ((k : ℕ) → k < i → p (get_or xs k d) ≡ false) → Some i ≡ position p xs
  is_first xs i d below here before =
      let at = first_at xs i d below here before in
      sym (ap (λ j. cond (nat_lt j (length xs)) (Some j) None) at ∙ within (nat_lt i (length xs)) i (length xs) refl below)

  is_none : (xs : List X) (d : X) → ((k : ℕ) → k < length xs → p (get_or xs k d) ≡ false) → None ≡ position p xs
  is_none xs d none =
      let at = none_at xs d none in
      sym (ap (λ j. cond (nat_lt j (length xs)) (Some j) None) at ∙ beyond (nat_lt (length xs) (length xs)) (length xs) refl)

  none_in : (xs : List X) → ((d : X) (k : ℕ) → k < length xs → p (get_or xs k d) ≡ false) → None ≡ position p xs
  none_in [] none = refl
  none_in (x ∷ xs) none = is_none (x ∷ xs) x (none x)

-- Names that rise

module _ {X : Type 0} (f : X → Text) where
  less_at : (t : Text) (xs : List X) (k : ℕ) (d : X) → Each (λ u. IsTrue (text_less t u)) (map f xs) → k < length xs → text_less t (f (get_or xs k d)) ≡ true
  less_at t [] k d each below = absurd (omega arith)
  less_at t (x ∷ xs) zero d each below = each.0
  less_at t (x ∷ xs) (suc k) d each below = less_at t xs k d each.1 (omega arith)

  rise_at : (xs : List X) → Rise (map f xs) → (i k : ℕ) (d : X) → i < k → k < length xs → text_less (f (get_or xs i d)) (f (get_or xs k d)) ≡ true
  rise_at [] rise i k d less below = absurd (omega arith)
  rise_at (x ∷ xs) rise i zero d less below = absurd (omega arith)
  rise_at (x ∷ xs) rise zero (suc k) d less below = less_at (f x) xs k d rise.0 (omega arith)
  rise_at (x ∷ xs) rise (suc i) (suc k) d less below = rise_at xs rise.1 i k d (omega arith) (omega arith)

  pub partitioned : (n : Text) (xs : List X) → Rise (map f xs) → IsPartitionedBy (λ x. text_less (f x) n) xs
  partitioned n xs rise i j d low within holds = elim (cases_lt i j) [
    | inl under ↦ less_less (f (get_or xs i d)) (f (get_or xs j d)) n (rise_at xs rise i j d under within) holds
    | inr over ↦ let same : i ≡ j = omega arith in subst (λ k. text_less (f (get_or xs k d)) n ≡ true) (sym same) holds
  ]

  module _ (n : Text) (xs : List X) (rise : Rise (map f xs)) (i : ℕ) (point : IsPartitionPoint (λ x. text_less (f x) n ≡ true) (λ x. text_less (f x) n ≡ false) xs i) where
    before : (d : X) (k : ℕ) → k < i → bytes_eq n (f (get_or xs k d)) ≡ false
    before d k h = less_differs (f (get_or xs k d)) n (point.0 k d (omega arith) h)

    pub found_by_halves : (x : X) → i < length xs → get_or xs i x ≡ x → bytes_eq n (f x) ≡ true → Some i ≡ position (λ x. bytes_eq n (f x)) xs
    found_by_halves x below at same = is_first (λ x. bytes_eq n (f x)) xs i x below (ap (λ y. bytes_eq n (f y)) at ∙ same) (before x)

    -- what stands behind the one place is greater than what stands there
    behind : (d : X) → bytes_eq n (f (get_or xs i d)) ≡ false → (k : ℕ) → i ≤ k → k < length xs → bytes_eq n (f (get_or xs k d)) ≡ false
    behind d differs k low high = elim (cases_lt i k) [
      | inl under ↦
          false_from_ne_true (bytes_eq n (f (get_or xs k d)))
          (λ e. let same : n ≡ f (get_or xs k d) = (bytes_eq-Decides n (f (get_or xs k d))).0 e in
          let there : text_less (f (get_or xs i d)) n ≡ true = subst (λ u. text_less (f (get_or xs i d)) u ≡ true) (sym same) (rise_at xs rise i k d under high) in
          true≢false (sym there ∙ point.1 i d (omega arith) (omega arith)))
      | inr over ↦ let same : i ≡ k = omega arith in subst (λ j. bytes_eq n (f (get_or xs j d)) ≡ false) same differs
    ]

    pub missed_by_halves : (d : X) → i < length xs → bytes_eq n (f (get_or xs i d)) ≡ false → None ≡ position (λ x. bytes_eq n (f x)) xs
    missed_by_halves d below differs = is_none (λ x. bytes_eq n (f x)) xs d (λ k h. elim (cases_lt k i) [ inl under ↦ before d k under | inr over ↦ behind d differs k (omega arith) h ])

    pub beyond_all : i ≡ length xs → None ≡ position (λ x. bytes_eq n (f x)) xs
    beyond_all all = none_in (λ x. bytes_eq n (f x)) xs (λ d k h. before d k (omega arith))

-- names that pass the test rise
both : (a b : Bool) → (a && b) ≡ true → (a ≡ true) × (b ≡ true)
both true b e = (refl, e)
both false b e = cc

each_less : (t u : Text) (ts : List Text) → text_less t u ≡ true → Each (λ v. IsTrue (text_less u v)) ts → Each (λ v. IsTrue (text_less t v)) ts
each_less t u [] less each = tt
each_less t u (v ∷ ts) less each = (less_less t u v less each.0, each_less t u ts less each.1)

pub they_rise : (ts : List Text) → rising ts ≡ true → Rise ts
they_rise [] e = tt
they_rise (t ∷ []) e = (tt, tt)
they_rise (t ∷ u ∷ ts) e =
    let h = both (text_less t u) (rising (u ∷ ts)) e in
    let rest = they_rise (u ∷ ts) h.1 in
    ((h.0, each_less t u ts h.0 rest.0), rest)

-- An index

-- the texts that strings hold
abbrev pub seen : List (String Global) → List Text
seen ks = map (λ k. chars (string_bytes k)) ks

pub place_in_index : (bs : List ℕ) → IsUtf8 bs → (ks : List (String Global)) (n : Text) (ns : List Text) → chars bs ≡ n → seen ks ≡ ns → position (λ k. bytes_eq bs (string_bytes k)) ks ≡ position (λ t. bytes_eq n t) ns
place_in_index bs u ks n ns e f = at ks ∙ ap (λ m. position (λ t. bytes_eq m t) (seen ks)) e ∙ ap (λ l. position (λ t. bytes_eq n t) l) f where
  same : (k : String Global) → bytes_eq bs (string_bytes k) ≡ bytes_eq (chars bs) (chars (string_bytes k))
  same k = bytes_eq-chars bs (string_bytes k) u (IsUtf8-string_bytes k)

  at-len : (ks : List (String Global)) → position_or_len (λ k. bytes_eq bs (string_bytes k)) ks ≡ position_or_len (λ t. bytes_eq (chars bs) t) (seen ks)
  at-len [] = refl
  at-len (k ∷ ks) = rw (same k, at-len ks) refl

  lengths : (ks : List (String Global)) → length ks ≡ length (seen ks)
  lengths [] = refl
  lengths (k ∷ ks) = ap suc (lengths ks)

  at : (ks : List (String Global)) → position (λ k. bytes_eq bs (string_bytes k)) ks ≡ position (λ t. bytes_eq (chars bs) t) (seen ks)
  at ks = rw (at-len ks, lengths ks) refl
