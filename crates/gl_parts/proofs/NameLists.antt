-- The names of attributes, each once, what an attribute of a name takes, and texts that are joined.
use Rattle.std.proofs.Common.{◌≡◌, List, [], ◌∷◌, ◌++◌, Bool, true, false, Some, not, ◌&&◌, ◌||◌, cond, refl, sym, ◌∙◌, ap, ap₂, append_assoc}
use Rattle.std.specs.Prelude.{filter}
use Rattle.std.specs.Bool.{Decides}
use Rattle.std.specs.Str.{bytes_eq}
use Rattle.std.proofs.lemmas.Bool.Decides.{same_from_decides}
use Rattle.std.proofs.lemmas.Slice.Eq.{bytes_eq-Decides}
use Rattle.gl_base.specs.Texts.{Text}
use Rattle.gl_base.specs.Names.{has_text}
use Rattle.gl_meaning.specs.Signs.{blank}
use Rattle.gl_meaning.specs.Parts.{last_only, spaced, joined_texts}
use Rattle.gl_parts.specs.Parts.{other_names, words_of, spaced_after}

pub texts_sym : (s t : Text) → bytes_eq s t ≡ bytes_eq t s
texts_sym s t =
    let d : Decides (bytes_eq t s) (s ≡ t) = (λ e. sym ((bytes_eq-Decides t s).0 e), λ e. (bytes_eq-Decides t s).1 (sym e)) in
    same_from_decides (bytes_eq s t) (bytes_eq t s) (bytes_eq-Decides s t) d

-- one filter after another
filter_both : {A : Type 0} (p q r : A → Bool) → ((x : A) → r x ≡ (q x && p x)) → (xs : List A) → filter p (filter q xs) ≡ filter r xs
filter_both p q r e [] = refl
filter_both p q r e (x ∷ xs) = by_test (q x) (e x) (filter_both p q r e xs) where
  by_test : (b : Bool) → r x ≡ (b && p x) → filter p (filter q xs) ≡ filter r xs → filter p (cond b (x ∷ filter q xs) (filter q xs)) ≡ cond (r x) (x ∷ filter r xs) (filter r xs)
  by_test true e h = ap₂ (λ d ys. cond d (x ∷ ys) ys) (sym e) h
  by_test false e h = h ∙ sym (ap (λ d. cond d (x ∷ filter r xs) (filter r xs)) e)

has_more : (n w : Text) (ks : List Text) → has_text n (ks ++ w ∷ []) ≡ (has_text n ks || bytes_eq n w)
has_more n w [] = or_false (bytes_eq n w) where
  or_false : (b : Bool) → (b || false) ≡ b
  or_false true = refl
  or_false false = refl
has_more n w (k ∷ ks) = by_test (bytes_eq n k) (has_more n w ks) where
  by_test : (b : Bool) → has_text n (ks ++ w ∷ []) ≡ (has_text n ks || bytes_eq n w) → (b || has_text n (ks ++ w ∷ [])) ≡ ((b || has_text n ks) || bytes_eq n w)
  by_test true h = refl
  by_test false h = h

pub none_among : (ns : List Text) → other_names [] ns ≡ ns
none_among [] = refl
none_among (n ∷ ns) = ap (λ ms. n ∷ ms) (none_among ns)

-- a name that was there
pub name_there : (ks : List Text) (w : Text) (ns : List Text) → has_text w ks ≡ true → other_names ks (w ∷ filter (λ n. not (bytes_eq w n)) ns) ≡ other_names ks ns
name_there ks w ns h =
    ap (λ b. cond (not b) (w ∷ other_names ks (filter (λ n. not (bytes_eq w n)) ns)) (other_names ks (filter (λ n. not (bytes_eq w n)) ns))) h
    ∙ filter_both (λ n. not (has_text n ks)) (λ n. not (bytes_eq w n)) (λ n. not (has_text n ks)) (λ n. by_test n (bytes_eq w n) refl) ns
  where
    by_test : (n : Text) (b : Bool) → bytes_eq w n ≡ b → not (has_text n ks) ≡ (not b && not (has_text n ks))
    by_test n true e = ap not (ap (λ m. has_text m ks) (sym ((bytes_eq-Decides w n).0 e)) ∙ h)
    by_test n false e = refl

-- a name that comes next
pub name_next : (ks : List Text) (w : Text) (ns : List Text) → has_text w ks ≡ false → (ks ++ w ∷ []) ++ other_names (ks ++ w ∷ []) ns ≡ ks ++ other_names ks (w ∷ filter (λ n. not (bytes_eq w n)) ns)
name_next ks w ns h =
    append_assoc ks (w ∷ []) (other_names (ks ++ w ∷ []) ns)
    ∙ ap (λ ys. ks ++ ys)
    (ap (λ ys. w ∷ ys) (sym (filter_both (λ n. not (has_text n ks)) (λ n. not (bytes_eq w n)) (λ n. not (has_text n (ks ++ w ∷ []))) (λ n. ap not (has_more n w ks) ∙ neither (has_text n ks) (bytes_eq n w) (bytes_eq w n) (texts_sym n w)) ns))
    ∙ sym (ap (λ b. cond (not b) (w ∷ other_names ks (filter (λ n. not (bytes_eq w n)) ns)) (other_names ks (filter (λ n. not (bytes_eq w n)) ns))) h))
  where
    neither : (a b c : Bool) → b ≡ c → not (a || b) ≡ (not c && not a)
    neither a b true e = ap (λ d. not (a || d)) e ∙ or_true a where
      or_true : (a : Bool) → not (a || true) ≡ false
      or_true true = refl
      or_true false = refl
    neither a b false e = ap (λ d. not (a || d)) e ∙ or_none a where
      or_none : (a : Bool) → not (a || false) ≡ not a
      or_none true = refl
      or_none false = refl

pub last_is : {A : Type 0} (xs : List A) (x : A) → last_only (xs ++ x ∷ []) ≡ x ∷ []
last_is [] x = refl
last_is (y ∷ []) x = refl
last_is (y ∷ z ∷ xs) x = last_is (z ∷ xs) x

-- Texts that are joined

pub word_skipped : (out t : Text) (ts : List Text) → t ≡ [] → spaced_after out (words_of ts) ≡ spaced_after out (words_of (t ∷ ts))
word_skipped out t ts e = sym (ap (λ u. spaced_after out (words_of (u ∷ ts))) e)

words_on : (t : Text) (ts : List Text) → (t ≡ [] → ⊥) → words_of (t ∷ ts) ≡ t ∷ words_of ts
words_on [] ts h = absurd (h refl)
words_on (c ∷ t) ts h = refl

first_on : (t : Text) (us : List Text) → (t ≡ [] → ⊥) → spaced_after t us ≡ spaced (t ∷ us)
first_on t [] h = refl
first_on [] (u ∷ us) h = absurd (h refl)
first_on (c ∷ t) (u ∷ us) h = refl

pub word_first : (out new t : Text) (ts : List Text) → (t ≡ [] → ⊥) → out ≡ [] → new ≡ out ++ t → spaced_after new (words_of ts) ≡ spaced_after out (words_of (t ∷ ts))
word_first out new t ts h o e =
    ap (λ x. spaced_after x (words_of ts)) (e ∙ ap (λ x. x ++ t) o) ∙ (first_on t (words_of ts) h ∙ sym (ap (λ x. spaced_after x (words_of (t ∷ ts))) o ∙ ap (spaced_after []) (words_on t ts h)))

behind : (out t : Text) (us : List Text) → (t ≡ [] → ⊥) → (out ≡ [] → ⊥) → spaced_after (out ++ blank ∷ t) us ≡ spaced_after out (t ∷ us)
behind [] t us h o = absurd (o refl)
behind (c ∷ out) t [] h o = refl
behind (c ∷ out) t (u ∷ us) h o = ap (λ x. c ∷ x) (append_assoc out (blank ∷ t) (blank ∷ spaced (u ∷ us)))

pub word_next : (out new t : Text) (ts : List Text) → (t ≡ [] → ⊥) → (out ≡ [] → ⊥) → new ≡ (out ++ blank ∷ []) ++ t → spaced_after new (words_of ts) ≡ spaced_after out (words_of (t ∷ ts))
word_next out new t ts h o e =
    ap (λ x. spaced_after x (words_of ts)) (e ∙ append_assoc out (blank ∷ []) t) ∙ (behind out t (words_of ts) h o ∙ sym (ap (spaced_after out) (words_on t ts h)))

pub spaced_begins : (ts : List Text) → spaced_after [] ts ≡ spaced ts
spaced_begins [] = refl
spaced_begins (t ∷ ts) = refl

pub joined_some : (ts : List Text) → (ts ≡ [] → ⊥) → joined_texts ts ≡ Some (spaced (words_of ts))
joined_some [] h = absurd (h refl)
joined_some (t ∷ ts) h = refl
