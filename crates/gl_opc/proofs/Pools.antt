-- Pools in which each text stands once: where a text stands, and what is added.
use Rattle.std.proofs.Common.{◌≡◌, ℕ, suc, ◌≤◌, List, [], ◌∷◌, ◌++◌, Bool, true, false, cond, true≢false, Option, Some, None, ◌||◌, map, length, slice_get, append-nil, refl, sym, ap, subst, ◌∙◌, inl, inr, arith, String, Global, string_bytes}
use Rattle.std.specs.Prelude.{MatchOption, if◌then◌else◌, nat_lt, position}
use Rattle.std.specs.List.{list_any, position_or_len}
use Rattle.std.specs.Str.{bytes_eq, chars, IsUtf8}
use Rattle.std.proofs.lemmas.List.{map-append, length-map}
use Rattle.std.proofs.lemmas.List.Recursion.{is_position_or_len}
use Rattle.std.proofs.lemmas.Slice.Eq.{bytes_eq-Decides}
use Rattle.std.proofs.lemmas.Str.{IsUtf8-string_bytes}
use Rattle.gl_base.proofs.Chars.{bytes_eq-chars}
use Rattle.gl_base.specs.Names.{has_text}
use Rattle.gl_base.specs.Texts.{Text}
use Rattle.gl_meaning.specs.Known.{Among}
use Rattle.gl_meaning.specs.Laws.{NoRepeat}
use Rattle.gl_meaning.proofs.Once.{no_repeat_append}
use Rattle.gl_wire.specs.Symbols.{place_of}
use Rattle.gl_opc.specs.Piece.{missing}
use Rattle.gl_opc.proofs.NamePlaces.{seen, place_in_index}

-- Where a text stands

held_at : (b : Bool) (t : Text) (ts : List Text) (s : Text) → bytes_eq s t ≡ b → slice_get (ts ++ missing ts s) (place_of ts s) ≡ Some s
    → slice_get ((t ∷ ts) ++ (if b || has_text s ts then [] else s ∷ [])) (if b then 0 else suc (place_of ts s)) ≡ Some s
held_at true t ts s e h = ap Some (sym ((bytes_eq-Decides s t).0 e))
held_at false t ts s e h = h

pub held : (pool : List Text) (s : Text) → slice_get (pool ++ missing pool s) (place_of pool s) ≡ Some s
held [] s = refl
held (t ∷ ts) s = held_at (bytes_eq s t) t ts s refl (held ts s)

-- Nothing stands twice

or_true : (b : Bool) → (b || true) ≡ true
or_true true = refl
or_true false = refl

among_has : (t : Text) (pool : List Text) → Among t pool → has_text t pool ≡ true
among_has t [] h = absurd h
among_has t (u ∷ us) h = elim h [
  | inl e ↦ ap (λ b. b || has_text t us) ((bytes_eq-Decides t u).1 e)
  | inr m ↦ ap (λ b. bytes_eq t u || b) (among_has t us m) ∙ or_true (bytes_eq t u)
]

apart : (t : Text) (pool : List Text) → has_text t pool ≡ false → (i : Text) → Among i pool → Among i (t ∷ []) → ⊥
apart t pool e i m n = elim n [
  | inl h ↦ true≢false (sym (among_has t pool (subst (λ x. Among x pool) h m)) ∙ e)
  | inr h ↦ h
]

once_more : (b : Bool) (t : Text) (pool : List Text) → has_text t pool ≡ b → NoRepeat pool → NoRepeat (pool ++ (if b then [] else t ∷ []))
once_more true t pool e h = subst NoRepeat (sym (append-nil pool)) h
once_more false t pool e h = no_repeat_append pool (t ∷ []) h (λ a. a, tt) (apart t pool e)

-- also with what is added
pub once_added : (t : Text) (pool : List Text) → NoRepeat pool → NoRepeat (pool ++ missing pool t)
once_added t pool h = once_more (has_text t pool) t pool refl h

-- What a set of strings finds

place_is : (t : Text) (pool : List Text) → position_or_len (λ u. bytes_eq t u) pool ≡ place_of pool t
place_is t pool = sym (is_position_or_len (λ us. place_of us t) (λ u. bytes_eq t u) refl (λ u us. ap (λ n. cond (bytes_eq t u) 0 n) (omega arith)) pool)

below_if : (b c : Bool) (i n : ℕ) → c ≡ nat_lt i n → (b || c) ≡ nat_lt (if b then 0 else suc i) (suc n)
below_if true c i n e = grind arith
below_if false c i n e = e ∙ (grind arith)

-- the place is one of the pool exactly where the text stands in it
has_below : (t : Text) (pool : List Text) → has_text t pool ≡ nat_lt (place_of pool t) (length pool)
has_below t [] = refl
has_below t (u ∷ us) = below_if (bytes_eq t u) (has_text t us) (place_of us t) (length us) (has_below t us)

place_within : (t : Text) (pool : List Text) → place_of pool t ≤ length pool
place_within t [] = omega arith
place_within t (u ∷ us) = under (bytes_eq t u) (place_within t us) where
  under : (b : Bool) → place_of us t ≤ length us → (if b then 0 else suc (place_of us t)) ≤ suc (length us)
  under true h = omega arith
  under false h = omega (arith, h)

at_or_none : (b : Bool) (i n : ℕ) → nat_lt i n ≡ b → i ≤ n → MatchOption (cond b (Some i) None) ((b ≡ false) × (n ≡ i)) (λ j. (b ≡ true) × (j ≡ i))
at_or_none true i n e h = (refl, refl)
at_or_none false i n e h = (refl, grind arith)

-- the place that is found is that of the text, which stands there; where none is found it is behind all
pub looked_up : (t : Text) (pool : List Text)
    → MatchOption (position (λ u. bytes_eq t u) pool) ((has_text t pool ≡ false) × (length pool ≡ place_of pool t)) (λ i. (has_text t pool ≡ true) × (i ≡ place_of pool t))
looked_up t pool =
    let P : ℕ → Type 0 = λ i. MatchOption (cond (nat_lt i (length pool)) (Some i) None) ((nat_lt (place_of pool t) (length pool) ≡ false) × (length pool ≡ place_of pool t)) (λ j. (nat_lt (place_of pool t) (length pool) ≡ true) × (j ≡ place_of pool t)) in
    let Q : Bool → Type 0 = λ b. MatchOption (position (λ u. bytes_eq t u) pool) ((b ≡ false) × (length pool ≡ place_of pool t)) (λ i. (b ≡ true) × (i ≡ place_of pool t)) in
    subst Q (sym (has_below t pool)) (subst P (sym (place_is t pool)) (at_or_none (nat_lt (place_of pool t) (length pool)) (place_of pool t) (length pool) refl (place_within t pool)))

-- the same, where strings are searched for one with these bytes
pub found_in : (bs : List ℕ) → IsUtf8 bs → (ks : List (String Global)) (t : Text) (pool : List Text) → chars bs ≡ t → seen ks ≡ pool → (o : Option ℕ)
    → o ≡ position (λ k. bytes_eq bs (string_bytes k)) ks
    → MatchOption o ((has_text t pool ≡ false) × (length pool ≡ place_of pool t)) (λ i. (has_text t pool ≡ true) × (i ≡ place_of pool t))
found_in bs u ks t pool e f o h =
    let P : Option ℕ → Type 0 = λ o. MatchOption o ((has_text t pool ≡ false) × (length pool ≡ place_of pool t)) (λ i. (has_text t pool ≡ true) × (i ≡ place_of pool t)) in
    subst P (sym (h ∙ place_in_index bs u ks t pool e f)) (looked_up t pool)

-- What a set of strings becomes

pub none_missing : (t : Text) (pool : List Text) → has_text t pool ≡ true → pool ≡ pool ++ missing pool t
none_missing t pool e = sym (ap (λ b. pool ++ (if b then [] else t ∷ [])) e ∙ append-nil pool)

has_seen : (bs : List ℕ) → IsUtf8 bs → (ks : List (String Global)) → list_any (λ k. bytes_eq bs (string_bytes k)) ks ≡ has_text (chars bs) (seen ks)
has_seen bs u [] = refl
has_seen bs u (k ∷ ks) = rw (bytes_eq-chars bs (string_bytes k) u (IsUtf8-string_bytes k), has_seen bs u ks) refl

seen_if : (b : Bool) (ks : List (String Global)) (k : String Global) → seen (if b then ks else ks ++ k ∷ []) ≡ seen ks ++ (if b then [] else chars (string_bytes k) ∷ [])
seen_if true ks k = sym (append-nil (seen ks))
seen_if false ks k = map-append (λ j. chars (string_bytes j)) ks (k ∷ [])

pub seen_with : (ks : List (String Global)) (k : String Global) (t : Text) (pool : List Text) → chars (string_bytes k) ≡ t → seen ks ≡ pool
    → seen (if list_any (λ j. bytes_eq (string_bytes k) (string_bytes j)) ks then ks else ks ++ k ∷ []) ≡ pool ++ missing pool t
seen_with ks k t pool e f =
    seen_if _ ks k
    ∙ (ap (λ b. seen ks ++ (if b then [] else chars (string_bytes k) ∷ [])) (has_seen (string_bytes k) (IsUtf8-string_bytes k) ks)
    ∙ (ap (λ u. seen ks ++ missing (seen ks) u) e ∙ ap (λ us. us ++ missing us t) f))

pub lengths : (ks : List (String Global)) (pool : List Text) → seen ks ≡ pool → length ks ≡ length pool
lengths ks pool e = sym (length-map ks (λ k. chars (string_bytes k))) ∙ ap length e
