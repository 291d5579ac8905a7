-- Names among the keys of a set, as texts and as the strings that hold them.
use Rattle.std.proofs.Common.{◌≡◌, ℕ, ◌≤◌, List, [], ◌∷◌, ◌++◌, Bool, true, false, cond, map, length, refl, sym, ap, ◌∙◌, arith, String, Global, string_bytes, Some, None}
use Rattle.std.specs.Prelude.{nat_lt, if◌then◌else◌, unwrap_or, position}
use Rattle.std.specs.List.{list_any, position_or_len}
use Rattle.std.specs.Str.{bytes_eq, chars, IsUtf8}
use Rattle.std.proofs.lemmas.List.{map-append}
use Rattle.std.proofs.lemmas.List.Recursion.{is_position_or_len}
use Rattle.std.proofs.lemmas.List.Sums.{prefix_len-le-length}
use Rattle.std.proofs.lemmas.Str.{IsUtf8-string_bytes}
use Rattle.gl_base.proofs.Chars.{bytes_eq-chars}
use Rattle.gl_base.specs.Names.{has_text}
use Rattle.gl_base.specs.Texts.{Text}
use Rattle.gl_wire.specs.Symbols.{with_name, place_of}

-- the texts that strings hold
abbrev pub seen : List (String Global) → List Text
seen ks = map (λ k. chars (string_bytes k)) ks

same : (bs : List ℕ) → IsUtf8 bs → (k : String Global) → bytes_eq bs (string_bytes k) ≡ bytes_eq (chars bs) (chars (string_bytes k))
same bs u k = bytes_eq-chars bs (string_bytes k) u (IsUtf8-string_bytes k)

pub has_text-seen : (bs : List ℕ) → IsUtf8 bs → (ks : List (String Global)) → list_any (λ k. bytes_eq bs (string_bytes k)) ks ≡ has_text (chars bs) (seen ks)
has_text-seen bs u [] = refl
has_text-seen bs u (k ∷ ks) = rw (same bs u k, has_text-seen bs u ks) refl

place-seen : (bs : List ℕ) → IsUtf8 bs → (ks : List (String Global)) → place_of (seen ks) (chars bs) ≡ position_or_len (λ k. bytes_eq bs (string_bytes k)) ks
place-seen bs u ks =
    is_position_or_len (λ xs. place_of (seen xs) (chars bs)) (λ k. bytes_eq bs (string_bytes k)) refl
    (λ k xs. rw (same bs u k) (ap (λ n. cond (bytes_eq (chars bs) (chars (string_bytes k))) 0 n) (omega arith))) ks

found : (b : Bool) (i n : ℕ) → nat_lt i n ≡ b → i ≤ n → unwrap_or (cond b (Some i) None) n ≡ i
found true i n e h = refl
found false i n e h = grind arith

-- the place of a name: where the set finds it, or else how many keys it has
pub place_found : (bs : List ℕ) → IsUtf8 bs → (ks : List (String Global)) → unwrap_or (position (λ k. bytes_eq bs (string_bytes k)) ks) (length ks) ≡ place_of (seen ks) (chars bs)
place_found bs u ks =
    let p : String Global → Bool = λ k. bytes_eq bs (string_bytes k) in
    found (nat_lt (position_or_len p ks) (length ks)) (position_or_len p ks) (length ks) refl (prefix_len-le-length _ ks) ∙ sym (place-seen bs u ks)

seen_if : (b : Bool) (ks : List (String Global)) (k : String Global) → seen (if b then ks else ks ++ k ∷ []) ≡ (if b then seen ks else seen ks ++ chars (string_bytes k) ∷ [])
seen_if true ks k = refl
seen_if false ks k = map-append (λ j. chars (string_bytes j)) ks (k ∷ [])

-- a key that is inserted
pub seen-inserted : (ks : List (String Global)) (k : String Global) → seen (if list_any (λ j. bytes_eq (string_bytes k) (string_bytes j)) ks then ks else ks ++ k ∷ []) ≡ with_name (seen ks) (chars (string_bytes k))
seen-inserted ks k = seen_if _ ks k ∙ rw (has_text-seen (string_bytes k) (IsUtf8-string_bytes k) ks) refl

-- the same, where the texts are known by other names
pub has_name : (bs : List ℕ) → IsUtf8 bs → (ks : List (String Global)) (n : Text) (ns : List Text) → chars bs ≡ n → seen ks ≡ ns → list_any (λ k. bytes_eq bs (string_bytes k)) ks ≡ has_text n ns
has_name bs u ks n ns e f = has_text-seen bs u ks ∙ ap (λ m. has_text m (seen ks)) e ∙ ap (has_text n) f

pub place_name : (bs : List ℕ) → IsUtf8 bs → (ks : List (String Global)) (n : Text) (ns : List Text) → chars bs ≡ n → seen ks ≡ ns → unwrap_or (position (λ k. bytes_eq bs (string_bytes k)) ks) (length ks) ≡ place_of ns n
place_name bs u ks n ns e f = place_found bs u ks ∙ ap (λ m. place_of (seen ks) m) e ∙ ap (λ l. place_of l n) f

pub inserted_name : (ks : List (String Global)) (k : String Global) (n : Text) (ns : List Text) → chars (string_bytes k) ≡ n → seen ks ≡ ns → seen (if list_any (λ j. bytes_eq (string_bytes k) (string_bytes j)) ks then ks else ks ++ k ∷ []) ≡ with_name ns n
inserted_name ks k n ns e f = seen-inserted ks k ∙ ap (λ m. with_name (seen ks) m) e ∙ ap (λ l. with_name l n) f
