-- What a string of JSON holds is UTF-8, where the text is.
use Rattle.std.proofs.Common.{◌≡◌, ◌<◌, ◌+◌, ℕ, List, [], ◌∷◌, ◌++◌, Bool, true, false, cond, ◌&&◌, ◌==◌, length, drop, get_or, Option, Some, None, refl, sym, ap, ◌∙◌, subst, arith, append_assoc, append-nil, length-append}
use Rattle.std.specs.Prelude.{option_and_then, nat_lt}
use Rattle.std.specs.Char.{IsScalar, encode_utf8, digit_value, is_digit}
use Rattle.std.specs.Str.{IsUtf8}
use Rattle.std.proofs.lemmas.Bool.Decides.{nat_tests}
use Rattle.std.proofs.lemmas.List.{take_at, drop_at, get_or_at}
use Rattle.std.proofs.lemmas.Str.{IsUtf8-append, IsUtf8-encode, IsUtf8-take, IsUtf8-drop, IsCharBoundary-before_ascii, IsCharBoundary-after_ascii, encode_ascii}
use Rattle.json.specs.Text.{code_unit, short_escape, is_high_surrogate, is_low_surrogate, surrogate_pair, Within, plain, after_backslash, after_u, after_high, prepend, content}

low : (c : ℕ) → c < 128 → IsScalar c
low c h = grind (arith, nat_tests)

pub lone_ascii : (c : ℕ) → c < 128 → IsUtf8 (c ∷ [])
lone_ascii c h = subst IsUtf8 (encode_ascii c h) (IsUtf8-encode c (low c h))

-- a text may be cut on both sides of an ASCII byte
pub beside_ascii : (pre : List ℕ) (x : ℕ) (xs : List ℕ) → x < 128 → IsUtf8 (pre ++ x ∷ xs) → IsUtf8 pre × IsUtf8 xs
beside_ascii pre x xs h u =
    let here : get_or (pre ++ x ∷ xs) (length pre) 0 ≡ x = get_or_at pre x xs 0 (length pre) refl in
    let ascii : get_or (pre ++ x ∷ xs) (length pre) 0 < 128 = omega (arith, here, h) in
    let in_it : length pre < length (pre ++ x ∷ xs) = omega (arith, length-append pre (x ∷ xs)) in
    let front = IsUtf8-take (pre ++ x ∷ xs) (length pre) u (IsCharBoundary-before_ascii _ (length pre) in_it ascii) in
    let back = IsUtf8-drop (pre ++ x ∷ xs) (length pre + 1) u (IsCharBoundary-after_ascii _ (length pre) u in_it ascii) in
    let one_more : length (pre ++ x ∷ []) ≡ length pre + 1 = length-append pre (x ∷ []) in
    let left : drop (length pre + 1) (pre ++ x ∷ xs) ≡ xs = ap (drop (length pre + 1)) (sym (append_assoc pre (x ∷ []) xs)) ∙ drop_at (pre ++ x ∷ []) xs (length pre + 1) one_more in
    (subst IsUtf8 (take_at pre (x ∷ xs) (length pre) refl) front, subst IsUtf8 left back)

after_ascii : (x : ℕ) (xs : List ℕ) → x < 128 → IsUtf8 (x ∷ xs) → IsUtf8 xs
after_ascii x xs h u = (beside_ascii [] x xs h u).1

prepended : (front : List ℕ) (o : Option (List ℕ)) (s : List ℕ) → prepend front o ≡ Some s → (t : List ℕ) × (o ≡ Some t) × (front ++ t ≡ s)
prepended front (Some t) s e = (t, refl, cc)
prepended front None s e = let r : ⊥ = cc in absurd r

and_then : {A B : Type 0} (f : A → Option B) (o : Option A) (y : B) → option_and_then f o ≡ Some y → (x : A) × (o ≡ Some x) × (f x ≡ Some y)
and_then f (Some x) y e = (x, refl, e)
and_then f None y e = let r : ⊥ = cc in absurd r

digit_ascii : (c : ℕ) → is_digit c 16 ≡ true → c < 128
digit_ascii c h = grind (arith, nat_tests, h)

four : (p q r s : Bool) (u v : ℕ) → cond (p && q && r && s) (Some u) None ≡ Some v → (p ≡ true) × (q ≡ true) × (r ≡ true) × (s ≡ true) × (u ≡ v)
four true true true true u v e = (refl, refl, refl, refl, cc)
four true true true false u v e = let r : ⊥ = cc in absurd r
four true true false s u v e = let r : ⊥ = cc in absurd r
four true false r s u v e = let r : ⊥ = cc in absurd r
four false q r s u v e = let r : ⊥ = cc in absurd r

less_than : (a b : ℕ) → nat_lt a b ≡ true → a < b
less_than a b h = grind (arith, nat_tests, h)

unit_small : (a b c d u : ℕ) → code_unit a b c d ≡ Some u → (a < 128) × (b < 128) × (c < 128) × (d < 128) × (u < 65536)
unfolding code_unit
unit_small a b c d u e =
    let f = four (is_digit a 16) (is_digit b 16) (is_digit c 16) (is_digit d 16) _ u e in
    let p : digit_value a < 16 = less_than _ 16 f.0 in
    let q : digit_value b < 16 = less_than _ 16 f.1 in
    let r : digit_value c < 16 = less_than _ 16 f.2 in
    let s : digit_value d < 16 = less_than _ 16 f.3 in
    (digit_ascii a f.0, digit_ascii b f.1, digit_ascii c f.2, digit_ascii d f.3, omega (arith, p, q, r, s, f.4))

unit_scalar : (u : ℕ) → u < 65536 → is_high_surrogate u ≡ false → is_low_surrogate u ≡ false → IsScalar u
unit_scalar u h p q = grind (arith, nat_tests, h, p, q)

pair_scalar : (h l : ℕ) → is_high_surrogate h ≡ true → is_low_surrogate l ≡ true → IsScalar (surrogate_pair h l)
pair_scalar h l p q = grind (arith, nat_tests, p, q)

same_byte : (x y : ℕ) → (x == y) ≡ true → x ≡ y
same_byte x y h = grind (arith, nat_tests, h)

either_way : (b : Bool) (o p : Option ℕ) (c : ℕ) (P : Type 0) → (b ≡ true → o ≡ Some c → P) → (b ≡ false → p ≡ Some c → P) → cond b o p ≡ Some c → P
either_way true o p c P f g e = f refl e
either_way false o p c P f g e = g refl e

some_is : (x y : ℕ) → (let o : Option ℕ = Some x in o ≡ Some y) → x ≡ y
some_is x y e = cc

short_ascii : (x c : ℕ) → short_escape x ≡ Some c → (c < 128) × (x < 128)
unfolding short_escape
short_ascii x c e = grind (arith, nat_tests, e)

-- what is ready to be read: the text so far with what is left, or both apart
abbrev Ready : Within → List ℕ → List ℕ → Type 0
Ready plain pre xs = IsUtf8 (pre ++ xs)
Ready after_backslash pre xs = IsUtf8 pre × IsUtf8 xs
Ready after_u pre xs = IsUtf8 pre × IsUtf8 xs
Ready (after_high h) pre xs = IsUtf8 pre × IsUtf8 xs × (is_high_surrogate h ≡ true)

-- with a character more
more_text : (pre piece s t : List ℕ) → piece ++ t ≡ s → IsUtf8 ((pre ++ piece) ++ t) → IsUtf8 (pre ++ s)
more_text pre piece s t e u = subst IsUtf8 (append_assoc pre piece t ∙ ap (λ l. pre ++ l) e) u

joined : (pre piece xs : List ℕ) → IsUtf8 pre → IsUtf8 piece → IsUtf8 xs → IsUtf8 ((pre ++ piece) ++ xs)
joined pre piece xs p q r = IsUtf8-append (pre ++ piece) xs (IsUtf8-append pre piece p q) r

-- the rest of a string, of which it holds
abbrev Keeps : List ℕ → Option (List ℕ) → Type 0
Keeps pre o = (t : List ℕ) → o ≡ Some t → IsUtf8 (pre ++ t)

plain_step : (q b c : Bool) (x : ℕ) (pre s : List ℕ) (escaped rest : Option (List ℕ)) → (q ≡ true → IsUtf8 pre) → (b ≡ true → Keeps pre escaped) → Keeps (pre ++ x ∷ []) rest → cond q (Some []) (cond b escaped (cond c None (prepend (x ∷ []) rest))) ≡ Some s → IsUtf8 (pre ++ s)
plain_step true b c x pre s escaped rest f g h e = let is : [] ≡ s = cc in subst IsUtf8 (sym (append-nil pre) ∙ ap (λ l. pre ++ l) is) (f refl)
plain_step false true c x pre s escaped rest f g h e = g refl s e
plain_step false false true x pre s escaped rest f g h e = let r : ⊥ = cc in absurd r
plain_step false false false x pre s escaped rest f g h e = let p = prepended (x ∷ []) rest s e in more_text pre (x ∷ []) s p.0 p.2 (h p.0 p.1)

escape_step : (b : Bool) (pre s : List ℕ) (unit : Option (List ℕ)) (short : Option ℕ) (rest : Option (List ℕ)) → (b ≡ true → Keeps pre unit) → ((c : ℕ) → short ≡ Some c → Keeps (pre ++ c ∷ []) rest) → cond b unit (option_and_then (λ c. prepend (c ∷ []) rest) short) ≡ Some s → IsUtf8 (pre ++ s)
escape_step true pre s unit short rest f g e = f refl s e
escape_step false pre s unit short rest f g e =
    let c = and_then (λ c. prepend (c ∷ []) rest) short s e in
    let p = prepended (c.0 ∷ []) rest s c.2 in
    more_text pre (c.0 ∷ []) s p.0 p.2 (g c.0 c.1 p.0 p.1)

unit_step : (h l : Bool) (u : ℕ) (pre s : List ℕ) (high rest : Option (List ℕ)) → (h ≡ true → Keeps pre high) → (h ≡ false → l ≡ false → Keeps (pre ++ encode_utf8 u) rest) → cond h high (cond l None (prepend (encode_utf8 u) rest)) ≡ Some s → IsUtf8 (pre ++ s)
unit_step true l u pre s high rest f g e = f refl s e
unit_step false true u pre s high rest f g e = let r : ⊥ = cc in absurd r
unit_step false false u pre s high rest f g e = let p = prepended (encode_utf8 u) rest s e in more_text pre (encode_utf8 u) s p.0 p.2 (g refl refl p.0 p.1)

both_true : (a b : Bool) (o : Option (List ℕ)) (s : List ℕ) → cond (a && b) o None ≡ Some s → (a ≡ true) × (b ≡ true) × (o ≡ Some s)
both_true true true o s e = (refl, refl, e)
both_true true false o s e = let r : ⊥ = cc in absurd r
both_true false b o s e = let r : ⊥ = cc in absurd r

if_low : (l : Bool) (o : Option (List ℕ)) (s : List ℕ) → cond l o None ≡ Some s → (l ≡ true) × (o ≡ Some s)
if_low true o s e = (refl, e)
if_low false o s e = let r : ⊥ = cc in absurd r

content_text : (w : Within) (pre xs s : List ℕ) → Ready w pre xs → content w xs ≡ Some s → IsUtf8 (pre ++ s)
unfolding content
content_text plain pre [] s u e = let r : ⊥ = cc in absurd r
content_text plain pre (x ∷ xs) s u e =
    plain_step (x == 34) (x == 92) (nat_lt x 32) x pre s (content after_backslash xs) (content plain xs)
    (λ q. (beside_ascii pre x xs (omega (arith, same_byte x 34 q)) u).0)
    (λ b t g. content_text after_backslash pre xs t (beside_ascii pre x xs (omega (arith, same_byte x 92 b)) u) g)
    (λ t g. content_text plain (pre ++ x ∷ []) xs t (subst IsUtf8 (sym (append_assoc pre (x ∷ []) xs)) u) g)
    e
content_text after_backslash pre [] s u e = let r : ⊥ = cc in absurd r
content_text after_backslash pre (x ∷ xs) s u e =
    escape_step (x == 117) pre s (content after_u xs) (short_escape x) (content plain xs)
    (λ b t g. content_text after_u pre xs t (u.0, after_ascii x xs (omega (arith, same_byte x 117 b)) u.1) g)
    (λ c short t g. content_text plain (pre ++ c ∷ []) xs t (joined pre (c ∷ []) xs u.0 (lone_ascii c (short_ascii x c short).0) (after_ascii x xs (short_ascii x c short).1 u.1)) g)
    e
content_text after_u pre [] s u e = let r : ⊥ = cc in absurd r
content_text after_u pre (a ∷ []) s u e = let r : ⊥ = cc in absurd r
content_text after_u pre (a ∷ b ∷ []) s u e = let r : ⊥ = cc in absurd r
content_text after_u pre (a ∷ b ∷ c ∷ []) s u e = let r : ⊥ = cc in absurd r
content_text after_u pre (a ∷ b ∷ c ∷ d ∷ xs) s u e =
    let unit = and_then _ (code_unit a b c d) s e in
    let small = unit_small a b c d unit.0 unit.1 in
    let left = after_ascii d xs small.3 (after_ascii c _ small.2 (after_ascii b _ small.1 (after_ascii a _ small.0 u.1))) in
    unit_step (is_high_surrogate unit.0) (is_low_surrogate unit.0) unit.0 pre s (content (after_high unit.0) xs) (content plain xs)
    (λ h t g. content_text (after_high unit.0) pre xs t (u.0, left, h) g)
    (λ h l t g. content_text plain (pre ++ encode_utf8 unit.0) xs t (joined pre (encode_utf8 unit.0) xs u.0 (IsUtf8-encode unit.0 (unit_scalar unit.0 small.4 h l)) left) g)
    unit.2
content_text (after_high h) pre [] s u e = let r : ⊥ = cc in absurd r
content_text (after_high h) pre (p ∷ []) s u e = let r : ⊥ = cc in absurd r
content_text (after_high h) pre (p ∷ q ∷ []) s u e = let r : ⊥ = cc in absurd r
content_text (after_high h) pre (p ∷ q ∷ a ∷ []) s u e = let r : ⊥ = cc in absurd r
content_text (after_high h) pre (p ∷ q ∷ a ∷ b ∷ []) s u e = let r : ⊥ = cc in absurd r
content_text (after_high h) pre (p ∷ q ∷ a ∷ b ∷ c ∷ []) s u e = let r : ⊥ = cc in absurd r
content_text (after_high h) pre (p ∷ q ∷ a ∷ b ∷ c ∷ d ∷ xs) s u e =
    let marks = both_true (p == 92) (q == 117) _ s e in
    let unit = and_then _ (code_unit a b c d) s marks.2 in
    let small = unit_small a b c d unit.0 unit.1 in
    let is_low = if_low (is_low_surrogate unit.0) _ s unit.2 in
    let front = after_ascii q _ (omega (arith, same_byte q 117 marks.1)) (after_ascii p _ (omega (arith, same_byte p 92 marks.0)) u.1) in
    let left = after_ascii d xs small.3 (after_ascii c _ small.2 (after_ascii b _ small.1 (after_ascii a _ small.0 front))) in
    let tail = prepended (encode_utf8 (surrogate_pair h unit.0)) (content plain xs) s is_low.1 in
    more_text pre (encode_utf8 (surrogate_pair h unit.0)) s tail.0 tail.2
    (content_text plain (pre ++ encode_utf8 (surrogate_pair h unit.0)) xs tail.0 (joined pre _ xs u.0 (IsUtf8-encode (surrogate_pair h unit.0) (pair_scalar h unit.0 u.2 is_low.0)) left) tail.1)

-- the string that begins behind a quotation mark
pub string_text : (xs s : List ℕ) → IsUtf8 xs → content plain xs ≡ Some s → IsUtf8 s
string_text xs s u e = content_text plain [] xs s u e
