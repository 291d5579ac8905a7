-- Strings are read as they were.
use Rattle.std.proofs.Common.{◌≡◌, ◌<◌, ◌≤◌, ◌-◌, ℕ, suc, List, [], ◌∷◌, ◌++◌, Bool, true, false, Some, length, take, get_or, refl, sym, ap, ◌∙◌, append_assoc, arith, eqb, ltb, length-append, append-nil}
use Rattle.std.specs.Prelude.{not, ◌&&◌, ◌==◌, codes, encode_utf8, if◌then◌else◌}
use Rattle.std.specs.List.{list_all, flat_map}
use Rattle.std.proofs.lemmas.Bool.Decides.{nat_tests}
use Rattle.std.proofs.lemmas.Str.{encode_ascii, inside_one, length-encode, len_utf8_bounds, encodes-append}
use Rattle.gl_base.specs.Texts.{bytes_of}
use Rattle.gl_ast.specs.Canon.{string_char, string_text}
use Rattle.gl_ast.specs.Scans.{begins, after_closing}
use Rattle.gl_ast.specs.TokenText.{unescaped, string_of}
use Rattle.gl_ast.specs.Words.{after_string}
use Rattle.gl_ast.proofs.Forward.{both}
use Rattle.gl_show.specs.Marking.{last_is}
use Rattle.gl_show.proofs.Numbers.{take_front}
use Rattle.gl_show.proofs.Scanning.{bytes_then}

-- bytes that are not ASCII
abbrev pub all_high : List ℕ → Bool
all_high bs = list_all (λ b. not (ltb b 128)) bs

high_within : (c : ℕ) (bs : List ℕ) → ((k : ℕ) → k < length bs → 128 ≤ get_or bs k 0) → all_high bs ≡ true
high_within c [] h = refl
high_within c (b ∷ bs) h =
    let n : 128 ≤ b = (let z : 0 < length (b ∷ bs) = omega arith in h 0 z) in
    let k : ltb b 128 ≡ false = grind (arith, nat_tests) in
    rw k (high_within c bs (λ i l. let m : suc i < length (b ∷ bs) = omega arith in h (suc i) m))

-- a character that is not ASCII has no byte that is
pub high_bytes : (c : ℕ) → 128 ≤ c → all_high (encode_utf8 c) ≡ true
high_bytes c h = high_within c (encode_utf8 c) (λ k l. byte_high k l (get_or (encode_utf8 c) k 0) refl)
  where
    byte_high : (k : ℕ) → k < length (encode_utf8 c) → (b : ℕ) → get_or (encode_utf8 c) k 0 ≡ b → 128 ≤ b
    byte_high k l b e = low_case k l b e (ltb b 128) refl
      where
        low_case : (k : ℕ) → k < length (encode_utf8 c) → (b : ℕ) → get_or (encode_utf8 c) k 0 ≡ b → (t : Bool) → ltb b 128 ≡ t → 128 ≤ b
        low_case k l b e true low =
            let n : get_or (encode_utf8 c) k 0 < 128 = grind (arith, nat_tests) in
            let same = inside_one c [] (encode_utf8 c) k (sym (append-nil (encode_utf8 c))) l n in
            absurd (omega arith)
        low_case k l b e false low = grind (arith, nat_tests)

-- a byte that is not ASCII neither ends a string nor takes away a quote's meaning
close_high : (prev : Bool) (b : ℕ) (bs l : List ℕ) → all_high (b ∷ bs) ≡ true → after_closing 34 prev ((b ∷ bs) ++ l) ≡ after_closing 34 false l
close_high prev b [] l h =
    let q : eqb b 34 ≡ false = grind (arith, nat_tests) in
    let s : eqb b 92 ≡ false = grind (arith, nat_tests) in
    rw (q, s) refl
close_high prev b (d ∷ bs) l h =
    let k = both (not (ltb b 128)) (all_high (d ∷ bs)) h in
    let low = k.0 in
    let q : eqb b 34 ≡ false = grind (arith, nat_tests) in
    let s : eqb b 92 ≡ false = grind (arith, nat_tests) in
    rw (q, s) (close_high false d bs l k.1)

-- any character but the quote
close_char : (prev : Bool) (c : ℕ) (l : List ℕ) → eqb c 34 ≡ false → after_closing 34 prev (encode_utf8 c ++ l) ≡ after_closing 34 (c == 92) l
close_char prev c l other = low_case (ltb c 128) refl
  where
    some_case : (bs : List ℕ) → encode_utf8 c ≡ bs → 128 ≤ c → after_closing 34 prev (bs ++ l) ≡ after_closing 34 (c == 92) l
    some_case [] e high = let n = len_utf8_bounds c in absurd (omega (arith, n.0, length-encode c, ap length e))
    some_case (b ∷ bs) e high =
        let s : eqb c 92 ≡ false = grind (arith, nat_tests) in
        rw s (close_high prev b bs l (ap all_high (sym e) ∙ high_bytes c high))

    low_case : (t : Bool) → ltb c 128 ≡ t → after_closing 34 prev (encode_utf8 c ++ l) ≡ after_closing 34 (c == 92) l
    low_case true low = let n : c < 128 = grind (arith, nat_tests) in ap (λ bs. after_closing 34 prev (bs ++ l)) (encode_ascii c n) ∙ rw other refl
    low_case false low = let n : 128 ≤ c = grind (arith, nat_tests) in some_case (encode_utf8 c) refl n

-- a text between quotes ends at the second of them
pub close_text : (s : List ℕ) (prev : Bool) (rest : List ℕ) → last_is prev s ≡ false → after_closing 34 prev (bytes_of (flat_map string_char s) ++ 34 ∷ rest) ≡ Some rest
close_text [] prev rest h = rw h refl
close_text (c ∷ cs) prev rest h = quote_case (c == 34) refl (close_text cs (c == 92) rest h) (λ (k : c ≡ 34). close_text cs false rest (ap (λ (n : ℕ). last_is (n == 92) cs) (sym k) ∙ h))
  where
    quote_case : (t : Bool) → (c == 34) ≡ t → after_closing 34 (c == 92) (bytes_of (flat_map string_char cs) ++ 34 ∷ rest) ≡ Some rest → (c ≡ 34 → after_closing 34 false (bytes_of (flat_map string_char cs) ++ 34 ∷ rest) ≡ Some rest)
        → after_closing 34 prev (bytes_of ((if t then codes "\\\"" else c ∷ []) ++ flat_map string_char cs) ++ 34 ∷ rest) ≡ Some rest
    quote_case true e more quoted =
        let same : c ≡ 34 = grind (arith, nat_tests) in
        ap (λ l. after_closing 34 prev (l ++ 34 ∷ rest)) (bytes_then (codes "\\\"") (flat_map string_char cs) refl) ∙ quoted same
    quote_case false e more quoted =
        ap (λ l. after_closing 34 prev l) (append_assoc (encode_utf8 c) (bytes_of (flat_map string_char cs)) (34 ∷ rest))
        ∙ close_char prev c (bytes_of (flat_map string_char cs) ++ 34 ∷ rest) e ∙ more

no_quote : (s : List ℕ) → begins (34 ∷ []) (flat_map string_char s) ≡ false
no_quote [] = refl
no_quote (c ∷ cs) = first_case (c == 34) refl
  where
    first_case : (t : Bool) → (c == 34) ≡ t → begins (34 ∷ []) ((if t then codes "\\\"" else c ∷ []) ++ flat_map string_char cs) ≡ false
    first_case true e = refl
    first_case false e = let k : eqb 34 c ≡ false = grind (arith, nat_tests) in rw k refl

pub unescaped_text : (s : List ℕ) → unescaped 34 (flat_map string_char s) ≡ s
unescaped_text [] = refl
unescaped_text (c ∷ cs) = kept_case (c == 34) refl (unescaped_text cs)
  where
    never : (b : Bool) → (b && false) ≡ false
    never true = refl
    never false = refl

    kept_case : (t : Bool) → (c == 34) ≡ t → unescaped 34 (flat_map string_char cs) ≡ cs → unescaped 34 ((if t then codes "\\\"" else c ∷ []) ++ flat_map string_char cs) ≡ c ∷ cs
    kept_case true e more = let same : 34 ≡ c = grind (arith, nat_tests) in ap (λ l. 34 ∷ l) more ∙ ap (λ n. n ∷ cs) same
    kept_case false e more = rw (no_quote cs, never (c == 92)) (ap (λ l. c ∷ l) more)

-- the string of a text
pub string_is : (s : List ℕ) → string_of (string_text s) ≡ s
string_is s =
    let n : length (flat_map string_char s ++ 34 ∷ []) - 1 ≡ length (flat_map string_char s) = omega (arith, length-append (flat_map string_char s) (34 ∷ [])) in
    ap (λ m. unescaped 34 (take m (flat_map string_char s ++ 34 ∷ []))) n ∙ ap (λ l. unescaped 34 l) (take_front (flat_map string_char s) (34 ∷ [])) ∙ unescaped_text s

-- its bytes
pub string_spelled : (s : List ℕ) → bytes_of (string_text s) ≡ 34 ∷ (bytes_of (flat_map string_char s) ++ 34 ∷ [])
string_spelled s =
    let close : bytes_of (flat_map string_char s ++ 34 ∷ []) ≡ bytes_of (flat_map string_char s) ++ 34 ∷ [] = encodes-append (flat_map string_char s) (34 ∷ []) ∙ ap (λ l. bytes_of (flat_map string_char s) ++ l) (bytes_then (34 ∷ []) [] refl) in
    bytes_then (34 ∷ []) (flat_map string_char s ++ 34 ∷ []) refl ∙ ap (λ l. 34 ∷ l) close

pub string_then : (s rest : List ℕ) → last_is false s ≡ false → after_string 34 (34 ∷ (bytes_of (flat_map string_char s) ++ 34 ∷ rest)) ≡ Some rest
unfolding after_string
string_then s rest h = close_text s false rest h
