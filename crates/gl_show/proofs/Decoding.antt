-- Texts are decoded as they were, and where they are written no white space stands at their ends.
use Rattle.std.proofs.Common.{◌≡◌, inl, inr, ℕ, List, [], ◌∷◌, ◌++◌, Bool, true, false, refl, ap, subst, ◌∙◌, arith}
use Rattle.std.specs.Prelude.{◌==◌, ◌&&◌, ◌||◌, codes, if◌then◌else◌}
use Rattle.std.specs.Fmt.{digits}
use Rattle.std.specs.List.{list_all}
use Rattle.std.specs.Str.{all_scalars}
use lib.Utf8.{scalar}
use Rattle.std.proofs.lemmas.Bool.Decides.{nat_tests}
use Rattle.gl_base.specs.Texts.{Text}
use Rattle.gl_ast.specs.Canon.{numbered, text_char, value_char, text_from, value_text}
use Rattle.gl_ast.specs.Grammar.{is_empty_text}
use Rattle.gl_ast.specs.Marks.{is_white}
use Rattle.gl_ast.specs.References.{references}
use Rattle.gl_ast.specs.TokenText.{decoded}
use Rattle.gl_ast.proofs.Forward.{both}
use Rattle.gl_show.proofs.Lexed.{EndsTight, IsTight}
use Rattle.gl_show.proofs.LexedExpr.{scalars_append}
use Rattle.gl_show.proofs.Runs.{in_content, in_value}
use Rattle.gl_show.proofs.Scanning.{Stops, one_of}

-- the five characters of white space
white_cases : (P : ℕ → Type 0) → P 32 → P 9 → P 10 → P 12 → P 13 → (c : ℕ) → is_white c ≡ true → P c
white_cases P a b d e f c w =
    elim (one_of (c == 32 || c == 9 || c == 10 || c == 12) (c == 13) w) [
      | inr h ↦ let s : 13 ≡ c = grind (arith, nat_tests) in subst P s f
      | inl h4 ↦ elim (one_of (c == 32 || c == 9 || c == 10) (c == 12) h4) [
        | inr h ↦ let s : 12 ≡ c = grind (arith, nat_tests) in subst P s e
        | inl h3 ↦ elim (one_of (c == 32 || c == 9) (c == 10) h3) [
          | inr h ↦ let s : 10 ≡ c = grind (arith, nat_tests) in subst P s d
          | inl h2 ↦ elim (one_of (c == 32) (c == 9) h2) [
            | inr h ↦ let s : 9 ≡ c = grind (arith, nat_tests) in subst P s b
            | inl h ↦ let s : 32 ≡ c = grind (arith, nat_tests) in subst P s a
          ]
        ]
      ]
    ]

-- how a character is written: its own reference is decoded, and no character of it ends the text
abbrev pub Writes : (ℕ → Bool) → ℕ → Text → Type 0
Writes plain c cs = ((rest : Text) → decoded (cs ++ rest) ≡ c ∷ decoded rest) × (list_all plain cs ≡ true) × (all_scalars cs ≡ true) × (is_empty_text cs ≡ false)

numbered_writes : (c : ℕ) → is_white c ≡ true → Writes in_content c (numbered c)
unfolding decoded digits
numbered_writes c w = white_cases (λ n. Writes in_content n (numbered n)) (λ rest. refl, refl, refl, refl) (λ rest. refl, refl, refl, refl) (λ rest. refl, refl, refl, refl) (λ rest. refl, refl, refl, refl) (λ rest. refl, refl, refl, refl) c w

itself : (plain : ℕ → Bool) (c : ℕ) → (c == 38) ≡ false → plain c ≡ true → scalar c ≡ true → Writes plain c (c ∷ [])
unfolding decoded
itself plain c a p s = ((λ rest. rw a refl), rw p refl, rw s refl, refl)

text_writes : (c : ℕ) → scalar c ≡ true → Writes in_content c (text_char c)
unfolding decoded references
text_writes c s = and_case (c == 38) refl
  where
    same : (P : ℕ → Type 0) (n : ℕ) → (c == n) ≡ true → P n → P c
    same P n e p = let k : n ≡ c = grind (arith, nat_tests) in subst P k p

    back_case : (t : Bool) → (c == 92) ≡ t → (c == 38) ≡ false → (c == 60) ≡ false → (c == 123) ≡ false → Writes in_content c (if t then codes "&#92;" else c ∷ [])
    back_case true e a b d = same (λ n. Writes in_content n (codes "&#92;")) 92 e (λ rest. refl, refl, refl, refl)
    back_case false e a b d = itself in_content c a (rw (b, d, e) refl) s

    brace_case : (t : Bool) → (c == 123) ≡ t → (c == 38) ≡ false → (c == 60) ≡ false → Writes in_content c (if t then codes "&#123;" else (if c == 92 then codes "&#92;" else c ∷ []))
    brace_case true e a b = same (λ n. Writes in_content n (codes "&#123;")) 123 e (λ rest. refl, refl, refl, refl)
    brace_case false e a b = back_case (c == 92) refl a b e

    less_case : (t : Bool) → (c == 60) ≡ t → (c == 38) ≡ false → Writes in_content c (if t then codes "&lt;" else (if c == 123 then codes "&#123;" else (if c == 92 then codes "&#92;" else c ∷ [])))
    less_case true e a = same (λ n. Writes in_content n (codes "&lt;")) 60 e (λ rest. refl, refl, refl, refl)
    less_case false e a = brace_case (c == 123) refl a e

    and_case : (t : Bool) → (c == 38) ≡ t → Writes in_content c (if t then codes "&amp;" else (if c == 60 then codes "&lt;" else (if c == 123 then codes "&#123;" else (if c == 92 then codes "&#92;" else c ∷ []))))
    and_case true e = same (λ n. Writes in_content n (codes "&amp;")) 38 e (λ rest. refl, refl, refl, refl)
    and_case false e = less_case (c == 60) refl e

value_writes : (c : ℕ) → scalar c ≡ true → Writes in_value c (value_char c)
unfolding decoded references
value_writes c s = and_case (c == 38) refl
  where
    same : (P : ℕ → Type 0) (n : ℕ) → (c == n) ≡ true → P n → P c
    same P n e p = let k : n ≡ c = grind (arith, nat_tests) in subst P k p

    back_case : (t : Bool) → (c == 92) ≡ t → (c == 38) ≡ false → (c == 34) ≡ false → (c == 123) ≡ false → Writes in_value c (if t then codes "&#92;" else c ∷ [])
    back_case true e a b d = same (λ n. Writes in_value n (codes "&#92;")) 92 e (λ rest. refl, refl, refl, refl)
    back_case false e a b d = itself in_value c a (rw (b, d, e) refl) s

    brace_case : (t : Bool) → (c == 123) ≡ t → (c == 38) ≡ false → (c == 34) ≡ false → Writes in_value c (if t then codes "&#123;" else (if c == 92 then codes "&#92;" else c ∷ []))
    brace_case true e a b = same (λ n. Writes in_value n (codes "&#123;")) 123 e (λ rest. refl, refl, refl, refl)
    brace_case false e a b = back_case (c == 92) refl a b e

    quote_case : (t : Bool) → (c == 34) ≡ t → (c == 38) ≡ false → Writes in_value c (if t then codes "&quot;" else (if c == 123 then codes "&#123;" else (if c == 92 then codes "&#92;" else c ∷ [])))
    quote_case true e a = same (λ n. Writes in_value n (codes "&quot;")) 34 e (λ rest. refl, refl, refl, refl)
    quote_case false e a = brace_case (c == 123) refl a e

    and_case : (t : Bool) → (c == 38) ≡ t → Writes in_value c (if t then codes "&amp;" else (if c == 34 then codes "&quot;" else (if c == 123 then codes "&#123;" else (if c == 92 then codes "&#92;" else c ∷ []))))
    and_case true e = same (λ n. Writes in_value n (codes "&amp;")) 38 e (λ rest. refl, refl, refl, refl)
    and_case false e = quote_case (c == 34) refl e

-- a text, as it is written
abbrev pub WritesText : (ℕ → Bool) → Text → Text → Type 0
WritesText plain s cs = (decoded cs ≡ s) × (list_all plain cs ≡ true) × (all_scalars cs ≡ true) × (is_empty_text cs ≡ is_empty_text s)

all_append : (p : ℕ → Bool) (xs ys : List ℕ) → list_all p xs ≡ true → list_all p ys ≡ true → list_all p (xs ++ ys) ≡ true
all_append p [] ys a b = b
all_append p (x ∷ xs) ys a b = let h = both (p x) (list_all p xs) a in let k : p x ≡ true = h.0 in rw k (all_append p xs ys h.1 b)

some_append : (xs ys : Text) → is_empty_text xs ≡ false → is_empty_text (xs ++ ys) ≡ false
some_append [] ys e = cc
some_append (x ∷ xs) ys e = refl

writes_more : (plain : ℕ → Bool) (c : ℕ) (s xs ys : Text) → Writes plain c xs → WritesText plain s ys → WritesText plain (c ∷ s) (xs ++ ys)
writes_more plain c s xs ys w t = (w.0 ys ∙ ap (λ l. c ∷ l) t.0, all_append plain xs ys w.1 t.1, scalars_append xs ys w.2 t.2, some_append xs ys w.3)

pub value_text_writes : (s : Text) → all_scalars s ≡ true → WritesText in_value s (value_text s)
unfolding decoded
value_text_writes [] a = (refl, refl, refl, refl)
value_text_writes (c ∷ cs) a = let h = both (scalar c) (all_scalars cs) a in writes_more in_value c cs (value_char c) (value_text cs) (value_writes c h.0) (value_text_writes cs h.1)

pub text_from_writes : (front : Bool) (s : Text) → all_scalars s ≡ true → WritesText in_content s (text_from front s)
unfolding decoded
text_from_writes front [] a = (refl, refl, refl, refl)
text_from_writes front (c ∷ cs) a =
    let h = both (scalar c) (all_scalars cs) a in
    white_case front c cs (is_white c) refl (front || list_all is_white cs) h.0 (text_from_writes front cs h.1) (text_from_writes false cs h.1)
  where
    white_case : (front : Bool) (c : ℕ) (cs : Text) (t : Bool) → is_white c ≡ t → (s : Bool) → scalar c ≡ true → WritesText in_content cs (text_from front cs) → WritesText in_content cs (text_from false cs)
        → WritesText in_content (c ∷ cs) (if t && s then numbered c ++ text_from front cs else text_char c ++ text_from false cs)
    white_case front c cs true e true g more other = writes_more in_content c cs (numbered c) (text_from front cs) (numbered_writes c e) more
    white_case front c cs true e false g more other = writes_more in_content c cs (text_char c) (text_from false cs) (text_writes c g) other
    white_case front c cs false e s g more other = writes_more in_content c cs (text_char c) (text_from false cs) (text_writes c g) other

-- the forms of a character of a text
text_char_cases : (P : Text → Type 0) (c : ℕ) → P (codes "&amp;") → P (codes "&lt;") → P (codes "&#123;") → P (codes "&#92;") → P (c ∷ []) → P (text_char c)
text_char_cases P c p q r s t = elim (c == 38) as (λ b. P (if b then codes "&amp;" else (if c == 60 then codes "&lt;" else (if c == 123 then codes "&#123;" else (if c == 92 then codes "&#92;" else c ∷ []))))) [
  | true ↦ p
  | false ↦ elim (c == 60) as (λ b. P (if b then codes "&lt;" else (if c == 123 then codes "&#123;" else (if c == 92 then codes "&#92;" else c ∷ [])))) [
    | true ↦ q
    | false ↦ elim (c == 123) as (λ b. P (if b then codes "&#123;" else (if c == 92 then codes "&#92;" else c ∷ []))) [
      | true ↦ r
      | false ↦ elim (c == 92) as (λ b. P (if b then codes "&#92;" else c ∷ [])) [ true ↦ s | false ↦ t ]
    ]
  ]
]

pub ends_append : (xs ys : Text) → is_empty_text ys ≡ false → EndsTight ys → EndsTight (xs ++ ys)
ends_append [] ys s e = e
ends_append (x ∷ []) [] s e = absurd e
ends_append (x ∷ []) (y ∷ ys) s e = e
ends_append (x ∷ w ∷ xs) ys s e = ends_append (w ∷ xs) ys s e

last_case : (front : Bool) (c : ℕ) (t s : Bool) → is_white c ≡ t → s ≡ true → EndsTight (if t && s then numbered c ++ [] else text_char c ++ [])
unfolding digits
last_case front c t false e k = cc
last_case front c true true e k = white_cases (λ n. EndsTight (numbered n ++ [])) refl refl refl refl refl c e
last_case front c false true e k = text_char_cases (λ x. EndsTight (x ++ [])) c refl refl refl refl e

always : (b : Bool) → (b || true) ≡ true
always true = refl
always false = refl

some_from : (front : Bool) (c : ℕ) (cs : Text) → all_scalars (c ∷ cs) ≡ true → is_empty_text (text_from front (c ∷ cs)) ≡ false
some_from front c cs a = (text_from_writes front (c ∷ cs) a).3

ends_tight : (front : Bool) (s : Text) → all_scalars s ≡ true → is_empty_text s ≡ false → EndsTight (text_from front s)
ends_tight front [] a e = cc
ends_tight front (c ∷ []) a e = last_case front c (is_white c) (front || true) refl (always front)
ends_tight front (c ∷ d ∷ ds) a e =
    let h = both (scalar c) (all_scalars (d ∷ ds)) a in
    more_case (is_white c && (front || list_all is_white (d ∷ ds))) h.1 (ends_tight front (d ∷ ds) h.1 refl) (ends_tight false (d ∷ ds) h.1 refl)
  where
    more_case : (t : Bool) → all_scalars (d ∷ ds) ≡ true → EndsTight (text_from front (d ∷ ds)) → EndsTight (text_from false (d ∷ ds)) → EndsTight (if t then numbered c ++ text_from front (d ∷ ds) else text_char c ++ text_from false (d ∷ ds))
    more_case true a p q = ends_append (numbered c) (text_from front (d ∷ ds)) (some_from front d ds a) p
    more_case false a p q = ends_append (text_char c) (text_from false (d ∷ ds)) (some_from false d ds a) q

front_tight : (c : ℕ) (cs : Text) (t : Bool) → is_white c ≡ t → Stops is_white (if t && true then numbered c ++ text_from true cs else text_char c ++ text_from false cs)
front_tight c cs true e = refl
front_tight c cs false e = text_char_cases (λ x. Stops is_white (x ++ text_from false cs)) c refl refl refl refl e

pub text_tight : (s : Text) → all_scalars s ≡ true → is_empty_text s ≡ false → IsTight (text_from true s)
text_tight [] a e = cc
text_tight (c ∷ cs) a e = (front_tight c cs (is_white c) refl, ends_tight true (c ∷ cs) a e)
