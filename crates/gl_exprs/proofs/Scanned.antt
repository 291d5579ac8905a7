-- Laws of places in a text.
use Rattle.std.proofs.Common.{◌≡◌, ◌<◌, ◌≤◌, ◌+◌, ℕ, Bool, true, false, refl, arith, suc, take, drop, get_or, List, [], ◌∷◌, ◌++◌, Option, Some, None, length, sym, ap, ◌∙◌}
use Rattle.std.specs.Prelude.{MatchOption, encode_utf8, encode_utf8_all, if◌then◌else◌}
use Rattle.std.specs.Str.{chars, IsUtf8, IsCharBoundary, all_scalars}
use Rattle.std.proofs.lemmas.Bool.{false≢true}
use Rattle.std.proofs.lemmas.Str.{chars_past_char, char_from_byte, encode_ascii, encodes-chars, chars-encodes, scalars-chars, IsCharBoundary-from_drop}
use Rattle.std.proofs.lemmas.List.Sums.{prefix_len-le-length}
use Rattle.std.specs.List.{prefix_len}
use Rattle.std.proofs.lemmas.Bool.Decides.{nat_tests}
use Rattle.gl_base.specs.Texts.{is_ascii_text}
use Rattle.gl_base.proofs.Chars.{empty_chars, chars_of_ascii}
use Rattle.gl_ast.specs.Scans.{after_all}
use Rattle.gl_exprs.specs.Referring.{in_reference, run}

pub ruleset fronts = (prefix_len-le-length)

-- the next character of a text, which an iterator gave
pub next_char : {S : Type 0} (rest : S → List ℕ) (s t : S) (r : Option ℕ) (text new old : List ℕ) → IsUtf8 text → rest s ≡ text → new ≡ rest t → old ≡ chars text → MatchOption r ((length (rest s) ≡ 0) × (t ≡ s)) (λ c. rest s ≡ encode_utf8 c ++ rest t) → MatchOption r ((old ≡ []) × (chars new ≡ [])) (λ c. old ≡ c ∷ chars new)
next_char rest s t None text new old u e f g h =
    let none = empty_chars text (sym (ap length e) ∙ h.0) in
    let same : new ≡ text = f ∙ ap rest h.1 ∙ e in
    (g ∙ none, ap chars same ∙ none)
next_char rest s t (Some c) text new old u e f g h = g ∙ chars_past_char text new c u (sym e ∙ h ∙ ap (λ x. encode_utf8 c ++ x) (sym f))

in_reference_ascii : (c : ℕ) → in_reference c ≡ true → c < 128
in_reference_ascii c h = grind (arith, nat_tests)

-- a character that may not stand in a reference begins with a byte that may not
first_stops : (bs rest : List ℕ) (c : ℕ) → bs ≡ encode_utf8 c ++ rest → in_reference c ≡ false → prefix_len in_reference bs ≡ 0
first_stops [] rest c e h = refl
first_stops (b ∷ bs) rest c e h = by_byte (in_reference b) refl where
  by_byte : (r : Bool) → in_reference b ≡ r → (if r then 1 + prefix_len in_reference bs else 0) ≡ 0
  by_byte true f =
      let small : get_or (b ∷ bs) 0 0 < 128 = in_reference_ascii b f in
      let some : 0 < length (b ∷ bs) = omega arith in
      let same : c ≡ b = char_from_byte (b ∷ bs) rest c e small some in
      absurd (false≢true (sym h ∙ ap in_reference same ∙ f))
  by_byte false f = refl

-- the bytes and the characters of a run are the same
run_bytes : (cs : List ℕ) → take (prefix_len in_reference (encode_utf8_all cs)) (encode_utf8_all cs) ≡ run cs
run_bytes [] = refl
run_bytes (c ∷ cs) = by_char (in_reference c) refl (run_bytes cs) where
  by_char : (r : Bool) → in_reference c ≡ r → take (prefix_len in_reference (encode_utf8_all cs)) (encode_utf8_all cs) ≡ run cs → take (prefix_len in_reference (encode_utf8_all (c ∷ cs))) (encode_utf8_all (c ∷ cs)) ≡ (if r then c ∷ run cs else [])
  by_char true f h =
      let one : encode_utf8 c ≡ c ∷ [] = encode_ascii c (in_reference_ascii c f) in
      let more : 1 + prefix_len in_reference (encode_utf8_all cs) ≡ suc (prefix_len in_reference (encode_utf8_all cs)) = omega arith in
      rw (one, f, more) (ap (λ x. c ∷ x) h)
  by_char false f h = rw (first_stops (encode_utf8_all (c ∷ cs)) (encode_utf8_all cs) c refl f) refl

rest_bytes : (cs : List ℕ) → drop (prefix_len in_reference (encode_utf8_all cs)) (encode_utf8_all cs) ≡ encode_utf8_all (after_all in_reference cs)
rest_bytes [] = refl
rest_bytes (c ∷ cs) = by_char (in_reference c) refl (rest_bytes cs) where
  by_char : (r : Bool) → in_reference c ≡ r → drop (prefix_len in_reference (encode_utf8_all cs)) (encode_utf8_all cs) ≡ encode_utf8_all (after_all in_reference cs) → drop (prefix_len in_reference (encode_utf8_all (c ∷ cs))) (encode_utf8_all (c ∷ cs)) ≡ encode_utf8_all (if r then after_all in_reference cs else c ∷ cs)
  by_char true f h =
      let one : encode_utf8 c ≡ c ∷ [] = encode_ascii c (in_reference_ascii c f) in
      let more : 1 + prefix_len in_reference (encode_utf8_all cs) ≡ suc (prefix_len in_reference (encode_utf8_all cs)) = omega arith in
      rw (one, f, more) h
  by_char false f h = rw (first_stops (encode_utf8_all (c ∷ cs)) (encode_utf8_all cs) c refl f) refl

run_ascii : (cs : List ℕ) → is_ascii_text (run cs) ≡ true
run_ascii [] = refl
run_ascii (c ∷ cs) = by_char (in_reference c) refl (run_ascii cs) where
  by_char : (r : Bool) → in_reference c ≡ r → is_ascii_text (run cs) ≡ true → is_ascii_text (if r then c ∷ run cs else []) ≡ true
  by_char true f h = let small = in_reference_ascii c f in grind (arith, nat_tests)
  by_char false f h = refl

rest_scalars : (cs : List ℕ) → all_scalars cs ≡ true → all_scalars (after_all in_reference cs) ≡ true
rest_scalars [] e = refl
rest_scalars (c ∷ cs) e = elim (in_reference c) as (λ r. all_scalars (if r then after_all in_reference cs else c ∷ cs) ≡ true) [
  | true ↦ rest_scalars cs (grind arith)
  | false ↦ e
]

-- the run that comes first, by its count of bytes
pub run-value : (bs front : List ℕ) (n : ℕ) → IsUtf8 bs → n ≡ prefix_len in_reference bs → front ≡ take n bs → chars front ≡ run (chars bs)
run-value bs front n u e f =
    let same = encodes-chars bs u in
    let is_run : front ≡ run (chars bs) = f ∙ ap (λ k. take k bs) e ∙ ap (λ x. take (prefix_len in_reference x) x) (sym same) ∙ run_bytes (chars bs) in
    ap chars is_run ∙ chars_of_ascii (run (chars bs)) (run_ascii (chars bs))

rest_is : (bs back : List ℕ) (n : ℕ) → IsUtf8 bs → n ≡ prefix_len in_reference bs → back ≡ drop n bs → back ≡ encode_utf8_all (after_all in_reference (chars bs))
rest_is bs back n u e f = f ∙ ap (λ k. drop k bs) e ∙ ap (λ x. drop (prefix_len in_reference x) x) (sym (encodes-chars bs u)) ∙ rest_bytes (chars bs)

pub run-rest : (bs back : List ℕ) (n : ℕ) → IsUtf8 bs → n ≡ prefix_len in_reference bs → back ≡ drop n bs → chars back ≡ after_all in_reference (chars bs)
run-rest bs back n u e f = ap chars (rest_is bs back n u e f) ∙ chars-encodes (after_all in_reference (chars bs)) (rest_scalars (chars bs) (scalars-chars bs u))

-- a text may be cut after its run
pub run-boundary : (bs : List ℕ) (n : ℕ) → IsUtf8 bs → n ≡ prefix_len in_reference bs → n ≤ length bs → IsCharBoundary bs n
run-boundary bs n u e h = IsCharBoundary-from_drop bs n h (after_all in_reference (chars bs), (rest_scalars (chars bs) (scalars-chars bs u), sym (rest_is bs (drop n bs) n u e refl)))
