-- Runs of text: characters that begin nothing else, whatever bytes they have.
use Rattle.std.proofs.Common.{◌≡◌, ◌<◌, ◌≤◌, ℕ, List, [], ◌∷◌, ◌++◌, Bool, true, false, Some, eqb, ltb, length, refl, sym, ap, subst, ◌∙◌, append_assoc, arith}
use Rattle.std.specs.Prelude.{◌==◌, ◌||◌, not, encode_utf8}
use Rattle.std.specs.List.{list_all}
use Rattle.std.proofs.lemmas.Bool.Decides.{nat_tests}
use Rattle.std.proofs.lemmas.Str.{encode_ascii, length-encode, len_utf8_bounds}
use Rattle.gl_base.specs.Texts.{bytes_of}
use Rattle.gl_ast.specs.Scans.{up_to_first, after_run}
use Rattle.gl_ast.specs.Words.{ends_text, ends_quoted}
use Rattle.gl_ast.proofs.Forward.{both}
use Rattle.gl_show.proofs.Strings.{all_high, high_bytes}

-- the bytes of a character: itself, or bytes that are not ASCII
pub char_bytes : (P : List ℕ → Type 0) (c : ℕ) → (c < 128 → P (c ∷ [])) → ((b : ℕ) (bs : List ℕ) → 128 ≤ c → all_high (b ∷ bs) ≡ true → P (b ∷ bs)) → P (encode_utf8 c)
char_bytes P c low high = low_case (ltb c 128) refl
  where
    some_case : (bs : List ℕ) → encode_utf8 c ≡ bs → 128 ≤ c → P bs
    some_case [] e h = let n = len_utf8_bounds c in absurd (omega (arith, n.0, length-encode c, ap length e))
    some_case (b ∷ bs) e h = high b bs h (ap all_high (sym e) ∙ high_bytes c h)

    low_case : (t : Bool) → ltb c 128 ≡ t → P (encode_utf8 c)
    low_case true e = let n : c < 128 = grind (arith, nat_tests) in subst P (sym (encode_ascii c n)) (low n)
    low_case false e = let n : 128 ≤ c = grind (arith, nat_tests) in some_case (encode_utf8 c) refl n

-- a test that is not met where the byte passes this other test, or is not ASCII
abbrev pub Ignores : (ℕ → Bool) → (List ℕ → Bool) → Type 0
Ignores plain ends = ((b : ℕ) (bs : List ℕ) → plain b ≡ true → ends (b ∷ bs) ≡ false) × ((b : ℕ) (bs : List ℕ) → not (ltb b 128) ≡ true → ends (b ∷ bs) ≡ false)

high_run : (ends : List ℕ → Bool) → ((b : ℕ) (bs : List ℕ) → not (ltb b 128) ≡ true → ends (b ∷ bs) ≡ false) → (bs rest : List ℕ) → all_high bs ≡ true → up_to_first ends (bs ++ rest) ≡ up_to_first ends rest
high_run ends h [] rest a = refl
high_run ends h (b ∷ bs) rest a = let k = both (not (ltb b 128)) (all_high bs) a in let n = h b (bs ++ rest) k.0 in rw n (high_run ends h bs rest k.1)

char_run : (plain : ℕ → Bool) (ends : List ℕ → Bool) → Ignores plain ends → (c : ℕ) (rest : List ℕ) → plain c ≡ true → up_to_first ends (encode_utf8 c ++ rest) ≡ up_to_first ends rest
char_run plain ends ig c rest p =
    char_bytes (λ bs. up_to_first ends (bs ++ rest) ≡ up_to_first ends rest) c
    (λ low. let n = ig.0 c rest p in rw n refl)
    (λ b bs h a. high_run ends ig.1 (b ∷ bs) rest a)

pub text_run : (plain : ℕ → Bool) (ends : List ℕ → Bool) → Ignores plain ends → (cs rest : List ℕ) → list_all plain cs ≡ true → up_to_first ends (bytes_of cs ++ rest) ≡ up_to_first ends rest
text_run plain ends ig [] rest a = refl
text_run plain ends ig (c ∷ cs) rest a =
    let h = both (plain c) (list_all plain cs) a in
    ap (λ l. up_to_first ends l) (append_assoc (encode_utf8 c) (bytes_of cs) rest) ∙ char_run plain ends ig c (bytes_of cs ++ rest) h.0 ∙ text_run plain ends ig cs rest h.1

-- here the run ends
abbrev pub RunEnds : (List ℕ → Bool) → List ℕ → Type 0
RunEnds ends [] = Unit {0}
RunEnds ends (b ∷ bs) = ends (b ∷ bs) ≡ true

pub run_end : (ends : List ℕ → Bool) (rest : List ℕ) → RunEnds ends rest → up_to_first ends rest ≡ rest
run_end ends [] e = refl
run_end ends (b ∷ bs) e = rw e refl

-- a text that is not empty, and what ends it
pub run_then : (plain : ℕ → Bool) (ends : List ℕ → Bool) → Ignores plain ends → (c : ℕ) (cs rest : List ℕ) → list_all plain (c ∷ cs) ≡ true → RunEnds ends rest
    → after_run ends (bytes_of (c ∷ cs) ++ rest) ≡ Some rest
run_then plain ends ig c cs rest a e =
    let h = both (plain c) (list_all plain cs) a in
    let more : up_to_first ends (bytes_of cs ++ rest) ≡ rest = text_run plain ends ig cs rest h.1 ∙ run_end ends rest e in
    char_bytes (λ bs. after_run ends ((bs ++ bytes_of cs) ++ rest) ≡ Some rest) c
    (λ low. let n = ig.0 c (bytes_of cs ++ rest) h.0 in rw n (ap Some more))
    (λ b bs g k.
    let j = both (not (ltb b 128)) (all_high bs) k in
    let n = ig.1 b ((bs ++ bytes_of cs) ++ rest) j.0 in
    rw n (ap Some (ap (λ l. up_to_first ends l) (append_assoc bs (bytes_of cs) rest) ∙ high_run ends ig.1 bs (bytes_of cs ++ rest) j.1 ∙ more)))

-- what a text of the content, and one of a value, is made of
abbrev pub in_content : ℕ → Bool
in_content c = not (c == 60 || c == 123 || c == 92)

abbrev pub in_value : ℕ → Bool
in_value c = not (c == 34 || c == 123 || c == 92)

pub content_ignores : Ignores in_content ends_text
content_ignores = (
  (λ b bs p.
      let x : eqb 60 b ≡ false = grind (arith, nat_tests) in
      let y : eqb 123 b ≡ false = grind (arith, nat_tests) in
      let z : eqb 92 b ≡ false = grind (arith, nat_tests) in
      rw (x, y, z) refl),
  (λ b bs p.
      let x : eqb 60 b ≡ false = grind (arith, nat_tests) in
      let y : eqb 123 b ≡ false = grind (arith, nat_tests) in
      let z : eqb 92 b ≡ false = grind (arith, nat_tests) in
      rw (x, y, z) refl),
)

pub value_ignores : Ignores in_value (ends_quoted 34)
value_ignores = (
  (λ b bs p.
      let x : eqb 34 b ≡ false = grind (arith, nat_tests) in
      let y : eqb 123 b ≡ false = grind (arith, nat_tests) in
      let z : eqb 92 b ≡ false = grind (arith, nat_tests) in
      rw (x, y, z) refl),
  (λ b bs p.
      let x : eqb 34 b ≡ false = grind (arith, nat_tests) in
      let y : eqb 123 b ≡ false = grind (arith, nat_tests) in
      let z : eqb 92 b ≡ false = grind (arith, nat_tests) in
      rw (x, y, z) refl),
)
