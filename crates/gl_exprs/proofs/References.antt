-- Laws of character references.
use Rattle.std.proofs.Common.{◌≡◌, ◌≤◌, ◌<◌, ◌+◌, ◌-◌, ◌*◌, ℕ, zero, suc, List, [], ◌∷◌, ◌++◌, Bool, true, false, length, drop, Option, Some, None, refl, sym, ap, ◌∙◌, append_assoc, arith}
use Rattle.std.specs.Prelude.{if◌then◌else◌, ◌||◌, ◌&&◌, ◌==◌, nat_le, nat_lt}
use Rattle.std.specs.Char.{IsScalar}
use Rattle.std.specs.Option.{SomeIff, MatchOption}
use Rattle.std.specs.List.{list_all}
use Rattle.std.specs.Str.{bytes_eq}
use Rattle.std.proofs.lemmas.Bool.{false≢true}
use Rattle.std.proofs.lemmas.Option.{option_and_then_some}
use Rattle.std.proofs.lemmas.Slice.Eq.{bytes_eq-Decides}
use Rattle.gl_base.specs.Names.{named}
use Rattle.gl_names.specs.References.{reference_rows}
use Rattle.gl_ast.specs.References.{references}
use Rattle.gl_ast.specs.Scans.{after_all}
use Rattle.std.proofs.lemmas.Bool.Decides.{nat_tests}
use Rattle.gl_base.specs.Answers.{◌>>=◌}
use Rattle.gl_ast.specs.Marks.{is_between, is_digit}
use Rattle.gl_ast.specs.TokenText.{up_to, has_char, leads, is_hex, hex_digit, hex_from, referable, decimal_code, hex_code, numeric_code, reference_code, reference_in, reference_or_sign, decoded_from}
use Rattle.gl_ast.specs.Words.{number_from}
use Rattle.gl_exprs.specs.Referring.{in_reference, run, base, digit_in, value_from, code_in}

hex_cases : (a b d : Bool) (c : ℕ) → (b ≡ true → nat_le 97 c ≡ true) → (d ≡ true → nat_le 97 c ≡ false) → (if a then Some (c - 48) else (if b then Some (c - 87) else (if d then Some (c - 55) else None))) ≡ (if (a || b || d) then Some (if a then c - 48 else (if nat_le 97 c then c - 87 else c - 55)) else None)
hex_cases true b d c h i = refl
hex_cases false true d c h i = rw (h refl) refl
hex_cases false false true c h i = rw (i refl) refl
hex_cases false false false c h i = refl

hex_digit_in : (c : ℕ) → digit_in true c ≡ (if is_hex c then Some (hex_digit c) else None)
hex_digit_in c = hex_cases (is_digit c) (is_between 97 102 c) (is_between 65 70 c) c (λ h. grind (arith, nat_tests)) (λ h. grind (arith, nat_tests))

decimal_value : (n : ℕ) (cs : List ℕ) → value_from false n cs ≡ (if list_all is_digit cs then Some (number_from n cs) else None)
decimal_value n [] = refl
decimal_value n (c ∷ cs) = elim (is_digit c) as (λ b. ((if b then Some (c - 48) else None) >>= λ d. value_from false (n * 10 + d) cs) ≡ (if (b && list_all is_digit cs) then Some (number_from (n * 10 + (c - 48)) cs) else None)) [
  | true ↦ decimal_value (n * 10 + (c - 48)) cs
  | false ↦ refl
]

hex_value : (n : ℕ) (cs : List ℕ) → value_from true n cs ≡ (if list_all is_hex cs then Some (hex_from n cs) else None)
hex_value n [] = refl
hex_value n (c ∷ cs) = ap (λ (o : Option ℕ). o >>= λ d. value_from true (n * 16 + d) cs) (hex_digit_in c) ∙ elim (is_hex c) as (λ b. ((if b then Some (hex_digit c) else None) >>= λ d. value_from true (n * 16 + d) cs) ≡ (if (b && list_all is_hex cs) then Some (hex_from (n * 16 + hex_digit c) cs) else None)) [
  | true ↦ hex_value (n * 16 + hex_digit c) cs
  | false ↦ refl
]

some_digits : (b : Bool) (n c : ℕ) (cs : List ℕ) → ((if b then Some n else None) >>= referable) ≡ (if (b && nat_lt 0 (length (c ∷ cs))) then referable n else None)
some_digits true n c cs = let h : nat_lt 0 (length (c ∷ cs)) ≡ true = grind (arith, nat_tests) in rw h refl
some_digits false n c cs = refl

pub decimal-code_in : (cs : List ℕ) → code_in false cs ≡ decimal_code cs
decimal-code_in [] = refl
decimal-code_in (c ∷ cs) = ap (λ (o : Option ℕ). o >>= referable) (decimal_value 0 (c ∷ cs)) ∙ some_digits (list_all is_digit (c ∷ cs)) (number_from 0 (c ∷ cs)) c cs

pub hex-code_in : (cs : List ℕ) → code_in true cs ≡ hex_code cs
hex-code_in [] = refl
hex-code_in (c ∷ cs) = ap (λ (o : Option ℕ). o >>= referable) (hex_value 0 (c ∷ cs)) ∙ some_digits (list_all is_hex (c ∷ cs)) (hex_from 0 (c ∷ cs)) c cs

pub ruleset codes = (decimal-code_in, hex-code_in)

-- digits make a value no less
value_grows : (hexadecimal : Bool) (n : ℕ) (cs : List ℕ) (m : ℕ) → value_from hexadecimal n cs ≡ Some m → n ≤ m
value_grows hexadecimal n [] m e = let same : n ≡ m = cc in omega arith
value_grows hexadecimal n (c ∷ cs) m e = option_and_then_some (λ d. value_from hexadecimal (n * base hexadecimal + d) cs) (digit_in hexadecimal c) m e (λ d p more.
    let f = value_grows hexadecimal (n * base hexadecimal + d) cs m more in
    let g = based hexadecimal n in
    omega arith) where
      based : (h : Bool) (n : ℕ) → n ≤ n * base h
      based true n = omega arith
      based false n = omega arith

large_none : (m : ℕ) → 1114111 < m → referable m ≡ None
large_none m h =
    let low : is_between 1 55295 m ≡ false = grind (arith, nat_tests) in
    let high : is_between 57344 1114111 m ≡ false = grind (arith, nat_tests) in
    rw (low, high) refl

none_or : (o : Option ℕ) (n : ℕ) → ((m : ℕ) → o ≡ Some m → n ≤ m) → 1114111 < n → (o >>= referable) ≡ None
none_or None n h large = refl
none_or (Some m) n h large = let f = h m refl in large_none m (omega arith)

-- where the value of the first digits is too large already
pub value_too_large : (hexadecimal : Bool) (b n c d : ℕ) (cs old : List ℕ) (all : Option ℕ) → b ≡ base hexadecimal → old ≡ c ∷ cs → digit_in hexadecimal c ≡ Some d → 1114111 < n * b + d → (value_from hexadecimal n old >>= referable) ≡ all → all ≡ None
value_too_large hexadecimal b n c d cs old all e f g large h =
    let same : value_from hexadecimal n old ≡ value_from hexadecimal (n * base hexadecimal + d) cs = ap (value_from hexadecimal n) f ∙ ap (λ (o : Option ℕ). o >>= λ x. value_from hexadecimal (n * base hexadecimal + x) cs) g in
    let more : 1114111 < n * base hexadecimal + d = rw e at large in
    sym h ∙ ap (λ (o : Option ℕ). o >>= referable) same ∙ none_or (value_from hexadecimal (n * base hexadecimal + d) cs) (n * base hexadecimal + d) (value_grows hexadecimal (n * base hexadecimal + d) cs) more

all_weaker : (p q : ℕ → Bool) → ((c : ℕ) → p c ≡ true → q c ≡ true) → (cs : List ℕ) → list_all q cs ≡ false → list_all p cs ≡ false
all_weaker p q h [] e = absurd cc
all_weaker p q h (c ∷ cs) e = by_char (p c) refl (all_weaker p q h cs) where
  by_char : (r : Bool) → p c ≡ r → (list_all q cs ≡ false → list_all p cs ≡ false) → (r && list_all p cs) ≡ false
  by_char true f more = let passes : q c ≡ true = h c f in more (grind arith)
  by_char false f more = refl

abbrev names_pass : List (List ℕ × ℕ) → Bool
names_pass [] = true
names_pass (r ∷ rs) = list_all in_reference r.0 && names_pass rs

references_pass : names_pass references ≡ true
unfolding references
references_pass = refl

named_not : (u : List ℕ) (rows : List (List ℕ × ℕ)) → names_pass rows ≡ true → list_all in_reference u ≡ false → named u rows ≡ None
named_not u [] e h = refl
named_not u (r ∷ rs) e h = by_name (bytes_eq u r.0) refl (named_not u rs (grind arith) h) where
  by_name : (b : Bool) → bytes_eq u r.0 ≡ b → named u rs ≡ None → (if b then Some r.1 else named u rs) ≡ None
  by_name true f more =
      let same : u ≡ r.0 = (bytes_eq-Decides u r.0).0 f in
      let passes : list_all in_reference r.0 ≡ true = grind arith in
      absurd (false≢true (sym h ∙ ap (list_all in_reference) same ∙ passes))
  by_name false f more = more

no_hex : (cs : List ℕ) → list_all in_reference cs ≡ false → hex_code cs ≡ None
no_hex cs h = rw (all_weaker is_hex in_reference (λ c e. grind (arith, nat_tests)) cs h) refl

no_decimal : (cs : List ℕ) → list_all in_reference cs ≡ false → decimal_code cs ≡ None
no_decimal cs h = rw (all_weaker is_digit in_reference (λ c e. grind (arith, nat_tests)) cs h) refl

no_numeric : (cs : List ℕ) → list_all in_reference cs ≡ false → numeric_code cs ≡ None
no_numeric [] h = refl
no_numeric (c ∷ cs) h = by_char (c == 120 || c == 88) refl where
  by_char : (b : Bool) → (c == 120 || c == 88) ≡ b → (if b then hex_code cs else decimal_code (c ∷ cs)) ≡ None
  by_char true e =
      let passes : in_reference c ≡ true = grind (arith, nat_tests) in
      no_hex cs (grind arith)
  by_char false e = no_decimal (c ∷ cs) h

no_code : (u : List ℕ) → list_all in_reference u ≡ false → reference_code u ≡ None
no_code [] h = refl
no_code (c ∷ cs) h = by_char (c == 35) refl where
  by_char : (b : Bool) → (c == 35) ≡ b → (if b then numeric_code cs else named (c ∷ cs) references) ≡ None
  by_char true e =
      let passes : in_reference c ≡ true = grind (arith, nat_tests) in
      no_numeric cs (grind arith)
  by_char false e = named_not (c ∷ cs) references references_pass h

-- a `;` comes first
abbrev ends : List ℕ → Bool
ends cs = leads (λ c. c == 59) cs

no_mark : (c : ℕ) → in_reference c ≡ true → (c == 59) ≡ false
no_mark c h = grind (arith, nat_tests)

-- a `;` that ends the run is the first one
record EndsAt (cs : List ℕ) : Type 0 where
  has : has_char 59 cs ≡ true
  front : up_to 59 cs ≡ run cs
  back : drop (length (up_to 59 cs) + 1) cs ≡ drop 1 (after_all in_reference cs)

ends_at : (cs : List ℕ) → ends (after_all in_reference cs) ≡ true → EndsAt cs
ends_at [] e = absurd cc
ends_at (c ∷ cs) e = by_char (in_reference c) refl (ends_at cs) e where
  by_char : (r : Bool) → in_reference c ≡ r → (ends (after_all in_reference cs) ≡ true → EndsAt cs) → ends (if r then after_all in_reference cs else c ∷ cs) ≡ true → EndsAt (c ∷ cs)
  by_char true f more h =
      let i = more h in
      let other = no_mark c f in
      let count : length (c ∷ up_to 59 cs) + 1 ≡ suc (length (up_to 59 cs) + 1) = omega arith in
      record { has = rw other i.has; front = rw (other, f) (ap (λ x. c ∷ x) i.front); back = rw (other, f, count) i.back }
  by_char false f more h = record { has = rw h refl; front = rw (h, f) refl; back = rw (h, f) refl }

none_at : (cs : List ℕ) → ends (after_all in_reference cs) ≡ false → has_char 59 cs ≡ true → list_all in_reference (up_to 59 cs) ≡ false
none_at [] e h = absurd cc
none_at (c ∷ cs) e h = by_char (in_reference c) refl (none_at cs) e where
  by_char : (r : Bool) → in_reference c ≡ r → (ends (after_all in_reference cs) ≡ false → has_char 59 cs ≡ true → list_all in_reference (up_to 59 cs) ≡ false) → ends (if r then after_all in_reference cs else c ∷ cs) ≡ false → list_all in_reference (if c == 59 then [] else c ∷ up_to 59 cs) ≡ false
  by_char true f more g =
      let other = no_mark c f in
      rw (other, f) (more g (rw other at h))
  by_char false f more g = rw (g, f) refl

-- nothing is referred to where no `;` ends the run
pub reference_no_mark : (cs : List ℕ) → ends (after_all in_reference cs) ≡ false → reference_in cs ≡ None
reference_no_mark cs e = by_mark (has_char 59 cs) refl where
  by_mark : (b : Bool) → has_char 59 cs ≡ b → (if b then reference_code (up_to 59 cs) else None) ≡ None
  by_mark true h = no_code (up_to 59 cs) (none_at cs e h)
  by_mark false h = refl

pub reference_in-run : (cs : List ℕ) → ends (after_all in_reference cs) ≡ true → reference_in cs ≡ reference_code (run cs)
reference_in-run cs e = let i = ends_at cs e in rw (i.has, i.front) refl

starts_at : (cs : List ℕ) → ends cs ≡ true → (ds : List ℕ) × (cs ≡ 59 ∷ ds)
starts_at [] e = absurd cc
starts_at (c ∷ cs) e = let same : c ≡ 59 = grind (arith, nat_tests) in (cs, ap (λ x. x ∷ cs) same)

-- the character of the run, and what follows the `;`
pub reference_some : (cs front rest new : List ℕ) (n : ℕ) → front ≡ run cs → rest ≡ after_all in_reference cs → ends rest ≡ true → drop 1 rest ≡ new → Some n ≡ reference_code front → (reference_in cs ≡ Some n) × (new ≡ drop (length (up_to 59 cs) + 1) cs)
reference_some cs front rest new n e f g h i =
    let mark : ends (after_all in_reference cs) ≡ true = ap ends (sym f) ∙ g in
    (reference_in-run cs mark ∙ ap reference_code (sym e) ∙ sym i, sym ((ends_at cs mark).back ∙ ap (drop 1) (sym f) ∙ h))

-- the run is no reference
pub reference_none : (cs front rest : List ℕ) → front ≡ run cs → rest ≡ after_all in_reference cs → ends rest ≡ true → None ≡ reference_code front → reference_in cs ≡ None
reference_none cs front rest e f g i = reference_in-run cs (ap ends (sym f) ∙ g) ∙ ap reference_code (sym e) ∙ sym i

-- the first of such characters is taken
pub mark_taken : (rest new : List ℕ) (r : Option ℕ) → ends rest ≡ true → MatchOption r ((rest ≡ []) × (new ≡ [])) (λ c. rest ≡ c ∷ new) → drop 1 rest ≡ new
mark_taken rest new None e h = ap (drop 1) h.0 ∙ sym h.1
mark_taken rest new (Some c) e h = ap (drop 1) h

-- what a reference takes is passed over
decoded_skip : (n : ℕ) (cs : List ℕ) → decoded_from n cs ≡ decoded_from 0 (drop n cs)
decoded_skip zero cs = refl
decoded_skip (suc n) [] = refl
decoded_skip (suc n) (c ∷ cs) = decoded_skip n cs

-- an `&`
pub decoded_sign : (c r : ℕ) (cs new old out all : List ℕ) → old ≡ c ∷ cs → c ≡ 38 → r ≡ (reference_or_sign (reference_in cs) cs).0 → new ≡ drop (reference_or_sign (reference_in cs) cs).1 cs → out ++ decoded_from 0 old ≡ all → (out ++ r ∷ []) ++ decoded_from 0 new ≡ all
decoded_sign c r cs new old out all e sign f g h =
    let yes : (c == 38) ≡ true = grind (arith, nat_tests) in
    let next : decoded_from 0 (c ∷ cs) ≡ r ∷ decoded_from 0 new = rw yes (ap (λ x. x ∷ decoded_from (reference_or_sign (reference_in cs) cs).1 cs) (sym f) ∙ ap (λ x. r ∷ x) (decoded_skip (reference_or_sign (reference_in cs) cs).1 cs ∙ ap (decoded_from 0) (sym g))) in
    append_assoc out (r ∷ []) (decoded_from 0 new) ∙ ap (λ x. out ++ x) (sym (ap (decoded_from 0) e ∙ next)) ∙ h

-- the rows of the table
references_are : references ≡ reference_rows
unfolding references reference_rows
references_are = refl

abbrev numbers_small : List (List ℕ × ℕ) → Bool
numbers_small [] = true
numbers_small (r ∷ rs) = nat_lt r.1 256 && numbers_small rs

references_small : numbers_small references ≡ true
unfolding references
references_small = refl

named_small : (u : List ℕ) (rows : List (List ℕ × ℕ)) (n : ℕ) → numbers_small rows ≡ true → named u rows ≡ Some n → n < 256
named_small u [] n e h = absurd cc
named_small u (r ∷ rs) n e h = by_name (bytes_eq u r.0) (named_small u rs n (grind arith)) h where
  by_name : (b : Bool) → (named u rs ≡ Some n → n < 256) → (if b then Some r.1 else named u rs) ≡ Some n → n < 256
  by_name true more f = let same : r.1 ≡ n = cc in grind (arith, nat_tests)
  by_name false more f = more f

scalar_small : (n : ℕ) → n < 256 → IsScalar n
scalar_small n h = grind (arith, nat_tests)

is_char : (n : ℕ) (r : Option ℕ) → n < 256 → SomeIff r (IsScalar n) n → r ≡ Some n
is_char n None h f = absurd (f (scalar_small n h))
is_char n (Some m) h f = ap Some f.1

pub row_found : (u : List ℕ) (n : ℕ) (rows : List (List ℕ × ℕ)) (r : Option ℕ) → rows ≡ reference_rows → Some n ≡ named u rows → SomeIff r (IsScalar n) n → r ≡ named u references
row_found u n rows r e f g =
    let found : named u references ≡ Some n = ap (named u) (references_are ∙ sym e) ∙ sym f in
    is_char n r (named_small u references n references_small found) g ∙ sym found

pub row_missing : (u : List ℕ) (rows : List (List ℕ × ℕ)) → rows ≡ reference_rows → None ≡ named u rows → None ≡ named u references
row_missing u rows e f = f ∙ ap (named u) (e ∙ sym references_are)
