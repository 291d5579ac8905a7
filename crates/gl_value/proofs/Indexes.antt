-- Texts that write an index in decimal.
use Rattle.std.proofs.Common.{◌≡◌, ◌<◌, ◌≤◌, ◌^◌, ℕ, zero, suc, List, false, refl, sym, ap, ◌∙◌, arith, Option, Some, None, MatchOption, Result, Ok, Err, decimal}
use Rattle.std.specs.Prelude.{encode_utf8_all}
use Rattle.std.specs.Str.{bytes_eq, chars, IsUtf8}
use Rattle.std.specs.Str.Parse.{ParsesUnsigned, AllDigits, digits_value}
use Rattle.std.proofs.lemmas.Bool.{false_from_ne_true}
use Rattle.std.proofs.lemmas.Fmt.{parse-decimal, decimal_nonempty, first_decimal, decimal_digit, decimal_injective, decimal-digits_value, IsAscii-decimal, IsAscii-from_digits}
use Rattle.std.proofs.lemmas.Slice.Eq.{bytes_eq-Decides}
use Rattle.std.proofs.lemmas.Str.{encodes-chars, chars-IsAscii, IsUtf8-from_ascii}
use Rattle.std.proofs.lemmas.Str.Parse.{numerals_by_value, tells_digits, IsNumeralModel, without_leading_plus_none}
use Rattle.gl_value.specs.Index.{HasPlainStart}

-- the bytes of a text whose characters are a number in decimal
bytes-decimal : (bs : List ℕ) (i : ℕ) → IsUtf8 bs → i < 2 ^ 64 → chars bs ≡ decimal i → bs ≡ decimal i
bytes-decimal bs i u small e =
    let plain = IsAscii-decimal i small in
    sym (encodes-chars bs u) ∙ ap encode_utf8_all (e ∙ sym (chars-IsAscii (decimal i) plain)) ∙ encodes-chars (decimal i) (IsUtf8-from_ascii (decimal i) plain)

decimal_plain_start : (i : ℕ) → i < 2 ^ 64 → HasPlainStart (decimal i)
decimal_plain_start zero small = let e = decimal_digit 0 (omega arith) in rw e (omega arith, (λ h. absurd (omega arith)), (λ _. refl))
decimal_plain_start (suc i) small =
    let first = first_decimal (suc i) (omega arith) small in
    (decimal_nonempty (suc i) small, (λ h. absurd (omega arith)), (λ h. absurd (omega arith)))

-- a text with another start writes no number
pub no_plain_start : (bs : List ℕ) → IsUtf8 bs → (HasPlainStart bs → ⊥) → (limit : ℕ) → limit < 2 ^ 64 → (i : ℕ) → i ≤ limit → bytes_eq (chars bs) (decimal i) ≡ false
no_plain_start bs u not_plain limit fits i h =
    false_from_ne_true _ (λ e. not_plain (rw (bytes-decimal bs i u (omega arith) ((bytes_eq-Decides (chars bs) (decimal i)).0 e)) (decimal_plain_start i (omega arith))))

-- a text that isn't read as a number writes none
pub not_read : {E : Type 0} (bs : List ℕ) (r : Result ℕ E) (e : E) → IsUtf8 bs → ParsesUnsigned 64 10 bs r → r ≡ Err e → (limit : ℕ) → limit < 2 ^ 64 → (i : ℕ) → i ≤ limit → bytes_eq (chars bs) (decimal i) ≡ false
not_read bs r e u parsed is limit fits i h =
    false_from_ne_true _ (λ t.
    let ok : r ≡ Ok i = parse-decimal 64 i bs r (omega arith) (omega arith) (bytes-decimal bs i u (omega arith) ((bytes_eq-Decides (chars bs) (decimal i)).0 t)) parsed in
    let both : Ok i ≡ Err e = sym ok ∙ is in
    cc)

own : IsNumeralModel (AllDigits 10) (digits_value 10)
own = numerals_by_value (AllDigits 10) tells_digits

-- what is read is written so
pub read_decimal : {E : Type 0} (bs : List ℕ) (r : Result ℕ E) (n : ℕ) → HasPlainStart bs → ParsesUnsigned 64 10 bs r → r ≡ Ok n → chars bs ≡ decimal n
read_decimal {E = E} bs r n start parsed is =
    let same = without_leading_plus_none bs start.1 in
    let read : ParsesUnsigned {E = E} 64 10 bs (Ok n) = rw is at parsed in
    let digits : AllDigits 10 bs = rw same at read.0.0.1 in
    let value : n ≡ digits_value 10 bs = rw same at read.1 in
    let small : digits_value 10 bs < 2 ^ 64 = rw same at read.0.1 in
    chars-IsAscii bs (IsAscii-from_digits bs digits) ∙ sym (decimal-digits_value own bs digits start.0 start.2 small) ∙ ap decimal (sym value)

-- a number beyond the limit is written as no other
pub beyond : (cs : List ℕ) (n limit : ℕ) → cs ≡ decimal n → n < 2 ^ 64 → limit < n → (i : ℕ) → i ≤ limit → bytes_eq cs (decimal i) ≡ false
beyond cs n limit e small h i g =
    false_from_ne_true _ (λ t.
    let same : n ≡ i = decimal_injective n i small (omega arith) (sym e ∙ (bytes_eq-Decides cs (decimal i)).0 t) in
    absurd (omega arith))

-- the number that is read, if it is within the limit
pub kept : (bs : List ℕ) (n : ℕ) (r : Option ℕ) → chars bs ≡ decimal n → n < 2 ^ 64 → MatchOption r (9007199254740991 < n) (λ m. (m ≡ n) × (m ≤ 9007199254740991))
    → MatchOption r ((i : ℕ) → i ≤ 9007199254740991 → bytes_eq (chars bs) (decimal i) ≡ false) (λ m. (m ≤ 9007199254740991) × (chars bs ≡ decimal m))
kept bs n None e small h = beyond (chars bs) n 9007199254740991 e small h
kept bs n (Some m) e small h = (h.1, e ∙ ap decimal (sym h.0))
