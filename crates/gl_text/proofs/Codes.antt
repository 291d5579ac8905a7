-- The text of a character's code in hexadecimal is ASCII.
use Rattle.std.proofs.Common.{◌<◌, ◌^◌, ◌∷◌, [], ℕ, zero, suc, List, false, arith, lit≤}
use Rattle.std.specs.Str.{IsAscii}
use Rattle.std.specs.Str.Parse.{AllDigits}
use Rattle.std.specs.Char.{digit_value}
use Rattle.std.specs.Fmt.{digits}
use Rattle.std.proofs.lemmas.Bool.Decides.{nat_tests}
use Rattle.std.proofs.lemmas.Fmt.{digits_is_IsNumeral}
use Rattle.std.proofs.lemmas.Str.Ascii.{IsAscii-nil}

digit_small : (c : ℕ) → digit_value c < 16 → c < 128
digit_small c h = grind (arith, nat_tests)

pub digits_ascii : (ds : List ℕ) → AllDigits 16 ds → IsAscii ds
digits_ascii [] h = IsAscii-nil
digits_ascii (c ∷ cs) h = ascii_cons c cs (digit_small c h.0) (digits_ascii cs h.1)
  where
    ascii_cons : (c : ℕ) (cs : List ℕ) → c < 128 → IsAscii cs → IsAscii (c ∷ cs)
    ascii_cons c cs h k zero = h
    ascii_cons c cs h k (suc i) = k i

-- an ASCII character's code is written in ASCII
pub hexadecimal_ascii : (c : ℕ) → c < 128 → IsAscii (digits 16 false c)
hexadecimal_ascii c h =
    let small : c < 16 ^ 64 = omega arith in
    digits_ascii (digits 16 false c) (digits_is_IsNumeral 16 false (lit≤ tt) (lit≤ tt) c small).0.1
