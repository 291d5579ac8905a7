-- Where a text lacks a token: the tokens in front of the first place at which none stands, and the place that is told.
use Rattle.std.specs.Prelude.{◌≡◌, ◌<◌, ℕ, List, [], ◌∷◌, ◌+◌, true, false, length, Option, Some, None, Result, Ok, Err}
use Rattle.gl_ast.specs.Modes.{Found, spaced}
use Rattle.gl_ast.specs.TokenReading.{width, token_at, stands_white}
use Rattle.gl_ast.specs.Tokens.{forms, IsLongest}
use Rattle.gl_ast.specs.declared.mode.Mode.{Mode}
use Rattle.gl_ast.specs.declared.token.Token.{Token}
use Rattle.gl_lex.specs.Front.{Front, stop_at}
use Rattle.gl_lex.specs.declared.fault.LexFault.{LexFault}
use Rattle.gl_lex.specs.declared.fault.LexFault.TheVariants as v

-- none of them stands there
abbrev pub NoneStands : List (Option Found) → Type 0
NoneStands [] = Unit {0}
NoneStands (o ∷ os) = (o ≡ None) × NoneStands os

-- From a place on, these tokens stand one after another as in a reading, and then bytes follow at which no token of the
-- mode stands. The place told is that of the first of these bytes. It is the text's end where they are the beginning of a
-- token of the mode.
pub data Stops : Mode → ℕ → List ℕ → List Token → ℕ → Type 0 where
  lacks : {mode : Mode} {at : ℕ} {bs : List ℕ} → 0 < length bs → stands_white mode bs ≡ false → NoneStands (forms mode bs) → Stops mode at bs [] (stop_at mode at bs)
  passes : {mode : Mode} {at b place : ℕ} {bs : List ℕ} {list : List Token} → stands_white mode (b ∷ bs) ≡ true → Stops (spaced mode) (at + 1) bs list place → Stops mode at (b ∷ bs) list place
  reads : {mode : Mode} {at place : ℕ} {bs : List ℕ} {list : List Token} (f : Found) → stands_white mode bs ≡ false → IsLongest f (forms mode bs) → Stops f.2 (at + width bs f) f.1 list place → Stops mode at bs (token_at at bs f ∷ list) place

-- the fault names the place at which the text lacks a token
abbrev pub NamesStop : Mode → List ℕ → LexFault → Type 0
NamesStop mode text (v.NoToken offset) = (list : List Token) × Stops mode 0 text list offset
NamesStop mode text v.Memory = Unit {0}

-- all tokens are given, or the place at which none stands
abbrev pub GivesFront : Front → Result (List Token) LexFault → Type 0
GivesFront (ts, None) (Ok list) = list ≡ ts
GivesFront (ts, Some place) (Err (v.NoToken offset)) = offset ≡ place
GivesFront front (Err v.Memory) = Unit {0}
GivesFront _ _ = ⊥
