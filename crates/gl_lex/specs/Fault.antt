-- What a fault of the lexer says of the reading.
use Rattle.std.specs.Prelude.{ℕ, List, ◌≡◌, ◌≤◌, Option, None, Result, Ok, Err}
use Rattle.gl_ast.specs.declared.token.Token.{Token}
use Rattle.gl_lex.specs.declared.fault.LexFault.{LexFault}
use Rattle.gl_lex.specs.declared.fault.LexFault.TheVariants as v

-- the text has no reading; nothing follows where memory is wanting
abbrev pub Fails : {A : Type 0} → LexFault → Option A → Type 0
Fails (v.NoToken offset) read = read ≡ None
Fails v.Memory read = Unit {0}

-- the place that a fault names is within the text, or at its end
abbrev pub IsWithin : ℕ → LexFault → Type 0
IsWithin size (v.NoToken offset) = offset ≤ size
IsWithin size v.Memory = Unit {0}

-- The answer tells the reading: a list is the reading of the text, and where there is no token the text has none.
abbrev pub Tells : (List Token → Type 0) → Result (List Token) LexFault → Type 0
Tells IsReading (Ok list) = IsReading list
Tells IsReading (Err (v.NoToken offset)) = (list : List Token) → IsReading list → ⊥
Tells IsReading (Err v.Memory) = Unit {0}
