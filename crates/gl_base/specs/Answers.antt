-- What a call that may fail answers.
use Rattle.std.specs.Prelude.{◌≡◌, Option, Some, Result, Ok, Err, option_and_then}

-- the second reading, of what the first gave
infixl 10 ◌>>=◌
abbrev pub ◌>>=◌ : {A B : Type 0} → Option A → (A → Option B) → Option B
o >>= f = option_and_then f o

-- A call that reads gives, seen by view, just what there is to read; for an error, `fails` says what follows.
abbrev pub Gives : {X Y E : Type 0} → (E → Option Y → Type 0) → (X → Y) → Result X E → Option Y → Type 0
Gives fails view (Ok x) read = read ≡ Some (view x)
Gives fails view (Err e) read = fails e read
