-- Where no long comment ends.
use Rattle.std.specs.Prelude.{ℕ, List, ◌++◌, ◌≡◌, ◌≤◌, length, None}
use Rattle.gl_ast.specs.Scans.{from_first}
use Rattle.gl_ast.specs.Words.{shows_long_end}

-- no long comment ends in the last `count` bytes
abbrev pub IsClear : ℕ → List ℕ → Type 0
IsClear count bs = (front rest : List ℕ) → bs ≡ front ++ rest → length rest ≤ count → from_first shows_long_end rest ≡ None
