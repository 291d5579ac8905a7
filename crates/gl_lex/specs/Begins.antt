-- Which bytes begin a token.
use Rattle.std.specs.Prelude.{◌≡◌, ℕ, List, [], ◌++◌}
use Rattle.gl_ast.specs.Modes.{Found}
use Rattle.gl_ast.specs.Tokens.{forms, IsLongest}
use Rattle.gl_ast.specs.declared.mode.Mode.{Mode}

-- the bytes are a token of the mode
abbrev pub IsToken : Mode → List ℕ → Type 0
IsToken mode bs = (f : Found) × IsLongest f (forms mode bs) × (f.1 ≡ [])

-- some more bytes make them one
abbrev pub BeginsToken : Mode → List ℕ → Type 0
BeginsToken mode bs = (more : List ℕ) × IsToken mode (bs ++ more)
