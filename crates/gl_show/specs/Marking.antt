-- White space at the ends of a text, found in two readings.
use Rattle.std.specs.Prelude.{ℕ, [], ◌∷◌, ◌++◌, Bool, ◌&&◌, ◌||◌, nat_le, length, ◌==◌, if◌then◌else◌}
use Rattle.gl_base.specs.Texts.{Text}
use Rattle.gl_ast.specs.Marks.{is_white}
use Rattle.gl_ast.specs.Canon.{numbered, text_char}

-- how many characters stand after the last that is not white space, or `run` where these all are
abbrev pub run_from : ℕ → Text → ℕ
run_from run [] = run
run_from run (c ∷ cs) = run_from (if is_white c then run else length cs) cs

-- a character: as a reference where it is white space and belongs to the front or to the end
abbrev pub marked_char : Bool → ℕ → Text
marked_char edge c = if is_white c && edge then numbered c else text_char c

-- The spelling of characters, where white space among the last `run` of them is at the end.
abbrev pub marked : ℕ → Bool → Text → Text
marked run front [] = []
marked run front (c ∷ cs) = marked_char (front || nat_le (length (c ∷ cs)) run) c ++ marked run (front && is_white c) cs

-- whether the last character is a `\`, or `last` where there is none
abbrev pub last_is : Bool → Text → Bool
last_is last [] = last
last_is last (c ∷ cs) = last_is (c == 92) cs
