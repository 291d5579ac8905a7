-- The lines of a turn before and behind its tree.
use Rattle.std.specs.Prelude.{ℕ, List, [], ◌∷◌, ◌++◌, flat_map}
use Rattle.std.specs.Fmt.{decimal}
use Rattle.gl_base.specs.Texts.{Text}
use Rattle.gl_value.specs.Value.{Value, text_of}
use Rattle.gl_value.specs.Quote.{quoted}
use Rattle.gl_meaning.specs.Signs.{blank, line_feed, number_sign, equals}

-- A blank and the quoted text of each positional value, then for each named one a blank, the name, `=` and the quoted text. Who owns an
-- action doesn't matter.
abbrev pub values_text : {O : Type 0} → List (Value O) → List (Text × Value O) → Text
values_text vs ns = flat_map (λ v. blank ∷ quoted (text_of v)) vs ++ flat_map (λ n. blank ∷ (n.0 ++ equals ∷ quoted (text_of n.1))) ns

-- the number of a modifier's node and its name, with what follows, up to the end of the line
unfoldable pub told : ℕ → Text → Text
told number name = number_sign ∷ (decimal number ++ blank ∷ name)

unfoldable pub told_with : ℕ → Text → Text → Text
told_with number name more = told number name ++ (more ++ line_feed ∷ [])

-- what is told of a modifier: a word, the number of its node and its name, and perhaps its values
unfoldable pub modifier_line : Text → ℕ → Text → Text → Text
modifier_line word number name more = word ++ told_with number name more
