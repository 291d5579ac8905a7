-- A text between quotation marks.
use Rattle.std.specs.Prelude.{ℕ, [], ◌∷◌, ◌++◌, ◌==◌, ◌||◌, nat_lt, false, if◌then◌else◌, codes}
use Rattle.std.specs.List.{flat_map}
use Rattle.std.specs.Fmt.{digits}
use Rattle.gl_base.specs.Texts.{Text}
use Rattle.gl_value.specs.Signs.{tab, line_feed, carriage_return, blank, quotation_mark, backslash, delete}

-- A character as it stands between the marks: a mark, a backslash, a line feed, a carriage return and a tab
-- are written with a backslash, other control characters by their code in hexadecimal, all else as it is.
unfoldable pub escaped : ℕ → Text
escaped c =
    if c == quotation_mark then codes "\\\"" else
    (if c == backslash then codes "\\\\" else
    (if c == line_feed then codes "\\n" else
    (if c == carriage_return then codes "\\r" else
    (if c == tab then codes "\\t" else
    (if nat_lt c blank || c == delete then codes "\\u{" ++ (digits 16 false c ++ codes "}") else c ∷ [])))))

abbrev pub quoted : Text → Text
quoted text = quotation_mark ∷ (flat_map escaped text ++ quotation_mark ∷ [])
