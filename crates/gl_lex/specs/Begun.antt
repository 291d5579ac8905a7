-- Whether bytes at which no token stands would be a token with more bytes after them, by cases.
use Rattle.std.specs.Prelude.{ℕ, List, [], ◌∷◌, Bool, true, false, ◌||◌, ◌&&◌, not, codes, Option, Some, None}
use Rattle.gl_base.specs.Names.{has_text}
use Rattle.gl_ast.specs.Marks.{is_white}
use Rattle.gl_ast.specs.Scans.{after, begins, after_all}
use Rattle.gl_ast.specs.Words.{read_part, barred, after_name, after_element_name, after_tag}
use Rattle.gl_ast.specs.declared.mode.Mode.{Mode}
use Rattle.gl_ast.specs.declared.mode.Mode.TheVariants as m

abbrev pub is_none : List ℕ → Bool
is_none [] = true
is_none (b ∷ bs) = false

-- after the name of a class in an end tag: white space to the end, or the front of `::`
abbrev pub class_begun : List ℕ → Bool
class_begun end = is_none (after_all is_white end) || begins end (codes "::")

-- After a name in the end tag of a block: nothing, since more characters make it the name of a block, or white space to
-- the end after the name of a block.
abbrev pub block_begun : List ℕ → List ℕ → Bool
block_begun bs end = is_none end || (is_none (after_all is_white end) && not (has_text (read_part bs end) barred))

abbrev pub block_or_none : List ℕ → Option (List ℕ) → Bool
block_or_none bs (Some end) = block_begun bs end
block_or_none bs None = is_none bs

-- after `:`
unfoldable pub slot_begun : List ℕ → Bool
slot_begun bs = block_or_none bs (after_name bs)

abbrev pub slot_or_none : List ℕ → Option (List ℕ) → Bool
slot_or_none bs (Some name) = slot_begun name
slot_or_none bs None = is_none bs

abbrev pub class_or_none : List ℕ → Option (List ℕ) → Bool
class_or_none bs (Some end) = class_begun end
class_or_none bs None = slot_or_none bs (after (codes ":") bs)

abbrev pub tag_or_class : List ℕ → Option (List ℕ) → Bool
tag_or_class bs (Some end) = is_none (after_all is_white end)
tag_or_class bs None = class_or_none bs (after_element_name bs)

-- what follows `</` up to the end of the text: nothing, or a name, and white space or none
unfoldable pub name_begun : List ℕ → Bool
name_begun bs = tag_or_class bs (after_tag bs)

abbrev pub name_or_front : List ℕ → Option (List ℕ) → Bool
name_or_front bs (Some name) = name_begun name
name_or_front bs None = begins bs (codes "</")

unfoldable pub end_tag_begun : List ℕ → Bool
end_tag_begun bs = name_or_front bs (after (codes "</") bs)

-- in the content: a comment that is not closed, an end tag, and the opening of a block that is passed
unfoldable pub content_begun : List ℕ → Bool
content_begun bs = begins bs (codes "<!--") || begins (codes "<!--") bs || end_tag_begun bs || begins bs (codes "<:")

unfoldable pub tag_begun : List ℕ → Bool
tag_begun bs = begins bs (codes "...attributes") || begins bs (codes "@") || begins bs (codes "/") || begins bs (codes "{")

-- in an expression: `@`, `-`, and a string that is not closed
unfoldable pub expression_begun : List ℕ → Bool
expression_begun bs = begins bs (codes "@") || begins bs (codes "-") || begins (codes "\"") bs || begins (codes "'") bs

unfoldable pub is_begun : Mode → List ℕ → Bool
is_begun m.Content bs = content_begun bs
is_begun m.Tag bs = tag_begun bs
is_begun m.Equals bs = begins bs (codes "{")
is_begun m.ValueEnd bs = begins bs (codes "/")
is_begun (m.Value q) bs = false
is_begun (m.Mustache around) bs = expression_begun bs || begins bs (codes "~}}") || begins bs (codes "}")
is_begun m.Expression bs = expression_begun bs
