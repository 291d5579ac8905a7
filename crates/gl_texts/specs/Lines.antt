-- The lines of a turn, read off what a machine keeps by numbers.
use Rattle.std.specs.Prelude.{ℕ, [], ◌∷◌, ◌++◌, flat_map, Option, Some, codes, decimal, is_some}
use Rattle.gl_base.specs.Texts.{Text}
use Rattle.gl_value.specs.Quote.{quoted}
use Rattle.gl_meaning.specs.App.{App}
use Rattle.gl_meaning.specs.Print.{line, attr_text}
use Rattle.gl_meaning.specs.Signs.{blank, number_sign}
use Rattle.gl_lines.specs.Lines.{values_text, modifier_line}
use Rattle.gl_plain.specs.Ids.{Id, node, modifier_id}
use Rattle.gl_plain.specs.State.{Content, element_content, text_content, comment_content, Thing, content, modifier_row, State}
use Rattle.gl_plain.specs.Live.{Live}
use Rattle.gl_machine.specs.Gone.{gone, gone_line}
use Rattle.gl_machine.specs.Shape.{Nest, end, tree, nest}

-- Tree

-- a node with its number: an element with its tag and the attributes that are not left out, a quoted text, or a quoted comment after a mark
abbrev pub content_text : ℕ → Content → Text
content_text n (element_content tag attrs) = number_sign ∷ (decimal n ++ (codes " <" ++ (tag ++ (flat_map attr_text attrs ++ codes ">"))))
content_text n (text_content t) = number_sign ∷ (decimal n ++ blank ∷ quoted t)
content_text n (comment_content t) = number_sign ∷ (decimal n ++ (codes " !" ++ quoted t))

-- nothing where what is kept for a number is no node
abbrev pub content_line : Text → ℕ → Option Thing → Text
content_line indent n (Some (content c)) = line (indent ++ content_text n c)
content_line indent n _ = []

-- A line for each node, an element before what is in it, with two blanks of indentation per depth.
module _ (row : ℕ → Option Thing) where
  abbrev pub nest_lines : Text → Nest ℕ → Text
  nest_lines indent end = []
  nest_lines indent (tree n k r) = content_line indent n (row n) ++ (nest_lines (blank ∷ blank ∷ indent) k ++ nest_lines indent r)

-- the lines of the nodes that a machine shows
abbrev pub shown_lines : State → Live → Text
shown_lines st l = nest_lines (λ n. st.look (node n)) [] (nest l)

-- Log

-- what is told of a modifier that was installed or updated: the word, the number of its node, its name and its values
abbrev pub told_row : Text → Option Thing → Text
told_row word (Some (modifier_row x)) = modifier_line word x.on_node x.name (values_text x.args x.names)
told_row word _ = []

abbrev pub told_line : Text → (Id → Option Thing) → ℕ → Text
told_line word look m = told_row word (look (modifier_id m))

abbrev pub installed_lines : State → Text
installed_lines st = flat_map (told_line (codes "install ") st.look) st.installs

abbrev pub updated_lines : State → Text
updated_lines st = flat_map (told_line (codes "update ") st.look) st.updates

-- What was destroyed, from what was kept before the turn and the tree of then: each modifier and instance that isn't kept after it, children
-- first.
abbrev pub destroyed_lines : App → State → Live → State → Text
destroyed_lines app before l after = flat_map (gone_line app before.look (λ n. n)) (gone (λ q. is_some (after.look q)) l)
