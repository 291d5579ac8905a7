-- Worked cases of the definitions of tokens and of what is removed from texts, computed.
use Rattle.std.proofs.Common.{◌≡◌, ℕ, List, [], ◌∷◌, Some, None, true, false, refl}
use Rattle.std.specs.Prelude.{codes}
use Rattle.std.specs.Str.{chars}
use Rattle.gl_ast.specs.Grammar.{after_gaps}
use Rattle.gl_ast.specs.Settling.{kept, opens_line, closes_line, alone}
use Rattle.gl_ast.specs.TokenReading.{template_tokens}
use Rattle.gl_ast.specs.TokenText.{is_block_name}
use Rattle.gl_ast.specs.Words.{fits, after_free_name, after_class, after_element_name, after_block_name, after_slot_name, after_label, after_end_tag, after_tag_opening, after_html_comment, after_long_comment, after_short_comment, after_comment, after_opening, after_mustache, after_argument, after_spaced_name, after_names, after_parameters, after_head, after_segment, after_path, after_natural, after_number, after_string}
use Rattle.gl_ast.specs.Modes.{content_opening, content_token, value_end_token, tag_mark, tag_token, equals_token, expression_mark, expression_token, mustache_token, token}
use Rattle.gl_ast.specs.declared.edge.Edge.TheVariants.{Keep, Line, White}
use Rattle.gl_ast.specs.declared.token.Token.{Token}
use Rattle.gl_ast.specs.declared.token.TokenKind.{TokenKind}
use Rattle.gl_ast.specs.declared.token.TokenKind.TheVariants as k

abbrev pub at : TokenKind → ℕ → ℕ → List ℕ → Token
at kind start end text = record { kind = kind; start = start; end = end; text = text }

-- a comment of the long form is longer than one of the short form
long_comment : after_comment (codes "{{!--a}}b--}}c") ≡ Some (codes "c")
unfolding after_comment after_long_comment
long_comment = refl

-- and the short form serves where the long one has no end
short_comment : after_comment (codes "{{!--a}}b") ≡ Some (codes "b")
unfolding after_comment after_long_comment after_short_comment
short_comment = refl

-- a path's segments are names or digits
segments : after_path (codes "@a.0.b-c.1d.") ≡ Some (codes "d.")
unfolding after_path after_head after_argument after_segment
segments = refl

-- no parameter has a reserved name
parameters : after_parameters (codes "as | a b| >") ≡ Some (codes " >")
unfolding after_parameters after_names after_free_name after_spaced_name
parameters = refl

reserved_parameter : after_parameters (codes "as |a this|") ≡ None
unfolding after_parameters after_names after_free_name after_spaced_name
reserved_parameter = refl

-- the greatest number, and one more
greatest_number : after_number (codes "-9007199254740991 ") ≡ Some (codes " ")
unfolding after_number after_natural fits
greatest_number = refl

too_large : after_number (codes "9007199254740992 ") ≡ None
unfolding after_number after_natural fits
too_large = refl

-- a quote after a `\` does not end a string
escaped : after_string 34 (codes "\"a\\\"b\"c") ≡ Some (codes "c")
unfolding after_string
escaped = refl

-- a whole template
template : template_tokens (codes "<p a=b>{{~x}}\n") ≡ Some (
    at k.TagOpening 0 2 (codes "<p") ∷ at k.Attribute 3 4 (codes "a") ∷ at k.Equals 4 5 (codes "=") ∷ at k.Unquoted 5 6 (codes "b") ∷ at k.TagEnd 6 7 (codes ">")
    ∷ at k.OpenMustache 7 10 (codes "{{~") ∷ at k.Path 10 11 (codes "x") ∷ at k.CloseMustache 11 13 (codes "}}") ∷ at k.Text 13 14 (codes "\n") ∷ [])
unfolding template_tokens token content_token content_opening tag_token tag_mark equals_token value_end_token mustache_token expression_token expression_mark after_html_comment after_end_tag after_tag_opening after_label after_element_name after_class after_comment after_long_comment after_short_comment after_opening after_parameters after_path after_head after_argument after_segment after_number after_natural after_string after_mustache chars
template = refl

-- a block that is passed: white space may stand before the `>` of its end
slot : template_tokens (codes "<:a-1 as |x|></:a-1\n>") ≡ Some (
    at k.TagOpening 0 5 (codes "<:a-1") ∷ at k.Parameters 6 12 (codes "as |x|") ∷ at k.TagEnd 12 13 (codes ">") ∷ at k.EndTag 13 21 (codes "</:a-1\n>") ∷ [])
unfolding template_tokens token content_token tag_token tag_mark value_end_token after_html_comment after_end_tag after_tag_opening after_label after_element_name after_class after_slot_name after_block_name after_parameters after_names after_free_name after_spaced_name after_argument chars
slot = refl

-- the longest name of a block, where the whole is none
short_names : after_slot_name (codes ":inverse>") ≡ Some (codes "e>")
unfolding after_slot_name after_block_name
short_names = refl

short_reserved : after_tag_opening (codes "<:this x") ≡ Some (codes "s x")
unfolding after_tag_opening after_label after_element_name after_class after_slot_name after_block_name
short_reserved = refl

-- a name may begin with a reserved one
long_name : after_tag_opening (codes "<:elsewhere>") ≡ Some (codes ">")
unfolding after_tag_opening after_label after_element_name after_class after_slot_name after_block_name
long_name = refl

one_letter : after_tag_opening (codes "<:$>") ≡ Some (codes ">")
unfolding after_tag_opening after_label after_element_name after_class after_slot_name after_block_name
one_letter = refl

-- an end tag of such a name is no token, and neither is a `:` without a name
no_end : after_end_tag (codes "</:inverse>") ≡ None
unfolding after_end_tag after_label after_element_name after_class after_slot_name after_block_name
no_end = refl

no_name : after_tag_opening (codes "<:1>") ≡ None
unfolding after_tag_opening after_label after_element_name after_class after_slot_name after_block_name
no_name = refl

space_before : after_end_tag (codes "</ :a>") ≡ None
unfolding after_end_tag after_label after_element_name after_class after_slot_name after_block_name
space_before = refl

-- names of blocks in strings
block_name : is_block_name (codes "head-1") ≡ true
block_name = refl

reserved_name : is_block_name (codes "undefined") ≡ false
reserved_name = refl

inverse_name : is_block_name (codes "inverse") ≡ false
inverse_name = refl

empty_name : is_block_name [] ≡ false
empty_name = refl

dotted_name : is_block_name (codes "a.b") ≡ false
dotted_name = refl

digit_name : is_block_name (codes "1a") ≡ false
digit_name = refl

-- among blocks white space and comments are gaps, and a reference is none
gaps : after_gaps (at k.Text 0 2 (codes " \n") ∷ at k.MustacheComment 2 7 (codes "{{!}}") ∷ at k.Text 7 7 [] ∷ at k.Text 7 13 (codes " &#32;") ∷ []) ≡ at k.Text 7 13 (codes " &#32;") ∷ []
gaps = refl

no_gaps : after_gaps (at k.HtmlComment 0 7 (codes "<!---->") ∷ []) ≡ at k.HtmlComment 0 7 (codes "<!---->") ∷ []
no_gaps = refl

-- a `\` before `{{` is no token
escaped_mustache : template_tokens (codes "a\\{{b}}") ≡ None
unfolding template_tokens token content_token content_opening after_html_comment after_end_tag after_tag_opening after_comment after_long_comment after_short_comment after_opening
escaped_mustache = refl

-- the line of a lone tag: one line break, and blanks
one_break : kept Line Keep (codes " \r\n\n a ") ≡ codes "\n a "
one_break = refl

blanks : kept Keep Line (codes "a \n \t") ≡ codes "a \n"
blanks = refl

-- all white space beside `~`
stripped : kept White White (codes " \n a b \n ") ≡ codes "a b"
stripped = refl

-- a tag with its line for itself, and one without
lone : alone (codes "a\n {{/f}} \nb") 3 9 ≡ true
unfolding alone opens_line closes_line
lone = refl

not_lone : alone (codes "a\n {{/f}} b") 3 9 ≡ false
unfolding alone opens_line closes_line
not_lone = refl
