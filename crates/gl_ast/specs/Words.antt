-- The words of a template and how far each reaches: names, paths, numbers, strings, parameters and comments.
use Rattle.std.specs.Prelude.{ℕ, List, [], ◌∷◌, ◌+◌, ◌*◌, ◌-◌, Bool, false, ◌||◌, not, nat_le, codes, length, take, drop, if◌then◌else◌, Option, Some, None}
use Rattle.gl_base.specs.Answers.{◌>>=◌}
use Rattle.gl_base.specs.Names.{or_else, has_text}
use Rattle.gl_base.specs.Texts.{Text}
use Rattle.gl_ast.specs.Marks.{is_white, is_capital, is_small, is_digit, starts_name, in_name, in_class, in_tag, starts_attribute, in_attribute, in_unquoted}
use Rattle.gl_ast.specs.Scans.{after, begins, after_any, after_all, after_word, from_first, after_pieces, after_closing}

-- what was read where `rest` is left
abbrev pub read_part : List ℕ → List ℕ → List ℕ
read_part bs rest = take (length bs - length rest) bs

abbrev pub after_white : List ℕ → Option (List ℕ)
after_white bs = Some (after_all is_white bs)

-- at least one character of white space
abbrev pub after_space : List ℕ → Option (List ℕ)
after_space bs = after_word is_white is_white bs

-- a name begins with a letter, `_` or `$`, and goes on with these, digits and `-`
abbrev pub after_name : List ℕ → Option (List ℕ)
after_name bs = after_word starts_name in_name bs

abbrev pub reserved : List Text
reserved = codes "this" ∷ codes "true" ∷ codes "false" ∷ codes "null" ∷ codes "undefined" ∷ codes "else" ∷ codes "yield" ∷ []

-- the rest, where what was read is no reserved name
abbrev pub if_free : List ℕ → List ℕ → Option (List ℕ)
if_free bs rest = if has_text (read_part bs rest) reserved then None else Some rest

-- a name that is not reserved
unfoldable pub after_free_name : List ℕ → Option (List ℕ)
after_free_name bs = after_name bs >>= if_free bs

-- the names that no block has
abbrev pub barred : List Text
barred = codes "inverse" ∷ reserved

-- A name that no block has is the name of a block without its last character.
abbrev pub if_block : List ℕ → List ℕ → Option (List ℕ)
if_block bs rest = if has_text (read_part bs rest) barred then Some (drop (length bs - length rest - 1) bs) else Some rest

-- the longest name of a block: a name that is neither reserved nor `inverse`
unfoldable pub after_block_name : List ℕ → Option (List ℕ)
after_block_name bs = after_name bs >>= if_block bs

-- a part of a class name is a capital, then letters and digits
abbrev pub after_class_part : List ℕ → Option (List ℕ)
after_class_part bs = after_word is_capital in_class bs

-- a further part
unfoldable pub after_more_class : List ℕ → Option (List ℕ)
after_more_class bs = after (codes "::") bs >>= after_class_part

abbrev pub after_parts : List ℕ → Option (List ℕ)
after_parts bs = Some (after_pieces after_more_class 0 bs)

unfoldable pub after_class : List ℕ → Option (List ℕ)
after_class bs = after_class_part bs >>= after_parts

-- a tag name is a small letter, then letters, digits and `-`
abbrev pub after_tag : List ℕ → Option (List ℕ)
after_tag bs = after_word is_small in_tag bs

-- the name of an element or of a class
unfoldable pub after_element_name : List ℕ → Option (List ℕ)
after_element_name bs = or_else (after_tag bs) (after_class bs)

-- `:` and the name of a block
unfoldable pub after_slot_name : List ℕ → Option (List ℕ)
after_slot_name bs = after (codes ":") bs >>= after_block_name

-- what a tag names: an element, a class, or a block that is passed
unfoldable pub after_label : List ℕ → Option (List ℕ)
after_label bs = or_else (after_element_name bs) (after_slot_name bs)

-- `</`, what the tag names, white space or none, `>`
unfoldable pub after_end_tag : List ℕ → Option (List ℕ)
after_end_tag bs = after (codes "</") bs >>= after_label >>= after_white >>= after (codes ">")

unfoldable pub after_tag_opening : List ℕ → Option (List ℕ)
after_tag_opening bs = after (codes "<") bs >>= after_label

-- `<!--` up to the first `-->`
unfoldable pub after_html_comment : List ℕ → Option (List ℕ)
after_html_comment bs = after (codes "<!--") bs >>= from_first (begins (codes "-->")) >>= after (codes "-->")

-- `--}}` or `--~}}`
abbrev pub after_long_end : List ℕ → Option (List ℕ)
after_long_end bs = or_else (after (codes "--}}") bs) (after (codes "--~}}") bs)

abbrev pub shows_long_end : List ℕ → Bool
shows_long_end bs = begins (codes "--}}") bs || begins (codes "--~}}") bs

-- `{{!--` or `{{~!--`, up to the first `--}}` or `--~}}`
unfoldable pub after_long_comment : List ℕ → Option (List ℕ)
after_long_comment bs = or_else (after (codes "{{!--") bs) (after (codes "{{~!--") bs) >>= from_first shows_long_end >>= after_long_end

-- `{{!` or `{{~!`, up to the first `}}`
unfoldable pub after_short_comment : List ℕ → Option (List ℕ)
after_short_comment bs = or_else (after (codes "{{!") bs) (after (codes "{{~!") bs) >>= from_first (begins (codes "}}")) >>= after (codes "}}")

-- The long form is the longer one wherever both stand.
unfoldable pub after_comment : List ℕ → Option (List ℕ)
after_comment bs = or_else (after_long_comment bs) (after_short_comment bs)

abbrev pub after_tilde : List ℕ → Option (List ℕ)
after_tilde bs = Some (after_any (codes "~") bs)

-- `{{` or `{{~`
unfoldable pub after_opening : List ℕ → Option (List ℕ)
after_opening bs = after (codes "{{") bs >>= after_tilde

-- `}}` or `~}}`
unfoldable pub after_mustache : List ℕ → Option (List ℕ)
after_mustache bs = or_else (after (codes "}}") bs) (after (codes "~}}") bs)

-- an attribute's name
abbrev pub after_attribute : List ℕ → Option (List ℕ)
after_attribute bs = after_word starts_attribute in_attribute bs

-- `@` and a name
unfoldable pub after_argument : List ℕ → Option (List ℕ)
after_argument bs = after (codes "@") bs >>= after_name

-- a value without quotes
abbrev pub after_unquoted : List ℕ → Option (List ℕ)
after_unquoted bs = after_word in_unquoted in_unquoted bs

-- a further name of parameters
unfoldable pub after_spaced_name : List ℕ → Option (List ℕ)
after_spaced_name bs = after_space bs >>= after_free_name

abbrev pub after_more_names : List ℕ → Option (List ℕ)
after_more_names bs = Some (after_pieces after_spaced_name 0 bs)

-- the names of parameters with white space between, and white space round them
unfoldable pub after_names : List ℕ → Option (List ℕ)
after_names bs = after_white bs >>= after_free_name >>= after_more_names >>= after_white

-- `as`, white space, `|`, the names, `|`
unfoldable pub after_parameters : List ℕ → Option (List ℕ)
after_parameters bs = after (codes "as") bs >>= after_space >>= after (codes "|") >>= after_names >>= after (codes "|")

abbrev pub after_digits : List ℕ → Option (List ℕ)
after_digits bs = after_word is_digit is_digit bs

-- `@` and a name, or a name
unfoldable pub after_head : List ℕ → Option (List ℕ)
after_head bs = or_else (after_argument bs) (after_name bs)

-- a name or digits
abbrev pub after_member : List ℕ → Option (List ℕ)
after_member bs = or_else (after_name bs) (after_digits bs)

-- `.` and a segment
unfoldable pub after_segment : List ℕ → Option (List ℕ)
after_segment bs = after (codes ".") bs >>= after_member

abbrev pub after_segments : List ℕ → Option (List ℕ)
after_segments bs = Some (after_pieces after_segment 0 bs)

unfoldable pub after_path : List ℕ → Option (List ℕ)
after_path bs = after_head bs >>= after_segments

-- the number that digits spell after those that spell n
abbrev pub number_from : ℕ → List ℕ → ℕ
number_from n [] = n
number_from n (b ∷ bs) = number_from (n * 10 + (b - 48)) bs

-- the greatest whole number of a template
abbrev pub greatest : ℕ
greatest = 9007199254740991

unfoldable pub fits : List ℕ → Bool
fits digits = nat_le (number_from 0 digits) greatest

-- a character of a name comes next
abbrev pub goes_on : List ℕ → Bool
goes_on [] = false
goes_on (b ∷ bs) = in_name b

-- the rest, where what was read is a number
abbrev pub if_number : List ℕ → List ℕ → Option (List ℕ)
if_number bs rest = if goes_on rest || not (fits (read_part bs rest)) then None else Some rest

-- digits, of a number that is not too large, without a name's character after them
unfoldable pub after_natural : List ℕ → Option (List ℕ)
after_natural bs = after_digits bs >>= if_number bs

unfoldable pub after_number : List ℕ → Option (List ℕ)
after_number bs = after_natural (after_any (codes "-") bs)

-- a string in this quote
unfoldable pub after_string : ℕ → List ℕ → Option (List ℕ)
after_string quote bs = after (quote ∷ []) bs >>= after_closing quote false

-- Plain text of the content ends before `<`, before `{{` and before a `\` that stands directly before `{{`.
abbrev pub ends_text : List ℕ → Bool
ends_text bs = begins (codes "<") bs || begins (codes "{{") bs || begins (codes "\\{{") bs

-- plain text of a quoted value, in the same way
abbrev pub ends_quoted : ℕ → List ℕ → Bool
ends_quoted quote bs = begins (quote ∷ []) bs || begins (codes "{{") bs || begins (codes "\\{{") bs
