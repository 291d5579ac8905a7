-- Each token has at least one byte, and what follows it is a text again.
use Rattle.std.proofs.Common.{◌≡◌, ◌<◌, ℕ, List, [], ◌∷◌, Bool, true, false, Option, Some, None, ◌||◌, ◌⊎◌, inl, inr, cond, not, eqb, ltb, is_some, lit<, refl, subst, arith}
use Rattle.std.specs.Prelude.{codes}
use Rattle.std.proofs.lemmas.Bool.Decides.{nat_tests}
use Rattle.gl_base.specs.Answers.{◌>>=◌}
use Rattle.gl_base.specs.Names.{or_else, has_text}
use Rattle.gl_ast.specs.Marks.{is_white, is_capital, is_small, is_digit, starts_name, in_name, in_class, in_tag, starts_attribute, in_attribute, in_unquoted}
use Rattle.gl_ast.specs.Scans.{after, begins, after_any, after_all, from_first, after_run, after_pieces, after_closing}
use Rattle.gl_ast.specs.Words.{read_part, reserved, after_white, after_space, after_name, after_free_name, after_class_part, after_more_class, after_parts, after_class, after_tag, after_element_name, after_slot_name, after_block_name, after_label, after_end_tag, after_tag_opening, after_html_comment, after_long_end, shows_long_end, after_long_comment, after_short_comment, after_comment, after_tilde, after_opening, after_mustache, after_attribute, after_argument, after_unquoted, after_spaced_name, after_more_names, after_names, after_parameters, after_digits, after_head, after_member, after_segment, after_segments, after_path, goes_on, fits, after_natural, after_number, after_string, ends_text, ends_quoted}
use Rattle.gl_ast.specs.Modes.{Found, found, quote_byte, content_opening, content_token, tag_mark, tag_token, equals_token, value_end_token, value_token, expression_mark, expression_token, mustache_token, token}
use Rattle.gl_ast.specs.declared.mode.Quote.{Quote}
use Rattle.gl_ast.specs.declared.mode.Quote.TheVariants.{Double, Single}
use Rattle.gl_ast.specs.declared.mode.Around.{Around}
use Rattle.gl_ast.specs.declared.mode.Mode.{Mode}
use Rattle.gl_ast.specs.declared.mode.Mode.TheVariants as m
use Rattle.gl_ast.specs.declared.token.TokenKind.{TokenKind}
use Rattle.gl_ast.proofs.Forward.{Steps, Scans, Moves, leaves_any, leaves_all, leaves_pieces, scans_total, scans_then, scans_or, moves_then, moves_or, moves_scan, scans_after, moves_after, moves_word, moves_until, moves_run, scans_first, scans_closing, IsLowSign, bind_some, leaves_step, same_byte, low_byte, low_text}
use Rattle.gl_ast.proofs.BlockNames.{block_moves}

pub white_low : (b : ℕ) → is_white b ≡ true → b < 128
white_low b e = grind (arith, nat_tests)

name_low : (b : ℕ) → starts_name b ≡ true → b < 128
name_low b e = grind (arith, nat_tests)

in_name_low : (b : ℕ) → in_name b ≡ true → b < 128
in_name_low b e = grind (arith, nat_tests)

capital_low : (b : ℕ) → is_capital b ≡ true → b < 128
capital_low b e = grind (arith, nat_tests)

class_low : (b : ℕ) → in_class b ≡ true → b < 128
class_low b e = grind (arith, nat_tests)

small_low : (b : ℕ) → is_small b ≡ true → b < 128
small_low b e = grind (arith, nat_tests)

tag_low : (b : ℕ) → in_tag b ≡ true → b < 128
tag_low b e = grind (arith, nat_tests)

starts_attribute_low : (b : ℕ) → starts_attribute b ≡ true → b < 128
starts_attribute_low b e = grind (arith, nat_tests)

attribute_low : (b : ℕ) → in_attribute b ≡ true → b < 128
attribute_low b e = grind (arith, nat_tests)

digit_low : (b : ℕ) → is_digit b ≡ true → b < 128
digit_low b e = grind (arith, nat_tests)

unquoted_low : (b : ℕ) → in_unquoted b ≡ false → b < 128
unquoted_low b e = grind (arith, nat_tests)

-- the signs that end comments and texts begin with a byte of ASCII
some_front : (t : Bool) (o : Option (List ℕ)) → is_some (cond t o None) ≡ true → t ≡ true
some_front true o e = refl
some_front false o e = cc

begins_low : (c : ℕ) (cs : List ℕ) → c < 128 → IsLowSign (begins (c ∷ cs))
begins_low c cs low b bs e = let h = same_byte c b (some_front (eqb c b) (after cs bs) e) in subst (λ (n : ℕ). n < 128) h low

one_of : (x y : Bool) → (x || y) ≡ true → (x ≡ true) ⊎ (y ≡ true)
one_of true y e = inl refl
one_of false y e = inr e

low_or : (p q : List ℕ → Bool) → IsLowSign p → IsLowSign q → IsLowSign (λ bs. p bs || q bs)
low_or p q lp lq b bs e = elim (one_of (p (b ∷ bs)) (q (b ∷ bs)) e) [ inl h ↦ lp b bs h | inr h ↦ lq b bs h ]

html_end_low : IsLowSign (begins (codes "-->"))
html_end_low = begins_low 45 (codes "->") (lit< tt)

long_end_low : IsLowSign shows_long_end
long_end_low = low_or (begins (codes "--}}")) (begins (codes "--~}}")) (begins_low 45 (codes "-}}") (lit< tt)) (begins_low 45 (codes "-~}}") (lit< tt))

short_end_low : IsLowSign (begins (codes "}}"))
short_end_low = begins_low 125 (codes "}") (lit< tt)

mustache_or_escape : IsLowSign (λ bs. begins (codes "{{") bs || begins (codes "\\{{") bs)
mustache_or_escape = low_or (begins (codes "{{")) (begins (codes "\\{{")) (begins_low 123 (codes "{") (lit< tt)) (begins_low 92 (codes "{{") (lit< tt))

text_end_low : IsLowSign ends_text
text_end_low = low_or (λ bs. begins (codes "<") bs || begins (codes "{{") bs) (begins (codes "\\{{"))
    (low_or (begins (codes "<")) (begins (codes "{{")) (begins_low 60 [] (lit< tt)) (begins_low 123 (codes "{") (lit< tt)))
    (begins_low 92 (codes "{{") (lit< tt))

quoted_end_low : (quote : ℕ) → quote < 128 → IsLowSign (ends_quoted quote)
quoted_end_low quote low = low_or (λ bs. begins (quote ∷ []) bs || begins (codes "{{") bs) (begins (codes "\\{{"))
    (low_or (begins (quote ∷ [])) (begins (codes "{{")) (begins_low quote [] low) (begins_low 123 (codes "{") (lit< tt)))
    (begins_low 92 (codes "{{") (lit< tt))

-- the words
pub white_scans : Scans after_white
white_scans = scans_total (after_all is_white) (leaves_all is_white white_low)

pub space_moves : Moves after_space
space_moves = moves_word is_white is_white white_low white_low

name_moves : Moves after_name
name_moves = moves_word starts_name in_name name_low in_name_low

-- a test of what was read keeps what is left
if_not : (t : Bool) (rest out : List ℕ) → cond t None (Some rest) ≡ Some out → rest ≡ out
if_not true rest out e = cc
if_not false rest out e = cc

kept_moves : (f : List ℕ → Option (List ℕ)) (test : List ℕ → List ℕ → Bool) → Moves f → Moves (λ bs. f bs >>= λ rest. cond (test bs rest) None (Some rest))
kept_moves f test p bs rest e =
    let b = bind_some (f bs) (λ (r : List ℕ). cond (test bs r) None (Some r)) rest e in
    let same = if_not (test bs b.0) b.0 rest b.2 in
    subst (λ (l : List ℕ). Steps bs l) same (p bs b.0 b.1)

pub free_name_moves : Moves after_free_name
unfolding after_free_name
free_name_moves = kept_moves after_name (λ bs rest. has_text (read_part bs rest) reserved) name_moves

class_part_moves : Moves after_class_part
class_part_moves = moves_word is_capital in_class capital_low class_low

pub more_class_moves : Moves after_more_class
unfolding after_more_class
more_class_moves = moves_then (after (codes "::")) after_class_part (moves_after 58 (codes ":") refl) (moves_scan after_class_part class_part_moves)

parts_scans : Scans after_parts
parts_scans = scans_total (after_pieces after_more_class 0) (leaves_pieces after_more_class more_class_moves)

class_moves : Moves after_class
unfolding after_class
class_moves = moves_then after_class_part after_parts class_part_moves parts_scans

tag_moves : Moves after_tag
tag_moves = moves_word is_small in_tag small_low tag_low

element_name_moves : Moves after_element_name
unfolding after_element_name
element_name_moves = moves_or after_tag after_class tag_moves class_moves

slot_name_moves : Moves after_slot_name
unfolding after_slot_name
slot_name_moves = moves_then (after (codes ":")) after_block_name (moves_after 58 [] refl) (moves_scan after_block_name block_moves)

label_moves : Moves after_label
unfolding after_label
label_moves = moves_or after_element_name after_slot_name element_name_moves slot_name_moves

end_tag_moves : Moves after_end_tag
unfolding after_end_tag
end_tag_moves =
    moves_then (λ bs. after (codes "</") bs >>= after_label >>= after_white) (after (codes ">"))
    (moves_then (λ bs. after (codes "</") bs >>= after_label) after_white
    (moves_then (after (codes "</")) after_label (moves_after 60 (codes "/") refl) (moves_scan after_label label_moves))
    white_scans)
    (scans_after (codes ">") refl)

tag_opening_moves : Moves after_tag_opening
unfolding after_tag_opening
tag_opening_moves = moves_then (after (codes "<")) after_label (moves_after 60 [] refl) (moves_scan after_label label_moves)

html_comment_moves : Moves after_html_comment
unfolding after_html_comment
html_comment_moves =
    moves_then (λ bs. after (codes "<!--") bs >>= from_first (begins (codes "-->"))) (after (codes "-->"))
    (moves_then (after (codes "<!--")) (from_first (begins (codes "-->"))) (moves_after 60 (codes "!--") refl) (scans_first (begins (codes "-->")) html_end_low))
    (scans_after (codes "-->") refl)

long_end_scans : Scans after_long_end
long_end_scans = scans_or (after (codes "--}}")) (after (codes "--~}}")) (scans_after (codes "--}}") refl) (scans_after (codes "--~}}") refl)

long_comment_moves : Moves after_long_comment
unfolding after_long_comment
long_comment_moves =
    moves_then (λ bs. or_else (after (codes "{{!--") bs) (after (codes "{{~!--") bs) >>= from_first shows_long_end) after_long_end
    (moves_then (λ bs. or_else (after (codes "{{!--") bs) (after (codes "{{~!--") bs)) (from_first shows_long_end)
    (moves_or (after (codes "{{!--")) (after (codes "{{~!--")) (moves_after 123 (codes "{!--") refl) (moves_after 123 (codes "{~!--") refl))
    (scans_first shows_long_end long_end_low))
    long_end_scans

short_comment_moves : Moves after_short_comment
unfolding after_short_comment
short_comment_moves =
    moves_then (λ bs. or_else (after (codes "{{!") bs) (after (codes "{{~!") bs) >>= from_first (begins (codes "}}"))) (after (codes "}}"))
    (moves_then (λ bs. or_else (after (codes "{{!") bs) (after (codes "{{~!") bs)) (from_first (begins (codes "}}")))
    (moves_or (after (codes "{{!")) (after (codes "{{~!")) (moves_after 123 (codes "{!") refl) (moves_after 123 (codes "{~!") refl))
    (scans_first (begins (codes "}}")) short_end_low))
    (scans_after (codes "}}") refl)

comment_moves : Moves after_comment
unfolding after_comment
comment_moves = moves_or after_long_comment after_short_comment long_comment_moves short_comment_moves

tilde_scans : Scans after_tilde
tilde_scans = scans_total (after_any (codes "~")) (leaves_any (codes "~") refl)

opening_moves : Moves after_opening
unfolding after_opening
opening_moves = moves_then (after (codes "{{")) after_tilde (moves_after 123 (codes "{") refl) tilde_scans

mustache_moves : Moves after_mustache
unfolding after_mustache
mustache_moves = moves_or (after (codes "}}")) (after (codes "~}}")) (moves_after 125 (codes "}") refl) (moves_after 126 (codes "}}") refl)

attribute_moves : Moves after_attribute
attribute_moves = moves_word starts_attribute in_attribute starts_attribute_low attribute_low

argument_moves : Moves after_argument
unfolding after_argument
argument_moves = moves_then (after (codes "@")) after_name (moves_after 64 [] refl) (moves_scan after_name name_moves)

unquoted_moves : Moves after_unquoted
unquoted_moves = moves_until in_unquoted unquoted_low

pub spaced_name_moves : Moves after_spaced_name
unfolding after_spaced_name
spaced_name_moves = moves_then after_space after_free_name space_moves (moves_scan after_free_name free_name_moves)

more_names_scans : Scans after_more_names
more_names_scans = scans_total (after_pieces after_spaced_name 0) (leaves_pieces after_spaced_name spaced_name_moves)

pub names_scans : Scans after_names
unfolding after_names
names_scans =
    scans_then (λ bs. after_white bs >>= after_free_name >>= after_more_names) after_white
    (scans_then (λ bs. after_white bs >>= after_free_name) after_more_names
    (scans_then after_white after_free_name white_scans (moves_scan after_free_name free_name_moves))
    more_names_scans)
    white_scans

parameters_moves : Moves after_parameters
unfolding after_parameters
parameters_moves =
    moves_then (λ bs. after (codes "as") bs >>= after_space >>= after (codes "|") >>= after_names) (after (codes "|"))
    (moves_then (λ bs. after (codes "as") bs >>= after_space >>= after (codes "|")) after_names
    (moves_then (λ bs. after (codes "as") bs >>= after_space) (after (codes "|"))
    (moves_then (after (codes "as")) after_space (moves_after 97 (codes "s") refl) (moves_scan after_space space_moves))
    (scans_after (codes "|") refl))
    names_scans)
    (scans_after (codes "|") refl)

digits_moves : Moves after_digits
digits_moves = moves_word is_digit is_digit digit_low digit_low

head_moves : Moves after_head
unfolding after_head
head_moves = moves_or after_argument after_name argument_moves name_moves

member_moves : Moves after_member
member_moves = moves_or after_name after_digits name_moves digits_moves

pub segment_moves : Moves after_segment
unfolding after_segment
segment_moves = moves_then (after (codes ".")) after_member (moves_after 46 [] refl) (moves_scan after_member member_moves)

segments_scans : Scans after_segments
segments_scans = scans_total (after_pieces after_segment 0) (leaves_pieces after_segment segment_moves)

path_moves : Moves after_path
unfolding after_path
path_moves = moves_then after_head after_segments head_moves segments_scans

natural_moves : Moves after_natural
unfolding after_natural
natural_moves = kept_moves after_digits (λ bs rest. goes_on rest || not (fits (read_part bs rest))) digits_moves

number_moves : Moves after_number
unfolding after_number
number_moves bs rest e = leaves_step bs (after_any (codes "-") bs) rest (leaves_any (codes "-") refl bs) (natural_moves (after_any (codes "-") bs) rest e)

string_moves : (quote : ℕ) → ltb quote 128 ≡ true → Moves (after_string quote)
unfolding after_string
string_moves quote low = moves_then (after (quote ∷ [])) (after_closing quote false) (moves_after quote [] (low_text quote low)) (scans_closing quote false (low_byte quote low))

quote_low : (q : Quote) → ltb (quote_byte q) 128 ≡ true
quote_low Double = refl
quote_low Single = refl

-- a token that may have been found steps forward
abbrev pub StepsIf : List ℕ → Option Found → Type 0
StepsIf bs o = (f : Found) → o ≡ Some f → Steps bs f.1

found_steps : (kind : TokenKind) (next : Mode) (scan : List ℕ → Option (List ℕ)) → Moves scan → (bs : List ℕ) → StepsIf bs (found kind next (scan bs))
found_steps kind next scan p bs = left_steps kind next bs (scan bs) (p bs)
  where
    left_steps : (kind : TokenKind) (next : Mode) (bs : List ℕ) (o : Option (List ℕ)) → ((rest : List ℕ) → o ≡ Some rest → Steps bs rest) → StepsIf bs (found kind next o)
    left_steps kind next bs None p f e = cc
    left_steps kind next bs (Some x) p f e = let h : x ≡ f.1 = cc in subst (λ (l : List ℕ). Steps bs l) h (p x refl)

first_of_two : (bs : List ℕ) (o p : Option Found) → StepsIf bs o → StepsIf bs p → StepsIf bs (or_else o p)
first_of_two bs None p s t f e = t f e
first_of_two bs (Some x) p s t f e = s f e

no_step : (bs : List ℕ) → StepsIf bs None
no_step bs f e = cc

opening_steps : (bs : List ℕ) → StepsIf bs (content_opening bs)
unfolding content_opening
opening_steps bs =
    first_of_two bs _ _ (found_steps _ _ (λ xs. after_opening xs >>= after (codes "#")) (moves_then after_opening (after (codes "#")) opening_moves (scans_after (codes "#") refl)) bs) (
    first_of_two bs _ _ (found_steps _ _ (λ xs. after_opening xs >>= after (codes "/")) (moves_then after_opening (after (codes "/")) opening_moves (scans_after (codes "/") refl)) bs) (
    first_of_two bs _ _ (found_steps _ _ after_opening opening_moves bs) (no_step bs)))

content_steps : (bs : List ℕ) → StepsIf bs (content_token bs)
unfolding content_token
content_steps bs =
    first_of_two bs _ _ (found_steps _ _ (after_run ends_text) (moves_run ends_text text_end_low) bs) (
    first_of_two bs _ _ (found_steps _ _ after_html_comment html_comment_moves bs) (
    first_of_two bs _ _ (found_steps _ _ after_end_tag end_tag_moves bs) (
    first_of_two bs _ _ (found_steps _ _ after_tag_opening tag_opening_moves bs) (
    first_of_two bs _ _ (found_steps _ _ after_comment comment_moves bs) (
    first_of_two bs _ _ (opening_steps bs) (no_step bs))))))

value_end_steps : (bs : List ℕ) → StepsIf bs (value_end_token bs)
unfolding value_end_token
value_end_steps bs =
    first_of_two bs _ _ (found_steps _ _ (after (codes ">")) (moves_after 62 [] refl) bs) (
    first_of_two bs _ _ (found_steps _ _ (after (codes "/>")) (moves_after 47 (codes ">") refl) bs) (no_step bs))

tag_mark_steps : (bs : List ℕ) → StepsIf bs (tag_mark bs)
unfolding tag_mark
tag_mark_steps bs =
    first_of_two bs _ _ (found_steps _ _ (after (codes "...attributes")) (moves_after 46 (codes "..attributes") refl) bs) (
    first_of_two bs _ _ (found_steps _ _ (after (codes "=")) (moves_after 61 [] refl) bs) (
    first_of_two bs _ _ (value_end_steps bs) (no_step bs)))

tag_steps : (bs : List ℕ) → StepsIf bs (tag_token bs)
unfolding tag_token
tag_steps bs =
    first_of_two bs _ _ (found_steps _ _ after_parameters parameters_moves bs) (
    first_of_two bs _ _ (found_steps _ _ after_attribute attribute_moves bs) (
    first_of_two bs _ _ (found_steps _ _ after_argument argument_moves bs) (
    first_of_two bs _ _ (tag_mark_steps bs) (
    first_of_two bs _ _ (found_steps _ _ after_comment comment_moves bs) (
    first_of_two bs _ _ (found_steps _ _ after_opening opening_moves bs) (no_step bs))))))

equals_steps : (bs : List ℕ) → StepsIf bs (equals_token bs)
unfolding equals_token
equals_steps bs =
    first_of_two bs _ _ (found_steps _ _ after_unquoted unquoted_moves bs) (
    first_of_two bs _ _ (found_steps _ _ (after (34 ∷ [])) (moves_after 34 [] refl) bs) (
    first_of_two bs _ _ (found_steps _ _ (after (39 ∷ [])) (moves_after 39 [] refl) bs) (
    first_of_two bs _ _ (found_steps _ _ after_opening opening_moves bs) (no_step bs))))

value_steps : (q : Quote) (bs : List ℕ) → StepsIf bs (value_token q bs)
unfolding value_token
value_steps q bs =
    first_of_two bs _ _ (found_steps _ _ (after (quote_byte q ∷ [])) (moves_after (quote_byte q) [] (low_text (quote_byte q) (quote_low q))) bs) (
    first_of_two bs _ _ (found_steps _ _ (after_run (ends_quoted (quote_byte q))) (moves_run (ends_quoted (quote_byte q)) (quoted_end_low (quote_byte q) (low_byte (quote_byte q) (quote_low q)))) bs) (
    first_of_two bs _ _ (found_steps _ _ after_opening opening_moves bs) (no_step bs)))

expression_mark_steps : (mode : Mode) (bs : List ℕ) → StepsIf bs (expression_mark mode bs)
unfolding expression_mark
expression_mark_steps mode bs =
    first_of_two bs _ _ (found_steps _ _ (after (codes "(")) (moves_after 40 [] refl) bs) (
    first_of_two bs _ _ (found_steps _ _ (after (codes ")")) (moves_after 41 [] refl) bs) (
    first_of_two bs _ _ (found_steps _ _ (after (codes "=")) (moves_after 61 [] refl) bs) (no_step bs)))

expression_steps : (mode : Mode) (bs : List ℕ) → StepsIf bs (expression_token mode bs)
unfolding expression_token
expression_steps mode bs =
    first_of_two bs _ _ (found_steps _ _ after_parameters parameters_moves bs) (
    first_of_two bs _ _ (found_steps _ _ after_path path_moves bs) (
    first_of_two bs _ _ (found_steps _ _ after_number number_moves bs) (
    first_of_two bs _ _ (found_steps _ _ (after_string 34) (string_moves 34 refl) bs) (
    first_of_two bs _ _ (found_steps _ _ (after_string 39) (string_moves 39 refl) bs) (
    first_of_two bs _ _ (expression_mark_steps mode bs) (no_step bs))))))

mustache_steps : (around : Around) (bs : List ℕ) → StepsIf bs (mustache_token around bs)
unfolding mustache_token
mustache_steps around bs = first_of_two bs _ _ (expression_steps (m.Mustache around) bs) (found_steps _ _ after_mustache mustache_moves bs)

pub token_steps : (mode : Mode) (bs : List ℕ) → StepsIf bs (token mode bs)
unfolding token
token_steps m.Content bs = content_steps bs
token_steps m.Tag bs = tag_steps bs
token_steps m.Equals bs = equals_steps bs
token_steps m.ValueEnd bs = value_end_steps bs
token_steps (m.Value q) bs = value_steps q bs
token_steps (m.Mustache around) bs = mustache_steps around bs
token_steps m.Expression bs = expression_steps m.Expression bs
