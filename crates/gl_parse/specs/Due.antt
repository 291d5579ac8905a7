-- What a template is still to have after the tokens that were read, as a list: at each token the first of it is taken
-- off, and what this token leaves due takes its place.
use Rattle.std.specs.Prelude.{ℕ, List, [], ◌∷◌, ◌++◌, ◌-◌, Bool, true, false, not, ◌&&◌, ◌||◌, nat_le, codes, length, if◌then◌else◌, Option, Some, None, option_map, is_some, unwrap_or, ◌==◌}
use Rattle.std.specs.Str.{bytes_eq}
use Rattle.gl_base.specs.Answers.{◌>>=◌}
use Rattle.gl_base.specs.Names.{has_text}
use Rattle.gl_base.specs.Texts.{Text}
use Rattle.gl_ast.specs.Grammar.{deepest_calls, deepest_nesting, is_void, is_gap}
use Rattle.gl_ast.specs.Marks.{is_small, is_capital}
use Rattle.gl_ast.specs.TokenText.{end_name_of, parameters_of, leads, string_of, is_block_name}
use Rattle.gl_ast.specs.declared.token.Token.{Token}
use Rattle.gl_ast.specs.declared.token.TokenKind.{TokenKind}
use Rattle.gl_ast.specs.declared.token.TokenKind.TheVariants as k
use Rattle.gl_exprs.specs.ReadExpr.{token_expr, is_lone}
use Rattle.gl_exprs.specs.Take.{same_kind}
use Rattle.gl_parse.specs.ReadStmt.{slot_name, is_slot_opening, is_no_name}

-- what ends statements: the end of the text, the end tag of a name, or the end of the block of a word, where an else
-- may stand before it or not
pub data Stop : Type 0 where
  whole : Stop
  tag : Text → Stop
  block : Text → Bool → Stop

-- the parts of a quoted value so far: none, one text, more texts, or a mustache among them
pub data Quoted : Type 0 where
  nothing : Quoted
  text : Quoted
  texts : Quoted
  live : Quoted

pub data Due : Type 0 where
  -- a token of this kind
  kind : TokenKind → Due
  -- a path that is this word
  word : Text → Due
  -- an expression in which so many calls may nest
  expr : ℕ → Due
  -- a name and its arguments, up to a token of this kind
  called : ℕ → TokenKind → Due
  -- arguments up to such a token; after a name that is one of them or stands before `=`; and the named ones alone
  arguments : ℕ → TokenKind → Due
  after_name : ℕ → TokenKind → Due
  named : ℕ → TokenKind → Due
  -- what stands in a mustache, and its end
  inner : Due
  -- the expressions of a yield up to the end of its mustache; after `to`, which is one of them or stands before `=`; and
  -- the name of a block in a string
  values : Due
  after_to : Due
  target : Due
  -- what stands after `=` in a tag
  value : Due
  -- the rest of a quoted value
  quoted : Quoted → Due
  -- the rest of a tag of this name, a component or not, in which elements and blocks may nest so deep; after the name of
  -- an attribute or argument; and after the parameters of a component, where these are none or not
  items : Text → Bool → ℕ → Due
  given : Text → Bool → ℕ → Due
  tag_end : Text → Bool → ℕ → Due
  -- what stands in a component of this name: gaps, and then statements or blocks that are passed; after blocks of these
  -- names; and the rest of the opening of such a block, which is named with its `:`
  filling : ℕ → Text → Due
  slots : ℕ → Text → List Text → Due
  slot_tag : ℕ → Text → Due
  -- statements and what ends them; after `{{` among them; and after else
  content : ℕ → Stop → Due
  opened : ℕ → Stop → Due
  after_else : ℕ → Text → Due
  -- a block after its opening
  head : ℕ → Due
  -- the first value of a let, and the rest of its head
  first_value : ℕ → Stop → Due
  more_values : ℕ → Stop → Due
  -- the key of an each, its parameters, and the end of its head
  each_key : ℕ → Stop → Due
  each_parameters : ℕ → Stop → Due

-- the token is a path of one name that is not reserved
abbrev pub is_lone_path : Token → Bool
is_lone_path t = same_kind t.kind k.Path && is_lone t.text

abbrev pub is_path_word : Text → Token → Bool
is_path_word w t = same_kind t.kind k.Path && bytes_eq w t.text

-- it is an expression
abbrev pub is_operand : Token → Bool
is_operand t = is_some (token_expr t.kind t.text)

abbrev pub Dues : Type 0
Dues = Option (List Due)

-- and then this
abbrev pub and_then : Due → Dues → Dues
and_then d ds = option_map (λ l. l ++ d ∷ []) ds

abbrev pub after_paren : ℕ → Dues
after_paren calls = if calls == 0 then None else Some (called (calls - 1) k.CloseParen ∷ [])

-- the first token of an expression
unfoldable pub starts_one : ℕ → Token → Dues
starts_one calls t = if same_kind t.kind k.OpenParen then after_paren calls else (if is_operand t then Some [] else None)

unfoldable pub starts_arguments : ℕ → TokenKind → Token → Dues
starts_arguments calls end t =
    if same_kind t.kind end then Some []
    else (if is_lone_path t then Some (after_name calls end ∷ []) else and_then (arguments calls end) (starts_one calls t))

unfoldable pub starts_after_name : ℕ → TokenKind → Token → Dues
starts_after_name calls end t =
    if same_kind t.kind k.Equals then Some (expr calls ∷ named calls end ∷ []) else starts_arguments calls end t

unfoldable pub starts_called : ℕ → TokenKind → Token → Dues
starts_called calls end t = if is_lone_path t then Some (arguments calls end ∷ []) else None

unfoldable pub starts_named : ℕ → TokenKind → Token → Dues
starts_named calls end t =
    if same_kind t.kind end then Some []
    else (if is_lone_path t then Some (kind k.Equals ∷ expr calls ∷ named calls end ∷ []) else None)

unfoldable pub starts_inner : Token → Dues
starts_inner t =
    if is_lone_path t then Some (arguments deepest_calls k.CloseMustache ∷ [])
    else and_then (kind k.CloseMustache) (starts_one deepest_calls t)

unfoldable pub starts_value : Token → Dues
starts_value t =
    if same_kind t.kind k.Unquoted then Some []
    else (if same_kind t.kind k.OpenMustache then Some (inner ∷ [])
    else (if same_kind t.kind k.OpenQuote then Some (quoted nothing ∷ []) else None))

-- a text more
abbrev pub and_text : Quoted → Quoted
and_text nothing = text
and_text text = texts
and_text texts = texts
and_text live = live

-- texts alone are one at most
abbrev pub may_end : Quoted → Bool
may_end texts = false
may_end _ = true

unfoldable pub starts_quoted : Quoted → Token → Dues
starts_quoted q t =
    if same_kind t.kind k.CloseQuote then (if may_end q then Some [] else None)
    else (if same_kind t.kind k.Text then Some (quoted (and_text q) ∷ [])
    else (if same_kind t.kind k.OpenMustache then Some (inner ∷ quoted live ∷ []) else None))

-- a tag that opens a body
abbrev pub has_body : Text → Bool → Bool
has_body n component = component || not (is_void n)

-- what stands in a tag; where `bare` is true it is a component's without parameters, in which blocks may be passed
abbrev pub inside : Bool → ℕ → Text → Due
inside bare depth n = if bare then filling depth n else content depth (tag n)

unfoldable pub ends_tag : Text → Bool → Bool → ℕ → Token → Dues
ends_tag n component bare depth t =
    if same_kind t.kind k.SelfEnd then Some []
    else (if same_kind t.kind k.TagEnd then Some (if has_body n component then inside bare depth n ∷ [] else []) else None)

abbrev pub is_at_name : Token → Bool
is_at_name t = same_kind t.kind k.Argument && leads (λ c. c == 64) t.text

abbrev pub is_plain : Token → Bool
is_plain t = same_kind t.kind k.Spread || same_kind t.kind k.MustacheComment

unfoldable pub starts_item : Text → Bool → ℕ → Token → Dues
starts_item n component depth t =
    if same_kind t.kind k.Attribute || (component && is_at_name t) then Some (given n component depth ∷ [])
    else (if same_kind t.kind k.OpenMustache then Some (called deepest_calls k.CloseMustache ∷ items n component depth ∷ [])
    else (if is_plain t then Some (items n component depth ∷ [])
    else (if component && same_kind t.kind k.Parameters then Some (tag_end n (is_no_name (parameters_of t.text)) depth ∷ [])
    else ends_tag n component component depth t)))

unfoldable pub starts_given : Text → Bool → ℕ → Token → Dues
starts_given n component depth t =
    if same_kind t.kind k.Equals then Some (value ∷ items n component depth ∷ []) else starts_item n component depth t

-- after the opening of a tag, by the first letter of its name
unfoldable pub after_opening : ℕ → Text → Dues
after_opening depth [] = None
after_opening depth (c ∷ n) =
    if not (c == 60) then None
    else (if leads is_capital n then Some (items n true depth ∷ [])
    else (if leads is_small n then Some (items n false depth ∷ []) else None))

-- what ends the statements
abbrev pub is_end_of : Stop → Token → Bool
is_end_of (tag n) t = bytes_eq (end_name_of t.text) n
is_end_of _ t = false

abbrev pub takes_closing : Stop → Dues
takes_closing (block w otherwise) = Some (word w ∷ kind k.CloseMustache ∷ [])
takes_closing _ = None

abbrev pub is_flat : Token → Bool
is_flat t = same_kind t.kind k.Text || same_kind t.kind k.HtmlComment || same_kind t.kind k.MustacheComment

-- a block or a tag, where one may stand
unfoldable pub starts_nested : ℕ → Stop → Token → Dues
starts_nested depth stop t =
    if depth == 0 then None
    else and_then (content depth stop) (if same_kind t.kind k.OpenBlock then Some (head (depth - 1) ∷ []) else after_opening (depth - 1) t.text)

unfoldable pub starts_content : ℕ → Stop → Token → Dues
starts_content depth stop t =
    if is_flat t then Some (content depth stop ∷ [])
    else (if same_kind t.kind k.OpenMustache then Some (opened depth stop ∷ [])
    else (if same_kind t.kind k.OpenBlock || same_kind t.kind k.TagOpening then starts_nested depth stop t
    else (if same_kind t.kind k.EndTag then (if is_end_of stop t then Some [] else None)
    else (if same_kind t.kind k.OpenClosing then takes_closing stop else None))))

-- the opening of a block that is passed, where none of the names is its own
abbrev pub slot_due : ℕ → Text → List Text → Option Text → Dues
slot_due depth n taken None = None
slot_due depth n taken (Some m) = if depth == 0 || has_text m taken then None else Some (slot_tag (depth - 1) (58 ∷ m) ∷ slots depth n (taken ++ m ∷ []) ∷ [])

unfoldable pub starts_filling : ℕ → Text → Token → Dues
starts_filling depth n t =
    if is_gap t then Some (filling depth n ∷ [])
    else (if is_slot_opening t then slot_due depth n [] (slot_name t.text) else starts_content depth (tag n) t)

unfoldable pub starts_slots : ℕ → Text → List Text → Token → Dues
starts_slots depth n taken t =
    if is_gap t then Some (slots depth n taken ∷ [])
    else (if is_slot_opening t then slot_due depth n taken (slot_name t.text)
    else (if same_kind t.kind k.EndTag && bytes_eq (end_name_of t.text) n then Some [] else None))

unfoldable pub starts_slot_tag : ℕ → Text → Token → Dues
starts_slot_tag depth n t =
    if same_kind t.kind k.TagEnd then Some (content depth (tag n) ∷ [])
    else (if same_kind t.kind k.Parameters then Some (kind k.TagEnd ∷ content depth (tag n) ∷ []) else None)

abbrev pub takes_else : ℕ → Stop → Dues
takes_else depth (block w true) = Some (after_else depth w ∷ [])
takes_else depth _ = None

unfoldable pub starts_opened : ℕ → Stop → Token → Dues
starts_opened depth stop t =
    if is_path_word (codes "else") t then takes_else depth stop
    else (if is_path_word (codes "yield") t then Some (values ∷ content depth stop ∷ [])
    else and_then (content depth stop) (starts_inner t))

-- the head of a block that has these words, after its own, and then is closed by a word
abbrev pub test_head : ℕ → Text → Dues
test_head depth w = Some (expr deepest_calls ∷ kind k.CloseMustache ∷ content depth (block w true) ∷ [])

abbrev pub each_head : ℕ → Text → Dues
each_head depth w = Some (expr deepest_calls ∷ each_key depth (block w true) ∷ [])

abbrev pub let_head : ℕ → Text → Dues
let_head depth w = Some (first_value depth (block w false) ∷ [])

-- a block after its opening
unfoldable pub starts_head : ℕ → Token → Dues
starts_head depth t =
    if is_path_word (codes "if") t then test_head depth (codes "if")
    else (if is_path_word (codes "unless") t then test_head depth (codes "unless")
    else (if is_path_word (codes "each") t then each_head depth (codes "each")
    else (if is_path_word (codes "let") t then let_head depth (codes "let") else None)))

-- one after an else, which is closed by the word of the block round it
unfoldable pub starts_chained : Text → ℕ → Token → Dues
starts_chained w depth t =
    if is_path_word (codes "if") t || is_path_word (codes "unless") t then test_head depth w
    else (if is_path_word (codes "each") t then each_head depth w
    else (if is_path_word (codes "let") t then let_head depth w else None))

unfoldable pub starts_after_else : ℕ → Text → Token → Dues
starts_after_else depth w t =
    if same_kind t.kind k.CloseMustache then Some (content depth (block w false) ∷ [])
    else (if depth == 0 then None else starts_chained w (depth - 1) t)

unfoldable pub starts_values : Token → Dues
starts_values t =
    if same_kind t.kind k.CloseMustache then Some []
    else (if is_path_word (codes "to") t then Some (after_to ∷ []) else and_then values (starts_one deepest_calls t))

unfoldable pub starts_after_to : Token → Dues
starts_after_to t = if same_kind t.kind k.Equals then Some (target ∷ kind k.CloseMustache ∷ []) else starts_values t

unfoldable pub starts_target : Token → Dues
starts_target t = if same_kind t.kind k.StringLit && is_block_name (string_of t.text) then Some [] else None

unfoldable pub starts_first : ℕ → Stop → Token → Dues
starts_first depth stop t = and_then (more_values depth stop) (starts_one deepest_calls t)

unfoldable pub starts_more : ℕ → Stop → Token → Dues
starts_more depth stop t =
    if same_kind t.kind k.CloseMustache then Some (content depth stop ∷ [])
    else (if same_kind t.kind k.Parameters then Some (kind k.CloseMustache ∷ content depth stop ∷ [])
    else and_then (more_values depth stop) (starts_one deepest_calls t))

unfoldable pub starts_each_parameters : ℕ → Stop → Token → Dues
starts_each_parameters depth stop t =
    if same_kind t.kind k.CloseMustache then Some (content depth stop ∷ [])
    else (if same_kind t.kind k.Parameters && nat_le (length (parameters_of t.text)) 2 then Some (kind k.CloseMustache ∷ content depth stop ∷ []) else None)

unfoldable pub starts_key : ℕ → Stop → Token → Dues
starts_key depth stop t =
    if is_path_word (codes "key") t then Some (kind k.Equals ∷ kind k.StringLit ∷ each_parameters depth stop ∷ [])
    else starts_each_parameters depth stop t

-- what is due after the token where this was, or None where the token can't stand there
unfoldable pub due_after : Due → Token → Dues
due_after (kind wanted) t = if same_kind t.kind wanted then Some [] else None
due_after (word w) t = if is_path_word w t then Some [] else None
due_after (expr calls) t = starts_one calls t
due_after (called calls end) t = starts_called calls end t
due_after (arguments calls end) t = starts_arguments calls end t
due_after (after_name calls end) t = starts_after_name calls end t
due_after (named calls end) t = starts_named calls end t
due_after inner t = starts_inner t
due_after values t = starts_values t
due_after after_to t = starts_after_to t
due_after target t = starts_target t
due_after value t = starts_value t
due_after (quoted q) t = starts_quoted q t
due_after (items n component depth) t = starts_item n component depth t
due_after (given n component depth) t = starts_given n component depth t
due_after (tag_end n bare depth) t = ends_tag n true bare depth t
due_after (filling depth n) t = starts_filling depth n t
due_after (slots depth n taken) t = starts_slots depth n taken t
due_after (slot_tag depth n) t = starts_slot_tag depth n t
due_after (content depth stop) t = starts_content depth stop t
due_after (opened depth stop) t = starts_opened depth stop t
due_after (after_else depth w) t = starts_after_else depth w t
due_after (head depth) t = starts_head depth t
due_after (first_value depth stop) t = starts_first depth stop t
due_after (more_values depth stop) t = starts_more depth stop t
due_after (each_key depth stop) t = starts_key depth stop t
due_after (each_parameters depth stop) t = starts_each_parameters depth stop t

-- the same of a list of what is due
abbrev pub step : List Due → Token → Dues
step [] t = None
step (d ∷ ds) t = option_map (λ l. l ++ ds) (due_after d t)

-- nothing more has to come
abbrev pub is_done : List Due → Bool
is_done [] = true
is_done (content depth whole ∷ []) = true
is_done _ = false

-- what is due after all of the tokens, or None where one of them can't stand where it does
abbrev pub run : List Due → List Token → Dues
run ds [] = Some ds
run ds (t ∷ ts) = step ds t >>= λ l. run l ts

-- the tokens from the first on that can't stand where it does
abbrev pub refused : List Due → List Token → List Token
refused ds [] = []
refused ds (t ∷ ts) = unwrap_or (option_map (λ l. refused l ts) (step ds t)) (t ∷ ts)

abbrev pub refused_by : Dues → Token → List Token → List Token
refused_by o t ts = unwrap_or (option_map (λ l. refused l ts) o) (t ∷ ts)

-- where the first of these tokens begins, or the end where there is none
abbrev pub place_of : ℕ → List Token → ℕ
place_of end [] = end
place_of end (t ∷ ts) = t.start

abbrev pub template_due : List Due
template_due = content deepest_nesting whole ∷ []

abbrev pub expression_due : List Due
expression_due = expr deepest_calls ∷ []
