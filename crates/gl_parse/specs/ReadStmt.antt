-- Statements, read from the front of the tokens.
use Rattle.std.specs.Prelude.{ℕ, zero, suc, List, [], ◌∷◌, Bool, true, false, ◌&&◌, ◌||◌, ◌==◌, drop, length, map, nat_le, codes, if◌then◌else◌, Option, Some, None, option_map, is_some}
use Rattle.std.specs.Str.{bytes_eq, is_utf8}
use Rattle.gl_base.specs.Answers.{◌>>=◌}
use Rattle.gl_base.specs.Texts.{Text}
use Rattle.gl_ast.specs.Grammar.{deepest_calls, deepest_nesting, is_void, is_silent, is_gap, after_gaps, are_new, if_word}
use Rattle.gl_ast.specs.Marks.{is_small, is_capital}
use Rattle.gl_ast.specs.Settling.{settled}
use Rattle.gl_ast.specs.Template.{Expr, Exprs, AttrValue, Part, Stmt, text_stmt, comment_stmt, put, element, component_stmt, if_stmt, each, let_stmt, yield, Body, end, stmt, Slots, no_slots, block, slots_of, body_of, exprs_of}
use Rattle.gl_ast.specs.TokenReading.{template_tokens, lone_tokens}
use Rattle.gl_ast.specs.TokenText.{decoded, string_of, is_block_name, comment_of, end_name_of, parameters_of, leads}
use Rattle.gl_ast.specs.declared.token.Token.{Token}
use Rattle.gl_ast.specs.declared.token.TokenKind.TheVariants as k
use Rattle.gl_exprs.specs.ReadExpr.{read_exprs, read_expr, read_mustache}
use Rattle.gl_parse.specs.ReadItem.{read_tag_items}
use Rattle.gl_exprs.specs.Take.{Taken, same_kind, stands, stands_word, take_kind, take_word, read_many}

-- how a reader of one statement, of a body and of a block's head look
abbrev pub Reader : Type 0 → Type 0
Reader A = List Token → Taken A

-- `{{` and this word come first
unfoldable pub stands_opened : Text → List Token → Bool
stands_opened w ts = stands k.OpenMustache ts && stands_word w (drop 1 ts)

-- what ends a body: an end tag, the end of a block, an else
unfoldable pub ends_body : List Token → Bool
ends_body ts = stands k.EndTag ts || stands k.OpenClosing ts || stands_opened (codes "else") ts

-- a body ends here, as it does at the end of the tokens
abbrev pub is_end : List Token → Bool
is_end [] = true
is_end (t ∷ ts) = ends_body (t ∷ ts)

-- the first token gives no statement
abbrev pub stands_silent : List Token → Bool
stands_silent [] = false
stands_silent (t ∷ ts) = is_silent t

-- statements, and silent tokens among them, of so many tokens at most, where `one` reads one of them
unfoldable pub read_stmts : Reader Stmt → ℕ → List Token → Taken (List Stmt)
read_stmts one n [] = Some ([], [])
read_stmts one zero (t ∷ ts) = None
read_stmts one (suc n) (t ∷ ts) =
    if is_silent t then read_stmts one n ts
    else (if ends_body (t ∷ ts) then Some ([], t ∷ ts)
    else (one (t ∷ ts) >>= λ s. (read_stmts one n s.1 >>= λ more. Some (s.0 ∷ more.0, more.1))))

unfoldable pub read_body : Reader Stmt → List Token → Taken Body
read_body one ts = option_map (λ ss. (body_of ss.0, ss.1)) (read_stmts one (length ts) ts)

-- the block that a yield names
unfoldable pub read_target : List Token → Taken Text
read_target ts =
    if stands_word (codes "to") ts then (do
      word ← take_word (codes "to") ts
      mark ← take_kind k.Equals word
      name ← take_kind k.StringLit mark.1
      if is_block_name (string_of name.0) then Some (string_of name.0, name.1) else None)
    else Some (codes "default", ts)

-- `{{`, the word yield, values, the name of a block, `}}`
unfoldable pub read_yield : List Token → Taken Stmt
read_yield ts = do
  front ← take_kind k.OpenMustache ts
  word ← take_word (codes "yield") front.1
  values ← read_exprs (read_expr deepest_calls) (length word) word
  target ← read_target values.1
  back ← take_kind k.CloseMustache target.1
  Some (yield (exprs_of values.0) target.0, back.1)

-- a statement without another in it
unfoldable pub read_flat : List Token → Taken Stmt
read_flat ts =
    if stands k.Text ts then option_map (λ t. (text_stmt (decoded t.0), t.1)) (take_kind k.Text ts)
    else (if stands k.HtmlComment ts then option_map (λ t. (comment_stmt (comment_of t.0), t.1)) (take_kind k.HtmlComment ts)
    else (if stands_opened (codes "yield") ts then read_yield ts else option_map (λ e. (put e.0, e.1)) (read_mustache ts)))

-- an end tag of this name
unfoldable pub take_end_tag : Text → List Token → Option (List Token)
take_end_tag name ts = take_kind k.EndTag ts >>= λ t. (if bytes_eq (end_name_of t.0) name then Some t.1 else None)

-- `as |..|`, or no parameters
unfoldable pub read_parameters : List Token → Taken (List Text)
read_parameters ts = if stands k.Parameters ts then option_map (λ t. (parameters_of t.0, t.1)) (take_kind k.Parameters ts) else Some ([], ts)

-- What stands in an opening tag in front of its end: of an element its name and parts, of a component its arguments
-- and parameters too.
pub data Opening : Type 0 where
  element_opening : Text → List Part → Opening
  component_opening : Text → List Part → List (Text × AttrValue) → List Text → Opening

abbrev pub name_of : Opening → Text
name_of (element_opening n ps) = n
name_of (component_opening n ps given ns) = n

-- it is a void element
abbrev pub opens_void : Opening → Bool
opens_void (element_opening n ps) = is_void n
opens_void (component_opening n ps given ns) = false

-- the statement without a body, and with one
abbrev pub empty_tag : Opening → Stmt
empty_tag (element_opening n ps) = element n ps end
empty_tag (component_opening n ps given ns) = component_stmt n ps given no_slots

abbrev pub full_tag : Opening → Body → Stmt
full_tag (element_opening n ps) b = element n ps b
full_tag (component_opening n ps given ns) b = component_stmt n ps given (block (codes "default") ns b no_slots)

-- a component with these blocks
abbrev pub filled_tag : Opening → Slots → Stmt
filled_tag (element_opening n ps) ss = element n ps end
filled_tag (component_opening n ps given ns) ss = component_stmt n ps given ss

abbrev pub is_no_name : List Text → Bool
is_no_name [] = true
is_no_name (n ∷ ns) = false

-- blocks with names may stand in it
abbrev pub takes_slots : Opening → Bool
takes_slots (element_opening n ps) = false
takes_slots (component_opening n ps given ns) = is_no_name ns

unfoldable pub read_element : Text → Reader Opening
read_element n ts = option_map (λ i. (element_opening n i.0.0, i.1)) (read_tag_items false ts)

unfoldable pub read_component : Text → Reader Opening
read_component n ts = do
  items ← read_tag_items true ts
  names ← read_parameters items.1
  Some (component_opening n items.0.0 items.0.1 names.0, names.1)

-- a component or an element, by the first letter of its name
unfoldable pub read_named_tag : Text → Reader Opening
read_named_tag n ts = if leads is_capital n then read_component n ts else (if leads is_small n then read_element n ts else None)

-- the name after `<`
unfoldable pub opened_name : Text → Option Text
opened_name [] = None
opened_name (c ∷ cs) = if c == 60 then Some cs else None

unfoldable pub read_opening : Reader Opening
read_opening ts = do
  opening ← take_kind k.TagOpening ts
  name ← opened_name opening.0
  read_named_tag name opening.1

-- the name after `<:`
abbrev pub after_colon : Text → Option Text
after_colon [] = None
after_colon (c ∷ cs) = if c == 58 then Some cs else None

unfoldable pub slot_name : Text → Option Text
slot_name x = opened_name x >>= after_colon

-- the token opens a block that is passed
abbrev pub is_slot_opening : Token → Bool
is_slot_opening t = same_kind t.kind k.TagOpening && is_some (slot_name t.text)

unfoldable pub stands_slot : List Token → Bool
stands_slot [] = false
stands_slot (t ∷ ts) = is_slot_opening t

abbrev pub stands_gap : List Token → Bool
stands_gap [] = false
stands_gap (t ∷ ts) = is_gap t

-- the opening of a block that is passed: its name and parameters, and its end
unfoldable pub read_slot_opening : Reader (Text × List Text)
read_slot_opening ts = do
  opening ← take_kind k.TagOpening ts
  name ← slot_name opening.0
  names ← read_parameters opening.1
  mark ← take_kind k.TagEnd names.1
  Some ((name, names.0), mark.1)

-- a block that is passed, where `inner` reads its body
unfoldable pub read_slot : Reader Body → Reader (Text × (List Text × Body))
read_slot inner ts = do
  opening ← read_slot_opening ts
  body ← inner opening.1
  rest ← take_end_tag (58 ∷ opening.0.0) body.1
  Some ((opening.0.0, (opening.0.1, body.0)), rest)

-- one after gaps or none
abbrev pub stands_next : List Token → Bool
stands_next ts = stands_slot (after_gaps ts)

abbrev pub read_next : Reader Body → Reader (Text × (List Text × Body))
read_next inner ts = read_slot inner (after_gaps ts)

abbrev pub names_in : List (Text × (List Text × Body)) → List Text
names_in ss = map (λ s. s.0) ss

-- blocks that are passed, each of another name, and the gaps round them
unfoldable pub read_slots : Reader Body → Reader Slots
read_slots inner ts =
    read_many stands_next (read_next inner) (length ts) ts >>= λ ss. (if are_new [] (names_in ss.0) then Some (slots_of ss.0, after_gaps ss.1) else None)

-- a body and the end tag
unfoldable pub read_tagged : Reader Body → Opening → List Token → Taken Stmt
read_tagged inner o ts = do
  body ← inner ts
  rest ← take_end_tag (name_of o) body.1
  Some (full_tag o body.0, rest)

-- blocks with names and the end tag
unfoldable pub read_filled : Reader Slots → Opening → List Token → Taken Stmt
read_filled filling o ts = do
  slots ← filling ts
  rest ← take_end_tag (name_of o) slots.1
  Some (filled_tag o slots.0, rest)

-- what stands in a tag: where the opening of a block comes after gaps or none, and the tag may have such, they are blocks
unfoldable pub read_content : Reader Body → Reader Slots → Opening → List Token → Taken Stmt
read_content inner filling o ts = if takes_slots o && stands_next ts then read_filled filling o ts else read_tagged inner o ts

-- the end of an opening tag, and what follows
unfoldable pub read_after_opening : Reader Body → Reader Slots → Opening → List Token → Taken Stmt
read_after_opening inner filling o ts =
    if stands k.SelfEnd ts then option_map (λ t. (empty_tag o, t.1)) (take_kind k.SelfEnd ts)
    else (take_kind k.TagEnd ts >>= λ mark. (if opens_void o then Some (empty_tag o, mark.1) else read_content inner filling o mark.1))

unfoldable pub read_tag : Reader Body → Reader Slots → List Token → Taken Stmt
read_tag inner filling ts = read_opening ts >>= λ o. read_after_opening inner filling o.0 o.1

-- the key of an each
unfoldable pub read_key : List Token → Taken Text
read_key ts =
    if stands_word (codes "key") ts then (do
      word ← take_word (codes "key") ts
      mark ← take_kind k.Equals word
      key ← take_kind k.StringLit mark.1
      Some (string_of key.0, key.1))
    else Some (codes "@identity", ts)

-- at most two parameters
unfoldable pub read_two : List Token → Taken (List Text)
read_two ts = read_parameters ts >>= λ names. (if nat_le (length names.0) 2 then Some names else None)

-- the body of a block, after `}}`
unfoldable pub read_opened : Reader Body → List Token → Taken Body
read_opened inner ts = take_kind k.CloseMustache ts >>= λ mark. inner mark.1

-- what stands in a block from its word up to its `}}`
pub data Front : Type 0 where
  if_front : Expr → Bool → Front
  each_front : Expr → Text → List Text → Front
  let_front : Exprs → List Text → Front

-- after the word of an if or unless
unfoldable pub read_if : Bool → Reader Front
read_if unless ts = option_map (λ e. (if_front e.0 unless, e.1)) (read_expr deepest_calls ts)

unfoldable pub read_each : Reader Front
read_each ts = do
  items ← read_expr deepest_calls ts
  key ← read_key items.1
  names ← read_two key.1
  Some (each_front items.0 key.0 names.0, names.1)

-- a let has at least one value
abbrev pub some_values : List Expr → Bool
some_values [] = false
some_values (e ∷ es) = true

unfoldable pub read_let : Reader Front
read_let ts = do
  values ← read_exprs (read_expr deepest_calls) (length ts) ts
  names ← (if some_values values.0 then read_parameters values.1 else None)
  Some (let_front (exprs_of values.0) names.0, names.1)

unfoldable pub read_front : Reader Front
read_front ts =
    take_kind k.Path ts >>= λ word. (
    if bytes_eq (codes "if") word.0 then read_if false word.1
    else (if bytes_eq (codes "unless") word.0 then read_if true word.1
    else (if bytes_eq (codes "each") word.0 then read_each word.1
    else (if bytes_eq (codes "let") word.0 then read_let word.1 else None))))

-- what follows the body of a block: an else, which a let has not
unfoldable pub read_after_body : Reader Body → Front → Body → List Token → Taken Stmt
read_after_body otherwise (if_front e unless) b ts = option_map (λ c. (if_stmt e unless b c.0, c.1)) (otherwise ts)
read_after_body otherwise (each_front e key ns) b ts = option_map (λ c. (each e key ns b c.0, c.1)) (otherwise ts)
read_after_body otherwise (let_front es ns) b ts = Some (let_stmt es ns b, ts)

-- a block from its word on, up to what closes it
unfoldable pub read_head : Reader Body → Reader Body → List Token → Taken Stmt
read_head inner otherwise ts = do
  front ← read_front ts
  body ← read_opened inner front.1
  read_after_body otherwise front.0 body.0 body.1

-- a body of one statement
abbrev pub only : Stmt → Body
only s = stmt s end

-- what follows the word else: `}}` and a body, or the head of a block
unfoldable pub read_after_else : Reader Body → Reader Stmt → List Token → Taken Body
read_after_else inner chained ts =
    if stands k.CloseMustache ts then read_opened inner ts else option_map (λ s. (only s.0, s.1)) (chained ts)

unfoldable pub read_else : Reader Body → Reader Stmt → List Token → Taken Body
read_else inner chained ts =
    if stands_opened (codes "else") ts then (do
      front ← take_kind k.OpenMustache ts
      word ← take_word (codes "else") front.1
      read_after_else inner chained word)
    else Some (end, ts)

-- the word that closes a block
abbrev pub word_of : Stmt → Text
word_of (if_stmt e unless b c) = if_word unless
word_of (each e key ns b c) = codes "each"
word_of _ = codes "let"

unfoldable pub take_closing : Text → List Token → Option (List Token)
take_closing word ts = do
  front ← take_kind k.OpenClosing ts
  name ← take_word word front.1
  back ← take_kind k.CloseMustache name
  Some back.1

unfoldable pub read_block : Reader Stmt → List Token → Taken Stmt
read_block head ts = do
  front ← take_kind k.OpenBlock ts
  inside ← head front.1
  rest ← take_closing (word_of inside.0) inside.1
  Some (inside.0, rest)

-- a statement, where `inner` reads the bodies in it, `filling` the blocks that are passed in it and `head` a block after
-- its opening
unfoldable pub read_nested : Reader Body → Reader Slots → Reader Stmt → List Token → Taken Stmt
read_nested inner filling head ts =
    if stands k.OpenBlock ts then read_block head ts
    else (if stands k.TagOpening ts then read_tag inner filling ts else read_flat ts)

-- a block from its word on, where `one` reads the statements in it and `chained` the block that an else has as its head
unfoldable pub read_block_with : Reader Stmt → Reader Stmt → List Token → Taken Stmt
read_block_with one chained ts = read_head (read_body one) (read_else (read_body one) chained) ts

-- one statement, the blocks that are passed in one, and a block that an else has as its head, where elements and blocks
-- may nest so deep
unfoldable mutual
  pub read_stmt : ℕ → List Token → Taken Stmt
  read_stmt zero ts = read_flat ts
  read_stmt (suc depth) ts = read_nested (read_body (read_stmt depth)) (read_filling depth) (read_block_with (read_stmt depth) (read_chained depth)) ts

  pub read_filling : ℕ → List Token → Taken Slots
  read_filling zero ts = None
  read_filling (suc depth) ts = read_slots (read_body (read_stmt depth)) ts

  pub read_chained : ℕ → List Token → Taken Stmt
  read_chained zero ts = None
  read_chained (suc depth) ts = read_block_with (read_stmt depth) (read_chained depth) ts

-- the statements of a template, where nothing is left
abbrev pub nothing_left : List Token → Bool
nothing_left [] = true
nothing_left (t ∷ ts) = false

unfoldable pub whole : {A : Type 0} → Taken A → Option A
whole read = read >>= λ p. (if nothing_left p.1 then Some p.0 else None)

-- the tree that the tokens of a template spell
unfoldable pub read_template : List Token → Option Body
read_template ts = whole (read_body (read_stmt deepest_nesting) ts)

-- the expression that the tokens of an expression spell
unfoldable pub read_lone : List Token → Option Expr
read_lone ts = whole (read_expr deepest_calls ts)

-- the tree that a text spells
unfoldable pub text_tree : List ℕ → Option Body
text_tree text = template_tokens text >>= λ list. read_template (settled text list)

-- the same of bytes, which are UTF-8
unfoldable pub template_of : List ℕ → Option Body
template_of bytes = if is_utf8 bytes then text_tree bytes else None

-- the expression that a text spells
unfoldable pub expression_of : List ℕ → Option Expr
expression_of text = lone_tokens text >>= read_lone
