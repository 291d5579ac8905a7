-- The canonical spelling of a template: one text for each tree.
use Rattle.std.specs.Prelude.{ℕ, List, [], ◌∷◌, ◌++◌, Bool, true, false, not, ◌&&◌, ◌||◌, ◌==◌, codes, decimal, flat_map, if◌then◌else◌}
use Rattle.std.specs.Fmt.{signed_decimal}
use Rattle.std.specs.List.{list_all}
use Rattle.std.specs.Str.{bytes_eq}
use Rattle.gl_base.specs.Texts.{Text}
use Rattle.gl_value.specs.Value as v
use Rattle.gl_ast.specs.Grammar.{has_argument, if_word, is_void, is_empty_text}
use Rattle.gl_ast.specs.Marks.{is_white}
use Rattle.gl_ast.specs.Template.{Plain, Expr, literal, this, argument, bare, call, cat, Exprs, no_exprs, expr, NamedExprs, no_named, named_expr, AttrValue, fixed, live, Part, attribute, modifier, spread, Stmt, text_stmt, comment_stmt, put, element, component_stmt, if_stmt, each, let_stmt, yield, Body, end, stmt, Slots, no_slots, block}

-- the character reference of a character, by its number
abbrev pub numbered : ℕ → Text
numbered c = codes "&#" ++ (decimal c ++ codes ";")

-- a character of a text: those that would begin something else are references
abbrev pub text_char : ℕ → Text
text_char c =
    if c == 38 then codes "&amp;" else (if c == 60 then codes "&lt;"
    else (if c == 123 then codes "&#123;" else (if c == 92 then codes "&#92;" else c ∷ [])))

-- a character of a quoted value
abbrev pub value_char : ℕ → Text
value_char c =
    if c == 38 then codes "&amp;" else (if c == 34 then codes "&quot;"
    else (if c == 123 then codes "&#123;" else (if c == 92 then codes "&#92;" else c ∷ [])))

-- A text. The white space at its front and at its end is written as references. All before these characters is white
-- space where `front` is true.
abbrev pub text_from : Bool → Text → Text
text_from front [] = []
text_from front (c ∷ cs) =
    if is_white c && (front || list_all is_white cs) then numbered c ++ text_from front cs else text_char c ++ text_from false cs

abbrev pub value_text : Text → Text
value_text s = flat_map value_char s

-- in a string the quote stands after a `\`
abbrev pub string_char : ℕ → Text
string_char c = if c == 34 then codes "\\\"" else c ∷ []

abbrev pub string_text : Text → Text
string_text s = codes "\"" ++ (flat_map string_char s ++ codes "\"")

abbrev pub literal_text : Plain → Text
literal_text v.undefined = codes "undefined"
literal_text v.null = codes "null"
literal_text (v.boolean b) = if b then codes "true" else codes "false"
literal_text (v.integer z) = signed_decimal z
literal_text (v.text s) = string_text s
literal_text _ = []

-- the segments of a path
abbrev pub segments_text : List Text → Text
segments_text ns = flat_map (λ n. 46 ∷ n) ns

-- An expression; a call stands in parentheses. One blank stands before each argument.
abbrev mutual
  pub expr_text : Expr → Text
  expr_text (literal v) = literal_text v
  expr_text (this n ns) = codes "this" ++ segments_text (n ∷ ns)
  expr_text (argument n ns) = 64 ∷ (n ++ segments_text ns)
  expr_text (bare n ns) = n ++ segments_text ns
  expr_text (call n es ns) = codes "(" ++ (n ++ (exprs_text es ++ (named_text ns ++ codes ")")))
  expr_text (cat es) = []

  pub exprs_text : Exprs → Text
  exprs_text no_exprs = []
  exprs_text (expr e es) = 32 ∷ (expr_text e ++ exprs_text es)

  pub named_text : NamedExprs → Text
  named_text no_named = []
  named_text (named_expr n e ns) = 32 ∷ (n ++ (61 ∷ (expr_text e ++ named_text ns)))

-- in a mustache a call that has arguments stands without parentheses
abbrev pub inner_text : Expr → Text
inner_text (call n es ns) = if has_argument es ns then n ++ (exprs_text es ++ named_text ns) else expr_text (call n es ns)
inner_text e = expr_text e

abbrev pub mustache_text : Expr → Text
mustache_text e = codes "{{" ++ (inner_text e ++ codes "}}")

abbrev pub is_string : Expr → Bool
is_string (literal (v.text s)) = true
is_string _ = false

abbrev pub begins_string : Exprs → Bool
begins_string no_exprs = false
begins_string (expr e es) = is_string e

abbrev pub ends_backslash : Text → Bool
ends_backslash [] = false
ends_backslash (c ∷ []) = c == 92
ends_backslash (c ∷ cs) = ends_backslash cs

-- Whether a string among the parts of a quoted value is written as a text: where it ends with `\`, or where it is not
-- empty, not alone, and no string stands directly before or after it. `near` says that it is alone or that such a string
-- stands there.
abbrev pub is_plain_part : Bool → Text → Bool
is_plain_part near s = ends_backslash s || (not (is_empty_text s) && not near)

abbrev pub part_of_value : Bool → Expr → Text
part_of_value near (literal (v.text s)) = if is_plain_part near s then value_text s else mustache_text (literal (v.text s))
part_of_value near e = mustache_text e

-- the parts of a quoted value after one that is a string or is not
abbrev pub parts_of_value : Bool → Exprs → Text
parts_of_value before no_exprs = []
parts_of_value before (expr e es) = part_of_value (before || begins_string es) e ++ parts_of_value (is_string e) es

-- all of them: one that is alone is a mustache
abbrev pub cat_text : Exprs → Text
cat_text (expr e no_exprs) = part_of_value true e
cat_text es = parts_of_value false es

-- what stands after the name of an attribute or argument
abbrev pub given_text : AttrValue → Text
given_text (fixed s) = codes "=\"" ++ (value_text s ++ codes "\"")
given_text (live (cat es)) = codes "=\"" ++ (cat_text es ++ codes "\"")
given_text (live e) = 61 ∷ mustache_text e

abbrev pub part_text : Part → Text
part_text (attribute n v) = n ++ given_text v
part_text (modifier n es ns) = codes "{{" ++ (n ++ (exprs_text es ++ (named_text ns ++ codes "}}")))
part_text spread = codes "...attributes"

abbrev pub parts_text : List Part → Text
parts_text ps = flat_map (λ p. 32 ∷ part_text p) ps

abbrev pub argument_text : Text × AttrValue → Text
argument_text a = 64 ∷ (a.0 ++ given_text a.1)

abbrev pub arguments_text : List (Text × AttrValue) → Text
arguments_text given = flat_map (λ a. 32 ∷ argument_text a) given

-- names with one blank between
abbrev pub names_text : List Text → Text
names_text [] = []
names_text (n ∷ []) = n
names_text (n ∷ ns) = n ++ (32 ∷ names_text ns)

-- parameters, where there are any
abbrev pub parameters_text : List Text → Text
parameters_text [] = []
parameters_text ns = codes " as |" ++ (names_text ns ++ codes "|")

abbrev pub end_tag_text : Text → Text
end_tag_text n = codes "</" ++ (n ++ codes ">")

abbrev pub is_text_stmt : Stmt → Bool
is_text_stmt (text_stmt s) = true
is_text_stmt _ = false

-- what stands between a text and a statement after it
abbrev pub between : Bool → Stmt → Text
between after_text s = if after_text && is_text_stmt s then codes "{{!}}" else []

-- the word of the block that an if is
abbrev pub closing_text : Text → Text
closing_text word = codes "{{/" ++ (word ++ codes "}}")

-- the block that a yield names, where it is not `default`
abbrev pub target_text : Text → Text
target_text to = if bytes_eq to (codes "default") then [] else codes " to=" ++ string_text to

-- the one block of a component, which is named `default`
abbrev pub is_own_block : Text → Slots → Bool
is_own_block name no_slots = bytes_eq name (codes "default")
is_own_block name _ = false

-- a block with its name, where its body is spelled so
abbrev pub slot_text : Text → List Text → Text → Text
slot_text name ns inner = 60 ∷ (58 ∷ (name ++ (parameters_text ns ++ (62 ∷ (inner ++ end_tag_text (58 ∷ name))))))

-- The spelling of statements. `after_text` says that a text stands directly before them. An else body is never chained.
abbrev mutual
  pub body_text : Bool → Body → Text
  body_text after_text end = []
  body_text after_text (stmt s b) = between after_text s ++ (stmt_text s ++ body_text (is_text_stmt s) b)

  pub stmt_text : Stmt → Text
  stmt_text (text_stmt s) = text_from true s
  stmt_text (comment_stmt s) = codes "<!--" ++ (s ++ codes "-->")
  stmt_text (put e) = mustache_text e
  stmt_text (element tag ps b) =
      if is_void tag then 60 ∷ (tag ++ (parts_text ps ++ codes ">"))
      else 60 ∷ (tag ++ (parts_text ps ++ (62 ∷ (body_text false b ++ end_tag_text tag))))
  stmt_text (component_stmt c ps given ss) = 60 ∷ (c ++ (arguments_text given ++ (parts_text ps ++ slots_text c ss)))
  stmt_text (if_stmt e unless b c) =
      codes "{{#" ++ (if_word unless ++ (32 ∷ (expr_text e ++ (codes "}}" ++ (body_text false b ++ (else_text c ++ closing_text (if_word unless)))))))
  stmt_text (each e key ns b c) =
      codes "{{#each " ++ (expr_text e ++ (codes " key=" ++ (string_text key ++ (parameters_text ns ++ (codes "}}" ++ (body_text false b ++ (else_text c ++ closing_text (codes "each"))))))))
  stmt_text (let_stmt es ns b) =
      codes "{{#let" ++ (exprs_text es ++ (parameters_text ns ++ (codes "}}" ++ (body_text false b ++ closing_text (codes "let")))))
  stmt_text (yield es to) = codes "{{yield" ++ (exprs_text es ++ (target_text to ++ codes "}}"))

  -- The end of a component's opening tag, and its blocks. One that is `default` and alone is written as statements.
  pub slots_text : Text → Slots → Text
  slots_text c no_slots = codes " />"
  slots_text c (block name ns b ss) =
      if is_own_block name ss then parameters_text ns ++ (62 ∷ (body_text false b ++ end_tag_text c))
      else 62 ∷ ((slot_text name ns (body_text false b) ++ blocks_text ss) ++ end_tag_text c)

  -- blocks with their names
  pub blocks_text : Slots → Text
  blocks_text no_slots = []
  blocks_text (block name ns b ss) = slot_text name ns (body_text false b) ++ blocks_text ss

  pub else_text : Body → Text
  else_text end = []
  else_text (stmt s b) = codes "{{else}}" ++ (stmt_text s ++ body_text (is_text_stmt s) b)

-- the canonical spelling of a template
unfoldable pub canonical : Body → Text
canonical b = body_text false b
