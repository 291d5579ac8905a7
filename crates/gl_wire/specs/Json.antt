-- The JSON of a wire in versions 1 and 2, and its text.
use Rattle.std.specs.Prelude.{ℕ, List, [], ◌∷◌, ◌++◌, Bool, map, codes, if◌then◌else◌}
use Rattle.std.specs.Str.{chars}
use Rattle.serde_json.specs.Data as json
use Rattle.serde_json.specs.Find.{of_integer}
use Rattle.serde_json.specs.View.{items_of}
use Rattle.serde_json.specs.Written.{compact_text}
use Rattle.gl_base.specs.Texts.{Text, bytes_of}
use Rattle.gl_value.specs.Value as v
use Rattle.gl_ast.specs.Template.{Plain}
use Rattle.gl_wire.specs.declared.version.Version.{Version}
use Rattle.gl_wire.specs.declared.version.Version.TheVariants.{First, Second}
use Rattle.gl_wire.specs.Wire.{Expr, literal, symbol, this, get, free, call, cat, Exprs, no_exprs, expr, NamedExprs, no_named, named_expr, Part, attribute, live, modifier, spread, Stmt, text_stmt, comment_stmt, put, element, component_stmt, if_stmt, each, let_stmt, yield, Body, end, stmt, Slots, no_slots, block, Wire}

abbrev pub array_of : List json.Data → json.Data
array_of ds = json.array (items_of ds)

-- an array that begins with a word
abbrev pub row : List ℕ → List json.Data → json.Data
row word ds = array_of (json.string word ∷ ds)

abbrev pub text_json : Text → json.Data
text_json s = json.string (bytes_of s)

abbrev pub texts_json : List Text → json.Data
texts_json ts = array_of (map text_json ts)

abbrev pub place_json : ℕ → json.Data
place_json i = json.number (json.unsigned i)

abbrev pub places_json : List ℕ → json.Data
places_json is = array_of (map place_json is)

-- undefined is no JSON, and has a word of its own
abbrev pub literal_json : Plain → json.Data
literal_json v.undefined = row (codes "undef") []
literal_json v.null = row (codes "lit") (json.null ∷ [])
literal_json (v.boolean b) = row (codes "lit") (json.boolean b ∷ [])
literal_json (v.integer z) = row (codes "lit") (json.number (of_integer z) ∷ [])
literal_json (v.text s) = row (codes "lit") (text_json s ∷ [])
literal_json _ = row (codes "undef") []

abbrev mutual
  pub expr_json : Expr → json.Data
  expr_json (literal x) = literal_json x
  expr_json (symbol i) = row (codes "sym") (place_json i ∷ [])
  expr_json (this n) = row (codes "this") (text_json n ∷ [])
  expr_json (get e ns) = row (codes "get") (expr_json e ∷ texts_json ns ∷ [])
  expr_json (free n) = row (codes "free") (text_json n ∷ [])
  expr_json (call n es ns) = row (codes "call") (text_json n ∷ array_of (exprs_json es) ∷ array_of (named_json ns) ∷ [])
  expr_json (cat es) = row (codes "cat") (array_of (exprs_json es) ∷ [])

  pub exprs_json : Exprs → List json.Data
  exprs_json no_exprs = []
  exprs_json (expr e es) = expr_json e ∷ exprs_json es

  -- each as an array of the name and the expression
  pub named_json : NamedExprs → List json.Data
  named_json no_named = []
  named_json (named_expr n e ns) = array_of (text_json n ∷ expr_json e ∷ []) ∷ named_json ns

abbrev pub part_json : Part → json.Data
part_json (attribute n s) = row (codes "attr") (text_json n ∷ text_json s ∷ [])
part_json (live n e) = row (codes "dyn") (text_json n ∷ expr_json e ∷ [])
part_json (modifier n es ns) = row (codes "mod") (text_json n ∷ array_of (exprs_json es) ∷ array_of (named_json ns) ∷ [])
part_json spread = row (codes "spread") []

abbrev pub parts_json : List Part → json.Data
parts_json ps = array_of (map part_json ps)

abbrev pub if_word : Bool → List ℕ
if_word unless = if unless then codes "unless" else codes "if"

abbrev pub end_row : List json.Data
end_row = row (codes "end") [] ∷ []

-- what the row of a yield has after its expressions: in version 1 nothing, in version 2 the name
abbrev pub yield_names : Version → Text → List json.Data
yield_names First to = []
yield_names Second to = text_json to ∷ []

-- what the row of a component with blocks has after the rest: in version 1 the parameters of its one block
abbrev pub comp_params : Version → List ℕ → List json.Data
comp_params First is = places_json is ∷ []
comp_params Second is = []

-- the rows of blocks, up to the end of their component: in version 1 there is one, which ends there
abbrev pub ended_rows : Version → List json.Data → List json.Data
ended_rows First inner = inner
ended_rows Second inner = inner ++ end_row

-- the rows of a component, by what its row has in any case, its blocks, and the rows of these
abbrev pub component_rows : Version → List json.Data → Slots → List json.Data → List json.Data
component_rows version head no_slots inner = row (codes "leaf") head ∷ []
component_rows version head (block name is b ss) inner = row (codes "comp") (head ++ comp_params version is) ∷ ended_rows version inner

-- Statements are a flat list: what stands in one follows it, up to a row `end`.
abbrev mutual
  pub stmt_rows : Version → Stmt → List json.Data
  stmt_rows version (text_stmt s) = row (codes "text") (text_json s ∷ []) ∷ []
  stmt_rows version (comment_stmt s) = row (codes "comment") (text_json s ∷ []) ∷ []
  stmt_rows version (put e) = row (codes "put") (expr_json e ∷ []) ∷ []
  stmt_rows version (element tag ps b) = row (codes "el") (text_json tag ∷ parts_json ps ∷ []) ∷ (body_rows version b ++ end_row)
  stmt_rows version (component_stmt c ps es ss) = component_rows version (text_json c ∷ parts_json ps ∷ array_of (named_json es) ∷ []) ss (slots_rows version ss)
  stmt_rows version (if_stmt e unless b c) = row (if_word unless) (expr_json e ∷ []) ∷ (body_rows version b ++ (else_rows version c ++ end_row))
  stmt_rows version (each e key is b c) = row (codes "each") (expr_json e ∷ text_json key ∷ places_json is ∷ []) ∷ (body_rows version b ++ (else_rows version c ++ end_row))
  stmt_rows version (let_stmt es is b) = row (codes "let") (array_of (exprs_json es) ∷ places_json is ∷ []) ∷ (body_rows version b ++ end_row)
  stmt_rows version (yield es to) = row (codes "yield") (array_of (exprs_json es) ∷ yield_names version to) ∷ []

  pub body_rows : Version → Body → List json.Data
  body_rows version end = []
  body_rows version (stmt s b) = stmt_rows version s ++ body_rows version b

  -- in version 1 the body of the first block, in version 2 each block
  pub slots_rows : Version → Slots → List json.Data
  slots_rows version no_slots = []
  slots_rows First (block name is b ss) = body_rows First b ++ end_row
  slots_rows Second (block name is b ss) = row (codes "slot") (text_json name ∷ places_json is ∷ []) ∷ (body_rows Second b ++ (end_row ++ slots_rows Second ss))

  -- the else body, where it isn't empty
  pub else_rows : Version → Body → List json.Data
  else_rows version end = []
  else_rows version (stmt s b) = row (codes "else") [] ∷ (stmt_rows version s ++ body_rows version b)

-- the number of a version
abbrev pub number_of : Version → ℕ
number_of First = 1
number_of Second = 2

-- the JSON of a wire in a version; the members of an object stand in the order of their keys
unfoldable pub json_in : Version → Wire → json.Data
json_in version w = json.object (json.member (codes "body") (array_of (body_rows version w.body)) (json.member (codes "symbols") (texts_json w.symbols) (json.member (codes "v") (place_json (number_of version)) json.no_members)))

-- the JSON of a wire, which is that of version 2
abbrev pub json_of : Wire → json.Data
json_of w = json_in Second w

-- the JSON as text, without white space
unfoldable pub wire_text : Wire → Text
wire_text w = chars (compact_text (json_of w))
