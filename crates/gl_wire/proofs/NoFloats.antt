-- The JSON of a wire has no float.
use Rattle.std.proofs.Common.{◌≡◌, ℕ, List, [], ◌∷◌, ◌++◌, Bool, true, false, ◌||◌, map, refl, true≢false}
use Rattle.std.specs.Prelude.{ℤ, pos, negsuc}
use Rattle.serde_json.specs.Data.{Data, number}
use Rattle.serde_json.specs.Find.{of_integer}
use Rattle.serde_json.specs.View.{items_of}
use Rattle.serde_json.specs.Written.{has_float, items_have_float}
use Rattle.gl_base.specs.Texts.{Text}
use Rattle.gl_value.specs.Value as v
use Rattle.gl_ast.specs.Template.{Plain}
use Rattle.gl_wire.specs.Json.{array_of, text_json, place_json, literal_json, expr_json, exprs_json, named_json, part_json, yield_names, comp_params, ended_rows, component_rows, stmt_rows, body_rows, slots_rows, else_rows, end_row, json_in}
use Rattle.gl_wire.specs.declared.version.Version.{Version}
use Rattle.gl_wire.specs.declared.version.Version.TheVariants.{First, Second}
use Rattle.gl_wire.specs.Wire.{Expr, literal, symbol, this, get, free, call, cat, Exprs, no_exprs, expr, NamedExprs, no_named, named_expr, Part, attribute, live, modifier, spread, Stmt, text_stmt, comment_stmt, put, element, component_stmt, if_stmt, each, let_stmt, yield, Body, end, stmt, Slots, no_slots, block, Wire}

abbrev have : List Data → Bool
have ds = items_have_float (items_of ds)

both : (a b : Bool) → a ≡ false → b ≡ false → (a || b) ≡ false
both false b e f = f
both true b e f = absurd (true≢false e)

first : (a b : Bool) → (a || b) ≡ false → a ≡ false
first false b e = refl
first true b e = absurd (true≢false e)

second : (a b : Bool) → (a || b) ≡ false → b ≡ false
second false b e = e
second true b e = absurd (true≢false e)

-- two, three and four values
two : (d e : Data) → has_float d ≡ false → has_float e ≡ false → have (d ∷ e ∷ []) ≡ false
two d e h k = both _ _ h (both _ _ k refl)

three : (d e f : Data) → has_float d ≡ false → has_float e ≡ false → has_float f ≡ false → have (d ∷ e ∷ f ∷ []) ≡ false
three d e f h k l = both _ _ h (two e f k l)

have-append : (ds es : List Data) → have ds ≡ false → have es ≡ false → have (ds ++ es) ≡ false
have-append [] es h k = k
have-append (d ∷ ds) es h k = both _ _ (first (has_float d) (have ds) h) (have-append ds es (second (has_float d) (have ds) h) k)

pub texts : (ts : List Text) → have (map text_json ts) ≡ false
texts [] = refl
texts (t ∷ ts) = texts ts

pub places : (is : List ℕ) → have (map place_json is) ≡ false
places [] = refl
places (i ∷ is) = places is

integer : (z : ℤ) → has_float (number (of_integer z)) ≡ false
integer (pos n) = refl
integer (negsuc n) = refl

scalar : (x : Plain) → has_float (literal_json x) ≡ false
scalar v.undefined = refl
scalar v.null = refl
scalar (v.boolean b) = refl
scalar (v.integer z) = both _ _ (integer z) refl
scalar (v.text s) = refl
scalar (v.list xs) = refl
scalar (v.pairs ms) = refl
scalar (v.action o n xs) = absurd o

mutual
  pub expression : (e : Expr) → has_float (expr_json e) ≡ false
  expression (literal x) = scalar x
  expression (symbol i) = refl
  expression (this n) = refl
  expression (get e ns) = both _ _ (expression e) (both _ _ (texts ns) refl)
  expression (free n) = refl
  expression (call n es ns) = both _ _ (expressions es) (both _ _ (pairs ns) refl)
  expression (cat es) = both _ _ (expressions es) refl

  expressions : (es : Exprs) → have (exprs_json es) ≡ false
  expressions no_exprs = refl
  expressions (expr e es) = both _ _ (expression e) (expressions es)

  pairs : (ns : NamedExprs) → have (named_json ns) ≡ false
  pairs no_named = refl
  pairs (named_expr n e ns) = both _ _ (both _ _ (expression e) refl) (pairs ns)

pub part : (p : Part) → has_float (part_json p) ≡ false
part (attribute n s) = refl
part (live n e) = both _ _ (expression e) refl
part (modifier n es ns) = both _ _ (expressions es) (both _ _ (pairs ns) refl)
part spread = refl

parts : (ps : List Part) → have (map part_json ps) ≡ false
parts [] = refl
parts (p ∷ ps) = both _ _ (part p) (parts ps)

ended : (ds : List Data) → have ds ≡ false → have (ds ++ end_row) ≡ false
ended ds h = have-append ds end_row h refl

-- the row of a component with blocks
with_params : (version : Version) (c p e : Data) → has_float c ≡ false → has_float p ≡ false → has_float e ≡ false → (is : List ℕ) → have (c ∷ p ∷ e ∷ comp_params version is) ≡ false
with_params First c p e h k l is = both _ _ h (three p e (array_of (map place_json is)) k l (places is))
with_params Second c p e h k l is = three c p e h k l

ended_blocks : (version : Version) (ds : List Data) → have ds ≡ false → have (ended_rows version ds) ≡ false
ended_blocks First ds h = h
ended_blocks Second ds h = ended ds h

component : (version : Version) (c p e : Data) → has_float c ≡ false → has_float p ≡ false → has_float e ≡ false → (ss : Slots) (inner : List Data) → have inner ≡ false → have (component_rows version (c ∷ p ∷ e ∷ []) ss inner) ≡ false
component version c p e h k l no_slots inner i = both _ _ (three c p e h k l) refl
component version c p e h k l (block name is b ss) inner i = both _ _ (with_params version c p e h k l is) (ended_blocks version inner i)

names : (version : Version) (to : Text) → have (yield_names version to) ≡ false
names First to = refl
names Second to = refl

mutual
  statement : (version : Version) (s : Stmt) → have (stmt_rows version s) ≡ false
  statement version (text_stmt s) = refl
  statement version (comment_stmt s) = refl
  statement version (put e) = both _ _ (both _ _ (expression e) refl) refl
  statement version (element tag ps b) = both _ _ (both _ _ (parts ps) refl) (ended (body_rows version b) (body version b))
  statement version (component_stmt c ps es ss) = component version (text_json c) (array_of (map part_json ps)) (array_of (named_json es)) refl (parts ps) (pairs es) ss (slots_rows version ss) (blocks version ss)
  statement version (if_stmt e unless b c) = both _ _ (both _ _ (expression e) refl) (have-append (body_rows version b) _ (body version b) (ended (else_rows version c) (otherwise version c)))
  statement version (each e key is b c) = both _ _ (both _ _ (expression e) (both _ _ (places is) refl)) (have-append (body_rows version b) _ (body version b) (ended (else_rows version c) (otherwise version c)))
  statement version (let_stmt es is b) = both _ _ (both _ _ (expressions es) (both _ _ (places is) refl)) (ended (body_rows version b) (body version b))
  statement version (yield es to) = both _ _ (both _ _ (expressions es) (names version to)) refl

  body : (version : Version) (b : Body) → have (body_rows version b) ≡ false
  body version end = refl
  body version (stmt s b) = have-append (stmt_rows version s) (body_rows version b) (statement version s) (body version b)

  blocks : (version : Version) (ss : Slots) → have (slots_rows version ss) ≡ false
  blocks version no_slots = refl
  blocks First (block name is b ss) = ended (body_rows First b) (body First b)
  blocks Second (block name is b ss) = both _ _ (both _ _ (places is) refl) (have-append (body_rows Second b) _ (body Second b) (have-append end_row (slots_rows Second ss) refl (blocks Second ss)))

  otherwise : (version : Version) (c : Body) → have (else_rows version c) ≡ false
  otherwise version end = refl
  otherwise version (stmt s b) = have-append (stmt_rows version s) (body_rows version b) (statement version s) (body version b)

pub no_float : (version : Version) (w : Wire) → has_float (json_in version w) ≡ false
unfolding json_in
no_float version w = both _ _ (body version w.body) (both _ _ (texts w.symbols) refl)
