-- The wire of a template and of an expression.
use Rattle.std.specs.Prelude.{ℕ, List, [], ◌∷◌, Bool, true, false}
use Rattle.gl_base.specs.Names.{has_text}
use Rattle.gl_base.specs.Texts.{Text}
use Rattle.gl_value.specs.Value as v
use Rattle.gl_ast.specs.Template as t
use Rattle.gl_wire.specs.Symbols.{with_names, place_of, symbols_of, expr_symbols_of}
use Rattle.gl_wire.specs.Wire.{Expr, literal, symbol, this, get, free, call, cat, Exprs, no_exprs, expr, NamedExprs, no_named, named_expr, Part, attribute, live, modifier, spread, Stmt, text_stmt, comment_stmt, put, element, component_stmt, if_stmt, each, let_stmt, yield, Body, end, stmt, Slots, no_slots, block, Wire, ExprWire}

-- a value with the segments of the path that follow it, where there are any
abbrev pub followed : Expr → List Text → Expr
followed e [] = e
followed e (n ∷ ns) = get e (n ∷ ns)

-- A path that begins with a name: a symbol where the name is in scope, and else a free name. One that is a whole mustache
-- and has no further segment calls the helper of its name.
abbrev pub path_of : Bool → Bool → ℕ → Text → List Text → Expr
path_of true whole place n ns = followed (symbol place) ns
path_of false true place n [] = call n no_exprs no_named
path_of false whole place n ns = followed (free n) ns

-- the places of names among the symbols
abbrev pub places_of : List Text → List Text → List ℕ
places_of symbols [] = []
places_of symbols (n ∷ ns) = place_of symbols n ∷ places_of symbols ns

-- The wire's form of an expression, by the symbols and the parameters in scope, and whether it is a whole mustache. Each
-- part of a joined text is one.
abbrev mutual
  pub expr_wire : List Text → List Text → Bool → t.Expr → Expr
  expr_wire symbols scope whole (t.literal x) = literal x
  expr_wire symbols scope whole (t.this n ns) = followed (this n) ns
  expr_wire symbols scope whole (t.argument n ns) = followed (symbol (place_of symbols (64 ∷ n))) ns
  expr_wire symbols scope whole (t.bare n ns) = path_of (has_text n scope) whole (place_of symbols n) n ns
  expr_wire symbols scope whole (t.call n es ns) = call n (exprs_wire symbols scope false es) (named_wire symbols scope ns)
  expr_wire symbols scope whole (t.cat es) = cat (exprs_wire symbols scope true es)

  pub exprs_wire : List Text → List Text → Bool → t.Exprs → Exprs
  exprs_wire symbols scope whole t.no_exprs = no_exprs
  exprs_wire symbols scope whole (t.expr e es) = expr (expr_wire symbols scope whole e) (exprs_wire symbols scope whole es)

  pub named_wire : List Text → List Text → t.NamedExprs → NamedExprs
  named_wire symbols scope t.no_named = no_named
  named_wire symbols scope (t.named_expr n e ns) = named_expr n (expr_wire symbols scope false e) (named_wire symbols scope ns)

-- a part of a tag
abbrev pub part_wire : List Text → List Text → t.Part → Part
part_wire symbols scope (t.attribute n (t.fixed s)) = attribute n s
part_wire symbols scope (t.attribute n (t.live e)) = live n (expr_wire symbols scope true e)
part_wire symbols scope (t.modifier n es ns) = modifier n (exprs_wire symbols scope false es) (named_wire symbols scope ns)
part_wire symbols scope t.spread = spread

abbrev pub parts_wire : List Text → List Text → List t.Part → List Part
parts_wire symbols scope [] = []
parts_wire symbols scope (p ∷ ps) = part_wire symbols scope p ∷ parts_wire symbols scope ps

-- the value of an argument: a text is a literal
abbrev pub value_wire : List Text → List Text → t.AttrValue → Expr
value_wire symbols scope (t.fixed s) = literal (v.text s)
value_wire symbols scope (t.live e) = expr_wire symbols scope true e

abbrev pub arguments_wire : List Text → List Text → List (Text × t.AttrValue) → NamedExprs
arguments_wire symbols scope [] = no_named
arguments_wire symbols scope (a ∷ given) = named_expr a.0 (value_wire symbols scope a.1) (arguments_wire symbols scope given)

-- A statement. The parameters of a block are in scope in its body alone.
abbrev mutual
  pub stmt_wire : List Text → List Text → t.Stmt → Stmt
  stmt_wire symbols scope (t.text_stmt s) = text_stmt s
  stmt_wire symbols scope (t.comment_stmt s) = comment_stmt s
  stmt_wire symbols scope (t.put e) = put (expr_wire symbols scope true e)
  stmt_wire symbols scope (t.element tag ps b) = element tag (parts_wire symbols scope ps) (body_wire symbols scope b)
  stmt_wire symbols scope (t.component_stmt c ps given ss) = component_stmt c (parts_wire symbols scope ps) (arguments_wire symbols scope given) (slots_wire symbols scope ss)
  stmt_wire symbols scope (t.if_stmt e unless b c) = if_stmt (expr_wire symbols scope false e) unless (body_wire symbols scope b) (body_wire symbols scope c)
  stmt_wire symbols scope (t.each e key ns b c) = each (expr_wire symbols scope false e) key (places_of symbols ns) (body_wire symbols (with_names scope ns) b) (body_wire symbols scope c)
  stmt_wire symbols scope (t.let_stmt es ns b) = let_stmt (exprs_wire symbols scope false es) (places_of symbols ns) (body_wire symbols (with_names scope ns) b)
  stmt_wire symbols scope (t.yield es to) = yield (exprs_wire symbols scope false es) to

  pub body_wire : List Text → List Text → t.Body → Body
  body_wire symbols scope t.end = end
  body_wire symbols scope (t.stmt s b) = stmt (stmt_wire symbols scope s) (body_wire symbols scope b)

  pub slots_wire : List Text → List Text → t.Slots → Slots
  slots_wire symbols scope t.no_slots = no_slots
  slots_wire symbols scope (t.block name ns b ss) = block name (places_of symbols ns) (body_wire symbols (with_names scope ns) b) (slots_wire symbols scope ss)

-- the wire of a template
unfoldable pub wire_of : t.Body → Wire
wire_of b = record { symbols = symbols_of b; body = body_wire (symbols_of b) [] b }

-- the wire of an expression by itself, with the names of the parameters in scope
unfoldable pub expr_wire_of : List Text → t.Expr → ExprWire
expr_wire_of names e = record { symbols = expr_symbols_of names e; value = expr_wire (expr_symbols_of names e) names false e }
