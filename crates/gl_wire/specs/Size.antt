-- How large a wire is, and how many names it has.
use Rattle.std.specs.Prelude.{ℕ, suc, ◌+◌, List, [], ◌∷◌, length}
use Rattle.gl_wire.specs.Wire.{Expr, literal, symbol, this, get, free, call, cat, Exprs, no_exprs, expr, NamedExprs, no_named, named_expr, Part, attribute, live, modifier, spread, Stmt, text_stmt, comment_stmt, put, element, component_stmt, if_stmt, each, let_stmt, yield, Body, end, stmt, Slots, no_slots, block, Wire, ExprWire}

-- expressions, segments of paths and pairs
abbrev mutual
  pub expr_size : Expr → ℕ
  expr_size (literal x) = 1
  expr_size (symbol i) = 1
  expr_size (this n) = 1
  expr_size (get e ns) = suc (expr_size e + length ns)
  expr_size (free n) = 1
  expr_size (call n es ns) = suc (exprs_size es + named_size ns)
  expr_size (cat es) = suc (exprs_size es)

  pub exprs_size : Exprs → ℕ
  exprs_size no_exprs = 0
  exprs_size (expr e es) = expr_size e + exprs_size es

  pub named_size : NamedExprs → ℕ
  named_size no_named = 0
  named_size (named_expr n e ns) = suc (expr_size e + named_size ns)

abbrev pub part_size : Part → ℕ
part_size (attribute n s) = 1
part_size (live n e) = suc (expr_size e)
part_size (modifier n es ns) = suc (exprs_size es + named_size ns)
part_size spread = 1

abbrev pub parts_size : List Part → ℕ
parts_size [] = 0
parts_size (p ∷ ps) = part_size p + parts_size ps

-- statements, parts, slots and parameters, with all that is in them
abbrev mutual
  pub stmt_size : Stmt → ℕ
  stmt_size (text_stmt s) = 1
  stmt_size (comment_stmt s) = 1
  stmt_size (put e) = suc (expr_size e)
  stmt_size (element tag ps b) = suc (parts_size ps + body_size b)
  stmt_size (component_stmt c ps es ss) = suc (parts_size ps + (named_size es + slots_size ss))
  stmt_size (if_stmt e unless b c) = suc (expr_size e + (body_size b + body_size c))
  stmt_size (each e key is b c) = suc (expr_size e + (length is + (body_size b + body_size c)))
  stmt_size (let_stmt es is b) = suc (exprs_size es + (length is + body_size b))
  stmt_size (yield es to) = suc (exprs_size es)

  pub body_size : Body → ℕ
  body_size end = 0
  body_size (stmt s b) = stmt_size s + body_size b

  pub slots_size : Slots → ℕ
  slots_size no_slots = 0
  slots_size (block name is b ss) = suc (length is + (body_size b + slots_size ss))

-- how many statements, parts, slots, expressions, segments of paths, pairs and block parameters a wire has
abbrev pub size : Wire → ℕ
size w = body_size w.body

abbrev pub expr_wire_size : ExprWire → ℕ
expr_wire_size w = expr_size w.value

-- names of attributes
abbrev pub part_names : Part → ℕ
part_names (attribute n s) = 1
part_names (live n e) = 1
part_names (modifier n es ns) = 0
part_names spread = 0

abbrev pub parts_names : List Part → ℕ
parts_names [] = 0
parts_names (p ∷ ps) = part_names p + parts_names ps

-- names of arguments
abbrev pub argument_names : NamedExprs → ℕ
argument_names no_named = 0
argument_names (named_expr n e ns) = suc (argument_names ns)

-- names of attributes and arguments, keys, and names of slots and yields
abbrev mutual
  pub stmt_names : Stmt → ℕ
  stmt_names (text_stmt s) = 0
  stmt_names (comment_stmt s) = 0
  stmt_names (put e) = 0
  stmt_names (element tag ps b) = parts_names ps + body_names b
  stmt_names (component_stmt c ps es ss) = parts_names ps + (argument_names es + slots_names ss)
  stmt_names (if_stmt e unless b c) = body_names b + body_names c
  stmt_names (each e key is b c) = suc (body_names b + body_names c)
  stmt_names (let_stmt es is b) = body_names b
  stmt_names (yield es to) = 1

  pub body_names : Body → ℕ
  body_names end = 0
  body_names (stmt s b) = stmt_names s + body_names b

  pub slots_names : Slots → ℕ
  slots_names no_slots = 0
  slots_names (block name is b ss) = suc (body_names b + slots_names ss)

-- how many symbols, names of attributes and arguments, keys, and names of slots and yields a wire has
abbrev pub names_of : Wire → ℕ
names_of w = length w.symbols + body_names w.body

abbrev pub expr_names_of : ExprWire → ℕ
expr_names_of w = length w.symbols
