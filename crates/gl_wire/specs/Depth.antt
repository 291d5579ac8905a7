-- How deep the expressions and the statements of a wire are nested.
use Rattle.std.specs.Prelude.{ℕ, suc, max}
use Rattle.gl_wire.specs.Wire.{Expr, literal, symbol, this, get, free, call, cat, Exprs, no_exprs, expr, NamedExprs, no_named, named_expr, Stmt, text_stmt, comment_stmt, put, element, component_stmt, if_stmt, each, let_stmt, yield, Body, end, stmt, Slots, no_slots, block}

-- a call or a cat is one deeper than the deepest of its expressions, a path one deeper than what it begins with
abbrev mutual
  pub expr_depth : Expr → ℕ
  expr_depth (literal x) = 0
  expr_depth (symbol i) = 0
  expr_depth (this n) = 0
  expr_depth (get e ns) = suc (expr_depth e)
  expr_depth (free n) = 0
  expr_depth (call n es ns) = suc (max (exprs_depth es) (named_depth ns))
  expr_depth (cat es) = suc (exprs_depth es)

  pub exprs_depth : Exprs → ℕ
  exprs_depth no_exprs = 0
  exprs_depth (expr e es) = max (expr_depth e) (exprs_depth es)

  pub named_depth : NamedExprs → ℕ
  named_depth no_named = 0
  named_depth (named_expr n e ns) = max (expr_depth e) (named_depth ns)

-- a statement is one deeper than the deepest of its bodies, and 0 where it has none
abbrev mutual
  pub stmt_depth : Stmt → ℕ
  stmt_depth (text_stmt s) = 0
  stmt_depth (comment_stmt s) = 0
  stmt_depth (put e) = 0
  stmt_depth (element tag ps b) = suc (body_depth b)
  stmt_depth (component_stmt c ps es ss) = suc (slots_depth ss)
  stmt_depth (if_stmt e unless b c) = suc (max (body_depth b) (body_depth c))
  stmt_depth (each e key is b c) = suc (max (body_depth b) (body_depth c))
  stmt_depth (let_stmt es is b) = suc (body_depth b)
  stmt_depth (yield es to) = 0

  pub body_depth : Body → ℕ
  body_depth end = 0
  body_depth (stmt s b) = max (stmt_depth s) (body_depth b)

  pub slots_depth : Slots → ℕ
  slots_depth no_slots = 0
  slots_depth (block name is b ss) = max (suc (body_depth b)) (slots_depth ss)
