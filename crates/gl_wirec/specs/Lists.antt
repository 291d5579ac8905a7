-- The lists that the definitions' own lists of expressions, pairs, statements and slots have.
use Rattle.std.specs.Prelude.{ℕ, List, [], ◌∷◌}
use Rattle.gl_base.specs.Texts.{Text}
use Rattle.gl_wire.specs.Wire.{Expr, Exprs, no_exprs, expr, NamedExprs, no_named, named_expr, Stmt, Body, end, stmt, Slots, no_slots, block}

abbrev pub expr_list : Exprs → List Expr
expr_list no_exprs = []
expr_list (expr e es) = e ∷ expr_list es

abbrev pub named_list : NamedExprs → List (Text × Expr)
named_list no_named = []
named_list (named_expr n e ns) = (n, e) ∷ named_list ns

abbrev pub stmt_list : Body → List Stmt
stmt_list end = []
stmt_list (stmt s b) = s ∷ stmt_list b

abbrev pub slot_list : Slots → List (Text × (List ℕ × Body))
slot_list no_slots = []
slot_list (block n is b ss) = (n, (is, b)) ∷ slot_list ss
