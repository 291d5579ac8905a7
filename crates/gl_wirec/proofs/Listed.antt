-- The lists that the definitions' own lists have give these back.
use Rattle.std.proofs.Common.{◌≡◌, ℕ, List, ap, refl, ◌∙◌}
use Rattle.gl_base.specs.Texts.{Text}
use Rattle.gl_wire.specs.Wire.{Expr, Stmt, Exprs, no_exprs, expr, exprs_of, NamedExprs, no_named, named_expr, named_of, Body, end, stmt, body_of, Slots, no_slots, block, slots_of}
use Rattle.gl_wirec.specs.Lists.{expr_list, named_list, stmt_list, slot_list}

pub exprs_of-list : (es : Exprs) → exprs_of (expr_list es) ≡ es
exprs_of-list no_exprs = refl
exprs_of-list (expr e es) = ap (expr e) (exprs_of-list es)

pub named_of-list : (ns : NamedExprs) → named_of (named_list ns) ≡ ns
named_of-list no_named = refl
named_of-list (named_expr n e ns) = ap (named_expr n e) (named_of-list ns)

pub body_of-list : (b : Body) → body_of (stmt_list b) ≡ b
body_of-list end = refl
body_of-list (stmt s b) = ap (stmt s) (body_of-list b)

pub slots_of-list : (ss : Slots) → slots_of (slot_list ss) ≡ ss
slots_of-list no_slots = refl
slots_of-list (block n is b ss) = ap (block n is b) (slots_of-list ss)

-- so a list that is complete makes the whole
pub exprs_made : (l : List Expr) (es : Exprs) → l ≡ expr_list es → exprs_of l ≡ es
exprs_made l es e = ap exprs_of e ∙ exprs_of-list es

pub named_made : (l : List (Text × Expr)) (ns : NamedExprs) → l ≡ named_list ns → named_of l ≡ ns
named_made l ns e = ap named_of e ∙ named_of-list ns

pub body_made : (l : List Stmt) (b : Body) → l ≡ stmt_list b → body_of l ≡ b
body_made l b e = ap body_of e ∙ body_of-list b

pub slots_made : (l : List (Text × (List ℕ × Body))) (ss : Slots) → l ≡ slot_list ss → slots_of l ≡ ss
slots_made l ss e = ap slots_of e ∙ slots_of-list ss
