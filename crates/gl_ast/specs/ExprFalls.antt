-- Each expression is less deep than the list that holds it.
use Rattle.std.specs.Prelude.{◌≤◌, suc, List, [], ◌∷◌}
use Rattle.std.proofs.Common.{arith}
use Rattle.gl_ast.specs.Template.{exprs_of, named_of}
use Rattle.gl_ast.specs.Depth.{expr_depth, exprs_depth, named_depth}
use Rattle.gl_ast.specs.View.{expr_view, seen_exprs, seen_pairs}
use Rattle.gl_ast.specs.declared.expr.Expr.{Expr}
use Rattle.gl_ast.specs.declared.expr.Expr.TheVariants as code
use Rattle.gl_ast.specs.declared.expr.NamedExpr.{NamedExpr}
use Rattle.gl_ast.specs.declared.expr.Exprs.TheDeep.{deep-Expr, deep-NamedExpr, deep-Exprs, deep-Pairs}
use Rattle.gl_ast.specs.declared.expr.Exprs.TheInside.{Inside as ExprsInside}
use Rattle.gl_ast.specs.declared.expr.Pairs.TheInside.{Inside as PairsInside}
use denote.Param.Weighed.{most}

expr_falls : (e : Expr) → deep-Expr e ≤ suc (expr_depth (expr_view e))
expr_falls (code.Lit l) = omega arith
expr_falls (code.This s ts) = omega arith
expr_falls (code.Arg s ts) = omega arith
expr_falls (code.Bare s ts) = omega arith
expr_falls (code.Call s es ns) = omega arith
expr_falls (code.Cat es) = omega arith

most_exprs : (es : List Expr) → most deep-Expr es ≤ suc (exprs_depth (exprs_of (seen_exprs es)))
most_exprs [] = omega arith
most_exprs (e ∷ es) = omega (arith, expr_falls e, most_exprs es)

most_pairs : (ns : List NamedExpr) → most deep-NamedExpr ns ≤ suc (named_depth (named_of (seen_pairs ns)))
most_pairs [] = omega arith
most_pairs (n ∷ ns) = omega (arith, expr_falls n.value, most_pairs ns)

pub exprs_falls : (a : ExprsInside) → deep-Exprs a ≤ suc (exprs_depth (exprs_of (seen_exprs a.list.items)))
exprs_falls a = omega (arith, most_exprs a.list.items)

pub pairs_falls : (a : PairsInside) → deep-Pairs a ≤ suc (named_depth (named_of (seen_pairs a.list.items)))
pairs_falls a = omega (arith, most_pairs a.list.items)
