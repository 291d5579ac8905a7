-- Each expression of a wire is less deep than what holds it.
use Rattle.std.specs.Prelude.{◌≤◌, suc, List, [], ◌∷◌}
use Rattle.std.proofs.Common.{arith}
use Rattle.gl_wire.specs.Wire.{exprs_of, named_of}
use Rattle.gl_wire.specs.Depth.{expr_depth, exprs_depth, named_depth}
use Rattle.gl_wire.specs.View.{expr_view, seen_exprs, seen_pairs}
use Rattle.gl_wire.specs.declared.expr.WireExpr.{WireExpr}
use Rattle.gl_wire.specs.declared.expr.WireExpr.TheVariants as code
use Rattle.gl_wire.specs.declared.expr.WirePair.{WirePair}
use Rattle.gl_wire.specs.declared.expr.Head.TheDeep.{deep-WireExpr, deep-WirePair, deep-WireExprs, deep-WirePairs, deep-Head}
use Rattle.gl_wire.specs.declared.expr.Head.TheInside.{Inside as HeadInside}
use Rattle.gl_wire.specs.declared.expr.WireExprs.TheInside.{Inside as ExprsInside}
use Rattle.gl_wire.specs.declared.expr.WirePairs.TheInside.{Inside as PairsInside}
use denote.Param.Weighed.{most}

expr_falls : (e : WireExpr) → deep-WireExpr e ≤ suc (expr_depth (expr_view e))
expr_falls (code.Lit l) = omega arith
expr_falls (code.Sym i) = omega arith
expr_falls (code.This s) = omega arith
expr_falls (code.Get e ts) = omega arith
expr_falls (code.Free s) = omega arith
expr_falls (code.Call s es ns) = omega arith
expr_falls (code.Cat es) = omega arith

most_exprs : (es : List WireExpr) → most deep-WireExpr es ≤ suc (exprs_depth (exprs_of (seen_exprs es)))
most_exprs [] = omega arith
most_exprs (e ∷ es) = omega (arith, expr_falls e, most_exprs es)

most_pairs : (ns : List WirePair) → most deep-WirePair ns ≤ suc (named_depth (named_of (seen_pairs ns)))
most_pairs [] = omega arith
most_pairs (n ∷ ns) = omega (arith, expr_falls n.value, most_pairs ns)

pub head_falls : (a : HeadInside) → deep-Head a ≤ suc (expr_depth (expr_view a.expr.value))
head_falls a = omega (arith, expr_falls a.expr.value)

pub exprs_falls : (a : ExprsInside) → deep-WireExprs a ≤ suc (exprs_depth (exprs_of (seen_exprs a.list.items)))
exprs_falls a = omega (arith, most_exprs a.list.items)

pub pairs_falls : (a : PairsInside) → deep-WirePairs a ≤ suc (named_depth (named_of (seen_pairs a.list.items)))
pairs_falls a = omega (arith, most_pairs a.list.items)
