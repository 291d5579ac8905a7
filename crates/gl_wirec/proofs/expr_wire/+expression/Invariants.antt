use Rattle.std.proofs.Common.{◌≡◌, ◌≤◌, ◌+◌, ◌*◌, ◌++◌, max, drop}
use Rattle.gl_ast.specs.Depth.{expr_depth, exprs_depth, named_depth}
use Rattle.gl_ast.specs.Template.{exprs_of, named_of}
use Rattle.gl_ast.specs.View.{expr_view, seen_exprs, seen_pairs}
use Rattle.gl_wire.specs.WireOf.{exprs_wire, named_wire}
use Rattle.gl_wirec.specs.Lists.{expr_list, named_list}
use Rattle.gl_wirec.proofs.expr_wire.+expression.Given as goal

abbrev pub decreases-expr_wire : goal.decreases-expr_wire
decreases-expr_wire l = 3 * expr_depth (expr_view l.expr.now)

abbrev pub decreases-call_wire : goal.decreases-call_wire
decreases-call_wire l = 3 * max (exprs_depth (exprs_of l.args.now)) (named_depth (named_of l.named.now)) + 2

abbrev pub decreases-exprs_wire : goal.decreases-exprs_wire
decreases-exprs_wire l = 3 * exprs_depth (exprs_of l.exprs.now) + 1

abbrev pub decreases-named_wire : goal.decreases-named_wire
decreases-named_wire l = 3 * named_depth (named_of l.pairs.now) + 1

-- the list so far and what is left make all, and what is left is no deeper
abbrev pub invariant-exprs_wire-loop-item : goal.invariant-exprs_wire-loop-item
invariant-exprs_wire-loop-item l = record {
  made : l.list ++ expr_list (exprs_wire l.symbols l.scope l.whole (exprs_of (seen_exprs (drop l.item-index l.item-items)))) ≡ expr_list (exprs_wire l.symbols l.scope l.whole (exprs_of l.exprs));
  shallow : exprs_depth (exprs_of (seen_exprs (drop l.item-index l.item-items))) ≤ exprs_depth (exprs_of l.exprs);
}

abbrev pub invariant-named_wire-loop-pair : goal.invariant-named_wire-loop-pair
invariant-named_wire-loop-pair l = record {
  made : l.list ++ named_list (named_wire l.symbols l.scope (named_of (seen_pairs (drop l.pair-index l.pair-items)))) ≡ named_list (named_wire l.symbols l.scope (named_of l.pairs));
  shallow : named_depth (named_of (seen_pairs (drop l.pair-index l.pair-items))) ≤ named_depth (named_of l.pairs);
}
