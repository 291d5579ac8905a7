use Rattle.std.proofs.Common.{◌≡◌, ◌≤◌, ◌+◌, ◌*◌, ◌++◌, max, drop}
use Rattle.gl_ast.specs.Canon.{exprs_text, named_text}
use Rattle.gl_ast.specs.Depth.{expr_depth, exprs_depth, named_depth}
use Rattle.gl_ast.specs.Template.{exprs_of, named_of}
use Rattle.gl_ast.specs.View.{expr_view, seen_exprs, seen_pairs}
use Rattle.gl_show.proofs.expression.+expression.Given as goal

abbrev pub decreases-write_expr : goal.decreases-write_expr
decreases-write_expr l = 3 * expr_depth (expr_view l.expr.now)

abbrev pub decreases-write_call : goal.decreases-write_call
decreases-write_call l = 3 * max (exprs_depth (exprs_of l.args.now)) (named_depth (named_of l.named.now)) + 2

abbrev pub decreases-write_exprs : goal.decreases-write_exprs
decreases-write_exprs l = 3 * exprs_depth (exprs_of l.exprs.now) + 1

abbrev pub decreases-write_named : goal.decreases-write_named
decreases-write_named l = 3 * named_depth (named_of l.pairs.now) + 1

-- the text so far and that of what is left are the whole text, and what is left is no deeper
abbrev pub invariant-write_exprs-loop-item : goal.invariant-write_exprs-loop-item
invariant-write_exprs-loop-item l = record {
  written : l.out ++ exprs_text (exprs_of (seen_exprs (drop l.item-index l.item-items))) ≡ l.initial.out ++ exprs_text (exprs_of l.exprs);
  shallow : exprs_depth (exprs_of (seen_exprs (drop l.item-index l.item-items))) ≤ exprs_depth (exprs_of l.exprs);
}

abbrev pub invariant-write_named-loop-pair : goal.invariant-write_named-loop-pair
invariant-write_named-loop-pair l = record {
  written : l.out ++ named_text (named_of (seen_pairs (drop l.pair-index l.pair-items))) ≡ l.initial.out ++ named_text (named_of l.pairs);
  shallow : named_depth (named_of (seen_pairs (drop l.pair-index l.pair-items))) ≤ named_depth (named_of l.pairs);
}
