use Rattle.std.proofs.Common.{◌≡◌, ◌≤◌, ◌+◌, ◌*◌, drop}
use Rattle.gl_ast.specs.Depth.{expr_depth, exprs_depth, named_depth}
use Rattle.gl_ast.specs.Template.{exprs_of, named_of}
use Rattle.gl_ast.specs.View.{expr_view, seen_exprs, seen_pairs}
use Rattle.gl_meaning.specs.Known.{all_mentions, named_mentions}
use Rattle.gl_cycles.specs.Marks.{with_names}
use Rattle.gl_cycles.proofs.mentions.+mentions.Given as goal

abbrev pub decreases-mark_expr : goal.decreases-mark_expr
decreases-mark_expr l = 2 * expr_depth (expr_view l.expr.now)

abbrev pub decreases-mark_exprs : goal.decreases-mark_exprs
decreases-mark_exprs l = 2 * exprs_depth (exprs_of l.exprs.now) + 1

abbrev pub decreases-mark_named : goal.decreases-mark_named
decreases-mark_named l = 2 * named_depth (named_of l.named.now) + 1

-- the marks so far, with those of what is left, are those of all, and what is left is no deeper
abbrev pub invariant-mark_exprs-loop-item : goal.invariant-mark_exprs-loop-item
invariant-mark_exprs-loop-item l = record {
  marked : with_names (seen_pairs l.getters) l.all (all_mentions (exprs_of (seen_exprs (drop l.item-index l.item-items)))) ≡ with_names (seen_pairs l.getters) l.marks (all_mentions (exprs_of l.exprs));
  shallow : exprs_depth (exprs_of (seen_exprs (drop l.item-index l.item-items))) ≤ exprs_depth (exprs_of l.exprs);
}

abbrev pub invariant-mark_named-loop-pair : goal.invariant-mark_named-loop-pair
invariant-mark_named-loop-pair l = record {
  marked : with_names (seen_pairs l.getters) l.all (named_mentions (named_of (seen_pairs (drop l.pair-index l.pair-items)))) ≡ with_names (seen_pairs l.getters) l.marks (named_mentions (named_of l.named));
  shallow : named_depth (named_of (seen_pairs (drop l.pair-index l.pair-items))) ≤ named_depth (named_of l.named);
}
