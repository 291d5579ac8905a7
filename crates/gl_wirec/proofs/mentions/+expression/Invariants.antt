use Rattle.std.proofs.Common.{◌≡◌, ◌≤◌, ◌+◌, ◌*◌, max, drop}
use Rattle.gl_ast.specs.Depth.{expr_depth, exprs_depth, named_depth}
use Rattle.gl_ast.specs.Template.{exprs_of, named_of}
use Rattle.gl_ast.specs.View.{expr_view, seen_exprs, seen_pairs}
use Rattle.gl_wire.specs.Symbols.{with_names, exprs_mentions, named_mentions}
use Rattle.gl_wirec.proofs.mentions.+expression.Given as goal

abbrev pub decreases-note_expr : goal.decreases-note_expr
decreases-note_expr l = 3 * expr_depth (expr_view l.expr.now)

abbrev pub decreases-note_call : goal.decreases-note_call
decreases-note_call l = 3 * max (exprs_depth (exprs_of l.args.now)) (named_depth (named_of l.named.now)) + 2

abbrev pub decreases-note_exprs : goal.decreases-note_exprs
decreases-note_exprs l = 3 * exprs_depth (exprs_of l.exprs.now) + 1

abbrev pub decreases-note_named : goal.decreases-note_named
decreases-note_named l = 3 * named_depth (named_of l.pairs.now) + 1

-- the names so far with those of what is left are all, and what is left is no deeper
abbrev pub invariant-note_exprs-loop-item : goal.invariant-note_exprs-loop-item
invariant-note_exprs-loop-item l = record {
  noted : with_names l.symbols (exprs_mentions l.known (exprs_of (seen_exprs (drop l.item-index l.item-items)))) ≡ with_names l.initial.symbols (exprs_mentions l.known (exprs_of l.exprs));
  shallow : exprs_depth (exprs_of (seen_exprs (drop l.item-index l.item-items))) ≤ exprs_depth (exprs_of l.exprs);
}

abbrev pub invariant-note_named-loop-pair : goal.invariant-note_named-loop-pair
invariant-note_named-loop-pair l = record {
  noted : with_names l.symbols (named_mentions l.known (named_of (seen_pairs (drop l.pair-index l.pair-items)))) ≡ with_names l.initial.symbols (named_mentions l.known (named_of l.pairs));
  shallow : named_depth (named_of (seen_pairs (drop l.pair-index l.pair-items))) ≤ named_depth (named_of l.pairs);
}
