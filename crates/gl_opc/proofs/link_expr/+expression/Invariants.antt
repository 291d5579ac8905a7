use Rattle.std.proofs.Common.{◌≡◌, ◌≤◌, ◌+◌, ◌*◌, max, drop}
use Rattle.gl_wire.specs.Depth.{expr_depth, exprs_depth, named_depth}
use Rattle.gl_wire.specs.View.{expr_view, seen_exprs, seen_pairs}
use Rattle.gl_wire.specs.Wire.{exprs_of, named_of}
use Rattle.gl_opc.specs.Linked.{exprs_linked, named_linked}
use Rattle.gl_opc.specs.State.{context_view, state_view}
use Rattle.gl_opc.proofs.link_expr.+expression.Given as goal

abbrev pub decreases-link_expr : goal.decreases-link_expr
decreases-link_expr l = 4 * expr_depth (expr_view l.expr.now)

abbrev pub decreases-link_call : goal.decreases-link_call
decreases-link_call l = 4 * max (exprs_depth (exprs_of l.args.now)) (named_depth (named_of l.named.now)) + 3

abbrev pub decreases-link_both : goal.decreases-link_both
decreases-link_both l = 4 * max (exprs_depth (exprs_of l.args.now)) (named_depth (named_of l.named.now)) + 2

abbrev pub decreases-link_get : goal.decreases-link_get
decreases-link_get l = 4 * expr_depth l.of.now + 3

abbrev pub decreases-link_cat : goal.decreases-link_cat
decreases-link_cat l = 4 * exprs_depth (exprs_of l.parts.now) + 3

abbrev pub decreases-link_exprs : goal.decreases-link_exprs
decreases-link_exprs l = 4 * exprs_depth (exprs_of l.exprs.now) + 1

abbrev pub decreases-link_named : goal.decreases-link_named
decreases-link_named l = 4 * named_depth (named_of l.named.now) + 1

-- what is linked so far, with what is left, is all, and what is left is no deeper
abbrev pub invariant-link_exprs-loop-item : goal.invariant-link_exprs-loop-item
invariant-link_exprs-loop-item l = record {
  linked : exprs_linked (context_view l.context) l.place (exprs_of (seen_exprs (drop l.item-index l.item-items))) (state_view l.out) ≡ exprs_linked (context_view l.context) l.place (exprs_of l.exprs) (state_view l.initial.out);
  shallow : exprs_depth (exprs_of (seen_exprs (drop l.item-index l.item-items))) ≤ exprs_depth (exprs_of l.exprs);
}

abbrev pub invariant-link_named-loop-pair : goal.invariant-link_named-loop-pair
invariant-link_named-loop-pair l = record {
  linked : named_linked (context_view l.context) l.place (named_of (seen_pairs (drop l.pair-index l.pair-items))) (state_view l.out) ≡ named_linked (context_view l.context) l.place (named_of l.named) (state_view l.initial.out);
  shallow : named_depth (named_of (seen_pairs (drop l.pair-index l.pair-items))) ≤ named_depth (named_of l.named);
}
