use Rattle.std.proofs.Common.{◌≡◌, ◌≤◌, ◌+◌, ◌*◌, ◌++◌, max, drop}
use Rattle.gl_wire.specs.Depth.{expr_depth, exprs_depth, named_depth}
use Rattle.gl_wire.specs.Json.{exprs_json, named_json}
use Rattle.gl_wire.specs.Rows.{shown}
use Rattle.gl_wire.specs.View.{expr_view, seen_exprs, seen_pairs}
use Rattle.gl_wire.specs.Wire.{exprs_of, named_of}
use Rattle.gl_wire.proofs.expr_json.+expression.Given as goal

abbrev pub decreases-expr_value : goal.decreases-expr_value
decreases-expr_value l = 4 * expr_depth (expr_view l.expr.now)

abbrev pub decreases-call_value : goal.decreases-call_value
decreases-call_value l = 4 * max (exprs_depth (exprs_of l.args.now)) (named_depth (named_of l.named.now)) + 3

abbrev pub decreases-get_value : goal.decreases-get_value
decreases-get_value l = 4 * expr_depth l.of.now + 3

abbrev pub decreases-cat_value : goal.decreases-cat_value
decreases-cat_value l = 4 * exprs_depth (exprs_of l.parts.now) + 3

abbrev pub decreases-exprs_value : goal.decreases-exprs_value
decreases-exprs_value l = 4 * exprs_depth (exprs_of l.exprs.now) + 1

abbrev pub decreases-named_value : goal.decreases-named_value
decreases-named_value l = 4 * named_depth (named_of l.named.now) + 1

-- the values so far and those of what is left are all, and what is left is no deeper
abbrev pub invariant-exprs_value-loop-item : goal.invariant-exprs_value-loop-item
invariant-exprs_value-loop-item l = record {
  written : shown l.row ++ exprs_json (exprs_of (seen_exprs (drop l.item-index l.item-items))) ≡ exprs_json (exprs_of l.exprs);
  shallow : exprs_depth (exprs_of (seen_exprs (drop l.item-index l.item-items))) ≤ exprs_depth (exprs_of l.exprs);
}

abbrev pub invariant-named_value-loop-pair : goal.invariant-named_value-loop-pair
invariant-named_value-loop-pair l = record {
  written : shown l.row ++ named_json (named_of (seen_pairs (drop l.pair-index l.pair-items))) ≡ named_json (named_of l.named);
  shallow : named_depth (named_of (seen_pairs (drop l.pair-index l.pair-items))) ≤ named_depth (named_of l.named);
}
