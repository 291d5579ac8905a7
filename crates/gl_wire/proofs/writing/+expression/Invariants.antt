use Rattle.std.proofs.Common.{◌≡◌, ◌≤◌, ◌+◌, ◌*◌, ◌++◌, max, drop, false}
use Rattle.std.specs.Prelude.{string_bytes}
use Rattle.serde_json.specs.View.{items_of}
use Rattle.serde_json.specs.Written.{items_text}
use Rattle.gl_wire.specs.Depth.{expr_depth, exprs_depth, named_depth}
use Rattle.gl_wire.specs.Json.{exprs_json, named_json}
use Rattle.gl_wire.specs.View.{expr_view, seen_exprs, seen_pairs}
use Rattle.gl_wire.specs.Wire.{exprs_of, named_of}
use Rattle.gl_wire.proofs.writing.+expression.Given as goal

abbrev pub decreases-write_expr : goal.decreases-write_expr
decreases-write_expr l = 4 * expr_depth (expr_view l.expr.now)

abbrev pub decreases-write_call : goal.decreases-write_call
decreases-write_call l = 4 * max (exprs_depth (exprs_of l.args.now)) (named_depth (named_of l.named.now)) + 3

abbrev pub decreases-write_get : goal.decreases-write_get
decreases-write_get l = 4 * expr_depth l.of.now + 3

abbrev pub decreases-write_cat : goal.decreases-write_cat
decreases-write_cat l = 4 * exprs_depth (exprs_of l.parts.now) + 3

abbrev pub decreases-write_exprs : goal.decreases-write_exprs
decreases-write_exprs l = 4 * exprs_depth (exprs_of l.exprs.now) + 1

abbrev pub decreases-write_pairs : goal.decreases-write_pairs
decreases-write_pairs l = 4 * named_depth (named_of l.pairs.now) + 1

-- what is written and what is left are all, and what is left is no deeper
abbrev pub invariant-write_exprs-loop-item : goal.invariant-write_exprs-loop-item
invariant-write_exprs-loop-item l = record {
  written : string_bytes l.text ++ items_text l.later (items_of (exprs_json (exprs_of (seen_exprs (drop l.item-index l.item-items))))) ≡ string_bytes l.initial.text ++ items_text false (items_of (exprs_json (exprs_of l.exprs)));
  shallow : exprs_depth (exprs_of (seen_exprs (drop l.item-index l.item-items))) ≤ exprs_depth (exprs_of l.exprs);
}

abbrev pub invariant-write_pairs-loop-pair : goal.invariant-write_pairs-loop-pair
invariant-write_pairs-loop-pair l = record {
  written : string_bytes l.text ++ items_text l.later (items_of (named_json (named_of (seen_pairs (drop l.pair-index l.pair-items))))) ≡ string_bytes l.initial.text ++ items_text false (items_of (named_json (named_of l.pairs)));
  shallow : named_depth (named_of (seen_pairs (drop l.pair-index l.pair-items))) ≤ named_depth (named_of l.pairs);
}
