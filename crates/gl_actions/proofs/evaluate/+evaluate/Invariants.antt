use Rattle.std.proofs.Common.{◌≡◌, ◌+◌, ◌*◌, ◌++◌, map, drop}
use Rattle.gl_value.specs.View.{seen_items}
use Rattle.gl_ast.specs.Template.{exprs_of, named_of}
use Rattle.gl_ast.specs.View.{seen_exprs, seen_pairs}
use Rattle.gl_labels.specs.Laws.{names_with}
use Rattle.gl_meaning.specs.Eval.{values_in}
use Rattle.gl_actions.specs.World.{World, owner_in, value_in}
use Rattle.gl_actions.specs.Frames.{Fits, pairs_in, named_in, pair_values}
use Rattle.gl_actions.proofs.evaluate.+evaluate.Given as goal

-- the room, and then the order of the calls in one room
abbrev pub decreases-value : goal.decreases-value
decreases-value l = 6 * l.room

abbrev pub decreases-getter : goal.decreases-getter
decreases-getter l = 6 * l.room + 1

abbrev pub decreases-member : goal.decreases-member
decreases-member l = 6 * l.room + 2

abbrev pub decreases-value_at : goal.decreases-value_at
decreases-value_at l = 6 * l.room + 1

abbrev pub decreases-values : goal.decreases-values
decreases-values l = 6 * l.room + 1

abbrev pub decreases-named_values : goal.decreases-named_values
decreases-named_values l = 6 * l.room + 1

abbrev pub decreases-branch : goal.decreases-branch
decreases-branch l = 6 * l.room + 2

abbrev pub decreases-called : goal.decreases-called
decreases-called l = 6 * l.room + 2

abbrev pub decreases-call : goal.decreases-call
decreases-call l = 6 * l.room + 3

abbrev pub invariant-values-loop-expr : goal.invariant-values-loop-expr
invariant-values-loop-expr l = (w : World) → Fits w l.here.frame
    → map (value_in w) (seen_items l.list.items) ++ values_in (pairs_in w l.here l.left (exprs_of (seen_exprs (drop l.expr-index l.exprs)))) ≡ values_in (pairs_in w l.here l.left (exprs_of (seen_exprs l.exprs)))

abbrev pub invariant-named_values-loop-entry : goal.invariant-named_values-loop-entry
invariant-named_values-loop-entry l = (w : World) → Fits w l.here.frame
    → names_with (owner_in w) l.list ++ pair_values (named_in w l.here l.left (named_of (seen_pairs (drop l.entry-index l.named)))) ≡ pair_values (named_in w l.here l.left (named_of (seen_pairs l.named)))
