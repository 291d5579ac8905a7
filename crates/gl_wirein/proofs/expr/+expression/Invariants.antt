use Rattle.std.proofs.Common.{◌≡◌, ◌+◌, ◌*◌, drop}
use Rattle.serde_json.specs.View.{view}
use Rattle.gl_base.specs.Reading.{read_all, after_front}
use Rattle.gl_wirein.specs.ReadExpr.{pair_in, read_expr}
use Rattle.gl_wirein.proofs.expr.+expression.Given as goal

abbrev pub decreases-called : goal.decreases-called
decreases-called l = 6 * l.calls

abbrev pub decreases-expr : goal.decreases-expr
decreases-expr l = 6 * l.calls + 1

abbrev pub decreases-exprs : goal.decreases-exprs
decreases-exprs l = 6 * l.calls + 2

abbrev pub decreases-pair : goal.decreases-pair
decreases-pair l = 6 * l.calls + 3

abbrev pub decreases-pairs : goal.decreases-pairs
decreases-pairs l = 6 * l.calls + 4

abbrev pub decreases-call : goal.decreases-call
decreases-call l = 6 * l.calls + 5

-- what is read, before what is left, is the whole
abbrev pub invariant-exprs-loop-item : goal.invariant-exprs-loop-item
invariant-exprs-loop-item l =
    after_front l.list (read_all (λ v. read_expr l.symbols l.calls (view v)) (drop l.item-index l.item-items)) ≡ read_all (λ v. read_expr l.symbols l.calls (view v)) l.item-items

abbrev pub invariant-pairs-loop-item : goal.invariant-pairs-loop-item
invariant-pairs-loop-item l =
    after_front l.list (read_all (λ v. pair_in (λ e. read_expr l.symbols l.calls e) (view v)) (drop l.item-index l.item-items)) ≡ read_all (λ v. pair_in (λ e. read_expr l.symbols l.calls e) (view v)) l.item-items
