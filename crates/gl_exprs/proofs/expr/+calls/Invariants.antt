use Rattle.std.proofs.Common.{◌+◌, ◌*◌, length}
use Rattle.gl_exprs.specs.ReadExpr.{starts_expr, stands_name, read_expr, read_exprs, read_named, read_pair}
use Rattle.gl_exprs.proofs.Many.{IsLeft}
use Rattle.gl_exprs.proofs.expr.+calls.Given as goal

abbrev pub decreases-expr : goal.decreases-expr
decreases-expr l = 5 * l.calls

abbrev pub decreases-exprs : goal.decreases-exprs
decreases-exprs l = 5 * l.calls + 1

abbrev pub decreases-pair : goal.decreases-pair
decreases-pair l = 5 * l.calls + 1

abbrev pub decreases-pairs : goal.decreases-pairs
decreases-pairs l = 5 * l.calls + 2

abbrev pub decreases-arguments : goal.decreases-arguments
decreases-arguments l = 5 * l.calls + 3

abbrev pub decreases-call : goal.decreases-call
decreases-call l = 5 * l.calls + 4

abbrev pub invariant-exprs-loop-alloc : goal.invariant-exprs-loop-alloc
invariant-exprs-loop-alloc l = IsLeft starts_expr (read_expr l.calls) l.list l.tokens (read_exprs (read_expr l.fn.calls) (length l.fn.tokens) l.fn.tokens)

abbrev pub decreases-exprs-loop-alloc : goal.decreases-exprs-loop-alloc
decreases-exprs-loop-alloc l = length l.tokens

abbrev pub invariant-pairs-loop-alloc : goal.invariant-pairs-loop-alloc
invariant-pairs-loop-alloc l = IsLeft stands_name (read_pair (read_expr l.calls)) l.list l.tokens (read_named (read_expr l.fn.calls) (length l.fn.tokens) l.fn.tokens)

abbrev pub decreases-pairs-loop-alloc : goal.decreases-pairs-loop-alloc
decreases-pairs-loop-alloc l = length l.tokens
