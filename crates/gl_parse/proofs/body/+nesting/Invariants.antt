use Rattle.std.proofs.Common.{◌+◌, ◌*◌, length}
use Rattle.gl_parse.specs.ReadStmt.{read_stmts, read_body, read_stmt}
use Rattle.gl_parse.proofs.Bodies.{Goes}
use Rattle.gl_parse.proofs.Fillings.{AreLeft}
use Rattle.gl_parse.proofs.body.+nesting.Given as goal

-- the depth, and then the order of the calls at one depth
abbrev pub decreases-statement : goal.decreases-statement
decreases-statement l = 7 * l.depth

abbrev pub decreases-body : goal.decreases-body
decreases-body l = 7 * l.depth + 1

abbrev pub decreases-filling : goal.decreases-filling
decreases-filling l = 7 * l.depth

abbrev pub decreases-slot : goal.decreases-slot
decreases-slot l = 7 * l.depth + 2

abbrev pub decreases-slots : goal.decreases-slots
decreases-slots l = 7 * l.depth + 3

abbrev pub decreases-tag : goal.decreases-tag
decreases-tag l = 7 * l.depth + 2

abbrev pub decreases-chained : goal.decreases-chained
decreases-chained l = 7 * l.depth + 2

abbrev pub decreases-otherwise : goal.decreases-otherwise
decreases-otherwise l = 7 * l.depth + 3

abbrev pub decreases-head : goal.decreases-head
decreases-head l = 7 * l.depth + 4

abbrev pub decreases-block : goal.decreases-block
decreases-block l = 7 * l.depth + 5

abbrev pub decreases-nested : goal.decreases-nested
decreases-nested l = 7 * l.depth + 6

abbrev pub invariant-body-loop-alloc : goal.invariant-body-loop-alloc
invariant-body-loop-alloc l = Goes (read_stmt l.depth) l.list l.tokens (read_stmts (read_stmt l.fn.depth) (length l.fn.tokens) l.fn.tokens)

abbrev pub decreases-body-loop-alloc : goal.decreases-body-loop-alloc
decreases-body-loop-alloc l = length l.tokens

abbrev pub invariant-slots-loop-alloc : goal.invariant-slots-loop-alloc
invariant-slots-loop-alloc l = AreLeft (read_body (read_stmt l.depth)) l.list l.names l.tokens l.fn.tokens

abbrev pub decreases-slots-loop-alloc : goal.decreases-slots-loop-alloc
decreases-slots-loop-alloc l = length l.tokens
