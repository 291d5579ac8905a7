use Rattle.std.proofs.Common.{length}
use Rattle.gl_parse.specs.ReadValue.{starts_quoted, read_quoted}
use Rattle.gl_exprs.specs.Take.{with_front, read_many}
use Rattle.gl_exprs.proofs.Many.{IsLeft}
use Rattle.gl_parse.proofs.value.add_quoted.Given as goal

abbrev pub invariant-loop-alloc : goal.invariant-loop-alloc
invariant-loop-alloc l = IsLeft starts_quoted read_quoted l.list l.tokens (with_front l.fn.list (read_many starts_quoted read_quoted (length l.fn.tokens) l.fn.tokens))

abbrev pub decreases-loop-alloc : goal.decreases-loop-alloc
decreases-loop-alloc l = length l.tokens
