use Rattle.std.proofs.Common.{◌≡◌, length}
use Rattle.gl_ast.specs.Grammar.{after_gaps}
use Rattle.gl_parse.proofs.slot.skip_gaps.Given as goal

abbrev pub invariant-loop-tokens : goal.invariant-loop-tokens
invariant-loop-tokens l = after_gaps l.tokens ≡ after_gaps l.fn.tokens

abbrev pub decreases-loop-tokens : goal.decreases-loop-tokens
decreases-loop-tokens l = length l.tokens
