use Rattle.std.proofs.Common.{◌≡◌, length}
use Rattle.gl_ast.specs.Grammar.{after_comments}
use Rattle.gl_parse.proofs.item.skip_comments.Given as goal

abbrev pub invariant-loop-tokens : goal.invariant-loop-tokens
invariant-loop-tokens l = after_comments l.tokens ≡ after_comments l.fn.tokens

abbrev pub decreases-loop-tokens : goal.decreases-loop-tokens
decreases-loop-tokens l = length l.tokens
