use Rattle.std.proofs.Common.{◌≡◌, ◌++◌, length}
use Rattle.gl_ast.specs.TokenText as text
use Rattle.gl_exprs.specs.Pieces.{words_after}
use Rattle.gl_exprs.proofs.words.words_to_bar.Given as goal

abbrev pub invariant-loop-c : goal.invariant-loop-c
invariant-loop-c l = l.names ++ words_after l.word (text.up_to 124 l.scan) ≡ text.words (text.up_to 124 l.fn.scan)

abbrev pub decreases-loop-c : goal.decreases-loop-c
decreases-loop-c l = length l.scan
