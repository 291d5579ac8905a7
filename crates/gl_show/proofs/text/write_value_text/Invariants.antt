use Rattle.std.proofs.Common.{◌≡◌, ◌++◌, length}
use Rattle.gl_ast.specs.Canon.{value_text}
use Rattle.gl_show.proofs.text.write_value_text.Given as goal

abbrev pub invariant-loop-character : goal.invariant-loop-character
invariant-loop-character l = l.out ++ value_text l.scan ≡ l.fn.out ++ value_text l.text

abbrev pub decreases-loop-character : goal.decreases-loop-character
decreases-loop-character l = length l.scan
