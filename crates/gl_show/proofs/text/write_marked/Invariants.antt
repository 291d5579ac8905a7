use Rattle.std.proofs.Common.{◌≡◌, ◌++◌, true, length}
use Rattle.gl_show.specs.Marking.{marked}
use Rattle.gl_show.proofs.text.write_marked.Given as goal

abbrev pub invariant-loop-character : goal.invariant-loop-character
invariant-loop-character l = (l.out ++ marked l.run l.front l.scan ≡ l.fn.out ++ marked l.run true l.text) × (l.left ≡ length l.scan)

abbrev pub decreases-loop-character : goal.decreases-loop-character
decreases-loop-character l = length l.scan
