use Rattle.std.proofs.Common.{◌≡◌, length}
use Rattle.gl_show.specs.Marking.{run_from}
use Rattle.gl_show.proofs.text.end_run.Given as goal

abbrev pub invariant-loop-character : goal.invariant-loop-character
invariant-loop-character l = (run_from l.run l.scan ≡ run_from (length l.text) l.text) × (l.left ≡ length l.scan)

abbrev pub decreases-loop-character : goal.decreases-loop-character
decreases-loop-character l = length l.scan
