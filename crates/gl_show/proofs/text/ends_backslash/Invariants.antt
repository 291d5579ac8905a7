use Rattle.std.proofs.Common.{◌≡◌, length}
use Rattle.gl_show.specs.Marking.{last_is}
use Rattle.gl_show.proofs.text.ends_backslash.Given as goal

abbrev pub invariant-loop-character : goal.invariant-loop-character
invariant-loop-character l = last_is l.last l.scan ≡ last_is l.initial.last l.text

abbrev pub decreases-loop-character : goal.decreases-loop-character
decreases-loop-character l = length l.scan
