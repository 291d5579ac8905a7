use Rattle.std.proofs.Common.{drop}
use Rattle.gl_destroy.proofs.Looks.{Ending}
use Rattle.gl_destroy.proofs.walk.end_all.Given as goal

abbrev pub invariant-loop-entry : goal.invariant-loop-entry
invariant-loop-entry l = Ending l.initial.entries l.entries l.order (drop l.entry-index l.order)
