use Rattle.std.proofs.Common.{drop}
use Rattle.gl_mods.proofs.Endings.{Ending}
use Rattle.gl_mods.proofs.table.end_all.Given as goal

abbrev pub invariant-loop-id : goal.invariant-loop-id
invariant-loop-id l = Ending l.initial.table l.table l.ids (drop l.id-index l.ids)
