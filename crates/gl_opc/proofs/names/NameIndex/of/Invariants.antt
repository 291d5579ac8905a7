use Rattle.std.proofs.Common.{◌≡◌, take}
use Rattle.gl_opc.proofs.NamePlaces.{seen}
use Rattle.gl_opc.proofs.names.NameIndex.of.Given as goal

abbrev pub invariant-loop-name : goal.invariant-loop-name
invariant-loop-name l = seen l.set.keys ≡ take l.name-index l.name-items
