use Rattle.std.proofs.Common.{◌≡◌, length, map}
use Rattle.gl_opc.specs.NamePlaces.{rising}
use Rattle.gl_opc.proofs.names.rise.Given as goal

-- what is left decides
abbrev pub invariant-loop-rest : goal.invariant-loop-rest
invariant-loop-rest g l = rising (map g.T.Named.called l.rest) ≡ rising (map g.T.Named.called l.fn.items)

abbrev pub decreases-loop-rest : goal.decreases-loop-rest
decreases-loop-rest g l = length l.rest
