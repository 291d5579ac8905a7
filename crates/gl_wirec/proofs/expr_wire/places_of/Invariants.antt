use Rattle.std.proofs.Common.{◌≡◌, ◌++◌, drop}
use Rattle.gl_wire.specs.WireOf.{places_of}
use Rattle.gl_wirec.proofs.expr_wire.places_of.Given as goal

abbrev pub invariant-loop-name : goal.invariant-loop-name
invariant-loop-name l = l.places ++ places_of l.symbols (drop l.name-index l.name-items) ≡ places_of l.symbols l.names
