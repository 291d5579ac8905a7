use Rattle.std.proofs.Common.{◌≡◌, drop}
use Rattle.gl_wire.specs.Symbols.{with_names}
use Rattle.gl_wirec.proofs.names.Names.add_all.Given as goal

abbrev pub invariant-loop-name : goal.invariant-loop-name
invariant-loop-name l = with_names l.self (drop l.name-index l.name-items) ≡ with_names l.initial.self l.names
