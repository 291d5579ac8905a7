use Rattle.std.proofs.Common.{◌≡◌, ◌++◌, drop}
use Rattle.gl_ast.specs.View.{seen_parts}
use Rattle.gl_wire.specs.WireOf.{parts_wire}
use Rattle.gl_wirec.proofs.part_wire.parts_wire.Given as goal

abbrev pub invariant-loop-part : goal.invariant-loop-part
invariant-loop-part l = l.list ++ parts_wire l.symbols l.scope (seen_parts (drop l.part-index l.part-items)) ≡ parts_wire l.symbols l.scope l.parts
