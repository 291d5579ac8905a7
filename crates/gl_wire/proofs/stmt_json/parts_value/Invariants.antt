use Rattle.std.proofs.Common.{◌≡◌, ◌++◌, drop, map}
use Rattle.gl_wire.specs.Json.{part_json}
use Rattle.gl_wire.specs.Rows.{shown}
use Rattle.gl_wire.specs.View.{seen_parts}
use Rattle.gl_wire.proofs.stmt_json.parts_value.Given as goal

abbrev pub invariant-loop-part : goal.invariant-loop-part
invariant-loop-part l = shown l.row ++ map part_json (seen_parts (drop l.part-index l.part-items)) ≡ map part_json l.parts
