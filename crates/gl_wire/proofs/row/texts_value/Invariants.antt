use Rattle.std.proofs.Common.{◌≡◌, ◌++◌, drop, map}
use Rattle.gl_wire.specs.Json.{text_json}
use Rattle.gl_wire.specs.Rows.{shown}
use Rattle.gl_wire.proofs.row.texts_value.Given as goal

abbrev pub invariant-loop-text : goal.invariant-loop-text
invariant-loop-text l = shown l.row ++ map text_json (drop l.text-index l.text-items) ≡ map text_json l.texts
