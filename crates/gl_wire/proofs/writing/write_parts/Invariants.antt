use Rattle.std.proofs.Common.{◌≡◌, ◌++◌, drop, map, false}
use Rattle.std.specs.Prelude.{string_bytes}
use Rattle.serde_json.specs.View.{items_of}
use Rattle.serde_json.specs.Written.{items_text}
use Rattle.gl_wire.specs.Json.{part_json}
use Rattle.gl_wire.specs.View.{seen_parts}
use Rattle.gl_wire.proofs.writing.write_parts.Given as goal

-- what is written and what is left are all
abbrev pub invariant-loop-part : goal.invariant-loop-part
invariant-loop-part l = string_bytes l.text ++ items_text l.later (items_of (map part_json (seen_parts (drop l.part-index l.part-items)))) ≡ string_bytes l.initial.text ++ items_text false (items_of (map part_json l.parts))
