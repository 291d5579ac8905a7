use Rattle.std.proofs.Common.{◌≡◌, drop}
use Rattle.gl_ast.specs.View.{seen_parts}
use Rattle.gl_wire.specs.Symbols.{with_names, parts_mentions}
use Rattle.gl_wirec.proofs.body_mentions.note_parts.Given as goal

abbrev pub invariant-loop-part : goal.invariant-loop-part
invariant-loop-part l = with_names l.symbols (parts_mentions (seen_parts (drop l.part-index l.part-items))) ≡ with_names l.initial.symbols (parts_mentions l.parts)
