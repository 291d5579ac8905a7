use Rattle.std.proofs.Common.{◌≡◌, ◌++◌, drop}
use Rattle.gl_ast.specs.Canon.{parts_text}
use Rattle.gl_ast.specs.View.{seen_parts}
use Rattle.gl_show.proofs.part.write_parts.Given as goal

abbrev pub invariant-loop-part : goal.invariant-loop-part
invariant-loop-part l = l.out ++ parts_text (seen_parts (drop l.part-index l.part-items)) ≡ l.initial.out ++ parts_text l.parts
