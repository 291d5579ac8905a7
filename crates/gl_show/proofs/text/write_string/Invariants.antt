use Rattle.std.proofs.Common.{◌≡◌, ◌++◌, ◌∷◌, length}
use Rattle.std.specs.List.{flat_map}
use Rattle.gl_ast.specs.Canon.{string_char}
use Rattle.gl_show.proofs.text.write_string.Given as goal

abbrev pub invariant-loop-character : goal.invariant-loop-character
invariant-loop-character l = l.out ++ flat_map string_char l.scan ≡ l.fn.out ++ 34 ∷ flat_map string_char l.text

abbrev pub decreases-loop-character : goal.decreases-loop-character
decreases-loop-character l = length l.scan
