use Rattle.std.proofs.Common.{◌≡◌, ◌∷◌, ◌++◌}
use Rattle.std.specs.List.{flat_map}
use Rattle.gl_meaning.specs.Pointer.{escaped_char}
use Rattle.gl_shape.proofs.pointer.push_key.Given as goal

abbrev pub invariant-loop-character : goal.invariant-loop-character
invariant-loop-character l = l.out ≡ l.fn.out ++ 47 ∷ flat_map escaped_char l.yielded
