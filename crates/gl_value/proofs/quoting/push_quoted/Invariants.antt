use Rattle.std.proofs.Common.{◌≡◌, ◌∷◌, ◌++◌}
use Rattle.std.specs.List.{flat_map}
use Rattle.gl_value.specs.Quote.{escaped}
use Rattle.gl_value.specs.Signs.{quotation_mark}
use Rattle.gl_value.proofs.quoting.push_quoted.Given as goal

abbrev pub invariant-loop-character : goal.invariant-loop-character
invariant-loop-character l = l.out ≡ l.fn.out ++ quotation_mark ∷ flat_map escaped l.yielded
