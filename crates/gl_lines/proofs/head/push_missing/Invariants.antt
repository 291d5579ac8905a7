use Rattle.std.specs.Prelude.{◌≡◌, ◌++◌, take}
use Rattle.gl_meaning.specs.Print.{missing_lines}
use Rattle.gl_lines.proofs.head.push_missing.Given as goal

abbrev pub invariant-loop-number : goal.invariant-loop-number
invariant-loop-number l = l.out ≡ l.initial.out ++ missing_lines (take l.number-index l.numbers)
