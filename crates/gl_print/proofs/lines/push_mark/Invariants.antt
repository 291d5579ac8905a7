use Rattle.std.specs.Prelude.{◌≡◌, ◌*◌, ◌++◌}
use Rattle.gl_print.specs.Walk.{indent}
use Rattle.gl_print.proofs.lines.push_mark.Given as goal

abbrev pub invariant-loop : goal.invariant-loop
invariant-loop l = l.out ≡ l.initial.out ++ indent (8 * l.counter)
