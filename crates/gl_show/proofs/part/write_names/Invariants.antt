use Rattle.std.proofs.Common.{◌≡◌, ◌++◌, length}
use Rattle.gl_ast.specs.Canon.{names_text}
use Rattle.gl_show.proofs.part.write_names.Given as goal

abbrev pub invariant-loop-rest : goal.invariant-loop-rest
invariant-loop-rest l = l.out ++ names_text l.rest ≡ l.initial.out ++ names_text l.names

abbrev pub decreases-loop-rest : goal.decreases-loop-rest
decreases-loop-rest l = length l.rest
