use Rattle.std.proofs.Common.{◌≡◌, ◌++◌, drop}
use Rattle.gl_ast.specs.Canon.{arguments_text}
use Rattle.gl_ast.specs.View.{seen_args}
use Rattle.gl_show.proofs.part.write_args.Given as goal

abbrev pub invariant-loop-arg : goal.invariant-loop-arg
invariant-loop-arg l = l.out ++ arguments_text (seen_args (drop l.arg-index l.arg-items)) ≡ l.initial.out ++ arguments_text l.args
