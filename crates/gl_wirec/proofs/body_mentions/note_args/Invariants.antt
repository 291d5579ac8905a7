use Rattle.std.proofs.Common.{◌≡◌, drop}
use Rattle.gl_ast.specs.View.{seen_args}
use Rattle.gl_wire.specs.Symbols.{with_names, arguments_mentions}
use Rattle.gl_wirec.proofs.body_mentions.note_args.Given as goal

abbrev pub invariant-loop-arg : goal.invariant-loop-arg
invariant-loop-arg l = with_names l.symbols (arguments_mentions (seen_args (drop l.arg-index l.arg-items))) ≡ with_names l.initial.symbols (arguments_mentions l.args)
