use Rattle.std.proofs.Common.{◌≡◌, ◌++◌, drop}
use Rattle.gl_ast.specs.View.{seen_args}
use Rattle.gl_wire.specs.WireOf.{arguments_wire}
use Rattle.gl_wirec.specs.Lists.{named_list}
use Rattle.gl_wirec.proofs.part_wire.arguments_wire.Given as goal

abbrev pub invariant-loop-arg : goal.invariant-loop-arg
invariant-loop-arg l = l.list ++ named_list (arguments_wire l.symbols l.scope (seen_args (drop l.arg-index l.arg-items))) ≡ named_list (arguments_wire l.symbols l.scope l.args)
