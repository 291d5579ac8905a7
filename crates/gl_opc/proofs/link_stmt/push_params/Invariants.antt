use Rattle.std.proofs.Common.{◌≡◌, drop}
use Rattle.gl_ops.specs.declared.op.Op.TheVariants.{Param}
use Rattle.gl_opc.specs.Linked.{params_linked}
use Rattle.gl_opc.specs.State.{state_view}
use Rattle.gl_opc.proofs.link_stmt.push_params.Given as goal

-- what is linked of the parameters so far, with those that are left, is all
abbrev pub invariant-loop-symbol : goal.invariant-loop-symbol
invariant-loop-symbol l = params_linked Param (drop l.symbol-index l.symbol-items) (state_view l.out) ≡ params_linked Param l.params (state_view l.initial.out)
