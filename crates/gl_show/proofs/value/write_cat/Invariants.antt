use Rattle.std.proofs.Common.{◌≡◌, ◌++◌, length}
use Rattle.gl_ast.specs.Canon.{parts_of_value, cat_text}
use Rattle.gl_ast.specs.Template.{exprs_of}
use Rattle.gl_ast.specs.View.{seen_exprs}
use Rattle.gl_show.proofs.value.write_cat.Given as goal

abbrev pub invariant-loop-rest : goal.invariant-loop-rest
invariant-loop-rest l = l.out ++ parts_of_value l.before (exprs_of (seen_exprs l.rest)) ≡ l.initial.out ++ cat_text (exprs_of l.exprs)

abbrev pub decreases-loop-rest : goal.decreases-loop-rest
decreases-loop-rest l = length l.rest
