use Rattle.std.proofs.Common.{◌≡◌, length}
use Rattle.std.specs.List.{list_all}
use Rattle.gl_ast.specs.Marks.{in_name}
use Rattle.gl_exprs.proofs.name.all_in_name.Given as goal

abbrev pub invariant-loop-c : goal.invariant-loop-c
invariant-loop-c l = list_all in_name l.scan ≡ list_all in_name l.fn.scan

abbrev pub decreases-loop-c : goal.decreases-loop-c
decreases-loop-c l = length l.scan
