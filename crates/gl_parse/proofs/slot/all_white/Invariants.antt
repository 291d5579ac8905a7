use Rattle.std.proofs.Common.{◌≡◌, length}
use Rattle.std.specs.List.{list_all}
use Rattle.gl_ast.specs.Marks.{is_white}
use Rattle.gl_parse.proofs.slot.all_white.Given as goal

abbrev pub invariant-loop-c : goal.invariant-loop-c
invariant-loop-c l = list_all is_white l.scan ≡ list_all is_white l.fn.scan

abbrev pub decreases-loop-c : goal.decreases-loop-c
decreases-loop-c l = length l.scan
