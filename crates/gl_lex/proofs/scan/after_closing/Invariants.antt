use Rattle.std.proofs.Common.{◌≡◌, false, length}
use Rattle.gl_ast.specs.Scans.{after_closing}
use Rattle.gl_lex.proofs.scan.after_closing.Given as goal

abbrev pub invariant-loop-rest : goal.invariant-loop-rest
invariant-loop-rest l = after_closing l.quote l.escaped l.rest ≡ after_closing l.fn.quote false l.fn.bytes

abbrev pub decreases-loop-rest : goal.decreases-loop-rest
decreases-loop-rest l = length l.rest
