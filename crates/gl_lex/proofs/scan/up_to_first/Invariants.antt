use Rattle.std.proofs.Common.{◌≡◌, length}
use Rattle.gl_ast.specs.Scans.{up_to_first}
use Rattle.gl_lex.specs.Class.{shows}
use Rattle.gl_lex.proofs.scan.up_to_first.Given as goal

abbrev pub invariant-loop-rest : goal.invariant-loop-rest
invariant-loop-rest l = up_to_first (shows l.sign) l.rest ≡ up_to_first (shows l.fn.sign) l.fn.bytes

abbrev pub decreases-loop-rest : goal.decreases-loop-rest
decreases-loop-rest l = length l.rest
