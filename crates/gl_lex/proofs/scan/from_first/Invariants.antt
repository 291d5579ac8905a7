use Rattle.std.proofs.Common.{◌≡◌, length}
use Rattle.gl_ast.specs.Scans.{from_first}
use Rattle.gl_lex.specs.Class.{shows}
use Rattle.gl_lex.proofs.scan.from_first.Given as goal

abbrev pub invariant-loop-rest : goal.invariant-loop-rest
invariant-loop-rest l = from_first (shows l.sign) l.rest ≡ from_first (shows l.fn.sign) l.fn.bytes

abbrev pub decreases-loop-rest : goal.decreases-loop-rest
decreases-loop-rest l = length l.rest
