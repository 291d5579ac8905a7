use Rattle.std.proofs.Common.{◌≡◌, length}
use Rattle.gl_ast.specs.Scans.{after_all}
use Rattle.gl_lex.specs.Class.{test}
use Rattle.gl_lex.proofs.scan.after_all.Given as goal

abbrev pub invariant-loop-rest : goal.invariant-loop-rest
invariant-loop-rest l = after_all (test l.class) l.rest ≡ after_all (test l.fn.class) l.fn.bytes

abbrev pub decreases-loop-rest : goal.decreases-loop-rest
decreases-loop-rest l = length l.rest
