use Rattle.std.proofs.Common.{refl, arith, ◌≡◌, false}
use Rattle.std.specs.Prelude.{nat_le}
use Rattle.gl_ast.specs.Words.{number_from, greatest}
use Rattle.gl_exprs.proofs.TokenPieces.{number_too_large}
use Rattle.gl_exprs.proofs.number.natural_of.Goals as goal

pub returns-then-n-gt-GREATEST-clause-value : goal.returns-then-n-gt-GREATEST-clause-value
returns-then-n-gt-GREATEST-clause-value c =
    let large : nat_le (number_from 0 c.args.scan.now) greatest ≡ false = number_too_large greatest c.loop-digit.n c.in-Some.digit c.next.new.self c.loop-digit.scan c.args.scan.now c.in-Some.ensures (omega arith) c.loop-digit.invariant.0 in
    rw large refl
