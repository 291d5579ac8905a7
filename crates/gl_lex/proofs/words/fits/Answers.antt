use Rattle.std.proofs.Common.{rules, sym}
use Rattle.gl_ast.specs.Words.{greatest, fits}
use Rattle.gl_lex.proofs.Steps.{too_large}
use Rattle.gl_lex.proofs.words.fits.Goals as goal

pub returns-then-number-gt-GREATEST : goal.returns-then-number-gt-GREATEST
unfolding fits
returns-then-number-gt-GREATEST c =
    let large = too_large greatest c.loop-rest.number c.loop-rest.rest.now (search rules) in
    sym (rw c.loop-rest.invariant at large)
