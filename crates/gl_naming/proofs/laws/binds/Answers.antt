use Rattle.gl_naming.proofs.laws.binds.Goals as goal
use Rattle.gl_naming.proofs.Bound.{exprs_bound, place_im}
use Rattle.gl_naming.proofs.Tagged.{written_im, written_right, flush_im, install_im}

pub returns-clause-bound : goal.returns-clause-bound
returns-clause-bound c = λ f g touched app ms right es st. exprs_bound f g touched app ms right es st

pub returns-clause-parts : goal.returns-clause-parts
returns-clause-parts c = λ f g touched app ms right ps st. written_im f g touched app _ (written_right f g ms ps right) st

pub returns-clause-placed : goal.returns-clause-placed
returns-clause-placed c = λ f g touched once. (place_im f g touched once, flush_im f g touched once, install_im f g touched once)
