use Rattle.gl_fires.proofs.Standing.{has_world}
use Rattle.gl_fires.proofs.Heard.{hears}
use Rattle.gl_fires.proofs.Own.{sets_are_own}
use Rattle.gl_fires.proofs.laws.fires.Goals as goal

pub returns-clause-world : goal.returns-clause-world
returns-clause-world c = has_world

pub returns-clause-own : goal.returns-clause-own
returns-clause-own c = sets_are_own

pub returns-clause-hears : goal.returns-clause-hears
returns-clause-hears c = hears
