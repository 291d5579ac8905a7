use Rattle.gl_wirein.proofs.Wires.{found_is, found_of, found_any}
use Rattle.gl_wirein.proofs.laws.found_as_said.Goals as goal

pub returns-clause-is : goal.returns-clause-is
returns-clause-is c = found_is

pub returns-clause-of : goal.returns-clause-of
returns-clause-of c = found_of

pub returns-clause-any : goal.returns-clause-any
returns-clause-any c = found_any
