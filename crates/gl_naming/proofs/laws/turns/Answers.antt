use Rattle.gl_naming.proofs.laws.turns.Goals as goal
use Rattle.gl_naming.proofs.Turn.{turn_named}
use Rattle.gl_naming.proofs.Instances.{settled_own}
use Rattle.gl_naming.proofs.Initial.{new_initial}
use Rattle.gl_naming.proofs.Named.{grown_named, begun_named, laid_named, stood_named, touch_renamed, set_given, set_named, updated_named}

pub returns-clause-grown : goal.returns-clause-grown
returns-clause-grown c = grown_named

pub returns-clause-begun : goal.returns-clause-begun
returns-clause-begun c = begun_named

pub returns-clause-laid : goal.returns-clause-laid
returns-clause-laid c = laid_named

pub returns-clause-updated : goal.returns-clause-updated
returns-clause-updated c = updated_named

pub returns-clause-stood : goal.returns-clause-stood
returns-clause-stood c = stood_named

pub returns-clause-set : goal.returns-clause-set
returns-clause-set c = set_named

pub returns-clause-touched : goal.returns-clause-touched
returns-clause-touched c = touch_renamed

pub returns-clause-initial : goal.returns-clause-initial
returns-clause-initial c = new_initial

pub returns-clause-settled : goal.returns-clause-settled
returns-clause-settled c = settled_own

pub returns-clause-turn : goal.returns-clause-turn
returns-clause-turn c = turn_named

pub returns-clause-given : goal.returns-clause-given
returns-clause-given c = set_given
