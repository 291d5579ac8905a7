use Rattle.gl_naming.proofs.laws.names.Goals as goal
use Rattle.gl_naming.proofs.Rules.{rules_differ}
use Rattle.gl_naming.proofs.Exist.{names_exist, grown_stands, first_stands}

pub returns-clause-differ : goal.returns-clause-differ
returns-clause-differ c = rules_differ

pub returns-clause-exist : goal.returns-clause-exist
returns-clause-exist c = names_exist

pub returns-clause-stands : goal.returns-clause-stands
returns-clause-stands c = grown_stands

pub returns-clause-first : goal.returns-clause-first
returns-clause-first c = first_stands
