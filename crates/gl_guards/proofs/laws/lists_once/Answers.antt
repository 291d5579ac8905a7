use Rattle.gl_guards.proofs.laws.lists_once.Goals as goal
use Rattle.gl_guards.proofs.Once.{keys_are_once}

pub returns : goal.returns
returns c = keys_are_once
