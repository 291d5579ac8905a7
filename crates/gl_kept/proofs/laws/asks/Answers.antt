use Rattle.gl_kept.proofs.laws.asks.Goals as goal
use Rattle.gl_kept.proofs.Sessions.{next_asks}
use Rattle.gl_kept.proofs.Questions.{asked_at_most, regions_are_there, fresh_asks_once}

pub returns-clause-most : goal.returns-clause-most
returns-clause-most c = asked_at_most

pub returns-clause-regions : goal.returns-clause-regions
returns-clause-regions c = regions_are_there

pub returns-clause-once : goal.returns-clause-once
returns-clause-once c = fresh_asks_once

pub returns-clause-next : goal.returns-clause-next
returns-clause-next c = next_asks
