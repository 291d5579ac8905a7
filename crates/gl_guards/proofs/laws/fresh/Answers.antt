use Rattle.gl_guards.proofs.laws.fresh.Goals as goal
use Rattle.gl_guards.proofs.Joined.{fresh_stays, fresh_stays_in, fresh_stays_items, fresh_stays_root}

pub returns-clause-part : goal.returns-clause-part
returns-clause-part c = fresh_stays

pub returns-clause-body : goal.returns-clause-body
returns-clause-body c = fresh_stays_in

pub returns-clause-items : goal.returns-clause-items
returns-clause-items c = fresh_stays_items

pub returns-clause-page : goal.returns-clause-page
returns-clause-page c = fresh_stays_root
