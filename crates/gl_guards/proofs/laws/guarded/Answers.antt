use Rattle.gl_guards.proofs.laws.guarded.Goals as goal
use Rattle.gl_guards.proofs.Joined.{guarded_is_renew, guarded_is_renew_in, guarded_is_renew_items, guarded_is_renew_root}

pub returns-clause-part : goal.returns-clause-part
returns-clause-part c = guarded_is_renew

pub returns-clause-body : goal.returns-clause-body
returns-clause-body c = guarded_is_renew_in

pub returns-clause-items : goal.returns-clause-items
returns-clause-items c = guarded_is_renew_items

pub returns-clause-page : goal.returns-clause-page
returns-clause-page c = guarded_is_renew_root
