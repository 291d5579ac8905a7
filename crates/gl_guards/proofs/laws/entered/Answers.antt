use Rattle.gl_guards.proofs.laws.entered.Goals as goal
use Rattle.gl_guards.proofs.Joined.{entered_is_renew, entered_is_renew_root}

pub returns-clause-part : goal.returns-clause-part
returns-clause-part c = entered_is_renew

pub returns-clause-page : goal.returns-clause-page
returns-clause-page c = entered_is_renew_root
