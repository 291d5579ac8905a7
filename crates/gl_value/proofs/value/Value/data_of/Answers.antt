use Rattle.std.proofs.Common.{ℕ}
use Rattle.gl_value.specs.View.{view}
use Rattle.gl_value.proofs.Propers.{plain_proper}
use Rattle.gl_value.proofs.value.Value.data_of.Goals as goal

pub returns-clause-proper : goal.returns-clause-proper
returns-clause-proper c = λ h. rw c.in_ok-value.ensures (plain_proper ℕ (view c.args.self.now) h)
