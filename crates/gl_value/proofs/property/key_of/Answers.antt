use Rattle.std.proofs.Common.{ℕ}
use Rattle.std.specs.Str.{chars}
use Rattle.gl_value.specs.View.{view}
use Rattle.gl_value.proofs.Propers.{key_proper}
use Rattle.gl_value.proofs.property.key_of.Goals as goal

pub returns-clause-proper : goal.returns-clause-proper
returns-clause-proper c = λ h. rw c.in_ok-value.ensures (key_proper ℕ (chars c.args.key.now) c.args.index (view c.args.item.now) h)
