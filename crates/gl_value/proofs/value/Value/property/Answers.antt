use Rattle.std.proofs.Common.{ℕ}
use Rattle.std.specs.Str.{chars}
use Rattle.gl_value.specs.View.{view}
use Rattle.gl_value.proofs.Propers.{property_proper}
use Rattle.gl_value.proofs.value.Value.property.Goals as goal

pub returns-clause-proper : goal.returns-clause-proper
returns-clause-proper c = λ h. rw (c.in_ok-value.ensures, c.look_up.ensures) (property_proper ℕ (chars c.args.name.now) (view c.args.self.now) h)
