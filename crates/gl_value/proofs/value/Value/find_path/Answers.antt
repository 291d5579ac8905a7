use Rattle.std.proofs.Common.{ℕ}
use Rattle.std.specs.Str.{chars}
use Rattle.gl_value.specs.Value.{split}
use Rattle.gl_value.specs.View.{view}
use Rattle.gl_value.proofs.Propers.{properties_proper}
use Rattle.gl_value.proofs.value.Value.find_path.Goals as goal

pub returns-clause-proper : goal.returns-clause-proper
returns-clause-proper c = λ h. rw c.follow.ensures (properties_proper ℕ (split 46 (chars c.args.path.now)) (view c.args.self.now) h)
