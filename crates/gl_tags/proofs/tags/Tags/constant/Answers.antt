use Rattle.std.proofs.Common.{subst}
use Rattle.gl_tags.specs.Tags as m
use Rattle.gl_tags.specs.Tags.{tag_at, leads_of, Rest, Combines, SameLeads}
use Rattle.gl_tags.proofs.tags.Tags.constant.Goals as goal

pub returns-clause-sound : goal.returns-clause-sound
returns-clause-sound c = subst m.IsSound c.self.view_is c.self.invariant.sound
