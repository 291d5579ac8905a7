use Rattle.gl_tags.proofs.Keeping.{advanced_kept}
use Rattle.gl_tags.proofs.tags.Tags.advance.Goals as goal

pub invariant_of-self : goal.invariant_of-self
invariant_of-self c = let s = c.self.inside in advanced_kept s.tags s.still s.clock s.count c.self.invariant
