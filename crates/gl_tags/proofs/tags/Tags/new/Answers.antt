use Rattle.gl_tags.proofs.Keeping.{begins, alone}
use Rattle.gl_tags.proofs.tags.Tags.new.Goals as goal

pub invariant_of-result : goal.invariant_of-result
invariant_of-result c = begins c.in_ok-tags.tags c.insert_tag.new.tags c.in_ok-still.still c.in_ok-tags.ensures.empty c.in_ok-still.ensures.ok

pub returns-clause-alone : goal.returns-clause-alone
returns-clause-alone c = alone c.in_ok-tags.tags c.insert_tag.new.tags c.in_ok-still.still c.in_ok-tags.ensures.empty c.in_ok-still.ensures.ok
