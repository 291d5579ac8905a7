use Rattle.gl_parts.proofs.AttrLaws.{last_taken}
use Rattle.gl_parts.proofs.attributes.last_of.Goals as goal

pub returns-in_ok-push-in-Some : goal.returns-in_ok-push-in-Some
returns-in_ok-push-in-Some c = last_taken c.args.list.items c.pop.new.self.items c.new-last.result.items c.push.new.self.items c.in-Some.attribute c.in-Some.ensures.items c.new-last.ensures.items c.in_ok-push-in-Some.ensures.items
