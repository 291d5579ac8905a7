use Rattle.gl_plain.specs.Ids.{instance_id}
use Rattle.gl_ends.proofs.Joins.{ends_one}
use Rattle.gl_ends.proofs.things.end_instance.Goals as goal

pub returns-clause-ends : goal.returns-clause-ends
returns-clause-ends c n = ends_one n c.args.vm.now c.end_instance.new.self (instance_id c.args.id.1) (λ led. c.end_instance.ensures.step)
