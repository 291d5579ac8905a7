use Rattle.gl_plain.specs.Ids.{ref}
use Rattle.gl_ends.proofs.Joins.{ends_one}
use Rattle.gl_ends.proofs.references.end_reference.Goals as goal

pub returns-clause-ends : goal.returns-clause-ends
returns-clause-ends c n = ends_one n c.args.vm.now c.end_reference.new.self (ref c.args.id.1) (λ led. c.end_reference.ensures.step (λ e. led))
