use Rattle.gl_plain.specs.Ids.{block_id}
use Rattle.gl_ends.proofs.Joins.{ends_one}
use Rattle.gl_ends.proofs.things.end_block.Goals as goal

pub returns-clause-ends : goal.returns-clause-ends
returns-clause-ends c n = ends_one n c.args.vm.now c.end_block.new.self (block_id c.args.id.1) (λ led. c.end_block.ensures.step)
