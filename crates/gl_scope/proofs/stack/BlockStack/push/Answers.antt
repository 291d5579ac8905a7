use Rattle.gl_scope.proofs.Blocks.{put_stamped, put_gives}
use Rattle.gl_scope.proofs.stack.BlockStack.push.Goals as goal

pub invariant_of-self : goal.invariant_of-self
invariant_of-self c = put_stamped c.insert_block.result c.self.inside.blocks c.insert_block.new.blocks c.args.block c.self.invariant c.insert_block.ensures.ok c.insert_block.ensures.err

pub returns-clause-ok : goal.returns-clause-ok
returns-clause-ok c = put_gives c.insert_block.result c.self.inside.blocks c.insert_block.new.blocks c.args.block c.args.self.now c.self.view_is c.insert_block.ensures.ok
