use Rattle.gl_arena.proofs.Stamps.{on_if}
use Rattle.gl_scope.specs.View.{seen_block}
use Rattle.gl_vm.proofs.ThingSteps.{block_step, block_numbers, block_there}
use Rattle.gl_vm.proofs.vm.Vm.block.Goals as goal

pub returns-clause-step : goal.returns-clause-step
returns-clause-step c = on_if c.push.result (λ id g. block_step c.args.self.now c.push.new.self id (seen_block c.args.block) c.stamps.ensures g) c.push.ensures.ok

pub returns-clause-id : goal.returns-clause-id
returns-clause-id c = on_if c.push.result (λ id g. block_numbers c.args.self.now c.push.new.self id (seen_block c.args.block) c.stamps.ensures g) c.push.ensures.ok

pub returns-clause-block : goal.returns-clause-block
returns-clause-block c = on_if c.push.result (λ id g. block_there c.args.self.now c.push.new.self id (seen_block c.args.block) c.stamps.ensures g) c.push.ensures.ok
