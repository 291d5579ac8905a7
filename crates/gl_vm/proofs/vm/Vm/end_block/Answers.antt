use Rattle.gl_arena.proofs.Stamps.{ends-sets}
use Rattle.gl_vm.proofs.Drops.{block_gone}
use Rattle.gl_vm.proofs.vm.Vm.end_block.Goals as goal

pub returns-clause-step : goal.returns-clause-step
returns-clause-step c = let e = c.free.ensures in block_gone c.args.self.now c.free.new.self c.args.id.1 (ends-sets c.args.self.now.scopes c.free.new.self c.args.id c.stamps.ensures c.requires e) e.count
