use Rattle.gl_meaning.specs.View.{path_view}
use Rattle.gl_machine.specs.RenewCode.{start}
use Rattle.gl_code.specs.View.{seen_sight}
use Rattle.gl_append.proofs.BlockRuns.{appends, append_stops}
use Rattle.gl_append.proofs.appending.OpcodesAppendBlock.append_block.Goals as goal

pub returns-in-Ok-clause-ok : goal.returns-in-Ok-clause-ok
returns-in-Ok-clause-ok c =
    appends c.args.app.now c.args.cells.now c.new-machine.result (λ n. start (seen_sight n c.args.sight) c.args.pc (path_view c.args.path) c.args.left) c.new-machine.ensures c.args.vm.now c.run.new.vm c.run.new.self c.finish.result c.finish.ensures c.in-Ok.ensures.ok

pub returns-in-Err-clause-fails : goal.returns-in-Err-clause-fails
returns-in-Err-clause-fails c =
    append_stops c.args.app.now c.args.cells.now c.new-machine.result (λ n. start (seen_sight n c.args.sight) c.args.pc (path_view c.args.path) c.args.left) c.new-machine.ensures c.args.vm.now c.in-Err.fault c.in-Err.ensures.deep
