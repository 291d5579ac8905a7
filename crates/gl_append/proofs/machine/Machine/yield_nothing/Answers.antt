use Rattle.std.proofs.Common.{ap}
use Rattle.std.proofs.lemmas.Result.{on_ok_weaker}
use Rattle.gl_vm.specs.View.{stamps}
use Rattle.gl_append.proofs.Yields.{nothing_shown}
use Rattle.gl_append.proofs.machine.Machine.yield_nothing.Goals as goal

pub returns : goal.returns
returns c =
    on_ok_weaker c.show.result
    (nothing_shown c.args.name.now c.args.self.now c.show.new.self c.in_ok-name.name c.replace-made.new.dest c.replace-made.result c.new-2.result c.none.result c.yielded-code.result c.in_ok-name.ensures c.replace-made.ensures.value
    (ap stamps c.new-2.ensures) c.none.ensures c.yielded-code.ensures) c.show.ensures
