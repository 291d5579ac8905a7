use Rattle.std.proofs.lemmas.Result.{on_ok_weaker}
use Rattle.gl_append.proofs.ItemSteps.{next_begun}
use Rattle.gl_append.proofs.machine.Machine.begin_next_item.Goals as goal

pub returns-in-Some-clause-step : goal.returns-in-Some-clause-step
returns-in-Some-clause-step c =
    on_ok_weaker c.begin_item.result (next_begun c.args.vm.now c.begin_item.new.vm c.args.self.now c.begin_item.new.self c.args.iteration c.pop.new.self c.in-Some.entry c.in-Some.ensures.items) c.begin_item.ensures.step
