use Rattle.std.proofs.lemmas.Result.{on_ok_weaker}
use Rattle.gl_append.proofs.ItemSteps.{item_begun}
use Rattle.gl_append.proofs.machine.Machine.begin_item.Goals as goal

pub returns-clause-step : goal.returns-clause-step
returns-clause-step c =
    on_ok_weaker c.enter_item.result
    (item_begun c.args.vm.now c.item.new.self c.item-2.new.self c.args.self.now c.enter_item.new.self c.args.iteration c.args.entry c.in_ok-value.value c.in_ok-index.index c.counted.result c.in_ok-params.params c.in_ok-sight.sight c.in_ok-path.path
    c.in_ok-value.ensures.step c.in_ok-value.ensures.id c.in_ok-index.ensures.step c.in_ok-index.ensures.id c.counted.ensures c.in_ok-path.ensures c.in_ok-sight.ensures c.in_ok-params.ensures) c.enter_item.ensures
