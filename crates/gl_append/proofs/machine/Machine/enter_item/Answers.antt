use Rattle.std.proofs.lemmas.Result.{on_ok_weaker}
use Rattle.gl_append.proofs.ItemSteps.{item_entered}
use Rattle.gl_append.proofs.machine.Machine.enter_item.Goals as goal

pub returns : goal.returns
returns c = on_ok_weaker c.begin.result (item_entered c.args.self.now c.begin.new.self c.args.path c.args.sight c.args.iteration c.args.item c.new.result c.new.ensures) c.begin.ensures
