use Rattle.gl_guards.specs.Along.{few}
use Rattle.gl_asks.proofs.Parts.{items_spots}
use Rattle.gl_asks.proofs.Asked.{asked_region}
use Rattle.gl_asks.proofs.regions.enters_items.Goals as goal

pub returns-clause-asked : goal.returns-clause-asked
returns-clause-asked c = asked_region few c.ask_items.result c.args.vm.now c.most-left.result c.ask_items.new.left (λ n. items_spots n c.args.items.now.items) c.most-left.ensures c.ask_items.ensures.asked
