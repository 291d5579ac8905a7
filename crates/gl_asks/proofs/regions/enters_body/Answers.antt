use Rattle.gl_guards.specs.Along.{few}
use Rattle.gl_asks.proofs.Parts.{body_spots}
use Rattle.gl_asks.proofs.Asked.{asked_region}
use Rattle.gl_asks.proofs.regions.enters_body.Goals as goal

pub returns-clause-asked : goal.returns-clause-asked
returns-clause-asked c = asked_region few c.ask_codes.result c.args.vm.now c.most-left.result c.ask_codes.new.left (λ n. body_spots n c.args.body.now) c.most-left.ensures c.ask_codes.ensures.asked
