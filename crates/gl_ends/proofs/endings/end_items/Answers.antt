use Rattle.std.proofs.Common.{map}
use Rattle.gl_plain.specs.Live.{times_items}
use Rattle.gl_machine.specs.Code.{items_of}
use Rattle.gl_code.specs.CodeView.{seen_item_code, all_items}
use Rattle.gl_ends.proofs.Joins.{does_of}
use Rattle.gl_ends.proofs.endings.end_items.Goals as goal

pub returns-clause-step : goal.returns-clause-step
returns-clause-step c = does_of c.drop_items.result c.args.vm.now c.drop_items.new.vm (λ n q. times_items q (items_of (all_items (map (seen_item_code n) c.args.items.now)))) c.requires.calm.led c.drop_items.ensures.ends
