use Rattle.gl_each.specs.Key.{same_key}
use Rattle.gl_each.specs.SameKeys.{same_key-Decides}
use Rattle.gl_each.specs.View.{key_view}
use Rattle.gl_each.proofs.Plans.{table_more}
use Rattle.gl_each.proofs.finder.table.Goals as goal

pub loop-key-preserved : goal.loop-key-preserved
loop-key-preserved c = table_more same_key same_key-Decides key_view c.args.old.now c.loop-key.key-index c.key-item.result c.loop-key.places.keys c.insert.new.self.keys c.requires c.loop-key-test.true c.key-item.is c.loop-key.invariant c.in_ok-insert.ensures.keys
