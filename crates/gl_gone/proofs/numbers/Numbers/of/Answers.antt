use Rattle.gl_gone.proofs.NumberSets.{put_more, put_all}
use Rattle.gl_gone.proofs.numbers.Numbers.of.Goals as goal

pub loop-ending-preserved : goal.loop-ending-preserved
loop-ending-preserved c = λ x. put_more c.loop-ending.numbers c.put.new.self c.args.list.now c.loop-ending.ending-index c.ending-item.result c.loop-ending-test.true c.ending-item.is c.in_ok-put.ensures x (c.loop-ending.invariant x)

pub returns : goal.returns
returns c = λ x. put_all c.loop-ending.numbers c.args.list.now c.loop-ending.ending-index c.loop-ending-test.false x (c.loop-ending.invariant x)
