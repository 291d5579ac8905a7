use Rattle.gl_actions.proofs.Joined.{join_text, join_null}
use Rattle.gl_actions.proofs.plainly.joined.Goals as goal

pub returns-then-some : goal.returns-then-some
returns-then-some c = join_text c.args.values.now c.loop-value.value-index c.loop-value.text c.loop-value.some c.loop-value-test.false c.loop-value.invariant.text c.loop-value.invariant.some c.if-some.true

pub returns-else-some : goal.returns-else-some
returns-else-some c = join_null c.args.values.now c.loop-value.value-index c.loop-value.text c.loop-value.some c.loop-value-test.false c.loop-value.invariant.text c.loop-value.invariant.some c.if-some.false
