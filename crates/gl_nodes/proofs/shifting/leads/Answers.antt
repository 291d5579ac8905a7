use Rattle.std.proofs.Common.{suc, sym, ◌∙◌}
use Rattle.gl_nodes.proofs.shifting.leads.Goals as goal

pub loop-preserved : goal.loop-preserved
loop-preserved c = λ q. c.loop.invariant (suc q.0, (c.is_next.ensures c.if-is_next.false, (c.in-Some.id, sym c.next_at.ensures ∙ c.in-Some.is, q.1)))
