use Rattle.gl_run.proofs.Tallied.{start_counted, all_summed, all_ends}
use Rattle.gl_run.proofs.sample.play_tallied.Goals as goal

pub returns-in-Ok-clause-sums : goal.returns-in-Ok-clause-sums
returns-in-Ok-clause-sums c = λ templates is.
    all_summed c.args.app templates c.args.script.now.events _ _
    (c.in-Ok.ensures c.args.app templates (start_counted c.args.app templates c.args.script.now.events _ _ _ (c.in_ok-session.ensures.starts.stands templates is) c.in_ok-session.ensures.starts.counts c.in_ok-session.ensures.starts.asks c.of.ensures))

pub returns-in-Ok-clause-ends : goal.returns-in-Ok-clause-ends
returns-in-Ok-clause-ends c = λ templates is.
    all_ends c.args.app templates c.args.script.now.events _ _
    (c.in-Ok.ensures c.args.app templates (start_counted c.args.app templates c.args.script.now.events _ _ _ (c.in_ok-session.ensures.starts.stands templates is) c.in_ok-session.ensures.starts.counts c.in_ok-session.ensures.starts.asks c.of.ensures))
