use Rattle.std.proofs.Common.{inr}
use Rattle.gl_run.proofs.playing.open.Goals as goal

pub returns-in-Err-clause-opens : goal.returns-in-Err-clause-opens
returns-in-Err-clause-opens g c = inr (c.in_ok-session.session, c.in_ok-session.turn, c.in_ok-session.ensures.starts, c.in-Err.ensures.puts)
