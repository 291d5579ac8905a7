use Rattle.gl_asks.proofs.stale.is_stale.Goals as goal

pub returns-in-Some-clause-exact : goal.returns-in-Some-clause-exact
returns-in-Some-clause-exact c = c.in-Some.ensures.exact c.requires.calm
