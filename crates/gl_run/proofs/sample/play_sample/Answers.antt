use Rattle.std.proofs.Common.{refl}
use Rattle.gl_run.proofs.sample.play_sample.Goals as goal

pub returns-clause-ends : goal.returns-clause-ends
returns-clause-ends c =
    let made = c.in_ok-loaded.ensures.made in
    rw c.in_ok-loaded.ensures.told (c.in_ok-loaded.loaded.app, refl, made, c.in_ok-session.ensures.ends c.in_ok-loaded.loaded.templates made)
