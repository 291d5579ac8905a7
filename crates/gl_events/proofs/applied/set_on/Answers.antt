use Rattle.gl_value.specs.View.{view}
use Rattle.gl_actions.specs.World.{sets_in}
use Rattle.gl_events.proofs.Applying.{set_adds}
use Rattle.gl_events.proofs.applied.set_on.Goals as goal

pub returns-clause-sets : goal.returns-clause-sets
returns-clause-sets c = λ w numbers reads.
    set_adds w numbers c.args.field.now (view c.args.to.now) _ (sets_in w c.args.applied.now.sets) c.args.applied.now.missing.items (c.in_ok-applied.ensures.sets w reads)
