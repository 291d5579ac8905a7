-- What the code answers.
use Rattle.gl_meaning.specs.Actions as a
use Rattle.gl_actions.specs.World.{World, sets_in}
use Rattle.gl_events.specs.declared.applied.Applied.{Applied}

-- the sets by paths and names, and the numbers that are missed
abbrev pub applied_in : World → Applied → a.Applied
applied_in w x = record { sets = sets_in w x.sets; missing = x.missing.items }
