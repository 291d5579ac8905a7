use Rattle.std.proofs.Common.{sym}
use Rattle.gl_actions.proofs.Running.{field_at}
use Rattle.gl_actions.proofs.OwnSets.{place_below}
use Rattle.gl_actions.proofs.run.place_of.Goals as goal

pub returns-in-Some-clause-name : goal.returns-in-Some-clause-name
returns-in-Some-clause-name c = λ w fits. field_at w c.args.frame.now fits c.as_slice.result.now c.as_slice.ensures c.args.field.now c.in-Some.place (sym c.in-Some.ensures)

pub returns-in-Some-clause-below : goal.returns-in-Some-clause-below
returns-in-Some-clause-below c = place_below c.args.frame.now c.as_slice.result.now c.as_slice.ensures c.args.field.now c.in-Some.place (sym c.in-Some.ensures)
