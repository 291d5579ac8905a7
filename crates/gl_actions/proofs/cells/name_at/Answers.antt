use Rattle.gl_actions.proofs.CellLaws.{name_is}
use Rattle.gl_actions.proofs.cells.name_at.Goals as goal

pub returns-in-Some : goal.returns-in-Some
returns-in-Some c = λ w fits. name_is w c.args.frame.now fits c.args.place c.in-Some.field.now c.as_slice.result.now c.as_slice.ensures c.in-Some.ensures
