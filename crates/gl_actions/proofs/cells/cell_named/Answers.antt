use Rattle.gl_actions.proofs.CellLaws.{cell_same}
use Rattle.gl_actions.proofs.cells.cell_named.Goals as goal

pub returns-in-Some : goal.returns-in-Some
returns-in-Some c = λ w fits. cell_same w c.args.frame.now fits c.args.name.now c.as_slice.result.now c.as_slice-2.result.now c.in-Some.cell c.as_slice.ensures c.as_slice-2.ensures c.in-Some.ensures
