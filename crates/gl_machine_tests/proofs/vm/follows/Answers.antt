use Rattle.std.proofs.Common.{◌≡◌, ◌∙◌, ap}
use Rattle.gl_refs.specs.State.{is_cell}
use Rattle.gl_machine_tests.proofs.vm.follows.Goals as goal

pub set-requires-clause-cell : goal.set-requires-clause-cell
set-requires-clause-cell g c = ap (λ l. is_cell (l c.in_ok-m.m.cell)) (c.is_stale.ensures.forms ∙ c.begin.ensures.forms) ∙ c.in_ok-m.ensures.cell
