use Rattle.std.proofs.Common.{◌≡◌, drop, option_map}
use Rattle.gl_base.specs.Names.{or_else}
use Rattle.gl_meaning.specs.View.{path_view}
use Rattle.gl_code.specs.Cells.{seen_cells, cells_at}
use Rattle.gl_code.proofs.cells.last_of.Given as goal

abbrev pub invariant-loop-entry : goal.invariant-loop-entry
invariant-loop-entry l = or_else (cells_at (path_view l.path) (seen_cells (drop l.entry-index l.entries))) (option_map (λ x. x.now) l.found) ≡ cells_at (path_view l.path) (seen_cells l.entries)
