use Rattle.std.proofs.Common.{◌≡◌, ◌≤◌, Some, length, map, drop}
use Rattle.serde_json.specs.View.{view}
use Rattle.gl_wirein.specs.ReadRows.{read_rows}
use Rattle.gl_wirein.specs.View.{rows_view}
use Rattle.gl_wirein.proofs.tree.read_rows.Given as goal

-- the rows from a place on are read
abbrev pub invariant-loop-left : goal.invariant-loop-left
invariant-loop-left l = (l.left ≤ length l.list) × (read_rows l.symbols (map view (drop l.left l.list)) ≡ Some (rows_view l.rows))

abbrev pub decreases-loop-left : goal.decreases-loop-left
decreases-loop-left l = l.left
