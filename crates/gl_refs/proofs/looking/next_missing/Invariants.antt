use Rattle.std.proofs.Common.{take}
use Rattle.gl_refs.specs.Forms.{Each}
use Rattle.gl_refs.specs.View.{rows_of, reads_in, IsFound}
use Rattle.gl_refs.proofs.looking.next_missing.Given as goal

abbrev pub invariant-loop-at : goal.invariant-loop-at
invariant-loop-at l =
    Each (IsFound l.table (rows_of l.rows)) (take l.fn.next (reads_in l.table (rows_of l.rows) l.fn.id)) → Each (IsFound l.table (rows_of l.rows)) (take l.at (reads_in l.table (rows_of l.rows) l.fn.id))
