use Rattle.gl_refs.specs.View.{rows_of, IsTable}
use Rattle.gl_refs.proofs.looking.work_all_out.Given as goal

abbrev pub invariant-loop : goal.invariant-loop
invariant-loop l = IsTable l.table (rows_of l.rows)
