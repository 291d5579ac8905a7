use Rattle.gl_refs.specs.View.{rows_of}
use Rattle.gl_refs.proofs.Found.{empty_right}
use Rattle.gl_refs.proofs.looking.worked_out.Goals as goal

pub work_all_out-requires-clause-right : goal.work_all_out-requires-clause-right
work_all_out-requires-clause-right c = empty_right c.new-table.result (rows_of c.args.rows.now) c.new-table.ensures
