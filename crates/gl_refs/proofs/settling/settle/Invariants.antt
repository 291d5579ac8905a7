use Rattle.std.proofs.Common.{◌≡◌, []}
use Rattle.gl_refs.specs.Forms.{IsReadFor}
use Rattle.gl_refs.specs.State.{forms, Settles, AllReady}
use Rattle.gl_refs.specs.View.{rows_of, seen_stack}
use Rattle.gl_refs.specs.Counting.{Counts}
use Rattle.gl_refs.specs.Watch.{Watched}
use Rattle.gl_refs.proofs.settling.settle.Given as goal

abbrev pub invariant-loop : goal.invariant-loop
invariant-loop l = record {
  settles : Settles (IsReadFor (forms (rows_of l.fn.rows)) l.fn.id) l.fn.tags l.tags (rows_of l.fn.rows) (rows_of l.rows);
  ready : AllReady l.tags (rows_of l.rows) l.fn.id (seen_stack l.stack.items);
  made : l.rows.made ≡ l.fn.rows.made;
  watched : Watched l.fn.tags (rows_of l.fn.rows) l.fn.watch → Watched l.tags (rows_of l.rows) l.watch;
  counts : Counts l.fn.rows [] [] → Counts l.rows [] [];
}
