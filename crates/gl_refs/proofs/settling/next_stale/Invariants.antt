use Rattle.std.proofs.Common.{◌≡◌, take}
use Rattle.gl_refs.specs.Forms.{Each}
use Rattle.gl_refs.specs.State.{IsKept, reads_of}
use Rattle.gl_refs.specs.View.{rows_of}
use Rattle.gl_refs.proofs.settling.next_stale.Given as goal

abbrev pub invariant-loop-at : goal.invariant-loop-at
invariant-loop-at l = record {
  front : Each (IsKept l.fn.tags (rows_of l.rows)) (take l.at (reads_of (rows_of l.rows) l.fn.id));
  stays : l.tags ≡ l.fn.tags;
}
