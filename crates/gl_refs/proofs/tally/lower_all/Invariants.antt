use Rattle.std.proofs.Common.{◌≡◌, [], drop}
use Rattle.gl_refs.specs.Forms.{parts}
use Rattle.gl_refs.specs.View.{rows_in, seen_kind}
use Rattle.gl_refs.specs.Counting.{Counts}
use Rattle.gl_refs.proofs.tally.lower_all.Given as goal

abbrev pub invariant-loop-at : goal.invariant-loop-at
invariant-loop-at l = record {
  seen : rows_in l.rows ≡ rows_in l.fn.rows;
  counts : Counts l.rows [] (drop l.at (parts (seen_kind l.kind)));
}
