use Rattle.std.proofs.Common.{ap}
use Rattle.gl_refs.specs.View.{seen_row}
use Rattle.gl_refs.specs.declared.row.Row.{Row}
use Rattle.gl_refs.proofs.Counting.{seen_same, counts_raised}
use Rattle.gl_refs.proofs.tally.raise.Goals as goal

pub returns-clause-seen : goal.returns-clause-seen
returns-clause-seen c = seen_same c.args.rows.now c.args.id c.get_mut.result.now c.raise_in.new.row c.get_mut.ensures.value (ap seen_row c.raise_in.ensures)

pub returns-clause-counts : goal.returns-clause-counts
returns-clause-counts c rest over h =
    counts_raised c.args.rows.now c.args.id c.get_mut.result.now c.raise_in.new.row c.get_mut.ensures.value (ap seen_row c.raise_in.ensures) (ap (λ (r : Row). r.readers) c.raise_in.ensures) rest over h
