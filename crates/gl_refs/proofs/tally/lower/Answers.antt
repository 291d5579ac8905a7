use Rattle.std.proofs.Common.{ap, arith}
use Rattle.gl_refs.specs.View.{seen_row}
use Rattle.gl_refs.specs.declared.row.Row.{Row}
use Rattle.gl_refs.proofs.Counting.{seen_same, counts_lowered}
use Rattle.gl_refs.proofs.tally.lower.Goals as goal

pub returns-then-live-clause-seen : goal.returns-then-live-clause-seen
returns-then-live-clause-seen c = seen_same c.args.rows.now c.args.id c.get_mut.result.now c.lower_in.new.row c.get_mut.ensures.value (ap seen_row c.lower_in.ensures)

pub returns-then-live-clause-counts : goal.returns-then-live-clause-counts
returns-then-live-clause-counts c rest h =
    let now = ap (λ (r : Row). r.readers) c.lower_in.ensures in
    let some = c.requires c.get_mut.result.now c.get_mut.ensures.value in
    counts_lowered c.args.rows.now c.args.id c.get_mut.result.now c.lower_in.new.row c.get_mut.ensures.value (ap seen_row c.lower_in.ensures) (omega (arith, now, some)) rest h
