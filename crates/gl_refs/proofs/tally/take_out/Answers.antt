use Rattle.std.proofs.Common.{sym, subst}
use Rattle.gl_arena.specs.Arena.{Ends}
use Rattle.gl_arena.proofs.Mapped.{ends-mapped}
use Rattle.gl_refs.specs.View.{rows_in, seen_row}
use Rattle.gl_refs.proofs.Counting.{counts_ends}
use Rattle.gl_refs.proofs.tally.take_out.Goals as goal

pub lower_all-requires : goal.lower_all-requires
lower_all-requires c = counts_ends c.args.rows.now c.remove-row.new.self c.args.id c.remove-row.result c.stamps.ensures c.remove-row.ensures.value c.remove-row.ensures.ends c.requires.counts

pub returns-clause-ends : goal.returns-clause-ends
returns-clause-ends c =
    subst (λ a. Ends (rows_in c.args.rows.now) a c.args.id) (sym c.lower_all.ensures.seen) (ends-mapped seen_row c.args.rows.now c.remove-row.new.self c.args.id c.remove-row.ensures.ends)
