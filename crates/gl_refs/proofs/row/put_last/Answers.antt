use Rattle.std.proofs.Common.{refl, ap}
use Rattle.gl_refs.specs.Forms.{parts}
use Rattle.gl_refs.proofs.Seen.{puts_last}
use Rattle.gl_refs.proofs.Counting.{counts_write}
use Rattle.gl_refs.proofs.row.put_last.Goals as goal

pub returns-clause-puts : goal.returns-clause-puts
returns-clause-puts c =
    let row = c.get_mut.result.now in
    puts_last c.args.rows.now c.args.id row (record row { kind = c.last_in.new.kind }) c.args.last c.get_mut.ensures.value c.last_in.ensures.form
    (c.last_in.ensures.last (c.requires.takes row c.get_mut.ensures.value))

pub returns-clause-counts : goal.returns-clause-counts
returns-clause-counts c h =
    let row = c.get_mut.result.now in
    counts_write c.args.rows.now c.args.id row (record row { kind = c.last_in.new.kind }) c.stamps.ensures c.get_mut.ensures.value refl (ap parts c.last_in.ensures.form) h
