use Rattle.std.proofs.Common.{refl, ap, ◌∙◌}
use Rattle.gl_refs.specs.Forms.{parts}
use Rattle.gl_refs.specs.View.{seen_kind}
use Rattle.gl_refs.proofs.Counting.{counts_write, kind_parts}
use Rattle.gl_refs.proofs.row.put_value.Goals as goal

pub returns-clause-counts : goal.returns-clause-counts
returns-clause-counts c h =
    let row = c.get_mut.result.now in
    counts_write c.args.rows.now c.args.id row (record row { kind = c.value_in.new.kind }) c.stamps.ensures c.get_mut.ensures.value refl
    (ap (λ k. parts (seen_kind k)) c.value_in.ensures ∙ kind_parts row.kind c.args.value) h
