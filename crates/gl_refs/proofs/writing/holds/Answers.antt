use Rattle.std.proofs.Common.{◌∙◌, ap, option_map}
use Rattle.gl_value.specs.View.{view}
use Rattle.gl_refs.specs.State.{held_by, held}
use Rattle.gl_refs.specs.View.{rows_of, seen_row, seen_kind, kind_last}
use Rattle.gl_refs.proofs.Seen.{same_held}
use Rattle.gl_refs.proofs.writing.holds.Goals as goal

pub returns : goal.returns
returns c =
    same_held (held (rows_of c.args.rows.now c.args.id)) (view c.in-Source.held) (view c.args.value.now) c.same.result
    (ap (λ o. held (option_map seen_row o)) c.get.ensures ∙ ap (λ k. held_by (seen_kind k) (kind_last k)) c.in-Source.is) c.same.ensures
