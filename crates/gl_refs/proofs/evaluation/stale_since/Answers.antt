use Rattle.std.proofs.Common.{◌∙◌, ap, option_map}
use Rattle.gl_arena.specs.Arena.{named}
use Rattle.gl_refs.specs.View.{seen_row, seen_kind, kind_last, seen_mark}
use Rattle.gl_refs.specs.State.{is_bound}
use Rattle.gl_refs.proofs.Rows.{bound_last, combined_live}
use Rattle.gl_refs.proofs.Seen.{seen_is}
use Rattle.gl_refs.proofs.evaluation.stale_since.Goals as goal

pub validate-requires : goal.validate-requires
validate-requires c =
    let r = c.in-Some.row.now in
    let tags = c.args.tags.now in
    let mark = c.in-Some-last.mark in
    combined_live (named tags.tags mark.tag)
    (bound_last tags (seen_kind r.kind) (kind_last r.kind) (seen_mark mark) (ap (λ k. is_bound (seen_kind k)) c.in-Position.is)
    (c.requires.fits c.args.id (seen_row r) (seen_is (λ v. v.now) c.args.rows.now c.args.id c.find.result c.in-Some.row c.find.ensures.id c.in-Some.is))
    (ap kind_last c.in-Position.is ∙ ap (option_map seen_mark) c.in-Some-last.is))
