use Rattle.std.proofs.Common.{◌∙◌, sym, ap, option_map}
use Rattle.gl_arena.specs.Arena.{named}
use Rattle.gl_refs.specs.View.{seen_row, seen_kind, kind_last, seen_mark, seen_last}
use Rattle.gl_refs.specs.State.{is_bound}
use Rattle.gl_refs.specs.declared.row.Bound.{Bound}
use Rattle.gl_refs.proofs.Rows.{bound_last, bound_rule, combined_live}
use Rattle.gl_refs.proofs.Seen.{seen_is}
use Rattle.gl_refs.proofs.evaluation.is_kept.Goals as goal

pub is_fresh-requires : goal.is_fresh-requires
is_fresh-requires c =
    let r = c.in-Some.row.now in
    let tags = c.args.tags.now in
    let mark = c.in-Some-last.mark in
    combined_live (named tags.tags mark.tag)
    (bound_last tags (seen_kind r.kind) (kind_last r.kind) (seen_mark mark) (ap (λ k. is_bound (seen_kind k)) c.in-Position.is)
    (c.requires.fits c.args.id (seen_row r) (seen_is (λ v. v.now) c.args.rows.now c.args.id c.find.result c.in-Some.row c.find.ensures.id c.in-Some.is))
    (ap kind_last c.in-Position.is ∙ ap (option_map seen_mark) c.in-Some-last.is))

pub is_fresh-requires-in-Some-last-2 : goal.is_fresh-requires-in-Some-last-2
is_fresh-requires-in-Some-last-2 c =
    let r = c.in-Some.row.now in
    let tags = c.args.tags.now in
    let last = c.in-Some-last-2.last in
    combined_live (named tags.tags last.tag)
    (bound_last tags (seen_kind r.kind) (kind_last r.kind) (seen_last last) (ap (λ k. is_bound (seen_kind k)) c.in-Bound.is ∙ bound_rule c.in-Bound.bound.value.rule)
    (c.requires.fits c.args.id (seen_row r) (seen_is (λ v. v.now) c.args.rows.now c.args.id c.find.result c.in-Some.row c.find.ensures.id c.in-Some.is))
    (ap kind_last c.in-Bound.is ∙ (ap (λ (x : Bound). option_map seen_last x.last) (sym c.deref.ensures) ∙ ap (option_map seen_last) c.in-Some-last-2.is)))
