use Rattle.std.proofs.Common.{◌≡◌, ◌∙◌, sym, ap, option_map, arith}
use Rattle.std.proofs.lemmas.Bool.{eqb-true}
use Rattle.gl_refs.specs.View.{rows_of, seen_row, seen_kind, kind_last, seen_mark, seen_last}
use Rattle.gl_refs.specs.State.{is_bound}
use Rattle.gl_refs.specs.declared.row.Bound.{Bound}
use Rattle.gl_refs.proofs.Rows.{bound_rule}
use Rattle.gl_refs.proofs.Seen.{seen_is}
use Rattle.gl_refs.proofs.Computing.{latest_kept}
use Rattle.gl_refs.proofs.evaluation.is_latest.Goals as goal

pub returns-in-Some-last : goal.returns-in-Some-last
returns-in-Some-last c e =
    let r = c.in-Some.row.now in
    let mark = c.in-Some-last.mark in
    latest_kept c.args.tags.now (rows_of c.args.rows.now) c.args.id (seen_row r) (seen_mark mark) c.requires (seen_is (λ v. v.now) c.args.rows.now c.args.id c.find.result c.in-Some.row c.find.ensures.id c.in-Some.is)
    (ap (λ k. is_bound (seen_kind k)) c.in-Position.is) (ap kind_last c.in-Position.is ∙ ap (option_map seen_mark) c.in-Some-last.is)
    (let q : mark.order ≡ c.count.result = eqb-true mark.order c.count.result e in omega (arith, c.count.ensures, q))

pub returns-in-Some-last-2 : goal.returns-in-Some-last-2
returns-in-Some-last-2 c e =
    let r = c.in-Some.row.now in
    let last = c.in-Some-last-2.last in
    latest_kept c.args.tags.now (rows_of c.args.rows.now) c.args.id (seen_row r) (seen_last last) c.requires (seen_is (λ v. v.now) c.args.rows.now c.args.id c.find.result c.in-Some.row c.find.ensures.id c.in-Some.is)
    (ap (λ k. is_bound (seen_kind k)) c.in-Bound.is ∙ bound_rule c.in-Bound.bound.value.rule)
    (ap kind_last c.in-Bound.is ∙ (ap (λ (x : Bound). option_map seen_last x.last) (sym c.deref.ensures) ∙ ap (option_map seen_last) c.in-Some-last-2.is))
    (let q : last.order ≡ c.count-in-Some-last-2.result = eqb-true last.order c.count-in-Some-last-2.result e in omega (arith, c.count-in-Some-last-2.ensures, q))
