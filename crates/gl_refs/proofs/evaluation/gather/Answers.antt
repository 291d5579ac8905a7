use Rattle.std.proofs.Common.{◌≡◌, IfSome, is_some, map, sym, ap, subst, ◌∙◌}
use Rattle.gl_value.specs.View.{view}
use Rattle.gl_refs.specs.Forms.{reads, value_by}
use Rattle.gl_refs.specs.State.{held_tag, held_value, own_tag}
use Rattle.gl_refs.specs.View.{rows_of, seen_row, seen_kind}
use Rattle.gl_refs.proofs.Seen.{seen_is, kind_at}
use Rattle.gl_refs.proofs.evaluation.gather.Goals as goal

pub returns-in_ok-tags-in-Some-2-clause-gathers : goal.returns-in_ok-tags-in-Some-2-clause-gathers
returns-in_ok-tags-in-Some-2-clause-gathers c =
    let tags = c.args.tags.now in
    let rows = rows_of c.args.rows.now in
    let kind = c.in-Some.row.now.kind in
    let is = seen_is (λ v. v.now) c.args.rows.now c.args.id c.find.result c.in-Some.row c.find.ensures.id c.in-Some.is in
    let form = kind_at (λ v. v.now) c.args.rows.now c.args.id c.find.result c.in-Some.row c.find.ensures.id c.in-Some.is in
    record {
      row = seen_row c.in-Some.row.now;
      is = is;
      bound = c.in_ok-value.ensures.bound (ap is_some c.in-Some-2.is);
      value_is = subst (λ o. IfSome o (λ v. view v ≡ value_by (held_value rows) (seen_kind kind))) c.in-Some-2.is c.in_ok-value.ensures.value;
      tags_are = c.in_ok-tags-in-Some-2.ensures ∙ ap (λ g. map (held_tag tags rows) (reads (held_value rows) g)) (sym form);
      owns = c.tag_in-old.ensures ∙ ap own_tag (sym is);
    }
