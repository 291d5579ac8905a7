use Rattle.std.proofs.Common.{take, sym, ap, subst, ◌∙◌, is_some, add-one}
use Rattle.std.specs.Prelude.{slice_get}
use Rattle.gl_refs.specs.Forms.{Each, reads}
use Rattle.gl_refs.specs.State.{IsKept, kept, held_value, reads_of}
use Rattle.gl_refs.specs.View.{rows_of}
use Rattle.gl_refs.proofs.Seen.{kind_at}
use Rattle.gl_refs.proofs.Waits.{each_next, each_all}
use Rattle.gl_refs.proofs.settling.next_stale.Goals as goal

pub returns-in_default-part_at-clause-none : goal.returns-in_default-part_at-clause-none
returns-in_default-part_at-clause-none c =
    let rows = rows_of c.args.rows.now in
    let form = kind_at (λ v. v.now) c.args.rows.now c.args.id c.find.result c.in-Some.row c.find.ensures.id c.in-Some.is in
    each_all (IsKept c.args.tags.now rows) (reads_of rows c.args.id) c.loop-at.at
    (ap (λ g. slice_get (reads (held_value rows) g) c.loop-at.at) form ∙ (sym c.part_at.ensures ∙ c.in_default-part_at.is)) c.loop-at.invariant.front

pub loop-at-preserved : goal.loop-at-preserved
loop-at-preserved c =
    let rows = rows_of c.args.rows.now in
    let P = IsKept c.args.tags.now rows in
    let xs = reads_of rows c.args.id in
    let k = c.loop-at.at in
    let q = c.in-Some-part_at.part in
    let form = kind_at (λ v. v.now) c.args.rows.now c.args.id c.find.result c.in-Some.row c.find.ensures.id c.in-Some.is in
    let here : P q = sym (ap (λ x. is_some (kept x rows q)) c.loop-at.invariant.stays) ∙ (sym c.is_kept.ensures.value ∙ c.if-not-is_kept.false) in
    record {
      front = subst (λ n. Each P (take n xs)) (sym (add-one k)) (each_next P xs k q (ap (λ g. slice_get (reads (held_value rows) g) k) form ∙ (sym c.part_at.ensures ∙ c.in-Some-part_at.is)) here c.loop-at.invariant.front);
      stays = c.is_kept.ensures.stays ∙ c.loop-at.invariant.stays;
    }
