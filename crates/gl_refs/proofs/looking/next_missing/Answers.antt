use Rattle.std.proofs.Common.{take, sym, ap, subst, ◌∙◌, unwrap_or, add-one}
use Rattle.std.specs.Prelude.{slice_get}
use Rattle.gl_value.specs.Value.{undefined}
use Rattle.gl_value.specs.View.{view}
use Rattle.gl_refs.specs.Forms.{Each, reads}
use Rattle.gl_refs.specs.View.{rows_of, found_in, reads_in, IsFound}
use Rattle.gl_refs.proofs.Seen.{kind_at}
use Rattle.gl_refs.proofs.Found.{there_is}
use Rattle.gl_refs.proofs.Waits.{each_next, each_all}
use Rattle.gl_refs.proofs.looking.next_missing.Goals as goal

pub loop-at-preserved : goal.loop-at-preserved
loop-at-preserved c front =
    let rows = rows_of c.args.rows.now in
    let t = c.args.table.now in
    let P = IsFound t rows in
    let xs = reads_in t rows c.args.id in
    let k = c.loop-at.at in
    let q = c.in-Some-part_at.part in
    let form = kind_at (λ v. v.now) c.args.rows.now c.args.id c.find.result c.in-Some.row c.find.ensures.id c.in-Some.is in
    let here = there_is (λ v. view v.now) c.found_value.result (found_in t rows q) c.is_none.result c.found_value.ensures c.is_none.ensures c.if-is_none.false in
    subst (λ n. Each P (take n xs)) (sym (add-one k))
    (each_next P xs k q (ap (λ g. slice_get (reads (λ x. unwrap_or (found_in t rows x) undefined) g) k) form ∙ (sym c.part_at.ensures ∙ c.in-Some-part_at.is)) here (c.loop-at.invariant front))

pub returns-in_default-part_at : goal.returns-in_default-part_at
returns-in_default-part_at c front =
    let rows = rows_of c.args.rows.now in
    let t = c.args.table.now in
    let k = c.loop-at.at in
    let form = kind_at (λ v. v.now) c.args.rows.now c.args.id c.find.result c.in-Some.row c.find.ensures.id c.in-Some.is in
    each_all (IsFound t rows) (reads_in t rows c.args.id) k (ap (λ g. slice_get (reads (λ x. unwrap_or (found_in t rows x) undefined) g) k) form ∙ (sym c.part_at.ensures ∙ c.in_default-part_at.is)) (c.loop-at.invariant front)
