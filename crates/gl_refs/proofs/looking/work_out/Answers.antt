use Rattle.std.proofs.Common.{◌≡◌, ℕ, cond, nat_eq, Some, IfSome, is_some, OnOk, ap, subst}
use Rattle.gl_value.specs.View.{view}
use Rattle.gl_refs.specs.Forms.{value_by}
use Rattle.gl_refs.specs.View.{rows_of, seen_row, found_at}
use Rattle.gl_refs.proofs.Seen.{seen_is}
use Rattle.gl_refs.proofs.Found.{found, worked, put_either, none_given}
use Rattle.gl_refs.proofs.looking.work_out.Goals as goal

pub returns-in-Some-2 : goal.returns-in-Some-2
returns-in-Some-2 c =
    let a = c.args.rows.now in
    let rows = rows_of a in
    let t = c.args.table.now in
    let id = c.args.id in
    let r = seen_row c.in-Some.row.now in
    let v = view c.in-Some-2.value in
    let is = seen_is (λ v. v.now) a id c.find.result c.in-Some.row c.find.ensures.id c.in-Some.is in
    let ready = none_given c.in_ok-next_missing.field-0 c.is_some.result c.is_some.ensures c.if-is_some.false (c.in_ok-next_missing.ensures tt) in
    let bound = c.in_ok-value.ensures.bound (ap is_some c.in-Some-2.is) in
    let value = subst (λ o. IfSome o (λ v. view v ≡ value_by (found t rows c.requires.right) r.form)) c.in-Some-2.is c.in_ok-value.ensures.value in
    put_either a t c.put.new.self id r v c.requires.right c.stamps.ensures is bound (worked t rows c.requires.right id r c.requires.lower is ready v value) c.put.result
    (subst (λ n. OnOk c.put.result ((k : ℕ) → found_at c.put.new.self k ≡ cond (nat_eq n k) (Some v) (found_at t k))) c.stamp.ensures.value c.put.ensures.ok) c.put.ensures.err
