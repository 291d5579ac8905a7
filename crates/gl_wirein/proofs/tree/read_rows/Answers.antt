use Rattle.std.proofs.Common.{◌≡◌, ◌<◌, ◌+◌, ◌-◌, ℕ, Some, length, drop, map, arith, subst}
use Rattle.std.proofs.lemmas.Result.{err_from_is_err_and}
use Rattle.serde_json.specs.View.{view}
use Rattle.gl_base.proofs.Lists.{drop_item}
use Rattle.gl_wirein.specs.ReadRows.{read_rows}
use Rattle.gl_wirein.specs.View.{rows_view}
use Rattle.gl_wirein.proofs.Loops.{fails_on, rows_fail}
use Rattle.gl_wirein.proofs.tree.read_rows.Goals as goal

pub returns-in_err-add_row : goal.returns-in_err-add_row
returns-in_err-add_row c =
    let l = c.loop-left in
    let list = c.args.list.now in
    let within : l.left - 1 < length list = omega (arith, l.invariant.0, c.loop-left-test.true) in
    let next : l.left ≡ l.left - 1 + 1 = omega (arith, c.loop-left-test.true) in
    let P : ℕ → Type 0 = λ n. read_rows c.args.symbols.now (map view (drop n list)) ≡ Some (rows_view l.rows) in
    let p = err_from_is_err_and c.from_residual.result c.from_residual.ensures.1 in
    rw (p.1, p.2)
    (fails_on c.in_err-add_row.field-0.0 _ _
    (λ never. rows_fail c.args.symbols.now list (l.left - 1) c.index-list-at.result (rows_view l.rows) (drop_item list (l.left - 1) c.index-list-at.result within c.index-list-at.is) (subst P next l.invariant.1) never) c.in_err-add_row.ensures)
