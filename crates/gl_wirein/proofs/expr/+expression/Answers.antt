use Rattle.std.proofs.Common.{◌<◌, ◌+◌, Option, rules, drop, map}
use Rattle.std.proofs.lemmas.List.{drop_all}
use Rattle.std.proofs.lemmas.Result.{err_from_is_err_and}
use Rattle.serde_json.specs.Data.{Data}
use Rattle.serde_json.specs.View.{view}
use Rattle.gl_ast.specs.Template.{Expr}
use Rattle.gl_base.proofs.Lists.{drop_item, read_fail, read_end}
use Rattle.gl_wirein.specs.ReadExpr.{pair_in, read_expr}
use Rattle.gl_wirein.proofs.Expressions.{called_more}
use Rattle.gl_wirein.proofs.Loops.{fails_on, in_items}
use Rattle.gl_wirein.proofs.expr.+expression.Goals as goal

pub called-returns-then-calls-gt0 : goal.called-returns-then-calls-gt0
called-returns-then-calls-gt0 t c =
    let some : 0 < c.args.calls = search rules in
    rw (called_more c.args.symbols.now c.args.calls (map view c.args.fields.now) some) c.call.ensures

pub exprs-returns-in_err-read : goal.exprs-returns-in_err-read
exprs-returns-in_err-read t c =
    let inner : Data → Option Expr = λ e. read_expr c.args.symbols.now c.args.calls e in
    let values = c.in_ok-item-items.item-items.now in
    let here = drop_item values c.loop-item.item-index c.item-item.result c.loop-item-test.true c.item-item.is in
    let p = err_from_is_err_and c.from_residual-in_err-read.result c.from_residual-in_err-read.ensures.1 in
    rw (p.1, p.2)
    (fails_on c.in_err-read.field-0.0 _ _ (λ never. in_items inner (view c.args.json.now) values _ c.in_ok-item-items.ensures
    (read_fail (λ v. inner (view v)) c.loop-item.list c.item-item.result (drop (c.loop-item.item-index + 1) values) _ never (rw here at c.loop-item.invariant))) c.in_err-read.ensures)

pub exprs-returns : goal.exprs-returns
exprs-returns t c =
    let inner : Data → Option Expr = λ e. read_expr c.args.symbols.now c.args.calls e in
    let values = c.in_ok-item-items.item-items.now in
    let past = drop_all c.loop-item.item-index values c.loop-item-test.false in
    in_items inner (view c.args.json.now) values _ c.in_ok-item-items.ensures (read_end (λ v. inner (view v)) c.loop-item.list _ (rw past at c.loop-item.invariant))

pub pairs-returns-in_err-read : goal.pairs-returns-in_err-read
pairs-returns-in_err-read t c =
    let inner = pair_in (λ e. read_expr c.args.symbols.now c.args.calls e) in
    let values = c.in_ok-item-items.item-items.now in
    let here = drop_item values c.loop-item.item-index c.item-item.result c.loop-item-test.true c.item-item.is in
    let p = err_from_is_err_and c.from_residual-in_err-read.result c.from_residual-in_err-read.ensures.1 in
    rw (p.1, p.2)
    (fails_on c.in_err-read.field-0.0 _ _ (λ never. in_items inner (view c.args.json.now) values _ c.in_ok-item-items.ensures
    (read_fail (λ v. inner (view v)) c.loop-item.list c.item-item.result (drop (c.loop-item.item-index + 1) values) _ never (rw here at c.loop-item.invariant))) c.in_err-read.ensures)

pub pairs-returns : goal.pairs-returns
pairs-returns t c =
    let inner = pair_in (λ e. read_expr c.args.symbols.now c.args.calls e) in
    let values = c.in_ok-item-items.item-items.now in
    let past = drop_all c.loop-item.item-index values c.loop-item-test.false in
    in_items inner (view c.args.json.now) values _ c.in_ok-item-items.ensures (read_end (λ v. inner (view v)) c.loop-item.list _ (rw past at c.loop-item.invariant))
