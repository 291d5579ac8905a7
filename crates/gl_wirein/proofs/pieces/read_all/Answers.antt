use Rattle.std.proofs.Common.{◌+◌, drop, map}
use Rattle.std.proofs.lemmas.List.{drop_all, map-append}
use Rattle.std.proofs.lemmas.Result.{err_from_is_err_and}
use Rattle.serde_json.specs.View.{view}
use Rattle.gl_base.proofs.Lists.{drop_item, read_go, read_fail, read_end, read_all-map}
use Rattle.gl_wirein.proofs.Loops.{fails_on}
use Rattle.gl_wirein.proofs.pieces.read_all.Goals as goal

pub returns-in_err-item : goal.returns-in_err-item
returns-in_err-item g c =
    let reads = g.R.Reader.reads c.args.reader.now in
    let values = c.args.values.now in
    let here = drop_item values c.loop-value.value-index c.value-item.result c.loop-value-test.true c.value-item.is in
    let p = err_from_is_err_and c.from_residual.result c.from_residual.ensures.1 in
    rw (p.1, p.2, read_all-map reads view values)
    (fails_on c.in_err-item.field-0.0 _ _ (λ never. read_fail (λ v. reads (view v)) (map g.R.Reader.seen c.loop-value.list.items) c.value-item.result (drop (c.loop-value.value-index + 1) values) _ never (rw here at c.loop-value.invariant)) c.in_err-item.ensures)

pub loop-value-preserved : goal.loop-value-preserved
loop-value-preserved g c =
    let reads = g.R.Reader.reads c.args.reader.now in
    let seen = g.R.Reader.seen in
    let values = c.args.values.now in
    let here = drop_item values c.loop-value.value-index c.value-item.result c.loop-value-test.true c.value-item.is in
    rw (c.in_ok-push.ensures.items, map-append)
    (read_go (λ v. reads (view v)) (map seen c.loop-value.list.items) c.value-item.result (drop (c.loop-value.value-index + 1) values) (seen c.in_ok-item.item) _ c.in_ok-item.ensures (rw here at c.loop-value.invariant))

pub returns : goal.returns
returns g c =
    let reads = g.R.Reader.reads c.args.reader.now in
    let past = drop_all c.loop-value.value-index c.args.values.now c.loop-value-test.false in
    rw (read_all-map reads view c.args.values.now) (read_end (λ v. reads (view v)) (map g.R.Reader.seen c.loop-value.list.items) _ (rw past at c.loop-value.invariant))
