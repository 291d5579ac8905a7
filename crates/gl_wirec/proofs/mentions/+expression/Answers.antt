use Rattle.std.proofs.Common.{arith}
use Rattle.gl_base.proofs.Lists.{drop_item}
use Rattle.gl_ast.specs.View.{expr_view}
use Rattle.gl_wire.specs.Symbols.{expr_mentions}
use Rattle.gl_wirec.proofs.Once.{noted_more}
use Rattle.gl_wirec.proofs.mentions.+expression.Goals as goal

pub note_exprs-loop-item-preserved : goal.note_exprs-loop-item-preserved
note_exprs-loop-item-preserved t c =
    let l = c.loop-item in
    let here = drop_item c.as_slice-item-items.result.now l.item-index c.item-item.result c.loop-item-test.true c.item-item.is in
    let shallow = rw here at l.invariant.shallow in
    record {
      noted = noted_more _ _ (expr_mentions c.args.known.now (expr_view c.item-item.result)) _ _ c.in_ok-note_expr.ensures (rw here at l.invariant.noted);
      shallow = grind arith;
    }

pub note_named-loop-pair-preserved : goal.note_named-loop-pair-preserved
note_named-loop-pair-preserved t c =
    let l = c.loop-pair in
    let here = drop_item c.as_slice-pair-items.result.now l.pair-index c.pair-item.result c.loop-pair-test.true c.pair-item.is in
    let shallow = rw here at l.invariant.shallow in
    record {
      noted = noted_more _ _ (expr_mentions c.args.known.now (expr_view c.pair-item.result.value)) _ _ c.in_ok-note_expr.ensures (rw here at l.invariant.noted);
      shallow = grind arith;
    }
