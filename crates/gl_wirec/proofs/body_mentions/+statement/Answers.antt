use Rattle.std.proofs.Common.{arith}
use Rattle.gl_base.proofs.Lists.{drop_item}
use Rattle.gl_ast.specs.Template.{body_of}
use Rattle.gl_ast.specs.View.{stmt_view}
use Rattle.gl_wire.specs.Symbols.{stmt_mentions, body_mentions}
use Rattle.gl_wirec.proofs.Once.{noted_more, noted_two}
use Rattle.gl_wirec.proofs.body_mentions.+statement.Goals as goal

pub note_body-loop-stmt-preserved : goal.note_body-loop-stmt-preserved
note_body-loop-stmt-preserved t c =
    let l = c.loop-stmt in
    let here = drop_item c.as_slice-stmt-items.result.now l.stmt-index c.stmt-item.result c.loop-stmt-test.true c.stmt-item.is in
    let shallow = rw here at l.invariant.shallow in
    record {
      noted = noted_more _ _ (stmt_mentions (stmt_view c.stmt-item.result)) _ _ c.in_ok-note_stmt.ensures (rw here at l.invariant.noted);
      shallow = grind arith;
    }

pub note_slots-loop-slot-preserved : goal.note_slots-loop-slot-preserved
note_slots-loop-slot-preserved t c =
    let l = c.loop-slot in
    let slot = c.slot-item.result in
    let here = drop_item c.as_slice-slot-items.result.now l.slot-index slot c.loop-slot-test.true c.slot-item.is in
    let shallow = rw here at l.invariant.shallow in
    record {
      noted = noted_two _ _ _ slot.block.params (body_mentions (body_of slot.block.body)) _ _ c.in_ok-add_all.ensures c.in_ok-note_body.ensures (rw here at l.invariant.noted);
      shallow = grind arith;
    }
