use Rattle.gl_base.proofs.Lists.{drop_item}
use Rattle.gl_ast.specs.View.{part_view}
use Rattle.gl_wire.specs.Symbols.{part_mentions}
use Rattle.gl_wirec.proofs.Once.{noted_more}
use Rattle.gl_wirec.proofs.body_mentions.note_parts.Goals as goal

pub loop-part-preserved : goal.loop-part-preserved
loop-part-preserved c =
    let l = c.loop-part in
    let here = drop_item c.as_slice-part-items.result.now l.part-index c.part-item.result c.loop-part-test.true c.part-item.is in
    noted_more _ _ (part_mentions (part_view c.part-item.result)) _ _ c.in_ok-note_part.ensures (rw here at l.invariant)
