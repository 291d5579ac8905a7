use Rattle.gl_base.proofs.Lists.{drop_item}
use Rattle.gl_ast.specs.View.{attr_view}
use Rattle.gl_wire.specs.Symbols.{value_mentions}
use Rattle.gl_wirec.proofs.Once.{noted_more}
use Rattle.gl_wirec.proofs.body_mentions.note_args.Goals as goal

pub loop-arg-preserved : goal.loop-arg-preserved
loop-arg-preserved c =
    let l = c.loop-arg in
    let here = drop_item c.as_slice-arg-items.result.now l.arg-index c.arg-item.result c.loop-arg-test.true c.arg-item.is in
    noted_more _ _ (value_mentions (attr_view c.arg-item.result.value)) _ _ c.in_ok-note_value.ensures (rw here at l.invariant)
