use Rattle.std.proofs.Common.{◌+◌, ◌∙◌, sym, arith, drop}
use Rattle.gl_base.proofs.Lists.{drop_item}
use Rattle.gl_ast.specs.Template.{exprs_of, named_of}
use Rattle.gl_ast.specs.View.{expr_view, seen_exprs, seen_pairs}
use Rattle.gl_meaning.specs.Known.{mentions, all_mentions, named_mentions}
use Rattle.gl_cycles.proofs.Marking.{names_after}
use Rattle.gl_cycles.proofs.mentions.+mentions.Goals as goal

pub mark_exprs-loop-item-preserved : goal.mark_exprs-loop-item-preserved
mark_exprs-loop-item-preserved t c =
    let items = c.as_slice-item-items.result.now in
    let i = c.loop-item.item-index in
    let e = c.item-item.result in
    let here = drop_item items i e c.loop-item-test.true c.item-item.is in
    let first = names_after (seen_pairs c.args.getters.now) c.loop-item.all (mentions (expr_view e)) (all_mentions (exprs_of (seen_exprs (drop (i + 1) items)))) in
    let deep = rw here at c.loop-item.invariant.shallow in
    record {
      marked = rw c.mark_expr-all.ensures (sym first ∙ rw here at c.loop-item.invariant.marked);
      shallow = omega (arith, deep);
    }

pub mark_named-loop-pair-preserved : goal.mark_named-loop-pair-preserved
mark_named-loop-pair-preserved t c =
    let items = c.as_slice-pair-items.result.now in
    let i = c.loop-pair.pair-index in
    let n = c.pair-item.result in
    let here = drop_item items i n c.loop-pair-test.true c.pair-item.is in
    let first = names_after (seen_pairs c.args.getters.now) c.loop-pair.all (mentions (expr_view n.value)) (named_mentions (named_of (seen_pairs (drop (i + 1) items)))) in
    let deep = rw here at c.loop-pair.invariant.shallow in
    record {
      marked = rw c.mark_expr-all.ensures (sym first ∙ rw here at c.loop-pair.invariant.marked);
      shallow = omega (arith, deep);
    }
