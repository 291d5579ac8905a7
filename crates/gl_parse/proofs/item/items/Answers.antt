use Rattle.std.proofs.Common.{sym, ◌∙◌, arith}
use Rattle.std.proofs.lemmas.Result.{err_from_is_err_and}
use Rattle.gl_parse.specs.View.{item_view}
use Rattle.gl_parse.proofs.Items.{items_start, items_go, items_fail, items_end, item_shorter, comments_leave}
use Rattle.gl_exprs.proofs.Many.{fails_on}
use Rattle.gl_parse.proofs.item.items.Goals as goal

pub loop-alloc-init : goal.loop-alloc-init
loop-alloc-init c = items_start c.args.component c.new.result c.new-2.result c.skip_comments.new.tokens c.args.tokens.now c.new.ensures c.new-2.ensures c.skip_comments.ensures

pub returns-in_err-next : goal.returns-in_err-next
returns-in_err-next c =
    let p = err_from_is_err_and c.from_residual.result c.from_residual.ensures.1 in
    let l = c.loop-alloc in
    rw (p.1, p.2) (fails_on c.in_err-next.field-0.0 _ _ (items_fail c.args.component l.found.parts l.found.args l.tokens c.args.tokens.now (sym c.starts_item.ensures ∙ c.loop-alloc-test.true) l.invariant) c.in_err-next.ensures)

pub loop-alloc-smaller : goal.loop-alloc-smaller
loop-alloc-smaller c =
    let less = item_shorter c.loop-alloc.tokens (item_view c.in_ok-next.next, c.next_item.new.tokens) c.in_ok-next.ensures in
    let leave = comments_leave c.next_item.new.tokens in
    rw c.skip_comments-in-loop-alloc.ensures (omega arith)

pub loop-alloc-preserved : goal.loop-alloc-preserved
loop-alloc-preserved c =
    let l = c.loop-alloc in
    let added = c.in_ok-add_item.ensures in
    items_go c.args.component l.found.parts c.add_item.new.found.parts l.found.args c.add_item.new.found.args l.tokens c.args.tokens.now (item_view c.in_ok-next.next, c.next_item.new.tokens) c.skip_comments-in-loop-alloc.new.tokens
    (sym c.starts_item.ensures ∙ c.loop-alloc-test.true) c.in_ok-next.ensures added.parts added.arguments c.skip_comments-in-loop-alloc.ensures l.invariant

pub returns : goal.returns
returns c = items_end c.args.component c.loop-alloc.found.parts c.loop-alloc.found.args c.loop-alloc.tokens c.args.tokens.now (sym c.starts_item.ensures ∙ c.loop-alloc-test.false) c.loop-alloc.invariant
