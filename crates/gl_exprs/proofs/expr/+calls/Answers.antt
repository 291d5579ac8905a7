use Rattle.std.proofs.Common.{sym, ◌∙◌}
use Rattle.std.proofs.lemmas.Result.{err_from_is_err_and}
use Rattle.gl_ast.specs.View.{expr_view, named_view}
use Rattle.gl_exprs.specs.ReadExpr.{starts_expr, stands_name, read_expr, read_pair}
use Rattle.gl_exprs.proofs.Many.{many_go, many_fail, many_end, fails_on}
use Rattle.gl_exprs.proofs.Shorter.{expr_shorter, pair_shorter}
use Rattle.gl_exprs.proofs.expr.+calls.Goals as goal

pub exprs-returns-in_err-next : goal.exprs-returns-in_err-next
exprs-returns-in_err-next t c =
    let p = err_from_is_err_and c.from_residual.result c.from_residual.ensures.1 in
    let l = c.loop-alloc in
    rw (p.1, p.2) (fails_on c.in_err-next.field-0.0 _ _ (many_fail starts_expr (read_expr c.args.calls) l.list l.tokens _ (sym c.starts_expr.ensures ∙ c.loop-alloc-test.true) l.invariant) c.in_err-next.ensures)

pub exprs-loop-alloc-smaller : goal.exprs-loop-alloc-smaller
exprs-loop-alloc-smaller t c = expr_shorter c.args.calls c.loop-alloc.tokens (expr_view c.in_ok-next.next, c.expr.new.tokens) c.in_ok-next.ensures

pub exprs-loop-alloc-preserved : goal.exprs-loop-alloc-preserved
exprs-loop-alloc-preserved t c =
    let l = c.loop-alloc in
    let less = expr_shorter c.args.calls l.tokens (expr_view c.in_ok-next.next, c.expr.new.tokens) c.in_ok-next.ensures in
    rw c.in_ok-push.ensures.ok (many_go starts_expr (read_expr c.args.calls) l.list l.tokens (expr_view c.in_ok-next.next, c.expr.new.tokens) _ (sym c.starts_expr.ensures ∙ c.loop-alloc-test.true) c.in_ok-next.ensures less l.invariant)

pub exprs-returns : goal.exprs-returns
exprs-returns t c = many_end starts_expr (read_expr c.args.calls) c.loop-alloc.list c.loop-alloc.tokens _ (sym c.starts_expr.ensures ∙ c.loop-alloc-test.false) c.loop-alloc.invariant

pub pairs-returns-in_err-next : goal.pairs-returns-in_err-next
pairs-returns-in_err-next t c =
    let p = err_from_is_err_and c.from_residual.result c.from_residual.ensures.1 in
    let l = c.loop-alloc in
    rw (p.1, p.2) (fails_on c.in_err-next.field-0.0 _ _ (many_fail stands_name (read_pair (read_expr c.args.calls)) l.list l.tokens _ (sym c.stands_name.ensures ∙ c.loop-alloc-test.true) l.invariant) c.in_err-next.ensures)

pub pairs-loop-alloc-smaller : goal.pairs-loop-alloc-smaller
pairs-loop-alloc-smaller t c = pair_shorter (read_expr c.args.calls) c.loop-alloc.tokens (named_view c.in_ok-next.next, c.pair.new.tokens) (expr_shorter c.args.calls) c.in_ok-next.ensures

pub pairs-loop-alloc-preserved : goal.pairs-loop-alloc-preserved
pairs-loop-alloc-preserved t c =
    let l = c.loop-alloc in
    let less = pair_shorter (read_expr c.args.calls) l.tokens (named_view c.in_ok-next.next, c.pair.new.tokens) (expr_shorter c.args.calls) c.in_ok-next.ensures in
    rw c.in_ok-push.ensures.ok (many_go stands_name (read_pair (read_expr c.args.calls)) l.list l.tokens (named_view c.in_ok-next.next, c.pair.new.tokens) _ (sym c.stands_name.ensures ∙ c.loop-alloc-test.true) c.in_ok-next.ensures less l.invariant)

pub pairs-returns : goal.pairs-returns
pairs-returns t c = many_end stands_name (read_pair (read_expr c.args.calls)) c.loop-alloc.list c.loop-alloc.tokens _ (sym c.stands_name.ensures ∙ c.loop-alloc-test.false) c.loop-alloc.invariant
