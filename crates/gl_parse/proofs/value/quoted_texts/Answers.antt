use Rattle.std.proofs.Common.{sym, ◌∙◌}
use Rattle.std.proofs.lemmas.Result.{err_from_is_err_and}
use Rattle.gl_ast.specs.View.{expr_view}
use Rattle.gl_ast.specs.declared.token.TokenKind.TheVariants as k
use Rattle.gl_parse.specs.ReadValue.{read_quoted_text}
use Rattle.gl_exprs.specs.Take.{stands}
use Rattle.gl_exprs.proofs.Many.{many_go, many_fail, many_end, fails_on}
use Rattle.gl_parse.proofs.ShorterValues.{quoted_text_shorter}
use Rattle.gl_parse.proofs.value.quoted_texts.Goals as goal

pub returns-in_err-next : goal.returns-in_err-next
returns-in_err-next c =
    let p = err_from_is_err_and c.from_residual.result c.from_residual.ensures.1 in
    let l = c.loop-alloc in
    rw (p.1, p.2) (fails_on c.in_err-next.field-0.0 _ _ (many_fail (stands k.Text) read_quoted_text l.list l.tokens _ (sym c.stands.ensures ∙ c.loop-alloc-test.true) l.invariant) c.in_err-next.ensures)

pub loop-alloc-smaller : goal.loop-alloc-smaller
loop-alloc-smaller c = quoted_text_shorter c.loop-alloc.tokens (expr_view c.in_ok-next.next, c.quoted_text.new.tokens) c.in_ok-next.ensures

pub loop-alloc-preserved : goal.loop-alloc-preserved
loop-alloc-preserved c =
    let l = c.loop-alloc in
    let less = quoted_text_shorter l.tokens (expr_view c.in_ok-next.next, c.quoted_text.new.tokens) c.in_ok-next.ensures in
    rw c.in_ok-push.ensures.ok (many_go (stands k.Text) read_quoted_text l.list l.tokens (expr_view c.in_ok-next.next, c.quoted_text.new.tokens) _ (sym c.stands.ensures ∙ c.loop-alloc-test.true) c.in_ok-next.ensures less l.invariant)

pub returns : goal.returns
returns c = many_end (stands k.Text) read_quoted_text c.loop-alloc.list c.loop-alloc.tokens _ (sym c.stands.ensures ∙ c.loop-alloc-test.false) c.loop-alloc.invariant
