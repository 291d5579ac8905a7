use Rattle.std.proofs.Common.{◌≡◌, Ok, ap, ◌∙◌, subst}
use Rattle.gl_wire.specs.View.{expr_view}
use Rattle.gl_program.specs.View.{program_view}
use Rattle.gl_opc.specs.Linked.{Told, expr_linked}
use Rattle.gl_opc.specs.State.{context_view, state_view}
use Rattle.gl_opc.proofs.Whole.{expr_known, expr_done, expr_told, program_of, err_first, empty}
use Rattle.gl_opc.proofs.linking.expression_program.Goals as goal

pub returns-in_err-link_expr-clause-unknown : goal.returns-in_err-link_expr-clause-unknown
returns-in_err-link_expr-clause-unknown c =
    let e = c.in_err-link_expr.field-0.0 in
    let step = expr_linked (context_view c.args.context.now) 0 (expr_view c.args.expr.now) in
    err_first c.from_residual.result e _ c.from_residual.ensures.1 (expr_told (context_view c.args.context.now) (expr_view c.args.expr.now) e (subst (λ s. Told e (step s)) c.new-out.ensures c.in_err-link_expr.ensures))

pub returns-clause-made : goal.returns-clause-made
returns-clause-made c =
    let step = expr_linked (context_view c.args.context.now) 0 (expr_view c.args.expr.now) in
    let linked : step empty ≡ Ok (state_view c.link_expr.new.out) = subst (λ s. step s ≡ Ok (state_view c.link_expr.new.out)) c.new-out.ensures c.in_ok-link_expr.ensures in
    let code = ap (λ s. s.code) c.in_ok-push_op.ensures ∙ expr_done (context_view c.args.context.now) (expr_view c.args.expr.now) _ linked in
    let f = c.in_ok-finish.ensures in
    program_of (program_view c.in_ok-finish.field-0) (state_view c.push_op.new.self) _ code f.words f.texts f.names f.ints

pub returns-clause-known : goal.returns-clause-known
returns-clause-known c =
    let step = expr_linked (context_view c.args.context.now) 0 (expr_view c.args.expr.now) in
    let linked : step empty ≡ Ok (state_view c.link_expr.new.out) = subst (λ s. step s ≡ Ok (state_view c.link_expr.new.out)) c.new-out.ensures c.in_ok-link_expr.ensures in
    expr_known (context_view c.args.context.now) (expr_view c.args.expr.now) _ linked
