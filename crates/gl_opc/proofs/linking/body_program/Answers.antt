use Rattle.std.proofs.Common.{◌≡◌, Ok, ap, ◌∙◌, subst}
use Rattle.gl_wire.specs.Wire.{body_of}
use Rattle.gl_program.specs.View.{program_view}
use Rattle.gl_opc.specs.Linked.{Told, body_linked}
use Rattle.gl_opc.specs.State.{context_view, state_view}
use Rattle.gl_opc.proofs.Whole.{body_known, body_done, body_told, program_of, err_first, empty}
use Rattle.gl_opc.proofs.linking.body_program.Goals as goal

pub returns-in_err-link_body-clause-unknown : goal.returns-in_err-link_body-clause-unknown
returns-in_err-link_body-clause-unknown c =
    let e = c.in_err-link_body.field-0.0 in
    let step = body_linked (context_view c.args.context.now) (body_of c.args.body.now) in
    err_first c.from_residual.result e _ c.from_residual.ensures.1 (body_told (context_view c.args.context.now) (body_of c.args.body.now) e (subst (λ s. Told e (step s)) c.new-out.ensures c.in_err-link_body.ensures))

pub returns-clause-made : goal.returns-clause-made
returns-clause-made c =
    let step = body_linked (context_view c.args.context.now) (body_of c.args.body.now) in
    let linked : step empty ≡ Ok (state_view c.link_body.new.out) = subst (λ s. step s ≡ Ok (state_view c.link_body.new.out)) c.new-out.ensures c.in_ok-link_body.ensures in
    let code = ap (λ s. s.code) c.in_ok-push_op.ensures ∙ body_done (context_view c.args.context.now) (body_of c.args.body.now) _ linked in
    let f = c.in_ok-finish.ensures in
    program_of (program_view c.in_ok-finish.field-0) (state_view c.push_op.new.self) _ code f.words f.texts f.names f.ints

pub returns-clause-known : goal.returns-clause-known
returns-clause-known c =
    let step = body_linked (context_view c.args.context.now) (body_of c.args.body.now) in
    let linked : step empty ≡ Ok (state_view c.link_body.new.out) = subst (λ s. step s ≡ Ok (state_view c.link_body.new.out)) c.new-out.ensures c.in_ok-link_body.ensures in
    body_known (context_view c.args.context.now) (body_of c.args.body.now) _ linked
