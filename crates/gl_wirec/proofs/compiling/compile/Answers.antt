use Rattle.std.proofs.Common.{◌≡◌, sym, ap, ◌∙◌}
use Rattle.gl_ast.specs.Template.{body_of}
use Rattle.gl_wire.specs.IsWire.{wire}
use Rattle.gl_wire.specs.Symbols.{symbols_of}
use Rattle.gl_wire.specs.Wire as w
use Rattle.gl_wire.specs.WireOf.{body_wire}
use Rattle.gl_wirec.proofs.Made.{wire_made}
use Rattle.gl_wirec.proofs.compiling.compile.Goals as goal

pub new-requires : goal.new-requires
new-requires c =
    let tree = body_of c.args.template.now.body in
    let names : c.in_ok-symbols.symbols ≡ symbols_of tree = c.in_ok-symbols.ensures ∙ ap (λ b. symbols_of (body_of b)) c.body.ensures in
    let body = c.in_ok-body.ensures.made ∙ ap (λ b. body_wire c.in_ok-symbols.symbols c.new-scope.result (body_of b)) c.body-2.ensures in
    ∣ (tree, c.args.template.now.spelled, wire_made tree _ c.new-scope.result _ _ names c.new-scope.ensures c.in_ok-to_texts.ensures body) ∣₁

pub returns : goal.returns
returns c =
    let tree = body_of c.args.template.now.body in
    let names : c.in_ok-symbols.symbols ≡ symbols_of tree = c.in_ok-symbols.ensures ∙ ap (λ b. symbols_of (body_of b)) c.body.ensures in
    let body = c.in_ok-body.ensures.made ∙ ap (λ b. body_wire c.in_ok-symbols.symbols c.new-scope.result (body_of b)) c.body-2.ensures in
    ap (λ s. wire s (w.body_of c.new.result.body)) c.new.ensures.symbols ∙ ap (λ l. wire c.in_ok-to_texts.field-0 (w.body_of l)) c.new.ensures.body
    ∙ sym (wire_made tree _ c.new-scope.result _ _ names c.new-scope.ensures c.in_ok-to_texts.ensures body)
