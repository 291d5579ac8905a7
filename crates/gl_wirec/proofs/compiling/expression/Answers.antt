use Rattle.std.proofs.Common.{◌≡◌, [], ap, ◌∙◌}
use Rattle.gl_ast.specs.View.{expr_view}
use Rattle.gl_wire.specs.Symbols.{with_names, expr_mentions}
use Rattle.gl_wirec.proofs.Made.{expr_wire_made}
use Rattle.gl_wirec.proofs.compiling.expression.Goals as goal

pub returns : goal.returns
returns c =
    let e = expr_view c.args.expr.now in
    let scope : c.add_all.new.self ≡ with_names [] c.args.params.now = c.in_ok-add_all.ensures ∙ ap (λ n. with_names n c.args.params.now) c.new-scope.ensures in
    let names : c.note_expr.new.symbols ≡ with_names [] (expr_mentions c.add_all.new.self e) = c.in_ok-note_expr.ensures ∙ ap (λ n. with_names n (expr_mentions c.add_all.new.self e)) c.new-names.ensures in
    expr_wire_made e _ c.add_all.new.self c.note_expr.new.symbols _ _ scope names c.in_ok-symbols.ensures c.in_ok-value.ensures
