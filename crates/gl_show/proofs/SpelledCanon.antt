-- The canonical spelling of a tree that can be spelled spells it.
use Rattle.std.proofs.Common.{◌≡◌, List, [], ◌++◌, false, refl, sym, ap, subst, ◌∙◌, append-nil}
use Rattle.std.proofs.lemmas.Str.{is_utf8-from_IsUtf8}
use Rattle.std.proofs.lemmas.Grind.{merely}
use Rattle.gl_base.specs.Texts.{bytes_of}
use Rattle.gl_ast.specs.Canon.{expr_text, body_text, canonical}
use Rattle.gl_ast.specs.Grammar.{deepest_calls, deepest_nesting, IsExpr, AreStmts, Spells, SpellsExpr, IsTemplate, after_silent}
use Rattle.gl_ast.specs.Template.{Expr, Body, end}
use Rattle.gl_ast.specs.declared.mode.Mode.TheVariants as m
use Rattle.gl_ast.specs.declared.token.Token.{Token}
use Rattle.gl_ast.proofs.Readings.{read_reading}
use Rattle.gl_show.specs.Spellable.{CanExpr, CanBody}
use Rattle.gl_show.proofs.ExprTokens.{alone}
use Rattle.gl_show.proofs.Lexed.{Lexed, Then, lexed_bytes, lexed_end}
use Rattle.gl_show.proofs.LexedExpr.{lexed_expr}
use Rattle.gl_show.proofs.LexedStmt.{lexed_body}
use Rattle.gl_show.proofs.Settled.{settled_same}

pub spelled_canonical : (b : Body) → CanBody deepest_nesting b → Spells (bytes_of (canonical b)) b
unfolding canonical
spelled_canonical b can =
    let l : Lexed m.Content false (bytes_of (body_text false b)) (Then (λ ts us. AreStmts deepest_nesting ts b us) (λ us. us ≡ [])) =
    lexed_bytes m.Content false (bytes_of (body_text false b)) (bytes_of (body_text false b) ++ []) (sym (append-nil (bytes_of (body_text false b))))
    (lexed_body deepest_nesting false b [] can (λ us e. ap after_silent e ∙ sym e) tt (lexed_end m.Content false refl)) in
    let r = l 0 in (
      r.0,
      is_utf8-from_IsUtf8 (bytes_of (body_text false b)) r.3,
      read_reading m.Content 0 (bytes_of (body_text false b)) r.0 r.1,
      subst (λ (ts : List Token). AreStmts deepest_nesting ts b []) (sym (settled_same (bytes_of (body_text false b)) r.0 r.2)) (subst (λ (us : List Token). AreStmts deepest_nesting r.0 b us) r.4.2 r.4.1),
    )

pub spelled_expression : (e : Expr) → CanExpr deepest_calls e → SpellsExpr (bytes_of (expr_text e)) e
spelled_expression e can =
    let l : Lexed m.Expression false (bytes_of (expr_text e)) (Then (λ ts us. IsExpr deepest_calls ts e us) (λ us. us ≡ [])) =
    lexed_bytes m.Expression false (bytes_of (expr_text e)) (bytes_of (expr_text e) ++ []) (sym (append-nil (bytes_of (expr_text e))))
    (lexed_expr m.Expression alone false deepest_calls e [] can (tt, refl) (lexed_end m.Expression false refl)) in
    let r = l 0 in
    (r.0, is_utf8-from_IsUtf8 (bytes_of (expr_text e)) r.3, read_reading m.Expression 0 (bytes_of (expr_text e)) r.0 r.1, subst (λ (us : List Token). IsExpr deepest_calls r.0 e us) r.4.2 r.4.1)

-- the empty template
pub empty_template : IsTemplate end
empty_template = merely (bytes_of (canonical end), spelled_canonical end tt)
