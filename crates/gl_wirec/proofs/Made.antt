-- A wire that is put together of its symbols and its body.
use Rattle.std.proofs.Common.{◌≡◌, List, [], false, refl, ap, ◌∙◌}
use Rattle.gl_base.specs.Texts.{Text}
use Rattle.gl_ast.specs.Template as t
use Rattle.gl_wire.specs.IsWire.{wire}
use Rattle.gl_wire.specs.Symbols.{symbols_of, with_names, expr_mentions, expr_symbols_of}
use Rattle.gl_wire.specs.Wire.{Body, Expr, ExprWire}
use Rattle.gl_wire.specs.WireOf.{wire_of, body_wire, expr_wire, expr_wire_of}
use Rattle.gl_wirec.proofs.Scopes.{wire_once}

pub wire_made : (b : t.Body) (names scope texts : List Text) (body : Body) → names ≡ symbols_of b → scope ≡ [] → texts ≡ names → body ≡ body_wire names scope b → wire_of b ≡ wire texts body
unfolding wire_of
wire_made b names scope texts body e f g h = rw (h, g, f, e) refl

-- the wire of these symbols and this value
abbrev pub expr_wire_with : List Text → Expr → ExprWire
expr_wire_with symbols value = record { symbols = symbols; value = value }

pub expr_wire_made : (e : t.Expr) (params scope names texts : List Text) (value : Expr) → scope ≡ with_names [] params → names ≡ with_names [] (expr_mentions scope e) → texts ≡ names → value ≡ expr_wire names scope false e
    → expr_wire_with texts value ≡ expr_wire_of params e
unfolding expr_wire_of
expr_wire_made e params scope names texts value f g h i =
    ap (λ s. expr_wire_with s value) (h ∙ g) ∙ ap (expr_wire_with (expr_symbols_of scope e)) (i ∙ ap (λ s. expr_wire s scope false e) g)
    ∙ ap (λ s. expr_wire_of s e) f ∙ wire_once params e
