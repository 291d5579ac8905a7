-- A name with arguments is a call.
use Rattle.std.proofs.Common.{◌≡◌, List, [], ◌∷◌, refl}
use Rattle.gl_base.specs.Texts.{Text}
use Rattle.gl_ast.specs.Template.{Expr, call, exprs_of, named_of}
use Rattle.gl_exprs.specs.ReadExpr.{called}

-- with positional arguments
pub called_given : (n : Text) (es : List Expr) (ns : List (Text × Expr)) → (es ≡ [] → ⊥) → call n (exprs_of es) (named_of ns) ≡ called n (exprs_of es) (named_of ns)
called_given n [] ns h = absurd (h refl)
called_given n (e ∷ es) ns h = refl

-- with named ones
pub called_named : (n : Text) (es : List Expr) (ns : List (Text × Expr)) → (ns ≡ [] → ⊥) → call n (exprs_of es) (named_of ns) ≡ called n (exprs_of es) (named_of ns)
called_named n es [] h = absurd (h refl)
called_named n [] (p ∷ ns) h = refl
called_named n (e ∷ es) (p ∷ ns) h = refl
