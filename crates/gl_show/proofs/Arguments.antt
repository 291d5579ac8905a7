-- Whether a call has an argument, by the lengths of its lists.
use Rattle.std.proofs.Common.{◌≡◌, ◌<◌, List, [], ◌∷◌, Bool, true, false, length, refl, arith}
use Rattle.std.specs.Prelude.{not, ◌==◌}
use Rattle.std.proofs.lemmas.Bool.Decides.{nat_tests}
use Rattle.gl_base.specs.Texts.{Text}
use Rattle.gl_ast.specs.Grammar.{has_argument}
use Rattle.gl_ast.specs.Template as t
use Rattle.gl_ast.specs.View.{seen_exprs, seen_pairs}
use Rattle.gl_ast.specs.declared.expr.Expr.{Expr}
use Rattle.gl_ast.specs.declared.expr.NamedExpr.{NamedExpr}

pub has_named : (xs : List Expr) (es : List t.Expr) (ys : List NamedExpr) (ns : List (Text × t.Expr)) (none : Bool) → seen_exprs xs ≡ es → length xs < 1 → seen_pairs ys ≡ ns → none ≡ (length ys == 0)
    → not none ≡ has_argument (t.exprs_of es) (t.named_of ns)
has_named [] es [] ns none e h f g = rw (g, ← e, ← f) refl
has_named [] es (y ∷ ys) ns none e h f g = let some : (length (y ∷ ys) == 0) ≡ false = grind (arith, nat_tests) in rw (g, some, ← e, ← f) refl
has_named (x ∷ xs) es ys ns none e h f g = absurd (omega arith)

pub has_some : (xs : List Expr) (es : List t.Expr) (ns : t.NamedExprs) → seen_exprs xs ≡ es → 0 < length xs → true ≡ has_argument (t.exprs_of es) ns
has_some [] es ns e h = absurd (omega arith)
has_some (x ∷ xs) es ns e h = rw (← e) refl
