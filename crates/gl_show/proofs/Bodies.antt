-- Laws of the spelling of lists: parts of a quoted value, else bodies, and blocks of a component.
use Rattle.std.proofs.Common.{◌≡◌, ◌≤◌, List, [], ◌∷◌, ◌++◌, true, false, length, refl, ap, append-nil, arith}
use Rattle.std.specs.Prelude.{◌==◌, codes}
use Rattle.std.proofs.lemmas.Bool.Decides.{nat_tests}
use Rattle.gl_base.specs.Texts.{Text}
use Rattle.gl_ast.specs.Canon.{part_of_value, parts_of_value, cat_text, body_text, is_own_block, else_text}
use Rattle.gl_ast.specs.Template as t
use Rattle.gl_ast.specs.View.{expr_view, seen_exprs, seen_slots}
use Rattle.gl_ast.specs.declared.expr.Expr.{Expr}
use Rattle.gl_ast.specs.declared.stmt.Slot.{Slot}

-- a part that is alone counts as one beside a string
pub cat_parts : (xs : List Expr) (es : List t.Expr) (out : Text) → seen_exprs xs ≡ es → out ++ parts_of_value (length xs == 1) (t.exprs_of (seen_exprs xs)) ≡ out ++ cat_text (t.exprs_of es)
cat_parts [] es out e = rw (← e) refl
cat_parts (x ∷ []) es out e = rw (← e) (ap (λ l. out ++ l) (append-nil (part_of_value true (expr_view x))))
cat_parts (x ∷ y ∷ xs) es out e = let many : (length (x ∷ y ∷ xs) == 1) ≡ false = grind (arith, nat_tests) in rw (many, ← e) refl

-- an else body that is not empty
pub else_body : (ss : List t.Stmt) → (ss ≡ [] → ⊥) → else_text (t.body_of ss) ≡ codes "{{else}}" ++ body_text false (t.body_of ss)
else_body [] some = absurd (some refl)
else_body (s ∷ ss) some = refl

-- a block with others is written with its name
pub several_blocks : (name : Text) (ss : List Slot) → 1 ≤ length ss → is_own_block name (t.slots_of (seen_slots ss)) ≡ false
several_blocks name [] h = absurd (omega (arith, h))
several_blocks name (s ∷ ss) h = refl
