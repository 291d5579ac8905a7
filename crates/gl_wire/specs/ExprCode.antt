-- How the logic tells two expressions of a wire apart: an expression is written as marks, which a stack reads back. A list
-- type whose contracts see expressions of the definition needs it.
use Rattle.std.specs.Prelude.{◌≡◌, ℕ, zero, suc, List, [], ◌∷◌, refl}
use Rattle.std.proofs.Common.{ap, ◌∙◌}
use Rattle.std.specs.Coded.{Coded, code_by, coded×, coded_ℕ, coded_list}
use Rattle.gl_base.specs.Texts.{Text}
use Rattle.gl_value.specs.Value as v
use Rattle.gl_ast.specs.ExprCode.{plain_code}
use Rattle.gl_ast.specs.Template.{Plain}
use Rattle.gl_wire.specs.Wire.{Expr, literal, symbol, this, get, free, call, cat, Exprs, no_exprs, expr, NamedExprs, no_named, named_expr}

-- a constructor's number, with the fields that hold no expression
abbrev pub Mark : Type 0
Mark = (ℕ × ℕ) × (Plain × (Text × List Text))

abbrev pub mark : ℕ → ℕ → Plain → Text → List Text → Mark
mark c i p s ts = ((c, i), (p, (s, ts)))

abbrev mutual
  pub written : Expr → List Mark → List Mark
  written (literal p) k = mark 0 0 p [] [] ∷ k
  written (symbol i) k = mark 1 i v.undefined [] [] ∷ k
  written (this s) k = mark 2 0 v.undefined s [] ∷ k
  written (get e ts) k = written e (mark 3 0 v.undefined [] ts ∷ k)
  written (free s) k = mark 4 0 v.undefined s [] ∷ k
  written (call s es ns) k = written_exprs es (written_named ns (mark 5 0 v.undefined s [] ∷ k))
  written (cat es) k = written_exprs es (mark 6 0 v.undefined [] [] ∷ k)

  pub written_exprs : Exprs → List Mark → List Mark
  written_exprs no_exprs k = mark 7 0 v.undefined [] [] ∷ k
  written_exprs (expr e es) k = written e (written_exprs es (mark 8 0 v.undefined [] [] ∷ k))

  pub written_named : NamedExprs → List Mark → List Mark
  written_named no_named k = mark 9 0 v.undefined [] [] ∷ k
  written_named (named_expr s e ns) k = written e (written_named ns (mark 10 0 v.undefined s [] ∷ k))

pub data Cell : Type 0 where
  one : Expr → Cell
  some : Exprs → Cell
  named : NamedExprs → Cell

abbrev pub as_get : List Text → List Cell → List Cell
as_get ts (one e ∷ cells) = one (get e ts) ∷ cells
as_get ts cells = cells

abbrev pub as_call : Text → List Cell → List Cell
as_call s (named ns ∷ some es ∷ cells) = one (call s es ns) ∷ cells
as_call s cells = cells

abbrev pub as_cat : List Cell → List Cell
as_cat (some es ∷ cells) = one (cat es) ∷ cells
as_cat cells = cells

abbrev pub as_expr : List Cell → List Cell
as_expr (some es ∷ one e ∷ cells) = some (expr e es) ∷ cells
as_expr cells = cells

abbrev pub as_named : Text → List Cell → List Cell
as_named s (named ns ∷ one e ∷ cells) = named (named_expr s e ns) ∷ cells
as_named s cells = cells

abbrev pub read_mark : ℕ → ℕ → Plain → Text → List Text → List Cell → List Cell
read_mark zero i p s ts cells = one (literal p) ∷ cells
read_mark (suc zero) i p s ts cells = one (symbol i) ∷ cells
read_mark (suc (suc zero)) i p s ts cells = one (this s) ∷ cells
read_mark (suc (suc (suc zero))) i p s ts cells = as_get ts cells
read_mark (suc (suc (suc (suc zero)))) i p s ts cells = one (free s) ∷ cells
read_mark (suc (suc (suc (suc (suc zero))))) i p s ts cells = as_call s cells
read_mark (suc (suc (suc (suc (suc (suc zero)))))) i p s ts cells = as_cat cells
read_mark (suc (suc (suc (suc (suc (suc (suc zero))))))) i p s ts cells = some no_exprs ∷ cells
read_mark (suc (suc (suc (suc (suc (suc (suc (suc zero)))))))) i p s ts cells = as_expr cells
read_mark (suc (suc (suc (suc (suc (suc (suc (suc (suc zero))))))))) i p s ts cells = named no_named ∷ cells
read_mark (suc (suc (suc (suc (suc (suc (suc (suc (suc (suc n)))))))))) i p s ts cells = as_named s cells

abbrev pub read_marks : List Mark → List Cell → List Cell
read_marks [] cells = cells
read_marks (m ∷ ms) cells = read_marks ms (read_mark m.0.0 m.0.1 m.1.0 m.1.1.0 m.1.1.1 cells)

mutual
  read-written : (e : Expr) (k : List Mark) (cells : List Cell) → read_marks (written e k) cells ≡ read_marks k (one e ∷ cells)
  read-written (literal p) k cells = refl
  read-written (symbol i) k cells = refl
  read-written (this s) k cells = refl
  read-written (get e ts) k cells = read-written e _ cells
  read-written (free s) k cells = refl
  read-written (call s es ns) k cells = read-written_exprs es _ cells ∙ read-written_named ns _ (some es ∷ cells)
  read-written (cat es) k cells = read-written_exprs es _ cells

  read-written_exprs : (es : Exprs) (k : List Mark) (cells : List Cell) → read_marks (written_exprs es k) cells ≡ read_marks k (some es ∷ cells)
  read-written_exprs no_exprs k cells = refl
  read-written_exprs (expr e es) k cells = read-written e _ cells ∙ read-written_exprs es _ (one e ∷ cells)

  read-written_named : (ns : NamedExprs) (k : List Mark) (cells : List Cell) → read_marks (written_named ns k) cells ≡ read_marks k (named ns ∷ cells)
  read-written_named no_named k cells = refl
  read-written_named (named_expr s e ns) k cells = read-written e _ cells ∙ read-written_named ns _ (one e ∷ cells)

abbrev pub first_expr : List Cell → Expr
first_expr (one e ∷ cells) = e
first_expr _ = cat no_exprs

pub first_expr-written : (e : Expr) → first_expr (read_marks (written e []) []) ≡ e
first_expr-written e = ap first_expr (read-written e [] [])

abbrev pub expr_code : Coded Expr
expr_code = code_by (List Mark) (coded_list (coded× (coded× coded_ℕ coded_ℕ) (coded× plain_code (coded× (coded_list coded_ℕ) (coded_list (coded_list coded_ℕ)))))) (λ e. written e []) (λ ms. first_expr (read_marks ms [])) first_expr-written
