-- How the logic tells two expressions apart: an expression is written as marks, which a stack reads back. A list
-- type whose contracts see expressions of the definition needs it.
use Rattle.std.specs.Prelude.{◌≡◌, ℕ, zero, suc, List, [], ◌∷◌, refl}
use Rattle.std.proofs.Common.{ap, ◌∙◌}
use Rattle.std.specs.Coded.{Coded, code_by, coded×, coded_ℕ, coded_list}
use Rattle.gl_base.specs.Texts.{Text}
use Rattle.gl_value.specs.Value as v
use Rattle.gl_value.specs.Code.{value_code}
use Rattle.gl_ast.specs.Template.{Plain, Expr, literal, this, argument, bare, call, cat, Exprs, no_exprs, expr, NamedExprs, no_named, named_expr}

-- a value without an owner, seen as one that has numbers for owners, and back
abbrev pub owned : Plain → v.Value ℕ
owned p = v.plain p

abbrev pub unowned : v.Value ℕ → Plain
unowned w = v.plain w

mutual
  pub unowned-owned : (p : Plain) → unowned (owned p) ≡ p
  unowned-owned v.undefined = refl
  unowned-owned v.null = refl
  unowned-owned (v.boolean b) = refl
  unowned-owned (v.integer z) = refl
  unowned-owned (v.text s) = refl
  unowned-owned (v.list ps) = ap v.list (unowned-owned_values ps)
  unowned-owned (v.pairs ms) = ap v.pairs (unowned-owned_members ms)
  unowned-owned (v.action o n ps) = absurd o

  unowned-owned_values : (ps : v.Values ⊥) → v.plain_values {O = ℕ} (v.plain_values ps) ≡ ps
  unowned-owned_values v.no_values = refl
  unowned-owned_values (v.value p ps) = ap (λ q. v.value q (v.plain_values {O = ℕ} (v.plain_values ps))) (unowned-owned p) ∙ ap (λ qs. v.value p qs) (unowned-owned_values ps)

  unowned-owned_members : (ms : v.Members ⊥) → v.plain_members {O = ℕ} (v.plain_members ms) ≡ ms
  unowned-owned_members v.no_members = refl
  unowned-owned_members (v.member k p ms) = ap (λ q. v.member k q (v.plain_members {O = ℕ} (v.plain_members ms))) (unowned-owned p) ∙ ap (λ ns. v.member k p ns) (unowned-owned_members ms)

abbrev pub plain_code : Coded Plain
plain_code = code_by (v.Value ℕ) value_code owned unowned unowned-owned

-- a constructor's number, with the fields that hold no expression
abbrev pub Mark : Type 0
Mark = (ℕ × Plain) × (Text × List Text)

abbrev pub mark : ℕ → Plain → Text → List Text → Mark
mark c p s ts = ((c, p), (s, ts))

abbrev mutual
  pub written : Expr → List Mark → List Mark
  written (literal p) k = mark 0 p [] [] ∷ k
  written (this s ts) k = mark 1 v.undefined s ts ∷ k
  written (argument s ts) k = mark 2 v.undefined s ts ∷ k
  written (bare s ts) k = mark 3 v.undefined s ts ∷ k
  written (call s es ns) k = written_exprs es (written_named ns (mark 4 v.undefined s [] ∷ k))
  written (cat es) k = written_exprs es (mark 5 v.undefined [] [] ∷ k)

  pub written_exprs : Exprs → List Mark → List Mark
  written_exprs no_exprs k = mark 6 v.undefined [] [] ∷ k
  written_exprs (expr e es) k = written e (written_exprs es (mark 7 v.undefined [] [] ∷ k))

  pub written_named : NamedExprs → List Mark → List Mark
  written_named no_named k = mark 8 v.undefined [] [] ∷ k
  written_named (named_expr s e ns) k = written e (written_named ns (mark 9 v.undefined s [] ∷ k))

pub data Cell : Type 0 where
  one : Expr → Cell
  some : Exprs → Cell
  named : NamedExprs → Cell

abbrev pub as_call : Text → List Cell → List Cell
as_call s (named ns ∷ some es ∷ cells) = one (call s es ns) ∷ cells
as_call s cells = cells

abbrev pub as_cat : List Cell → List Cell
as_cat (some es ∷ cells) = one (cat es) ∷ cells
as_cat cells = cells

abbrev pub as_expr : List Cell → List Cell
as_expr (some es ∷ one e ∷ cells) = some (expr e es) ∷ cells
as_expr cells = cells

abbrev pub as_named : Text → List Cell → List Cell
as_named s (named ns ∷ one e ∷ cells) = named (named_expr s e ns) ∷ cells
as_named s cells = cells

abbrev pub read_mark : ℕ → Plain → Text → List Text → List Cell → List Cell
read_mark zero p s ts cells = one (literal p) ∷ cells
read_mark (suc zero) p s ts cells = one (this s ts) ∷ cells
read_mark (suc (suc zero)) p s ts cells = one (argument s ts) ∷ cells
read_mark (suc (suc (suc zero))) p s ts cells = one (bare s ts) ∷ cells
read_mark (suc (suc (suc (suc zero)))) p s ts cells = as_call s cells
read_mark (suc (suc (suc (suc (suc zero))))) p s ts cells = as_cat cells
read_mark (suc (suc (suc (suc (suc (suc zero)))))) p s ts cells = some no_exprs ∷ cells
read_mark (suc (suc (suc (suc (suc (suc (suc zero))))))) p s ts cells = as_expr cells
read_mark (suc (suc (suc (suc (suc (suc (suc (suc zero)))))))) p s ts cells = named no_named ∷ cells
read_mark (suc (suc (suc (suc (suc (suc (suc (suc (suc n))))))))) p s ts cells = as_named s cells

abbrev pub read_marks : List Mark → List Cell → List Cell
read_marks [] cells = cells
read_marks (m ∷ ms) cells = read_marks ms (read_mark m.0.0 m.0.1 m.1.0 m.1.1 cells)

mutual
  read-written : (e : Expr) (k : List Mark) (cells : List Cell) → read_marks (written e k) cells ≡ read_marks k (one e ∷ cells)
  read-written (literal p) k cells = refl
  read-written (this s ts) k cells = refl
  read-written (argument s ts) k cells = refl
  read-written (bare s ts) k cells = refl
  read-written (call s es ns) k cells = read-written_exprs es _ cells ∙ read-written_named ns _ (some es ∷ cells)
  read-written (cat es) k cells = read-written_exprs es _ cells

  read-written_exprs : (es : Exprs) (k : List Mark) (cells : List Cell) → read_marks (written_exprs es k) cells ≡ read_marks k (some es ∷ cells)
  read-written_exprs no_exprs k cells = refl
  read-written_exprs (expr e es) k cells = read-written e _ cells ∙ read-written_exprs es _ (one e ∷ cells)

  read-written_named : (ns : NamedExprs) (k : List Mark) (cells : List Cell) → read_marks (written_named ns k) cells ≡ read_marks k (named ns ∷ cells)
  read-written_named no_named k cells = refl
  read-written_named (named_expr s e ns) k cells = read-written e _ cells ∙ read-written_named ns _ (one e ∷ cells)

abbrev pub first_expr : List Cell → Expr
first_expr (one e ∷ cells) = e
first_expr _ = cat no_exprs

pub first_expr-written : (e : Expr) → first_expr (read_marks (written e []) []) ≡ e
first_expr-written e = ap first_expr (read-written e [] [])

abbrev pub expr_code : Coded Expr
expr_code = code_by (List Mark) (coded_list (coded× (coded× coded_ℕ plain_code) (coded× (coded_list coded_ℕ) (coded_list (coded_list coded_ℕ))))) (λ e. written e []) (λ ms. first_expr (read_marks ms [])) first_expr-written
