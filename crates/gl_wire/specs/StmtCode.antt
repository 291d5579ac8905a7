-- How the logic tells two statements of a wire apart: a statement is written as marks, which a stack reads back. A list
-- type whose contracts see statements of the definition needs it.
use Rattle.std.specs.Prelude.{◌≡◌, ℕ, zero, suc, List, [], ◌∷◌, Bool, false, refl}
use Rattle.std.proofs.Common.{ap, ◌∙◌}
use Rattle.std.specs.Coded.{Coded, code_by, coded×, coded_ℕ, coded_bool, coded_list}
use Rattle.gl_base.specs.Texts.{Text}
use Rattle.gl_wire.specs.Wire.{Expr, call, cat, Exprs, no_exprs, NamedExprs, no_named, Part, Stmt, text_stmt, comment_stmt, put, element, component_stmt, if_stmt, each, let_stmt, yield, Body, end, stmt, Slots, no_slots, block}
use Rattle.gl_wire.specs.ExprCode.{expr_code}
use Rattle.gl_wire.specs.PartCode.{text_code, part_code}

-- a constructor's number, with the fields that hold no statement; several expressions stand as their cat, named ones as a call
abbrev pub Mark : Type 0
Mark = (ℕ × (Text × List ℕ)) × ((Bool × Expr) × (Text × List Part))

abbrev pub none : Expr
none = cat no_exprs

abbrev pub exprs_in : Expr → Exprs
exprs_in (cat es) = es
exprs_in _ = no_exprs

abbrev pub named_in : Expr → NamedExprs
named_in (call n es ns) = ns
named_in _ = no_named

abbrev pub mark : ℕ → Text → List ℕ → Bool → Expr → Mark
mark c s is b e = ((c, (s, is)), ((b, e), ([], [])))

abbrev pub mark_tag : ℕ → Text → List Part → Expr → Mark
mark_tag c s ps e = ((c, ([], [])), ((false, e), (s, ps)))

abbrev mutual
  pub written : Stmt → List Mark → List Mark
  written (text_stmt s) k = mark 0 s [] false none ∷ k
  written (comment_stmt s) k = mark 1 s [] false none ∷ k
  written (put e) k = mark 2 [] [] false e ∷ k
  written (element t ps b) k = written_body b (mark_tag 3 t ps none ∷ k)
  written (component_stmt c ps es bs) k = written_slots bs (mark_tag 4 c ps (call [] no_exprs es) ∷ k)
  written (if_stmt e u b c) k = written_body b (written_body c (mark 5 [] [] u e ∷ k))
  written (each e s is b c) k = written_body b (written_body c (mark 6 s is false e ∷ k))
  written (let_stmt es is b) k = written_body b (mark 7 [] is false (cat es) ∷ k)
  written (yield es s) k = mark 8 s [] false (cat es) ∷ k

  pub written_body : Body → List Mark → List Mark
  written_body end k = mark 9 [] [] false none ∷ k
  written_body (stmt s b) k = written s (written_body b (mark 10 [] [] false none ∷ k))

  pub written_slots : Slots → List Mark → List Mark
  written_slots no_slots k = mark 11 [] [] false none ∷ k
  written_slots (block s is b bs) k = written_body b (written_slots bs (mark 12 s is false none ∷ k))

pub data Cell : Type 0 where
  one : Stmt → Cell
  body : Body → Cell
  slots : Slots → Cell

abbrev pub as_element : Text → List Part → List Cell → List Cell
as_element t ps (body b ∷ cells) = one (element t ps b) ∷ cells
as_element t ps cells = cells

abbrev pub as_component : Text → List Part → Expr → List Cell → List Cell
as_component c ps e (slots bs ∷ cells) = one (component_stmt c ps (named_in e) bs) ∷ cells
as_component c ps e cells = cells

abbrev pub as_if : Expr → Bool → List Cell → List Cell
as_if e u (body c ∷ body b ∷ cells) = one (if_stmt e u b c) ∷ cells
as_if e u cells = cells

abbrev pub as_each : Expr → Text → List ℕ → List Cell → List Cell
as_each e s is (body c ∷ body b ∷ cells) = one (each e s is b c) ∷ cells
as_each e s is cells = cells

abbrev pub as_let : Expr → List ℕ → List Cell → List Cell
as_let e is (body b ∷ cells) = one (let_stmt (exprs_in e) is b) ∷ cells
as_let e is cells = cells

abbrev pub as_body : List Cell → List Cell
as_body (body b ∷ one s ∷ cells) = body (stmt s b) ∷ cells
as_body cells = cells

abbrev pub as_slots : Text → List ℕ → List Cell → List Cell
as_slots s is (slots bs ∷ body b ∷ cells) = slots (block s is b bs) ∷ cells
as_slots s is cells = cells

abbrev pub read_mark : ℕ → Text → List ℕ → Bool → Expr → Text → List Part → List Cell → List Cell
read_mark zero s is u e t ps cells = one (text_stmt s) ∷ cells
read_mark (suc zero) s is u e t ps cells = one (comment_stmt s) ∷ cells
read_mark (suc (suc zero)) s is u e t ps cells = one (put e) ∷ cells
read_mark (suc (suc (suc zero))) s is u e t ps cells = as_element t ps cells
read_mark (suc (suc (suc (suc zero)))) s is u e t ps cells = as_component t ps e cells
read_mark (suc (suc (suc (suc (suc zero))))) s is u e t ps cells = as_if e u cells
read_mark (suc (suc (suc (suc (suc (suc zero)))))) s is u e t ps cells = as_each e s is cells
read_mark (suc (suc (suc (suc (suc (suc (suc zero))))))) s is u e t ps cells = as_let e is cells
read_mark (suc (suc (suc (suc (suc (suc (suc (suc zero)))))))) s is u e t ps cells = one (yield (exprs_in e) s) ∷ cells
read_mark (suc (suc (suc (suc (suc (suc (suc (suc (suc zero))))))))) s is u e t ps cells = body end ∷ cells
read_mark (suc (suc (suc (suc (suc (suc (suc (suc (suc (suc zero)))))))))) s is u e t ps cells = as_body cells
read_mark (suc (suc (suc (suc (suc (suc (suc (suc (suc (suc (suc zero))))))))))) s is u e t ps cells = slots no_slots ∷ cells
read_mark (suc (suc (suc (suc (suc (suc (suc (suc (suc (suc (suc (suc n)))))))))))) s is u e t ps cells = as_slots s is cells

abbrev pub read_marks : List Mark → List Cell → List Cell
read_marks [] cells = cells
read_marks (m ∷ ms) cells = read_marks ms (read_mark m.0.0 m.0.1.0 m.0.1.1 m.1.0.0 m.1.0.1 m.1.1.0 m.1.1.1 cells)

mutual
  read-written : (s : Stmt) (k : List Mark) (cells : List Cell) → read_marks (written s k) cells ≡ read_marks k (one s ∷ cells)
  read-written (text_stmt s) k cells = refl
  read-written (comment_stmt s) k cells = refl
  read-written (put e) k cells = refl
  read-written (element t ps b) k cells = read-written_body b _ cells
  read-written (component_stmt c ps es bs) k cells = read-written_slots bs _ cells
  read-written (if_stmt e u b c) k cells = read-written_body b _ cells ∙ read-written_body c _ (body b ∷ cells)
  read-written (each e s is b c) k cells = read-written_body b _ cells ∙ read-written_body c _ (body b ∷ cells)
  read-written (let_stmt es is b) k cells = read-written_body b _ cells
  read-written (yield es s) k cells = refl

  read-written_body : (b : Body) (k : List Mark) (cells : List Cell) → read_marks (written_body b k) cells ≡ read_marks k (body b ∷ cells)
  read-written_body end k cells = refl
  read-written_body (stmt s b) k cells = read-written s _ cells ∙ read-written_body b _ (one s ∷ cells)

  read-written_slots : (bs : Slots) (k : List Mark) (cells : List Cell) → read_marks (written_slots bs k) cells ≡ read_marks k (slots bs ∷ cells)
  read-written_slots no_slots k cells = refl
  read-written_slots (block s is b bs) k cells = read-written_body b _ cells ∙ read-written_slots bs _ (body b ∷ cells)

abbrev pub first_stmt : List Cell → Stmt
first_stmt (one s ∷ cells) = s
first_stmt _ = put none

abbrev pub first_body : List Cell → Body
first_body (body b ∷ cells) = b
first_body _ = end

pub first_stmt-written : (s : Stmt) → first_stmt (read_marks (written s []) []) ≡ s
first_stmt-written s = ap first_stmt (read-written s [] [])

pub first_body-written : (b : Body) → first_body (read_marks (written_body b []) []) ≡ b
first_body-written b = ap first_body (read-written_body b [] [])

abbrev pub mark_code : Coded Mark
mark_code = coded× (coded× coded_ℕ (coded× text_code (coded_list coded_ℕ))) (coded× (coded× coded_bool expr_code) (coded× text_code (coded_list part_code)))

abbrev pub stmt_code : Coded Stmt
stmt_code = code_by (List Mark) (coded_list mark_code) (λ s. written s []) (λ ms. first_stmt (read_marks ms [])) first_stmt-written

abbrev pub body_code : Coded Body
body_code = code_by (List Mark) (coded_list mark_code) (λ b. written_body b []) (λ ms. first_body (read_marks ms [])) first_body-written

-- a slot: its name, and its parameters with its body
abbrev pub slot_code : Coded (Text × (List ℕ × Body))
slot_code = coded× text_code (coded× (coded_list coded_ℕ) body_code)
