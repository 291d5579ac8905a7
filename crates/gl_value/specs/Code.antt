-- How the logic tells two values apart: a value is written as marks, which a stack reads back. A list type
-- whose contracts see definition values needs it.
use Rattle.std.specs.Prelude.{◌≡◌, ℕ, zero, suc, ℤ, pos, List, [], ◌∷◌, Bool, false, refl}
use Rattle.std.proofs.Common.{ap, ◌∙◌}
use Rattle.std.specs.Coded.{Coded, code_by, coded×, coded_ℕ, coded_ℤ, coded_bool, coded_list}
use Rattle.gl_base.specs.Texts.{Text}
use Rattle.gl_value.specs.Value.{Value, undefined, null, boolean, integer, text, list, pairs, action, Values, no_values, value, Members, no_members, member}

-- a constructor's number, with the fields that hold no value
abbrev pub Mark : Type 0
Mark = (ℕ × ℕ) × (ℤ × (Bool × Text))

abbrev pub mark : ℕ → ℕ → ℤ → Bool → Text → Mark
mark c n z b s = ((c, n), (z, (b, s)))

abbrev mutual
  pub written : Value ℕ → List Mark → List Mark
  written undefined k = mark 0 0 (pos 0) false [] ∷ k
  written null k = mark 1 0 (pos 0) false [] ∷ k
  written (boolean b) k = mark 2 0 (pos 0) b [] ∷ k
  written (integer z) k = mark 3 0 z false [] ∷ k
  written (text s) k = mark 4 0 (pos 0) false s ∷ k
  written (list vs) k = written_values vs (mark 5 0 (pos 0) false [] ∷ k)
  written (pairs ms) k = written_members ms (mark 6 0 (pos 0) false [] ∷ k)
  written (action o n vs) k = written_values vs (mark 7 o (pos 0) false n ∷ k)

  pub written_values : Values ℕ → List Mark → List Mark
  written_values no_values k = mark 8 0 (pos 0) false [] ∷ k
  written_values (value v vs) k = written v (written_values vs (mark 9 0 (pos 0) false [] ∷ k))

  pub written_members : Members ℕ → List Mark → List Mark
  written_members no_members k = mark 10 0 (pos 0) false [] ∷ k
  written_members (member s v ms) k = written v (written_members ms (mark 11 0 (pos 0) false s ∷ k))

pub data Cell : Type 0 where
  one : Value ℕ → Cell
  some : Values ℕ → Cell
  named : Members ℕ → Cell

abbrev pub as_list : List Cell → List Cell
as_list (some vs ∷ cells) = one (list vs) ∷ cells
as_list cells = cells

abbrev pub as_pairs : List Cell → List Cell
as_pairs (named ms ∷ cells) = one (pairs ms) ∷ cells
as_pairs cells = cells

abbrev pub as_action : ℕ → Text → List Cell → List Cell
as_action o n (some vs ∷ cells) = one (action o n vs) ∷ cells
as_action o n cells = cells

abbrev pub as_value : List Cell → List Cell
as_value (some vs ∷ one v ∷ cells) = some (value v vs) ∷ cells
as_value cells = cells

abbrev pub as_member : Text → List Cell → List Cell
as_member s (named ms ∷ one v ∷ cells) = named (member s v ms) ∷ cells
as_member s cells = cells

abbrev pub read_mark : ℕ → ℕ → ℤ → Bool → Text → List Cell → List Cell
read_mark zero n z b s cells = one undefined ∷ cells
read_mark (suc zero) n z b s cells = one null ∷ cells
read_mark (suc (suc zero)) n z b s cells = one (boolean b) ∷ cells
read_mark (suc (suc (suc zero))) n z b s cells = one (integer z) ∷ cells
read_mark (suc (suc (suc (suc zero)))) n z b s cells = one (text s) ∷ cells
read_mark (suc (suc (suc (suc (suc zero))))) n z b s cells = as_list cells
read_mark (suc (suc (suc (suc (suc (suc zero)))))) n z b s cells = as_pairs cells
read_mark (suc (suc (suc (suc (suc (suc (suc zero))))))) n z b s cells = as_action n s cells
read_mark (suc (suc (suc (suc (suc (suc (suc (suc zero)))))))) n z b s cells = some no_values ∷ cells
read_mark (suc (suc (suc (suc (suc (suc (suc (suc (suc zero))))))))) n z b s cells = as_value cells
read_mark (suc (suc (suc (suc (suc (suc (suc (suc (suc (suc zero)))))))))) n z b s cells = named no_members ∷ cells
read_mark (suc (suc (suc (suc (suc (suc (suc (suc (suc (suc (suc k))))))))))) n z b s cells = as_member s cells

abbrev pub read_marks : List Mark → List Cell → List Cell
read_marks [] cells = cells
read_marks (m ∷ ms) cells = read_marks ms (read_mark m.0.0 m.0.1 m.1.0 m.1.1.0 m.1.1.1 cells)

mutual
  read-written : (v : Value ℕ) (k : List Mark) (cells : List Cell) → read_marks (written v k) cells ≡ read_marks k (one v ∷ cells)
  read-written undefined k cells = refl
  read-written null k cells = refl
  read-written (boolean b) k cells = refl
  read-written (integer z) k cells = refl
  read-written (text s) k cells = refl
  read-written (list vs) k cells = read-written_values vs _ cells
  read-written (pairs ms) k cells = read-written_members ms _ cells
  read-written (action o n vs) k cells = read-written_values vs _ cells

  read-written_values : (vs : Values ℕ) (k : List Mark) (cells : List Cell) → read_marks (written_values vs k) cells ≡ read_marks k (some vs ∷ cells)
  read-written_values no_values k cells = refl
  read-written_values (value v vs) k cells = read-written v _ cells ∙ read-written_values vs _ (one v ∷ cells)

  read-written_members : (ms : Members ℕ) (k : List Mark) (cells : List Cell) → read_marks (written_members ms k) cells ≡ read_marks k (named ms ∷ cells)
  read-written_members no_members k cells = refl
  read-written_members (member s v ms) k cells = read-written v _ cells ∙ read-written_members ms _ (one v ∷ cells)

abbrev pub first_value : List Cell → Value ℕ
first_value (one v ∷ cells) = v
first_value _ = undefined

pub first_value-written : (v : Value ℕ) → first_value (read_marks (written v []) []) ≡ v
first_value-written v = ap first_value (read-written v [] [])

abbrev pub value_code : Coded (Value ℕ)
value_code = code_by (List Mark) (coded_list (coded× (coded× coded_ℕ coded_ℕ) (coded× coded_ℤ (coded× coded_bool (coded_list coded_ℕ))))) (λ v. written v []) (λ ms. first_value (read_marks ms [])) first_value-written
