-- Lists of bytes that are read from their end.
use Rattle.std.proofs.Common.{◌≡◌, ◌<◌, ◌-◌, ℕ, zero, suc, List, [], ◌∷◌, ◌++◌, Bool, true, false, cond, eqb, reverse, length, take, get_or, refl, sym, ap, ◌∙◌, arith}
use Rattle.std.proofs.lemmas.List.{reverse-append}
use Rattle.gl_ast.specs.Marks.{is_blank}
use Rattle.gl_ast.specs.Scans.{after_all}
use Rattle.gl_ast.specs.Settling.{starts_line, opens_line, strips}
use Rattle.gl_ast.specs.declared.edge.Edge.{Edge}
use Rattle.gl_space.specs.Trim.{trim}
use Rattle.gl_space.proofs.Trimmed.{trim_last}

last_at : (n : ℕ) (bs : List ℕ) → length bs ≡ suc n → bs ≡ take n bs ++ get_or bs n 0 ∷ []
last_at n [] e = absurd (omega (arith, e))
last_at zero (b ∷ []) e = refl
last_at zero (b ∷ c ∷ bs) e = absurd (omega (arith, e))
last_at (suc n) (b ∷ bs) e = ap (λ l. b ∷ l) (last_at n bs (omega (arith, e)))

-- all but the last, and the last
pub last_split : (bs : List ℕ) → 0 < length bs → bs ≡ take (length bs - 1) bs ++ get_or bs (length bs - 1) 0 ∷ []
last_split bs h = last_at (length bs - 1) bs (omega arith)

line_case : (b : ℕ) (bs : List ℕ) (t : Bool) → starts_line (cond t (after_all is_blank bs) (b ∷ bs)) ≡ cond t (starts_line (after_all is_blank bs)) (eqb b 10)
line_case b bs true = refl
line_case b bs false = refl

line_last : (front : List ℕ) (b : ℕ) → opens_line (front ++ b ∷ []) ≡ cond (is_blank b) (opens_line front) (eqb b 10)
unfolding opens_line
line_last front b = ap (λ l. starts_line (after_all is_blank l)) (reverse-append front (b ∷ [])) ∙ line_case b (reverse front) (is_blank b)

pub line_split : (bs : List ℕ) → 0 < length bs → opens_line bs ≡ cond (is_blank (get_or bs (length bs - 1) 0)) (opens_line (take (length bs - 1) bs)) (eqb (get_or bs (length bs - 1) 0) 10)
line_split bs h = ap opens_line (last_split bs h) ∙ line_last (take (length bs - 1) bs) (get_or bs (length bs - 1) 0)

pub line_empty : (bs : List ℕ) → length bs < 1 → opens_line bs ≡ true
unfolding opens_line
line_empty [] h = refl
line_empty (b ∷ bs) h = absurd (omega arith)

pub trim_split : (edge : Edge) (bs : List ℕ) → 0 < length bs → trim (strips edge) bs ≡ cond (strips edge (get_or bs (length bs - 1) 0)) (trim (strips edge) (take (length bs - 1) bs)) bs
trim_split edge bs h =
    let e = last_split bs h in
    let last = get_or bs (length bs - 1) 0 in
    let front = take (length bs - 1) bs in
    ap (λ l. trim (strips edge) l) e ∙ trim_last (strips edge) front last ∙ ap (λ l. cond (strips edge last) (trim (strips edge) front) l) (sym e)
