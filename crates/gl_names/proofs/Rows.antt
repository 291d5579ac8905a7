-- Laws of tables whose names stand one after another.
use Rattle.std.proofs.Common.{◌≡◌, ◌≤◌, ℕ, zero, suc, List, [], ◌∷◌, true, false, ◌||◌, not, if◌then◌else◌, is_none, Some, map, length, take, drop, refl, ap, ◌∙◌, arith}
use Rattle.std.specs.Str.{bytes_eq, chars, IsUtf8, IsCharBoundary}
use Rattle.std.proofs.lemmas.Str.{IsUtf8-from_ascii, IsCharBoundary-from_ascii}
use Rattle.gl_base.specs.Names.{named, has_text}
use Rattle.gl_base.specs.Texts.{is_ascii_text}
use Rattle.gl_base.proofs.Chars.{ascii, chars_of_ascii, bytes_eq-chars}
use Rattle.gl_names.specs.Table.{Rows}

-- a text in ASCII is the same as another by its bytes where it is by its characters
pub same_ascii : (name piece : List ℕ) → IsUtf8 name → is_ascii_text piece ≡ true → bytes_eq name piece ≡ bytes_eq (chars name) piece
same_ascii name piece u e =
    bytes_eq-chars name piece u (IsUtf8-from_ascii piece (ascii piece e)) ∙ ap (λ p. bytes_eq (chars name) p) (chars_of_ascii piece e)

pub ascii_take : (n : ℕ) (bs : List ℕ) → is_ascii_text bs ≡ true → is_ascii_text (take n bs) ≡ true
ascii_take zero bs e = refl
ascii_take (suc n) [] e = refl
ascii_take (suc n) (b ∷ bs) e = let rest : is_ascii_text (take n bs) ≡ true = ascii_take n bs (grind arith) in grind arith

pub ascii_drop : (n : ℕ) (bs : List ℕ) → is_ascii_text bs ≡ true → is_ascii_text (drop n bs) ≡ true
ascii_drop zero bs e = e
ascii_drop (suc n) [] e = refl
ascii_drop (suc n) (b ∷ bs) e = ascii_drop n bs (grind arith)

-- such a text may be cut anywhere
pub ascii_boundary : (n : ℕ) (bs : List ℕ) → is_ascii_text bs ≡ true → n ≤ length bs → IsCharBoundary bs n
ascii_boundary n bs e h = IsCharBoundary-from_ascii bs n (ascii bs e) h

-- a name is found exactly where some row has it
pub named_none : (name : List ℕ) (rows : Rows) → is_none (named name rows) ≡ not (has_text name (map (λ r. r.0) rows))
named_none name [] = refl
named_none name (r ∷ rs) = elim (bytes_eq name r.0) as (λ b. is_none (if b then Some r.1 else named name rs) ≡ not (b || has_text name (map (λ r. r.0) rs))) [ true ↦ refl | false ↦ named_none name rs ]
