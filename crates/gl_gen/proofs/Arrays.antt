-- Laws of the rows.
use Rattle.std.proofs.Common.{ℕ, ◌≡◌, ◌+◌, List, [], ◌∷◌, ◌++◌, length, map, append-nil, ap, ◌∙◌, append_assoc, zero-add}
use Rattle.std.specs.List.{range_with_len}
use Rattle.std.proofs.lemmas.List.FromFn.{map-range_with_len_more, length-map-range_with_len}
use Rattle.gl_base.specs.Texts.{Text}
use Rattle.gl_gen.specs.Rows.{row, rows, moved, after_commas, array}

-- one row more
pub map_row-more : (n : ℕ) → map row (range_with_len 0 (n + 1)) ≡ map row (range_with_len 0 n) ++ row n ∷ []
map_row-more n = map-range_with_len_more row 0 n n (zero-add n)

pub length-rows : (n : ℕ) → length (rows n) ≡ n
unfolding rows
length-rows n = length-map-range_with_len row 0 n

-- none is moved
pub moved-zero : (texts : List Text) → moved 0 texts ≡ texts
moved-zero texts = append-nil texts

-- an array whose texts are written is ended
pub array_ended : (t : Text) (ts : List Text) (old new : Text) → old ≡ 91 ∷ (t ++ after_commas ts) → new ≡ old ++ 93 ∷ [] → new ≡ array (t ∷ ts)
array_ended t ts old new e f = f ∙ ap (λ o. o ++ 93 ∷ []) e ∙ ap (λ o. 91 ∷ o) (append_assoc t (after_commas ts) (93 ∷ []))

-- a text that is written in three pieces
pub three_pieces : (start a b c one two three : Text) → one ≡ start ++ a → two ≡ one ++ b → three ≡ two ++ c → three ≡ start ++ (a ++ (b ++ c))
three_pieces start a b c one two three e f g = g ∙ ap (λ o. o ++ c) (f ∙ ap (λ o. o ++ b) e) ∙ append_assoc (start ++ a) b c ∙ append_assoc start a (b ++ c)
