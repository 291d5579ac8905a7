-- Lists of references that may be read, and the numbers of helpers.
use Rattle.std.proofs.Common.{◌≡◌, ℕ, zero, suc, ◌<◌, true, List, [], ◌∷◌, ◌++◌, length, map, Some, None, is_some, refl, arith}
use Rattle.gl_value.specs.Helpers.{helper_table, helper_numbered}
use Rattle.std.proofs.lemmas.List.{length-map}
use Rattle.gl_base.specs.Names.{at_place}
use Rattle.gl_arena.specs.Id.{Id}
use Rattle.gl_refs.specs.Forms.{Each}

pub each_joined : (P : Id → Type 0) (xs ys : List Id) → Each P xs → Each P ys → Each P (xs ++ ys)
each_joined P [] ys a b = b
each_joined P (x ∷ xs) ys a b = (a.0, each_joined P xs ys a.1 b)

place_some : {A : Type 0} (xs : List A) (h : ℕ) → h < length xs → is_some (at_place None h (map Some xs)) ≡ true
place_some [] h l = absurd (omega (arith, l))
place_some (x ∷ xs) zero l = refl
place_some (x ∷ xs) (suc h) l = place_some xs h (omega (arith, l))

table_length : length helper_table ≡ 33
table_length = refl

pub helper_known : (h : ℕ) → h < 33 → is_some (helper_numbered h) ≡ true
helper_known h l = place_some (map (λ row. row.1) helper_table) h (let e = length-map helper_table (λ row. row.1) in let f = table_length in omega (arith, l, e, f))
