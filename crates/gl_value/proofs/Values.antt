-- Laws of lists of values and of members.
use Rattle.std.proofs.Common.{◌≡◌, suc, List, [], ◌∷◌, Bool, true, false, length, refl, ap}
use Rattle.std.specs.Prelude.{IsTrue, ◌↔◌, ◌&&◌}
use Rattle.gl_base.specs.Texts.{Text}
use Rattle.gl_value.specs.Value.{Value, Values, no_values, value, Members, no_members, member, values_of, list_of, pairs_of, pair_list, has_none, values_count, same_values, same_members}

neither : (a : Bool) {b : Bool} → false ≡ b → false ≡ (a && b)
neither true e = e
neither false e = refl

module _ {O : Type 0} where
  pub list_of-values_of : (vs : List (Value O)) → list_of (values_of vs) ≡ vs
  list_of-values_of [] = refl
  list_of-values_of (v ∷ vs) = ap (λ l. v ∷ l) (list_of-values_of vs)

  pub values_of-list_of : (vs : Values O) → values_of (list_of vs) ≡ vs
  values_of-list_of no_values = refl
  values_of-list_of (value v vs) = ap (λ l. value v l) (values_of-list_of vs)

  pub pair_list-pairs_of : (ps : List (Text × Value O)) → pair_list (pairs_of ps) ≡ ps
  pair_list-pairs_of [] = refl
  pair_list-pairs_of (p ∷ ps) = ap (λ l. p ∷ l) (pair_list-pairs_of ps)

  pub pairs_of-pair_list : (ms : Members O) → pairs_of (pair_list ms) ≡ ms
  pairs_of-pair_list no_members = refl
  pairs_of-pair_list (member k v ms) = ap (λ l. member k v l) (pairs_of-pair_list ms)

  -- whether a list has no item
  pub tested_none : (b : Bool) (vs : List (Value O)) → IsTrue b ↔ (vs ≡ []) → b ≡ has_none (values_of vs)
  tested_none true [] h = refl
  tested_none true (v ∷ vs) h = let e : v ∷ vs ≡ [] = h.0 refl in cc
  tested_none false [] h = h.1 refl
  tested_none false (v ∷ vs) h = refl

  -- lists of different lengths are not the same
  pub differ_values : (eq : O → O → Bool) (vs ws : List (Value O)) → (length vs ≡ length ws → ⊥) → false ≡ same_values eq (values_of vs) (values_of ws)
  differ_values eq [] [] h = absurd (h refl)
  differ_values eq [] (w ∷ ws) h = refl
  differ_values eq (v ∷ vs) [] h = refl
  differ_values eq (v ∷ vs) (w ∷ ws) h = neither _ (differ_values eq vs ws (λ e. h (ap suc e)))

  pub differ_members : (eq : O → O → Bool) (ps qs : List (Text × Value O)) → (length ps ≡ length qs → ⊥) → false ≡ same_members eq (pairs_of ps) (pairs_of qs)
  differ_members eq [] [] h = absurd (h refl)
  differ_members eq [] (q ∷ qs) h = refl
  differ_members eq (p ∷ ps) [] h = refl
  differ_members eq (p ∷ ps) (q ∷ qs) h = neither _ (differ_members eq ps qs (λ e. h (ap suc e)))

  pub values_count-of : (vs : List (Value O)) → values_count (values_of vs) ≡ length vs
  values_count-of [] = refl
  values_count-of (v ∷ vs) = ap suc (values_count-of vs)

pub ruleset count_laws = (values_count-of)
