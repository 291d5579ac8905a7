-- What is given to a hash function, item by item.
use Rattle.std.proofs.Common.{◌≡◌, ℕ, zero, suc, ◌+◌, ◌<◌, ◌≤◌, List, [], ◌∷◌, ◌++◌, length, get_or, take, drop, fold, refl, ap, sym, ◌∙◌, append_assoc, add-one, arith}
use Rattle.std.specs.Prelude.{encode_utf8_all}
use Rattle.std.specs.Hash.{fed_then, fed_along}
use Rattle.std.proofs.lemmas.List.{map_more}
use Rattle.gl_base.specs.Texts.{Text}
use Rattle.gl_value.specs.Value.{Value, values_of, pairs_of, values_depth, members_depth}
use Rattle.gl_value.specs.View.{view, seen_items, seen_pair, seen_pairs}
use Rattle.gl_value.specs.declared.value.Value as code
use Rattle.gl_value.specs.declared.value.Pair as code_pair
use Rattle.gl_each.specs.Hashed.{fed_value, fed_values, fed_members}

append_nil : {A : Type 0} (xs : List A) → xs ++ [] ≡ xs
append_nil [] = refl
append_nil (x ∷ xs) = ap (λ l. x ∷ l) (append_nil xs)

pub fed_values-push : (vs : List (Value ℕ)) (v : Value ℕ) → fed_values (values_of (vs ++ v ∷ [])) ≡ fed_values (values_of vs) ++ fed_value v
fed_values-push [] v = append_nil (fed_value v)
fed_values-push (w ∷ vs) v = ap (λ l. fed_value w ++ l) (fed_values-push vs v) ∙ sym (append_assoc (fed_value w) (fed_values (values_of vs)) (fed_value v))

pub fed_members-push : (ps : List (Text × Value ℕ)) (p : Text × Value ℕ)
    → fed_members (pairs_of (ps ++ p ∷ [])) ≡ fed_members (pairs_of ps) ++ ((encode_utf8_all p.0 ∷ []) ++ fed_value p.1)
fed_members-push [] p = ap (λ l. encode_utf8_all p.0 ∷ l) (append_nil (fed_value p.1))
fed_members-push (q ∷ ps) p =
    ap (λ l. encode_utf8_all q.0 ∷ (fed_value q.1 ++ l)) (fed_members-push ps p)
    ∙ ap (λ l. encode_utf8_all q.0 ∷ l) (sym (append_assoc (fed_value q.1) (fed_members (pairs_of ps)) (encode_utf8_all p.0 ∷ fed_value p.1)))

-- what is left of a list is no deeper
pub shallow-item : (xs : List code.Value) (i : ℕ) → values_depth (values_of (seen_items (drop (i + 1) xs))) ≤ values_depth (values_of (seen_items (drop i xs)))
shallow-item xs i = rw add-one (by xs i) where
  by : (ys : List code.Value) (j : ℕ) → values_depth (values_of (seen_items (drop (suc j) ys))) ≤ values_depth (values_of (seen_items (drop j ys)))
  by [] j = omega arith
  by (y ∷ ys) zero = omega arith
  by (y ∷ ys) (suc j) = by ys j

pub shallow-pair : (xs : List code_pair.Pair) (i : ℕ) → members_depth (pairs_of (seen_pairs (drop (i + 1) xs))) ≤ members_depth (pairs_of (seen_pairs (drop i xs)))
shallow-pair xs i = rw add-one (by xs i) where
  by : (ys : List code_pair.Pair) (j : ℕ) → members_depth (pairs_of (seen_pairs (drop (suc j) ys))) ≤ members_depth (pairs_of (seen_pairs (drop j ys)))
  by [] j = omega arith
  by (y ∷ ys) zero = omega arith
  by (y ∷ ys) (suc j) = by ys j

-- one more item
module _ {S : Type 0} (write : S → List ℕ → S) (s t u : S) where
  pub feeds_item : (xs : List code.Value) (i : ℕ) (x : code.Value) → i < length xs
      → t ≡ fold write s (fed_values (values_of (seen_items (take i xs)))) → u ≡ fold write t (fed_value (view (get_or xs i x)))
      → u ≡ fold write s (fed_values (values_of (seen_items (take (i + 1) xs))))
  feeds_item xs i x h p q =
      fed_along write s u (sym (ap (λ vs. fed_values (values_of vs)) (map_more view xs i x h) ∙ fed_values-push (seen_items (take i xs)) (view (get_or xs i x))))
      (fed_then write s t u (fed_values (values_of (seen_items (take i xs)))) (fed_value (view (get_or xs i x))) p q)

  pub feeds_pair : (xs : List code_pair.Pair) (i : ℕ) (x : code_pair.Pair) (w : S) → i < length xs
      → t ≡ fold write s (fed_members (pairs_of (seen_pairs (take i xs)))) → w ≡ write t (encode_utf8_all (get_or xs i x).key) → u ≡ fold write w (fed_value (view (get_or xs i x).value))
      → u ≡ fold write s (fed_members (pairs_of (seen_pairs (take (i + 1) xs))))
  feeds_pair xs i x w h p q r =
      fed_along write s u (sym (ap (λ vs. fed_members (pairs_of vs)) (map_more seen_pair xs i x h) ∙ fed_members-push (seen_pairs (take i xs)) (seen_pair (get_or xs i x))))
      (fed_then write s t u (fed_members (pairs_of (seen_pairs (take i xs)))) ((encode_utf8_all (get_or xs i x).key ∷ []) ++ fed_value (view (get_or xs i x).value)) p (r ∙ ap (λ z. fold write z (fed_value (view (get_or xs i x).value))) q))
