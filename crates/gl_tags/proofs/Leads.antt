-- Lists of leads that answer each test alike.
use Rattle.std.proofs.Common.{◌≡◌, ℕ, true, false, Bool, not, List, [], ◌∷◌, ◌++◌, flat_map, Option, Some, None, refl, sym, ap, ◌∙◌, cond, take, drop, length}
use Rattle.std.specs.List.{list_any, dedup, dedup_from}
use Rattle.std.specs.Prelude.{◌||◌}
use Rattle.std.proofs.lemmas.List.Folds.{list_any-append}
use Rattle.std.proofs.lemmas.List.Sorted.{list_any-IsPermutation}
use Rattle.std.specs.List.Sorted.{IsPermutation}
use Rattle.gl_arena.specs.Id.{Id, same_id}
use Rattle.gl_arena.specs.Arena.{Arena, named}
use Rattle.gl_arena.proofs.Ids.{same_id-true}
use Rattle.gl_tags.specs.Tags as m

twice : (a b : Bool) → (a || b) ≡ (a || (a || b))
twice true b = refl
twice false b = refl

from_by : (p : Id → Bool) (x y : Id) (ys : List Id) (b : Bool) → same_id y x ≡ b → list_any p (dedup_from same_id x ys) ≡ (p x || list_any p ys) → list_any p (dedup_from same_id y ys) ≡ (p y || list_any p ys)
    → list_any p (cond b (dedup_from same_id x ys) (x ∷ dedup_from same_id y ys)) ≡ (p x || (p y || list_any p ys))
from_by p x y ys true e f g = f ∙ (twice (p x) (list_any p ys) ∙ ap (λ z. p x || (p z || list_any p ys)) (sym (same_id-true y x e)))
from_by p x y ys false e f g = ap (λ b. p x || b) g

from_same : (p : Id → Bool) (x : Id) (xs : List Id) → list_any p (dedup_from same_id x xs) ≡ (p x || list_any p xs)
from_same p x [] = refl
from_same p x (y ∷ ys) = from_by p x y ys (same_id y x) refl (from_same p x ys) (from_same p y ys)

pub dedup_same : (xs : List Id) → m.SameLeads (dedup same_id xs) xs
dedup_same [] p = refl
dedup_same (x ∷ xs) p = from_same p x xs

any_flat : (p : Id → Bool) (f : Id → List Id) (xs : List Id) → ((x : Id) → list_any p (f x) ≡ false) → list_any p (flat_map f xs) ≡ false
any_flat p f [] h = refl
any_flat p f (x ∷ xs) h = list_any-append p (f x) (flat_map f xs) ∙ rw (h x, any_flat p f xs h) refl

-- what sound tags lead to is dirtyable
pub leads_fixed : (a : Arena m.Tag) (clock c : ℕ) (parts : List Id) → ((i : Id) → m.IsRight a clock c (named a i)) → list_any (λ k. not (m.is_dirtyable (named a k))) (flat_map (m.leads_of a) parts) ≡ false
leads_fixed a clock c parts h = any_flat (λ k. not (m.is_dirtyable (named a k))) (m.leads_of a) parts (λ x. one x (named a x) refl (h x)) where
  one : (x : Id) (o : Option m.Tag) → named a x ≡ o → m.IsRight a clock c o → list_any (λ k. not (m.is_dirtyable (named a k))) (m.leads_by x o) ≡ false
  one x None e r = refl
  one x (Some m.constant) e r = refl
  one x (Some (m.dirtyable q o)) e r = ap (λ b. b || false) (ap (λ t. not (m.is_dirtyable t)) e)
  one x (Some (m.combined leads)) e r = r

pub gathered : (xs ys zs : List Id) → IsPermutation xs ys → zs ≡ dedup same_id ys → m.SameLeads zs xs
gathered xs ys zs g e p = ap (list_any p) e ∙ (dedup_same ys p ∙ sym (list_any-IsPermutation p xs ys g))

take_front : (ws ys : List Id) → take (length ws) (ws ++ ys) ≡ ws
take_front [] ys = refl
take_front (w ∷ ws) ys = ap (λ zs. w ∷ zs) (take_front ws ys)

pub refilled : (ws xs : List Id) → length ws ≡ length xs → take (length xs) (ws ++ drop (length ws) xs) ≡ ws
refilled ws xs e = rw (← e) (take_front ws (drop (length ws) xs))
