-- An instance that is found by its number is tied to it in the tree.
use Rattle.std.proofs.Common.{◌≡◌, ℕ, suc, List, ◌∷◌, ◌++◌, true, false, Some, refl, sym, subst, inl, inr}
use Rattle.std.specs.Prelude.{nat_eq}
use Rattle.std.proofs.lemmas.Bool.{eqb-true}
use Rattle.gl_meaning.specs.Path.{Path, at, main, otherwise, items, item, slot}
use Rattle.gl_meaning.specs.Known.{Among}
use Rattle.gl_meaning.proofs.Pieces.{among_left, among_right, none_some}
use Rattle.gl_plain.specs.State.{Names, Inst}
use Rattle.gl_plain.specs.Live.{Live, still, put_live, element_live, branch_live, listed, unlisted, let_live, component_live, yield_live, deep_live, Items, no_items, item_live, Lives, no_lives, live_and}
use Rattle.gl_naming.specs.Ties.{ties, ties_items, ties_in, own_tie, no_tie}
use Rattle.gl_acting.specs.Found.{instance_in, instance_of_items, instance_among}
use Rattle.gl_acting.proofs.Picked.{picked_either, picked_own}

abbrev pub Tied : ℕ → Inst × Names → List (ℕ × Path) → Type 0
Tied k z ts = (z.0.id ≡ k) × Among (z.0.id, z.0.path) ts

tied_left : (k : ℕ) (z : Inst × Names) (xs ys : List (ℕ × Path)) → Tied k z xs → Tied k z (xs ++ ys)
tied_left k z xs ys t = (t.0, among_left (z.0.id, z.0.path) xs ys t.1)

tied_right : (k : ℕ) (z : Inst × Names) (xs ys : List (ℕ × Path)) → Tied k z ys → Tied k z (xs ++ ys)
tied_right k z xs ys t = (t.0, among_right (z.0.id, z.0.path) xs ys t.1)

mutual
  pub tied : (k : ℕ) (z : Inst × Names) (p : Path) (l : Live) → instance_in k l ≡ Some z → Tied k z (ties own_tie no_tie p l)
  tied k z p (still n) e = absurd (none_some z e)
  tied k z p (put_live n x) e = absurd (none_some z e)
  tied k z p (element_live n made xs zs ls) e = tied_in k z p 0 ls e
  tied k z p (branch_live x true c ls) e = tied_in k z (main ∷ p) 0 ls e
  tied k z p (branch_live x false c ls) e = tied_in k z (otherwise ∷ p) 0 ls e
  tied k z p (listed x is) e = tied_items k z (items ∷ p) is e
  tied k z p (unlisted x c ls) e = tied_in k z (otherwise ∷ p) 0 ls e
  tied k z p (let_live made rs ls) e = tied_in k z (main ∷ p) 0 ls e
  tied k z p (component_live i made gm args b ls) e = elim (picked_own (nat_eq k i.id) (i, args) z (instance_among k ls) e) [
    | inl w ↦ subst (λ y. Tied k y (own_tie i ++ ties_in own_tie no_tie i.path 0 ls)) w.1 (sym (eqb-true k i.id w.0), inl refl)
    | inr w ↦ tied_right k z (own_tie i) (ties_in own_tie no_tie i.path 0 ls) (tied_in k z i.path 0 ls w)
  ]
  tied k z p (yield_live n made rs ls) e = tied_in k z (slot n ∷ p) 0 ls e
  tied k z p (deep_live q) e = absurd (none_some z e)

  tied_items : (k : ℕ) (z : Inst × Names) (p : Path) (is : Items) → instance_of_items k is ≡ Some z → Tied k z (ties_items own_tie no_tie p is)
  tied_items k z p no_items e = absurd (none_some z e)
  tied_items k z p (item_live x c ls is) e =
      let q = item x.key x.occurrence ∷ p in
      let here = ties_in own_tie no_tie q 0 ls in
      let later = ties_items own_tie no_tie p is in
      elim (picked_either (instance_among k ls) (instance_of_items k is) z e) [ inl w ↦ tied_left k z here later (tied_in k z q 0 ls w) | inr w ↦ tied_right k z here later (tied_items k z p is w) ]

  tied_in : (k : ℕ) (z : Inst × Names) (p : Path) (i : ℕ) (ls : Lives) → instance_among k ls ≡ Some z → Tied k z (ties_in own_tie no_tie p i ls)
  tied_in k z p i no_lives e = absurd (none_some z e)
  tied_in k z p i (live_and l ls) e =
      let here = ties own_tie no_tie (at i ∷ p) l in
      let later = ties_in own_tie no_tie p (suc i) ls in
      elim (picked_either (instance_in k l) (instance_among k ls) z e) [ inl w ↦ tied_left k z here later (tied k z (at i ∷ p) l w) | inr w ↦ tied_right k z here later (tied_in k z p (suc i) ls w) ]
