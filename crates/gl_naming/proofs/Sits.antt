-- Where a tree sits right, what its names stand for differs: parts beside each other stand at different steps.
use Rattle.std.proofs.Common.{◌≡◌, ℕ, suc, List, [], ◌∷◌, ◌++◌, true, false, refl, sym, subst, arith, inl, inr}
use Rattle.std.proofs.lemmas.List.{map-append}
use Rattle.gl_meaning.specs.App.{App}
use Rattle.gl_meaning.specs.Eval.{class_at}
use Rattle.gl_meaning.specs.Known.{Among}
use Rattle.gl_meaning.specs.Laws.{NoRepeat, Within}
use Rattle.gl_meaning.specs.Order.{names_of}
use Rattle.gl_meaning.specs.Path.{PathStep, at, main, otherwise, items, slot, Path}
use Rattle.gl_meaning.proofs.Once.{no_repeat_append}
use Rattle.gl_meaning.proofs.Under.{within_itself, within_outer, steps_apart, not_below}
use Rattle.gl_plain.specs.State.{Inst}
use Rattle.gl_plain.specs.Live.{ItemSpot, Live, still, put_live, element_live, branch_live, listed, unlisted, let_live, component_live, yield_live, deep_live, Items, no_items, item_live, Lives, no_lives, live_and}
use Rattle.gl_plain.proofs.Apart.{Into, FromStep, into_more, from_apart}
pub use Rattle.gl_naming.specs.Sits.{step_of, IsBelow, StepIn, Sits, SitsItems, SitsIn}
use Rattle.gl_naming.proofs.Swaps.{values}
use Rattle.gl_naming.proofs.Ties.{ties, ties_items, ties_in}

module _ (app : App) {A : Type 0} (place : A → Path) where
  -- the place of each has the property
  abbrev pub Placed : (Path → Type 0) → List (ℕ × A) → Type 0
  Placed P [] = Unit {0}
  Placed P (x ∷ xs) = P (place x.1) × Placed P xs

  abbrev pub Differ : List (ℕ × A) → Type 0
  Differ xs = NoRepeat (values xs)

  pub placed_more : (P Q : Path → Type 0) → ((j : Path) → P j → Q j) → (xs : List (ℕ × A)) → Placed P xs → Placed Q xs
  placed_more P Q f [] h = tt
  placed_more P Q f (x ∷ xs) h = (f (place x.1) h.0, placed_more P Q f xs h.1)

  pub placed_join : (P : Path → Type 0) (xs ys : List (ℕ × A)) → Placed P xs → Placed P ys → Placed P (xs ++ ys)
  placed_join P [] ys h g = g
  placed_join P (x ∷ xs) ys h g = (h.0, placed_join P xs ys h.1 g)

  pub placed_one : (P : Path → Type 0) (v : A) (xs : List (ℕ × A)) → Placed P xs → Among v (values xs) → P (place v)
  placed_one P v [] h m = absurd m
  placed_one P v (x ∷ xs) h (inl e) = subst (λ w. P (place w)) (sym e) h.0
  placed_one P v (x ∷ xs) h (inr m) = placed_one P v xs h.1 m

  -- those of two places that have nothing in common
  pub differ_join : (P Q : Path → Type 0) → ((j : Path) → P j → Q j → ⊥) → (xs ys : List (ℕ × A)) → Differ xs → Differ ys → Placed P xs → Placed Q ys → Differ (xs ++ ys)
  differ_join P Q apart xs ys d e h g =
      subst NoRepeat (sym (map-append (λ x. x.1) xs ys))
      (no_repeat_append (values xs) (values ys) d e (λ v m n. apart (place v) (placed_one P v xs h m) (placed_one Q v ys g n)))

  module _ (of_instance : Inst → List (ℕ × A)) (of_item : Path → ItemSpot → List (ℕ × A))
      (at_instance : (i : Inst) → Placed (λ j. j ≡ i.path) (of_instance i)) (at_item : (q : Path) (z : ItemSpot) → Placed (λ j. j ≡ q) (of_item q z))
      (instance_differs : (i : Inst) → names_of i.cells ≡ names_of (class_at app i.path).fields → Differ (of_instance i)) (item_differs : (q : Path) (z : ItemSpot) → Differ (of_item q z)) where
    abbrev pub all_of : Path → Live → List (ℕ × A)
    all_of p l = ties of_instance of_item p l

    abbrev pub all_items : Path → Items → List (ℕ × A)
    all_items p is = ties_items of_instance of_item p is

    abbrev pub all_in : Path → ℕ → Lives → List (ℕ × A)
    all_in p i ls = ties_in of_instance of_item p i ls

    -- at a place: at one step below it
    pub in_step : (p : Path) (S : PathStep → Type 0) (j : Path) → Into p S j → Within p j
    in_step p S j w = within_outer w.0 p j w.2

    pub below : (l : PathStep) (p : Path) (S : PathStep → Type 0) (j : Path) → Into (l ∷ p) S j → Within p j
    below l p S j w = within_outer l p j (in_step (l ∷ p) S j w)

    pub at_place : (p j : Path) → j ≡ p → Within p j
    at_place p j e = subst (λ z. Within p z) (sym e) (within_itself p)

    pub first_step : (p : Path) (i : ℕ) (j : Path) → Within (at i ∷ p) j → Into p (FromStep i) j
    first_step p i j w = (at i, (i, omega arith, refl), w)

    pub further : (i : ℕ) (l : PathStep) → FromStep (suc i) l → FromStep i l
    further i l w = (w.0, (let b = w.1 in omega (arith, b)), w.2)

    -- what an item has, with its body
    pub placed_item : (q : Path) (z : ItemSpot) (ls : Lives) → Placed (λ j. Into q (FromStep 0) j) (all_in q 0 ls) → Placed (λ j. Within q j) (of_item q z ++ all_in q 0 ls)
    placed_item q z ls h =
        placed_join (λ j. Within q j) (of_item q z) (all_in q 0 ls) (placed_more (λ j. j ≡ q) (λ j. Within q j) (at_place q) (of_item q z) (at_item q z))
        (placed_more (λ j. Into q (FromStep 0) j) (λ j. Within q j) (in_step q (FromStep 0)) (all_in q 0 ls) h)

    mutual
      pub placed_of : (p : Path) (l : Live) → Sits app p l → Placed (λ j. Within p j) (all_of p l)
      placed_of p (still n) s = tt
      placed_of p (put_live n z) s = tt
      placed_of p (element_live n made xs zs ls) s = placed_more (λ j. Into p (FromStep 0) j) (λ j. Within p j) (in_step p (FromStep 0)) (all_in p 0 ls) (placed_in p 0 ls s)
      placed_of p (branch_live z true k ls) s = placed_more (λ j. Into (main ∷ p) (FromStep 0) j) (λ j. Within p j) (below main p (FromStep 0)) (all_in (main ∷ p) 0 ls) (placed_in (main ∷ p) 0 ls s)
      placed_of p (branch_live z false k ls) s =
          placed_more (λ j. Into (otherwise ∷ p) (FromStep 0) j) (λ j. Within p j) (below otherwise p (FromStep 0)) (all_in (otherwise ∷ p) 0 ls) (placed_in (otherwise ∷ p) 0 ls s)
      placed_of p (listed z is) s = placed_more (λ j. Into (items ∷ p) (StepIn is) j) (λ j. Within p j) (below items p (StepIn is)) (all_items (items ∷ p) is) (placed_items (items ∷ p) is s)
      placed_of p (unlisted z k ls) s =
          placed_more (λ j. Into (otherwise ∷ p) (FromStep 0) j) (λ j. Within p j) (below otherwise p (FromStep 0)) (all_in (otherwise ∷ p) 0 ls) (placed_in (otherwise ∷ p) 0 ls s)
      placed_of p (let_live made rs ls) s = placed_more (λ j. Into (main ∷ p) (FromStep 0) j) (λ j. Within p j) (below main p (FromStep 0)) (all_in (main ∷ p) 0 ls) (placed_in (main ∷ p) 0 ls s)
      placed_of p (component_live i made gm args k ls) s =
          placed_more (λ j. Within i.path j) (λ j. Within p j) s.0 (of_instance i ++ all_in i.path 0 ls)
          (placed_join (λ j. Within i.path j) (of_instance i) (all_in i.path 0 ls) (placed_more (λ j. j ≡ i.path) (λ j. Within i.path j) (at_place i.path) (of_instance i) (at_instance i))
          (placed_more (λ j. Into i.path (FromStep 0) j) (λ j. Within i.path j) (in_step i.path (FromStep 0)) (all_in i.path 0 ls) (placed_in i.path 0 ls s.2)))
      placed_of p (yield_live n made rs ls) s =
          placed_more (λ j. Into (slot n ∷ p) (FromStep 0) j) (λ j. Within p j) (below (slot n) p (FromStep 0)) (all_in (slot n ∷ p) 0 ls) (placed_in (slot n ∷ p) 0 ls s)
      placed_of p (deep_live q) s = tt

      pub placed_items : (p : Path) (is : Items) → SitsItems app p is → Placed (λ j. Into p (StepIn is) j) (all_items p is)
      placed_items p no_items s = tt
      placed_items p (item_live z k ls is) s =
          let q = step_of z ∷ p in
          placed_join (λ j. Into p (StepIn (item_live z k ls is)) j) (of_item q z ++ all_in q 0 ls) (all_items p is)
          (placed_more (λ j. Within q j) (λ j. Into p (StepIn (item_live z k ls is)) j) (λ j w. (step_of z, inl refl, w)) (of_item q z ++ all_in q 0 ls) (placed_item q z ls (placed_in q 0 ls s.1)))
          (placed_more (λ j. Into p (StepIn is) j) (λ j. Into p (StepIn (item_live z k ls is)) j) (into_more p (StepIn is) (StepIn (item_live z k ls is)) (λ l w. inr w)) (all_items p is) (placed_items p is s.2))

      pub placed_in : (p : Path) (i : ℕ) (ls : Lives) → SitsIn app p i ls → Placed (λ j. Into p (FromStep i) j) (all_in p i ls)
      placed_in p i no_lives s = tt
      placed_in p i (live_and l ls) s =
          placed_join (λ j. Into p (FromStep i) j) (all_of (at i ∷ p) l) (all_in p (suc i) ls)
          (placed_more (λ j. Within (at i ∷ p) j) (λ j. Into p (FromStep i) j) (first_step p i) (all_of (at i ∷ p) l) (placed_of (at i ∷ p) l s.0))
          (placed_more (λ j. Into p (FromStep (suc i)) j) (λ j. Into p (FromStep i) j) (into_more p (FromStep (suc i)) (FromStep i) (further i)) (all_in p (suc i) ls) (placed_in p (suc i) ls s.1))

    -- what is at a place isn't at a step below it
    pub off_body : (p j : Path) → j ≡ p → Into p (FromStep 0) j → ⊥
    off_body p j e w = not_below w.0 p (subst (λ z. Within (w.0 ∷ p) z) e w.2)

    pub off_items : (l : PathStep) (p : Path) (is : Items) → (StepIn is l → ⊥) → (j : Path) → Within (l ∷ p) j → Into p (StepIn is) j → ⊥
    off_items l p is none j w v = none (subst (StepIn is) (steps_apart v.0 l p j v.2 w) v.1)

    pub off_rest : (p : Path) (i : ℕ) (j : Path) → Within (at i ∷ p) j → Into p (FromStep (suc i)) j → ⊥
    off_rest p i j w v = from_apart i v.0 (steps_apart v.0 (at i) p j v.2 w) v.1

    mutual
      pub differ_of : (p : Path) (l : Live) → Sits app p l → Differ (all_of p l)
      differ_of p (still n) s = tt
      differ_of p (put_live n z) s = tt
      differ_of p (element_live n made xs zs ls) s = differ_in p 0 ls s
      differ_of p (branch_live z true k ls) s = differ_in (main ∷ p) 0 ls s
      differ_of p (branch_live z false k ls) s = differ_in (otherwise ∷ p) 0 ls s
      differ_of p (listed z is) s = differ_items (items ∷ p) is s
      differ_of p (unlisted z k ls) s = differ_in (otherwise ∷ p) 0 ls s
      differ_of p (let_live made rs ls) s = differ_in (main ∷ p) 0 ls s
      differ_of p (component_live i made gm args k ls) s =
          differ_join (λ j. j ≡ i.path) (λ j. Into i.path (FromStep 0) j) (off_body i.path) (of_instance i) (all_in i.path 0 ls) (instance_differs i s.1) (differ_in i.path 0 ls s.2)
          (at_instance i) (placed_in i.path 0 ls s.2)
      differ_of p (yield_live n made rs ls) s = differ_in (slot n ∷ p) 0 ls s
      differ_of p (deep_live q) s = tt

      pub differ_items : (p : Path) (is : Items) → SitsItems app p is → Differ (all_items p is)
      differ_items p no_items s = tt
      differ_items p (item_live z k ls is) s =
          let q = step_of z ∷ p in
          differ_join (λ j. Within q j) (λ j. Into p (StepIn is) j) (off_items (step_of z) p is s.0) (of_item q z ++ all_in q 0 ls) (all_items p is)
          (differ_join (λ j. j ≡ q) (λ j. Into q (FromStep 0) j) (off_body q) (of_item q z) (all_in q 0 ls) (item_differs q z) (differ_in q 0 ls s.1) (at_item q z) (placed_in q 0 ls s.1))
          (differ_items p is s.2) (placed_item q z ls (placed_in q 0 ls s.1)) (placed_items p is s.2)

      pub differ_in : (p : Path) (i : ℕ) (ls : Lives) → SitsIn app p i ls → Differ (all_in p i ls)
      differ_in p i no_lives s = tt
      differ_in p i (live_and l ls) s =
          differ_join (λ j. Within (at i ∷ p) j) (λ j. Into p (FromStep (suc i)) j) (off_rest p i) (all_of (at i ∷ p) l) (all_in p (suc i) ls) (differ_of (at i ∷ p) l s.0) (differ_in p (suc i) ls s.1)
          (placed_of (at i ∷ p) l s.0) (placed_in p (suc i) ls s.1)
