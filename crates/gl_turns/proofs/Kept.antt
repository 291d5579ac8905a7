-- What is kept by path: each place of the new tree is one of the old tree, or has an id that was never given and a path that is new.
use Rattle.std.proofs.Common.{◌≡◌, ◌<◌, ◌≤◌, ◌+◌, ℕ, suc, List, [], ◌∷◌, ◌++◌, Bool, true, false, true≢false, Option, refl, sym, ap, ◌∙◌, subst, arith, inl, inr, ◌⊎◌}
use Rattle.std.proofs.lemmas.Bool.{cases_lt}
use Rattle.std.proofs.lemmas.Bool.Decides.{Decides-eqb}
use Rattle.gl_value.specs.Value.{undefined}
use Rattle.gl_ast.specs.Template.{Plain}
use Rattle.gl_meaning.specs.Path.{PathStep, at, main, otherwise, items, item, slot, Path, no_owners}
use Rattle.gl_meaning.specs.Known.{Among}
use Rattle.gl_meaning.specs.Laws.{Within}
use Rattle.gl_meaning.proofs.Pieces.{among_either, among_left, among_right}
use Rattle.gl_meaning.proofs.Equal.{same_itself, no_owners-Decides, both_true}
use Rattle.gl_meaning.proofs.Under.{within_itself, steps_apart}
use Rattle.gl_plain.specs.Ids.{Kind, Id, occurs}
use Rattle.gl_plain.specs.Live
use Rattle.gl_plain.specs.Live.{ItemSpot, Live, Lives, Items, item_made, times_in, times_items, times_comment}
use Rattle.gl_plain.specs.Keeps.{New, same_key, WhereTrue, EachItem, Keeps, KeepIn, KeptBy, item_count}
use Rattle.gl_plain.proofs.Apart.{Only, FromStep, from_apart}
use Rattle.gl_plain.proofs.Stay.{left_above, right_above}
use Rattle.gl_plain.proofs.Moves.{hit_self}
use Rattle.gl_turns.specs.Places.{Place, node_place, position_place, item_place, instance_place, path_of, id_of, comment_places, attr_places, mod_places, places, places_items, places_in}
use Rattle.gl_turns.specs.Fits.{StepsIn, Fits, FitsItems, FitsIn, FitsRoot}
use Rattle.gl_turns.proofs.Sites.{Sited, SitedAt, Apart, IsAttribute, IsModifier, IsEmpty, sited_apart, below_apart, apart_join, apart_cons, at_step, attrs_sited, mods_sited, comment_sited, arm_at, part_sited, items_sited, body_sited, Counted, arm_counted, items_counted, below_at, sited_join}

pub two_apart : (k l : PathStep) (p : Path) (xs ys : List Place) → (k ≡ l → ⊥) → SitedAt (k ∷ p) xs → SitedAt (l ∷ p) ys → Apart xs ys
two_apart k l p xs ys d f g a b m n e = d (steps_apart k l p (path_of a) (f a m) (subst (λ j. Within (l ∷ p) j) (sym e) (g b n)))

flipped_apart : (xs ys : List Place) → Apart xs ys → Apart ys xs
flipped_apart xs ys f a b m n e = f b a n m (sym e)

from_empty : (l : PathStep) → FromStep 0 l → IsEmpty l → ⊥
from_empty l w e = subst IsEmpty w.2 e

from_attribute : (l : PathStep) → FromStep 0 l → IsAttribute l → ⊥
from_attribute l w e = subst IsAttribute w.2 e

from_modifier : (l : PathStep) → FromStep 0 l → IsModifier l → ⊥
from_modifier l w e = subst IsModifier w.2 e

main_otherwise : main ≡ otherwise → ⊥
main_otherwise e = cc

items_otherwise : items ≡ otherwise → ⊥
items_otherwise e = cc

item_of_step : PathStep → Plain
item_of_step (item k n) = k
item_of_step _ = undefined

number_of_step : PathStep → ℕ
number_of_step (item k n) = n
number_of_step _ = 0

other_step : (y z : ItemSpot) → same_key y z ≡ false → item z.key z.occurrence ≡ item y.key y.occurrence → ⊥
unfolding item_of_step number_of_step
other_step y z e q =
    let a : z.key ≡ y.key = ap item_of_step q in
    let b : z.occurrence ≡ y.occurrence = ap number_of_step q in
    let c : Rattle.gl_value.specs.Value.same no_owners z.key y.key ≡ true = subst (λ k. Rattle.gl_value.specs.Value.same no_owners z.key k ≡ true) a (same_itself ⊥ no_owners no_owners-Decides z.key) in
    true≢false (sym (both_true _ _ c ((Decides-eqb z.occurrence y.occurrence).1 b)) ∙ e)

module _ (next : Kind → ℕ) where
  abbrev pub KeptOne : List Place → Place → Type 0
  KeptOne old a = Among a old ⊎ ((next (id_of a).kind ≤ (id_of a).num) × ((b : Place) → Among b old → path_of a ≡ path_of b → ⊥))

  abbrev pub Kept : List Place → List Place → Type 0
  Kept old new = (a : Place) → Among a new → KeptOne old a

  kept_same : (xs : List Place) → Kept xs xs
  kept_same xs a m = inl m

  -- more of the old tree, apart from this
  more_right : (xs ys zs : List Place) → Kept xs zs → Apart zs ys → Kept (xs ++ ys) zs
  more_right xs ys zs h d a m = elim (h a m) [
    | inl k ↦ inl (among_left a xs ys k)
    | inr k ↦ inr (k.0, λ b n e. elim (among_either b xs ys n) [ inl u ↦ k.1 b u e | inr u ↦ d a b m u e ])
  ]

  more_left : (xs ys zs : List Place) → Kept ys zs → Apart zs xs → Kept (xs ++ ys) zs
  more_left xs ys zs h d a m = elim (h a m) [
    | inl k ↦ inl (among_right a xs ys k)
    | inr k ↦ inr (k.0, λ b n e. elim (among_either b xs ys n) [ inl u ↦ d a b m u e | inr u ↦ k.1 b u e ])
  ]

  either_kept : (old xs ys : List Place) → Kept old xs → Kept old ys → Kept old (xs ++ ys)
  either_kept old xs ys h g a m = elim (among_either a xs ys m) [ inl k ↦ h a k | inr k ↦ g a k ]

  among_all : (xs ys : List Place) → Kept (xs ++ ys) xs
  among_all xs ys a m = inl (among_left a xs ys m)

  before_same : (xs ys ys' : List Place) → Kept ys ys' → Apart ys' xs → Kept (xs ++ ys) (xs ++ ys')
  before_same xs ys ys' h d = either_kept (xs ++ ys) xs ys' (among_all xs ys) (more_left xs ys ys' h d)

  after_same : (xs xs' ys : List Place) → Kept xs xs' → Apart xs' ys → Kept (xs ++ ys) (xs' ++ ys)
  after_same xs xs' ys h d = either_kept (xs ++ ys) xs' ys (more_right xs ys xs' h d) (λ a m. inl (among_right a xs ys m))

  both_kept : (xs xs' ys ys' : List Place) → Kept xs xs' → Kept ys ys' → Apart xs' ys → Apart ys' xs → Kept (xs ++ ys) (xs' ++ ys')
  both_kept xs xs' ys ys' h g d e = either_kept (xs ++ ys) xs' ys' (more_right xs ys xs' h d) (more_left xs ys ys' g e)

  fresh : (count : Id → ℕ) (old xs : List Place) → New next count → Counted count xs → Apart xs old → Kept old xs
  fresh count old xs new c d a m = inr (by (cases_lt (id_of a).num (next (id_of a).kind)), λ b n e. d a b m n e) where
    by : (((id_of a).num < next (id_of a).kind) ⊎ (next (id_of a).kind ≤ (id_of a).num)) → next (id_of a).kind ≤ (id_of a).num
    by (inl lt) = let z = new (id_of a) lt in let w = c a m in absurd (omega (arith, z, w))
    by (inr le) = le

  arm_kept : (p : Path) (k : Option ℕ) (ls ls' : Lives) → FitsIn p 0 ls' → Kept (places_in p 0 ls) (places_in p 0 ls') → Kept (places_in p 0 ls ++ comment_places p k) (places_in p 0 ls' ++ comment_places p k)
  arm_kept p k ls ls' f h =
      after_same (places_in p 0 ls) (places_in p 0 ls') (comment_places p k) h
      (sited_apart p (FromStep 0) IsEmpty (places_in p 0 ls') (comment_places p k) from_empty (body_sited p 0 ls' f) (comment_sited p k))

  -- what stands below a position at p
  below_kept : (l : PathStep) (p : Path) (r : ℕ) (ys ys' : List Place) → SitedAt (l ∷ p) ys' → Kept ys ys' → Kept (position_place p r ∷ ys) (position_place p r ∷ ys')
  below_kept l p r ys ys' s h = before_same (position_place p r ∷ []) ys ys' h (below_apart p (Only l) ys' (position_place p r) refl (at_step l p (Only l) ys' s refl))

  element_kept : (p : Path) (n : ℕ) (xs : List Live.AttrSpot) (zs : List Live.ModSpot) (ls ls' : Lives) → FitsIn p 0 ls' → Kept (places_in p 0 ls) (places_in p 0 ls')
      → Kept (node_place p n ∷ (attr_places p xs ++ (places_in p 0 ls ++ mod_places p 0 zs))) (node_place p n ∷ (attr_places p xs ++ (places_in p 0 ls' ++ mod_places p 0 zs)))
  element_kept p n xs zs ls ls' f h =
      let b = body_sited p 0 ls' f in
      let attrs = attr_places p xs in
      let ms = mod_places p 0 zs in
      let inside = places_in p 0 ls in
      let inside' = places_in p 0 ls' in
      let hm : Kept (inside ++ ms) (inside' ++ ms) = after_same inside inside' ms h (sited_apart p (FromStep 0) IsModifier inside' ms from_modifier b (mods_sited p 0 zs)) in
      before_all (node_place p n ∷ attrs) inside inside' ms h
      (apart_cons inside' (node_place p n) attrs (below_apart p (FromStep 0) inside' (node_place p n) refl b) (sited_apart p (FromStep 0) IsAttribute inside' attrs from_attribute b (attrs_sited p xs)))
      (sited_apart p (FromStep 0) IsModifier inside' ms from_modifier b (mods_sited p 0 zs)) where
        -- the same before and after it
        before_all : (us is is' vs : List Place) → Kept is is' → Apart is' us → Apart is' vs → Kept (us ++ (is ++ vs)) (us ++ (is' ++ vs))
        before_all us is is' vs g d e =
            either_kept (us ++ (is ++ vs)) us (is' ++ vs) (among_all us (is ++ vs))
            (either_kept (us ++ (is ++ vs)) is' vs (more_left us (is ++ vs) is' (more_right is vs is' g e) d) (λ a m. inl (among_right a us (is ++ vs) (among_right a is vs m))))

  -- an item of now
  pub item_count_same : (z : ItemSpot) (k : Option ℕ) (ls : Lives) (p : Path) → FitsIn (item z.key z.occurrence ∷ p) 0 ls
      → Counted (item_count z k ls) (item_place (item z.key z.occurrence ∷ p) z ∷ (places_in (item z.key z.occurrence ∷ p) 0 ls ++ comment_places (item z.key z.occurrence ∷ p) k))
  item_count_same z k ls p f a (inl e) = subst (λ b. 0 < item_count z k ls (id_of b)) (sym e) (left_above _ _ (left_above _ _ (hit_self (Rattle.gl_plain.specs.Ids.ref z.value))))
  item_count_same z k ls p f a (inr m) = right_above _ _ (arm_counted (item z.key z.occurrence ∷ p) k ls f a m)

  item_at : (z : ItemSpot) (k : Option ℕ) (ls : Lives) (p : Path) → FitsIn (item z.key z.occurrence ∷ p) 0 ls
      → SitedAt (item z.key z.occurrence ∷ p) (item_place (item z.key z.occurrence ∷ p) z ∷ (places_in (item z.key z.occurrence ∷ p) 0 ls ++ comment_places (item z.key z.occurrence ∷ p) k))
  item_at z k ls p f a (inl e) = subst (λ j. Within (item z.key z.occurrence ∷ p) j) (sym (ap path_of e)) (within_itself (item z.key z.occurrence ∷ p))
  item_at z k ls p f a (inr m) = arm_at (item z.key z.occurrence ∷ p) k (places_in (item z.key z.occurrence ∷ p) 0 ls) (body_sited (item z.key z.occurrence ∷ p) 0 ls f) a m

  abbrev pub item_list : Path → ItemSpot → Option ℕ → Lives → List Place
  item_list p z k ls = item_place (item z.key z.occurrence ∷ p) z ∷ (places_in (item z.key z.occurrence ∷ p) 0 ls ++ comment_places (item z.key z.occurrence ∷ p) k)

  -- another body
  arms_kept : (l l' : PathStep) (p : Path) (r : ℕ) (k k' : Option ℕ) (ls ls' : Lives) → (l ≡ l' → ⊥) → FitsIn (l ∷ p) 0 ls → FitsIn (l' ∷ p) 0 ls' → New next (λ q. times_in q ls' + times_comment q k')
      → Kept (position_place p r ∷ (places_in (l ∷ p) 0 ls ++ comment_places (l ∷ p) k)) (position_place p r ∷ (places_in (l' ∷ p) 0 ls' ++ comment_places (l' ∷ p) k'))
  arms_kept l l' p r k k' ls ls' d f f' h =
      let inside = places_in (l ∷ p) 0 ls ++ comment_places (l ∷ p) k in
      let inside' = places_in (l' ∷ p) 0 ls' ++ comment_places (l' ∷ p) k' in
      let s' = arm_at (l' ∷ p) k' (places_in (l' ∷ p) 0 ls') (body_sited (l' ∷ p) 0 ls' f') in
      below_kept l' p r inside inside' s' (fresh (λ q. times_in q ls' + times_comment q k') inside inside' h (arm_counted (l' ∷ p) k' ls' f')
      (two_apart l' l p inside' inside (λ e. d (sym e)) s' (arm_at (l ∷ p) k (places_in (l ∷ p) 0 ls) (body_sited (l ∷ p) 0 ls f))))

  items_kept : (p : Path) (is is' : Items) → ((z : ItemSpot) (k : Option ℕ) (ls : Lives) → FitsIn (item z.key z.occurrence ∷ p) 0 ls → KeptBy next is z k ls → Kept (places_items p is) (item_list p z k ls))
      → FitsItems p is' → EachItem (KeptBy next is) is' → Kept (places_items p is) (places_items p is')
  items_kept p is Live.no_items one f h = λ a m. absurd m
  items_kept p is (Live.item_live z k ls is') one f h = either_kept (places_items p is) (item_list p z k ls) (places_items p is') (one z k ls f.1 h.0) (items_kept p is is' one f.2 h.1)

  mutual
    pub part_kept : (p : Path) (l l' : Live) → Fits p l → Fits p l' → Keeps next l l' → Kept (places p l) (places p l')
    part_kept p (Live.still n) (Live.still n') f f' h = subst (λ k. Kept (places p (Live.still n)) (places p (Live.still k))) (sym h) (kept_same (places p (Live.still n)))
    part_kept p (Live.put_live n z) (Live.put_live n' z') f f' h =
        subst (λ k. Kept (places p (Live.put_live n z)) (places p (Live.put_live k z'))) (sym h.0)
        (subst (λ k. Kept (places p (Live.put_live n z)) (places p (Live.put_live n k))) (sym h.1) (kept_same (places p (Live.put_live n z))))
    part_kept p (Live.element_live n made xs zs ls) (Live.element_live n' made' xs' zs' ls') f f' h =
        let old = places p (Live.element_live n made xs zs ls) in
        subst (λ k. Kept old (node_place p k ∷ (attr_places p xs' ++ (places_in p 0 ls' ++ mod_places p 0 zs')))) (sym h.0)
        (subst (λ k. Kept old (node_place p n ∷ (attr_places p k ++ (places_in p 0 ls' ++ mod_places p 0 zs')))) (sym h.2)
        (subst (λ k. Kept old (node_place p n ∷ (attr_places p xs ++ (places_in p 0 ls' ++ mod_places p 0 k)))) (sym h.3)
        (element_kept p n xs zs ls ls' f'.2 (body_kept p 0 ls ls' f.2 f'.2 h.4))))
    part_kept p (Live.branch_live z true k ls) (Live.branch_live z' true k' ls') f f' h =
        subst (λ y. Kept (places p (Live.branch_live z true k ls)) (places p (Live.branch_live y true k' ls'))) (sym h.0)
        (subst (λ y. Kept (places p (Live.branch_live z true k ls)) (places p (Live.branch_live z true y ls'))) (sym h.1)
        (below_kept main p z.ref _ _ (arm_at (main ∷ p) k (places_in (main ∷ p) 0 ls') (body_sited (main ∷ p) 0 ls' f'.1)) (arm_kept (main ∷ p) k ls ls' f'.1 (body_kept (main ∷ p) 0 ls ls' f.1 f'.1 h.2))))
    part_kept p (Live.branch_live z false k ls) (Live.branch_live z' false k' ls') f f' h =
        subst (λ y. Kept (places p (Live.branch_live z false k ls)) (places p (Live.branch_live y false k' ls'))) (sym h.0)
        (subst (λ y. Kept (places p (Live.branch_live z false k ls)) (places p (Live.branch_live z false y ls'))) (sym h.1)
        (below_kept otherwise p z.ref _ _ (arm_at (otherwise ∷ p) k (places_in (otherwise ∷ p) 0 ls') (body_sited (otherwise ∷ p) 0 ls' f'.1)) (arm_kept (otherwise ∷ p) k ls ls' f'.1 (body_kept (otherwise ∷ p) 0 ls ls' f.1 f'.1 h.2))))
    part_kept p (Live.branch_live z true k ls) (Live.branch_live z' false k' ls') f f' h =
        subst (λ y. Kept (places p (Live.branch_live z true k ls)) (places p (Live.branch_live y false k' ls'))) (sym h.0)
        (arms_kept main otherwise p z.ref k k' ls ls' main_otherwise f.1 f'.1 h.1)
    part_kept p (Live.branch_live z false k ls) (Live.branch_live z' true k' ls') f f' h =
        subst (λ y. Kept (places p (Live.branch_live z false k ls)) (places p (Live.branch_live y true k' ls'))) (sym h.0)
        (arms_kept otherwise main p z.ref k k' ls ls' (λ e. main_otherwise (sym e)) f.1 f'.1 h.1)
    part_kept p (Live.listed z is) (Live.listed z' is') f f' h =
        subst (λ y. Kept (places p (Live.listed z is)) (places p (Live.listed y is'))) (sym h.0)
        (below_kept items p z.ref _ _ (below_at (items ∷ p) (StepsIn is') (places_items (items ∷ p) is') (items_sited (items ∷ p) is' f'.1)) (items_kept (items ∷ p) is is' (λ y k ls g. one_kept (items ∷ p) is y k ls f.1 g) f'.1 h.1))
    part_kept p (Live.listed z is) (Live.unlisted z' k' ls') f f' h =
        let inside' = places_in (otherwise ∷ p) 0 ls' ++ comment_places (otherwise ∷ p) k' in
        let s' = arm_at (otherwise ∷ p) k' (places_in (otherwise ∷ p) 0 ls') (body_sited (otherwise ∷ p) 0 ls' f'.1) in
        subst (λ y. Kept (places p (Live.listed z is)) (places p (Live.unlisted y k' ls'))) (sym h.0)
        (below_kept otherwise p z.ref _ _ s' (fresh (λ q. times_in q ls' + times_comment q k') (places_items (items ∷ p) is) inside' h.1 (arm_counted (otherwise ∷ p) k' ls' f'.1)
        (two_apart otherwise items p inside' (places_items (items ∷ p) is) (λ e. items_otherwise (sym e)) s' (below_at (items ∷ p) (StepsIn is) (places_items (items ∷ p) is) (items_sited (items ∷ p) is f.1)))))
    part_kept p (Live.unlisted z k ls) (Live.listed z' is') f f' h =
        let inside = places_in (otherwise ∷ p) 0 ls ++ comment_places (otherwise ∷ p) k in
        let s' = below_at (items ∷ p) (StepsIn is') (places_items (items ∷ p) is') (items_sited (items ∷ p) is' f'.1) in
        subst (λ y. Kept (places p (Live.unlisted z k ls)) (places p (Live.listed y is'))) (sym h.0)
        (below_kept items p z.ref _ _ s' (fresh (λ q. times_items q is') inside (places_items (items ∷ p) is') h.1 (items_counted (items ∷ p) is' f'.1)
        (two_apart items otherwise p (places_items (items ∷ p) is') inside items_otherwise s' (arm_at (otherwise ∷ p) k (places_in (otherwise ∷ p) 0 ls) (body_sited (otherwise ∷ p) 0 ls f.1)))))
    part_kept p (Live.unlisted z k ls) (Live.unlisted z' k' ls') f f' h =
        subst (λ y. Kept (places p (Live.unlisted z k ls)) (places p (Live.unlisted y k' ls'))) (sym h.0)
        (subst (λ y. Kept (places p (Live.unlisted z k ls)) (places p (Live.unlisted z y ls'))) (sym h.1)
        (below_kept otherwise p z.ref _ _ (arm_at (otherwise ∷ p) k (places_in (otherwise ∷ p) 0 ls') (body_sited (otherwise ∷ p) 0 ls' f'.1)) (arm_kept (otherwise ∷ p) k ls ls' f'.1 (body_kept (otherwise ∷ p) 0 ls ls' f.1 f'.1 h.2))))
    part_kept p (Live.let_live made rs ls) (Live.let_live made' rs' ls') f f' h = body_kept (main ∷ p) 0 ls ls' f f' h.2
    part_kept p (Live.component_live i made gm args b ls) (Live.component_live i' made' gm' args' b' ls') f f' h =
        let old = instance_place i.path i ∷ places_in i.path 0 ls in
        let g : FitsIn i.path 0 ls' = subst (λ y. FitsIn y.path 0 ls') h.0 f'.3 in
        subst (λ y. Kept old (instance_place y.path y ∷ places_in y.path 0 ls')) (sym h.0)
        (before_same (instance_place i.path i ∷ []) (places_in i.path 0 ls) (places_in i.path 0 ls') (body_kept i.path 0 ls ls' f.3 g h.4)
        (below_apart i.path (FromStep 0) (places_in i.path 0 ls') (instance_place i.path i) refl (body_sited i.path 0 ls' g)))
    part_kept p (Live.yield_live n made rs ls) (Live.yield_live n' made' rs' ls') f f' h =
        subst (λ k. Kept (places_in (slot n ∷ p) 0 ls) (places_in (slot k ∷ p) 0 ls')) (sym h.0)
        (body_kept (slot n ∷ p) 0 ls ls' f (subst (λ k. FitsIn (slot k ∷ p) 0 ls') h.0 f') h.3)
    part_kept p (Live.deep_live q) (Live.deep_live q') f f' h = λ a m. absurd m
    part_kept p _ _ f f' h = absurd h

    pub body_kept : (p : Path) (i : ℕ) (ls ls' : Lives) → FitsIn p i ls → FitsIn p i ls' → KeepIn next ls ls' → Kept (places_in p i ls) (places_in p i ls')
    body_kept p i Live.no_lives Live.no_lives f f' h = λ a m. absurd m
    body_kept p i (Live.live_and l ls) (Live.live_and l' ls') f f' h =
        both_kept (places (at i ∷ p) l) (places (at i ∷ p) l') (places_in p (suc i) ls) (places_in p (suc i) ls') (part_kept (at i ∷ p) l l' f.0 f'.0 h.0) (body_kept p (suc i) ls ls' f.1 f'.1 h.1)
        (sited_apart p (Only (at i)) (FromStep (suc i)) (places (at i ∷ p) l') (places_in p (suc i) ls) (from_apart i) (at_step (at i) p (Only (at i)) (places (at i ∷ p) l') (part_sited (at i ∷ p) l' f'.0) refl) (body_sited p (suc i) ls f.1))
        (flipped_apart (places (at i ∷ p) l) (places_in p (suc i) ls')
        (sited_apart p (Only (at i)) (FromStep (suc i)) (places (at i ∷ p) l) (places_in p (suc i) ls') (from_apart i) (at_step (at i) p (Only (at i)) (places (at i ∷ p) l) (part_sited (at i ∷ p) l f.0) refl) (body_sited p (suc i) ls' f'.1)))
    body_kept p i _ _ f f' h = absurd h

    one_kept : (p : Path) (is : Items) (z : ItemSpot) (k : Option ℕ) (ls : Lives) → FitsItems p is → FitsIn (item z.key z.occurrence ∷ p) 0 ls → KeptBy next is z k ls → Kept (places_items p is) (item_list p z k ls)
    one_kept p Live.no_items z k ls f f' h = fresh (item_count z k ls) [] (item_list p z k ls) h (item_count_same z k ls p f') (λ a b m n e. n)
    one_kept p (Live.item_live y j ms is) z k ls f f' h =
        by (same_key y z) refl h (λ e. body_kept (item y.key y.occurrence ∷ p) 0 ms ls f.1 (subst (λ x. FitsIn (item x.key x.occurrence ∷ p) 0 ls) e f')) (one_kept p is z k ls f.2 f') where
          by : (d : Bool) → same_key y z ≡ d → WhereTrue d ((z ≡ y) × (k ≡ j) × KeepIn next ms ls) (KeptBy next is z k ls)
              → (z ≡ y → KeepIn next ms ls → Kept (places_in (item y.key y.occurrence ∷ p) 0 ms) (places_in (item y.key y.occurrence ∷ p) 0 ls))
              → (KeptBy next is z k ls → Kept (places_items p is) (item_list p z k ls)) → Kept (item_list p y j ms ++ places_items p is) (item_list p z k ls)
          by true e g inside rest =
              let q = item y.key y.occurrence ∷ p in
              let f1 : FitsIn q 0 ls = subst (λ x. FitsIn (item x.key x.occurrence ∷ p) 0 ls) g.0 f' in
              let new = item_list p y j ls in
              subst (λ x. Kept (item_list p y j ms ++ places_items p is) (item_list p x k ls)) (sym g.0)
              (subst (λ x. Kept (item_list p y j ms ++ places_items p is) (item_list p y x ls)) (sym g.1)
              (more_right (item_list p y j ms) (places_items p is) new
              (before_same (item_place q y ∷ []) (places_in q 0 ms ++ comment_places q j) (places_in q 0 ls ++ comment_places q j) (arm_kept q j ms ls f1 (inside g.0 g.2))
              (apart_of q y j ls f1))
              (sited_apart p (Only (item y.key y.occurrence)) (StepsIn is) new (places_items p is) (λ l u v. f.0 (subst (StepsIn is) u v)) (at_step (item y.key y.occurrence) p (Only (item y.key y.occurrence)) new (item_at y j ls p f1) refl) (items_sited p is f.2)))) where
                apart_of : (q : Path) (y : ItemSpot) (j : Option ℕ) (ls : Lives) → FitsIn q 0 ls → Apart (places_in q 0 ls ++ comment_places q j) (item_place q y ∷ [])
                apart_of q y j ls g =
                    below_apart q (λ l. FromStep 0 l ⊎ IsEmpty l) (places_in q 0 ls ++ comment_places q j) (item_place q y) refl
                    (sited_join q (λ l. FromStep 0 l ⊎ IsEmpty l) (places_in q 0 ls) (comment_places q j)
                    (Rattle.gl_turns.proofs.Sites.sited_more q (FromStep 0) (λ l. FromStep 0 l ⊎ IsEmpty l) (places_in q 0 ls) (λ l w. inl w) (body_sited q 0 ls g))
                    (Rattle.gl_turns.proofs.Sites.sited_more q IsEmpty (λ l. FromStep 0 l ⊎ IsEmpty l) (comment_places q j) (λ l w. inr w) (comment_sited q j)))
          by false e g inside rest =
              more_left (item_list p y j ms) (places_items p is) (item_list p z k ls) (rest g)
              (two_apart (item z.key z.occurrence) (item y.key y.occurrence) p (item_list p z k ls) (item_list p y j ms) (other_step y z e) (item_at z k ls p f') (item_at y j ms p f.1))

  pub root_kept : (l l' : Live) → FitsRoot l → FitsRoot l' → Keeps next l l' → Kept (places [] l) (places [] l')
  root_kept (Live.component_live i made gm args b ls) (Live.component_live i' made' gm' args' b' ls') f f' h =
      let old = instance_place i.path i ∷ places_in i.path 0 ls in
      let at_root = subst (λ q. FitsIn q 0 ls) (sym f.0) f.2 in
      let g : FitsIn i.path 0 ls' = subst (λ q. FitsIn q 0 ls') (sym f.0) f'.2 in
      subst (λ y. Kept old (instance_place y.path y ∷ places_in y.path 0 ls')) (sym h.0)
      (before_same (instance_place i.path i ∷ []) (places_in i.path 0 ls) (places_in i.path 0 ls') (body_kept i.path 0 ls ls' at_root g h.4)
      (below_apart i.path (FromStep 0) (places_in i.path 0 ls') (instance_place i.path i) refl (body_sited i.path 0 ls' g)))
  root_kept (Live.deep_live q) (Live.deep_live q') f f' h = λ a m. absurd m
  root_kept (Live.component_live i made gm args b ls) _ f f' h = absurd h
  root_kept (Live.deep_live q) _ f f' h = absurd h
  root_kept _ _ f f' h = absurd f
