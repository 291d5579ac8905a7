-- Where the places of a part stand, and that they are the part's own.
use Rattle.std.proofs.Common.{◌≡◌, ◌<◌, ◌+◌, ℕ, suc, List, [], ◌∷◌, ◌++◌, true, false, Option, Some, None, refl, sym, ap, ◌∙◌, subst, arith, inl, inr}
use Rattle.gl_meaning.specs.Path.{PathStep, at, main, otherwise, items, item, into, slot, empty, attribute_at, modifier_at, Path}
use Rattle.gl_meaning.specs.Known.{Among}
use Rattle.gl_meaning.specs.Laws.{Within}
use Rattle.gl_meaning.proofs.Pieces.{among_either}
use Rattle.gl_meaning.proofs.Under.{within_itself, within_outer, steps_apart, not_below}
use Rattle.gl_plain.specs.Ids.{Id, ref, node, modifier_id, hit, occurs}
use Rattle.gl_plain.specs.Live
use Rattle.gl_plain.specs.Live.{AttrSpot, ModSpot, Live, Lives, Items, item_made, times, times_in, times_items, times_comment, times_attrs, times_mods}
use Rattle.gl_plain.proofs.Moves.{hit_self}
use Rattle.gl_plain.proofs.Stay.{left_above, right_above}
use Rattle.gl_plain.proofs.Apart.{Into, FromStep, into_more}
use Rattle.gl_turns.specs.Places.{Place, node_place, position_place, item_place, instance_place, modifier_place, path_of, id_by, id_of, comment_places, attr_places, mod_places, places, places_items, places_in}
use Rattle.gl_turns.specs.Fits.{StepsIn, AttrsOwn, ModsOwn, Fits, FitsItems, FitsIn}

-- each of the places stands below p, at one of these steps
abbrev pub Sited : Path → (PathStep → Type 0) → List Place → Type 0
Sited p S xs = (a : Place) → Among a xs → Into p S (path_of a)

-- each is at p or below it
abbrev pub SitedAt : Path → List Place → Type 0
SitedAt p xs = (a : Place) → Among a xs → Within p (path_of a)

-- no place of the one has the path of one of the other
abbrev pub Apart : List Place → List Place → Type 0
Apart xs ys = (a b : Place) → Among a xs → Among b ys → path_of a ≡ path_of b → ⊥

abbrev pub IsAttribute : PathStep → Type 0
IsAttribute (attribute_at n) = Unit {0}
IsAttribute _ = ⊥

abbrev pub IsModifier : PathStep → Type 0
IsModifier (modifier_at n) = Unit {0}
IsModifier _ = ⊥

abbrev pub IsEmpty : PathStep → Type 0
IsEmpty empty = Unit {0}
IsEmpty _ = ⊥

pub sited_apart : (p : Path) (S S' : PathStep → Type 0) (xs ys : List Place) → ((l : PathStep) → S l → S' l → ⊥) → Sited p S xs → Sited p S' ys → Apart xs ys
sited_apart p S S' xs ys d f g a b m n e =
    let x = f a m in let y = g b n in
    d x.0 x.1 (subst S' (steps_apart y.0 x.0 p (path_of a) (subst (λ j. Within (y.0 ∷ p) j) (sym e) y.2) x.2) y.1)

pub below_apart : (p : Path) (S : PathStep → Type 0) (xs : List Place) (b : Place) → path_of b ≡ p → Sited p S xs → Apart xs (b ∷ [])
below_apart p S xs b at_p f a c m (inl n) e = let x = f a m in not_below x.0 p (subst (λ j. Within (x.0 ∷ p) j) (e ∙ (ap path_of n ∙ at_p)) x.2)
below_apart p S xs b at_p f a c m (inr n) e = absurd n

pub apart_join : (xs ys zs : List Place) → Apart xs ys → Apart xs zs → Apart xs (ys ++ zs)
apart_join xs ys zs f g a b m n e = elim (among_either b ys zs n) [ inl k ↦ f a b m k e | inr k ↦ g a b m k e ]

pub apart_cons : (xs : List Place) (y : Place) (zs : List Place) → Apart xs (y ∷ []) → Apart xs zs → Apart xs (y ∷ zs)
apart_cons xs y zs f g a b m (inl n) e = f a b m (inl n) e
apart_cons xs y zs f g a b m (inr n) e = g a b m n e

pub sited_join : (p : Path) (S : PathStep → Type 0) (xs ys : List Place) → Sited p S xs → Sited p S ys → Sited p S (xs ++ ys)
sited_join p S xs ys f g a m = elim (among_either a xs ys m) [ inl k ↦ f a k | inr k ↦ g a k ]

pub sited_more : (p : Path) (S S' : PathStep → Type 0) (xs : List Place) → ((l : PathStep) → S l → S' l) → Sited p S xs → Sited p S' xs
sited_more p S S' xs i f a m = into_more p S S' i (path_of a) (f a m)

-- what stands at one step
pub at_step : (l : PathStep) (p : Path) (S : PathStep → Type 0) (xs : List Place) → SitedAt (l ∷ p) xs → S l → Sited p S xs
at_step l p S xs f s a m = (l, s, f a m)

pub below_at : (p : Path) (S : PathStep → Type 0) (xs : List Place) → Sited p S xs → SitedAt p xs
below_at p S xs f a m = let x = f a m in within_outer x.0 p (path_of a) x.2

pub attrs_sited : (p : Path) (xs : List AttrSpot) → Sited p IsAttribute (attr_places p xs)
attrs_sited p [] a m = absurd m
attrs_sited p (x ∷ xs) a (inl e) = (attribute_at x.name, tt, subst (λ j. Within (attribute_at x.name ∷ p) j) (sym (ap path_of e)) (within_itself (attribute_at x.name ∷ p)))
attrs_sited p (x ∷ xs) a (inr m) = attrs_sited p xs a m

pub mods_sited : (p : Path) (i : ℕ) (zs : List ModSpot) → Sited p IsModifier (mod_places p i zs)
mods_sited p i [] a m = absurd m
mods_sited p i (z ∷ zs) a (inl e) = (modifier_at i, tt, subst (λ j. Within (modifier_at i ∷ p) j) (sym (ap path_of e)) (within_itself (modifier_at i ∷ p)))
mods_sited p i (z ∷ zs) a (inr (inl e)) = (modifier_at i, tt, subst (λ j. Within (modifier_at i ∷ p) j) (sym (ap path_of e)) (within_itself (modifier_at i ∷ p)))
mods_sited p i (z ∷ zs) a (inr (inr m)) = mods_sited p (suc i) zs a m

pub comment_sited : (p : Path) (k : Option ℕ) → Sited p IsEmpty (comment_places p k)
comment_sited p None a m = absurd m
comment_sited p (Some n) a (inl e) = (empty, tt, subst (λ j. Within (empty ∷ p) j) (sym (ap path_of e)) (within_itself (empty ∷ p)))
comment_sited p (Some n) a (inr m) = absurd m

abbrev pub Anything : PathStep → Type 0
Anything l = Unit {0}

cons_at : (p : Path) (y : Place) (xs : List Place) → path_of y ≡ p → SitedAt p xs → SitedAt p (y ∷ xs)
cons_at p y xs e f a (inl m) = subst (λ j. Within p j) (sym (ap path_of m ∙ e)) (within_itself p)
cons_at p y xs e f a (inr m) = f a m

join_at : (p : Path) (xs ys : List Place) → SitedAt p xs → SitedAt p ys → SitedAt p (xs ++ ys)
join_at p xs ys f g a m = elim (among_either a xs ys m) [ inl k ↦ f a k | inr k ↦ g a k ]

outer_at : (l : PathStep) (p : Path) (xs : List Place) → SitedAt (l ∷ p) xs → SitedAt p xs
outer_at l p xs f a m = within_outer l p (path_of a) (f a m)

pub arm_at : (p : Path) (k : Option ℕ) (xs : List Place) → Sited p (FromStep 0) xs → SitedAt p (xs ++ comment_places p k)
arm_at p k xs f = join_at p xs (comment_places p k) (below_at p (FromStep 0) xs f) (below_at p IsEmpty (comment_places p k) (comment_sited p k))

mutual
  pub part_sited : (p : Path) (l : Live) → Fits p l → SitedAt p (places p l)
  part_sited p (Live.still n) f = cons_at p (node_place p n) [] refl (λ a m. absurd m)
  part_sited p (Live.put_live n z) f = cons_at p (position_place p z.ref) (node_place p n ∷ []) refl (cons_at p (node_place p n) [] refl (λ a m. absurd m))
  part_sited p (Live.element_live n made xs zs ls) f =
      cons_at p (node_place p n) (attr_places p xs ++ (places_in p 0 ls ++ mod_places p 0 zs)) refl
      (join_at p (attr_places p xs) (places_in p 0 ls ++ mod_places p 0 zs) (below_at p IsAttribute (attr_places p xs) (attrs_sited p xs))
      (join_at p (places_in p 0 ls) (mod_places p 0 zs) (below_at p (FromStep 0) (places_in p 0 ls) (body_sited p 0 ls f.2)) (below_at p IsModifier (mod_places p 0 zs) (mods_sited p 0 zs))))
  part_sited p (Live.branch_live z true k ls) f = cons_at p (position_place p z.ref) _ refl (outer_at main p _ (arm_at (main ∷ p) k (places_in (main ∷ p) 0 ls) (body_sited (main ∷ p) 0 ls f.1)))
  part_sited p (Live.branch_live z false k ls) f = cons_at p (position_place p z.ref) _ refl (outer_at otherwise p _ (arm_at (otherwise ∷ p) k (places_in (otherwise ∷ p) 0 ls) (body_sited (otherwise ∷ p) 0 ls f.1)))
  part_sited p (Live.listed z is) f = cons_at p (position_place p z.ref) (places_items (items ∷ p) is) refl (outer_at items p (places_items (items ∷ p) is) (below_at (items ∷ p) (StepsIn is) (places_items (items ∷ p) is) (items_sited (items ∷ p) is f.1)))
  part_sited p (Live.unlisted z k ls) f = cons_at p (position_place p z.ref) _ refl (outer_at otherwise p _ (arm_at (otherwise ∷ p) k (places_in (otherwise ∷ p) 0 ls) (body_sited (otherwise ∷ p) 0 ls f.1)))
  part_sited p (Live.let_live made rs ls) f = outer_at main p (places_in (main ∷ p) 0 ls) (below_at (main ∷ p) (FromStep 0) (places_in (main ∷ p) 0 ls) (body_sited (main ∷ p) 0 ls f))
  part_sited p (Live.component_live i made gm args b ls) f =
      outer_at (into f.0) p (instance_place i.path i ∷ places_in i.path 0 ls)
      (subst (λ q. SitedAt q (instance_place i.path i ∷ places_in i.path 0 ls)) f.1
      (cons_at i.path (instance_place i.path i) (places_in i.path 0 ls) refl (below_at i.path (FromStep 0) (places_in i.path 0 ls) (body_sited i.path 0 ls f.3))))
  part_sited p (Live.yield_live n made rs ls) f = outer_at (slot n) p (places_in (slot n ∷ p) 0 ls) (below_at (slot n ∷ p) (FromStep 0) (places_in (slot n ∷ p) 0 ls) (body_sited (slot n ∷ p) 0 ls f))
  part_sited p (Live.deep_live q) f = λ a m. absurd m

  pub items_sited : (p : Path) (is : Items) → FitsItems p is → Sited p (StepsIn is) (places_items p is)
  items_sited p Live.no_items f = λ a m. absurd m
  items_sited p (Live.item_live z k ls is) f =
      let q = item z.key z.occurrence ∷ p in
      let arm = places_in q 0 ls ++ comment_places q k in
      let one : SitedAt q (item_place q z ∷ arm) = cons_at q (item_place q z) arm refl (arm_at q k (places_in q 0 ls) (body_sited q 0 ls f.1)) in
      sited_join p (StepsIn (Live.item_live z k ls is)) (item_place q z ∷ arm) (places_items p is) (at_step (item z.key z.occurrence) p (StepsIn (Live.item_live z k ls is)) (item_place q z ∷ arm) one (inl refl))
      (sited_more p (StepsIn is) (StepsIn (Live.item_live z k ls is)) (places_items p is) (λ l w. inr w) (items_sited p is f.2))

  pub body_sited : (p : Path) (i : ℕ) (ls : Lives) → FitsIn p i ls → Sited p (FromStep i) (places_in p i ls)
  body_sited p i Live.no_lives f = λ a m. absurd m
  body_sited p i (Live.live_and l ls) f =
      sited_join p (FromStep i) (places (at i ∷ p) l) (places_in p (suc i) ls) (at_step (at i) p (FromStep i) (places (at i ∷ p) l) (part_sited (at i ∷ p) l f.0) (i, omega arith, refl))
      (sited_more p (FromStep (suc i)) (FromStep i) (places_in p (suc i) ls) (λ l w. (w.0, (let e = w.1 in omega (arith, e)), w.2)) (body_sited p (suc i) ls f.1))

-- Each is counted in the part: an item by one of its references that was made for it.
module _ (num : Rattle.gl_plain.specs.Live.ItemSpot → ℕ) (mine : (z : Rattle.gl_plain.specs.Live.ItemSpot) → 0 < occurs (ref (num z)) (item_made z)) where
  abbrev pub CountedBy : (Id → ℕ) → List Place → Type 0
  CountedBy count xs = (a : Place) → Among a xs → 0 < count (id_by num a)

  counted_join : (c d : Id → ℕ) (xs ys : List Place) → CountedBy c xs → CountedBy d ys → CountedBy (λ q. c q + d q) (xs ++ ys)
  counted_join c d xs ys f g a m = elim (among_either a xs ys m) [ inl k ↦ left_above _ _ (f a k) | inr k ↦ right_above _ _ (g a k) ]

  counted_cons : (c : Id → ℕ) (x : Place) (xs : List Place) → 0 < c (id_by num x) → CountedBy c xs → CountedBy c (x ∷ xs)
  counted_cons c x xs w f a (inl e) = subst (λ b. 0 < c (id_by num b)) (sym e) w
  counted_cons c x xs w f a (inr m) = f a m

  comment_counted : (p : Path) (k : Option ℕ) → CountedBy (λ q. times_comment q k) (comment_places p k)
  comment_counted p None = λ a m. absurd m
  comment_counted p (Some n) = counted_cons (λ q. times_comment q (Some n)) (node_place (empty ∷ p) n) [] (hit_self (node n)) (λ a m. absurd m)

  attrs_counted : (p : Path) (xs : List AttrSpot) → AttrsOwn xs → CountedBy (λ q. times_attrs q xs) (attr_places p xs)
  attrs_counted p [] o = λ a m. absurd m
  attrs_counted p (x ∷ xs) o = counted_cons (λ q. times_attrs q (x ∷ xs)) _ (attr_places p xs) (left_above _ _ o.0) (λ a m. right_above _ _ (attrs_counted p xs o.1 a m))

  mods_counted : (p : Path) (i : ℕ) (zs : List ModSpot) → ModsOwn zs → CountedBy (λ q. times_mods q zs) (mod_places p i zs)
  mods_counted p i [] o = λ a m. absurd m
  mods_counted p i (z ∷ zs) o =
      let c : Id → ℕ = λ q. times_mods q (z ∷ zs) in
      let y = modifier_place (modifier_at i ∷ p) z.id in
      let rest = mod_places p (suc i) zs in
      counted_cons c (position_place (modifier_at i ∷ p) z.spot.ref) (y ∷ rest) (left_above _ _ (right_above _ _ o.0))
      (counted_cons c y rest (left_above (hit (modifier_id z.id) (modifier_id z.id) + occurs (modifier_id z.id) z.spot.made) (times_mods (modifier_id z.id) zs) (left_above _ _ (hit_self (modifier_id z.id)))) (λ a m. right_above _ _ (mods_counted p (suc i) zs o.1 a m)))

  counted_arm : (p : Path) (k : Option ℕ) (ls : Lives) → CountedBy (λ q. times_in q ls) (places_in p 0 ls) → CountedBy (λ q. times_in q ls + times_comment q k) (places_in p 0 ls ++ comment_places p k)
  counted_arm p k ls h = counted_join (λ q. times_in q ls) (λ q. times_comment q k) (places_in p 0 ls) (comment_places p k) h (comment_counted p k)

  mutual
    pub part_counted_by : (p : Path) (l : Live) → Fits p l → CountedBy (λ q. times q l) (places p l)
    part_counted_by p (Live.still n) f = counted_cons (λ q. times q (Live.still n)) (node_place p n) [] (hit_self (node n)) (λ a m. absurd m)
    part_counted_by p (Live.put_live n z) f =
        counted_cons (λ q. times q (Live.put_live n z)) (position_place p z.ref) (node_place p n ∷ []) (right_above _ _ f)
        (counted_cons (λ q. times q (Live.put_live n z)) (node_place p n) [] (left_above _ _ (hit_self (node n))) (λ a m. absurd m))
    part_counted_by p (Live.element_live n made xs zs ls) f =
        counted_cons (λ q. times q (Live.element_live n made xs zs ls)) (node_place p n) _ (left_above _ _ (left_above _ _ (hit_self (node n))))
        (λ a m. elim (among_either a (attr_places p xs) (places_in p 0 ls ++ mod_places p 0 zs) m) [
          | inl k ↦ left_above _ _ (right_above _ _ (right_above _ _ (attrs_counted p xs f.0 a k)))
          | inr k ↦ right_above _ _ (counted_join (λ q. times_in q ls) (λ q. times_mods q zs) (places_in p 0 ls) (mod_places p 0 zs) (body_counted_by p 0 ls f.2) (mods_counted p 0 zs f.1) a k)
        ])
    part_counted_by p (Live.branch_live z true k ls) f = counted_cons (λ q. times q (Live.branch_live z true k ls)) (position_place p z.ref) _ (left_above _ _ f.0) (λ a m. right_above _ _ (counted_arm (main ∷ p) k ls (body_counted_by (main ∷ p) 0 ls f.1) a m))
    part_counted_by p (Live.branch_live z false k ls) f = counted_cons (λ q. times q (Live.branch_live z false k ls)) (position_place p z.ref) _ (left_above _ _ f.0) (λ a m. right_above _ _ (counted_arm (otherwise ∷ p) k ls (body_counted_by (otherwise ∷ p) 0 ls f.1) a m))
    part_counted_by p (Live.listed z is) f = counted_cons (λ q. times q (Live.listed z is)) (position_place p z.ref) _ (left_above _ _ f.0) (λ a m. right_above _ _ (items_counted_by (items ∷ p) is f.1 a m))
    part_counted_by p (Live.unlisted z k ls) f = counted_cons (λ q. times q (Live.unlisted z k ls)) (position_place p z.ref) _ (left_above _ _ f.0) (λ a m. right_above _ _ (counted_arm (otherwise ∷ p) k ls (body_counted_by (otherwise ∷ p) 0 ls f.1) a m))
    part_counted_by p (Live.let_live made rs ls) f = λ a m. right_above _ _ (body_counted_by (main ∷ p) 0 ls f a m)
    part_counted_by p (Live.component_live i made gm args b ls) f =
        counted_cons (λ q. times q (Live.component_live i made gm args b ls)) (instance_place i.path i) (places_in i.path 0 ls) (left_above _ _ f.2) (λ a m. right_above _ _ (body_counted_by i.path 0 ls f.3 a m))
    part_counted_by p (Live.yield_live n made rs ls) f = λ a m. right_above _ _ (body_counted_by (slot n ∷ p) 0 ls f a m)
    part_counted_by p (Live.deep_live q) f = λ a m. absurd m

    pub items_counted_by : (p : Path) (is : Items) → FitsItems p is → CountedBy (λ q. times_items q is) (places_items p is)
    items_counted_by p Live.no_items f = λ a m. absurd m
    items_counted_by p (Live.item_live z k ls is) f =
        let q = item z.key z.occurrence ∷ p in
        counted_cons (λ i. times_items i (Live.item_live z k ls is)) (item_place q z) _ (left_above _ _ (left_above _ _ (mine z)))
        (counted_join (λ i. occurs i (item_made z) + (times_in i ls + times_comment i k)) (λ i. times_items i is) (places_in q 0 ls ++ comment_places q k) (places_items p is)
        (λ a m. right_above _ _ (counted_arm q k ls (body_counted_by q 0 ls f.1) a m)) (items_counted_by p is f.2))

    pub body_counted_by : (p : Path) (i : ℕ) (ls : Lives) → FitsIn p i ls → CountedBy (λ q. times_in q ls) (places_in p i ls)
    body_counted_by p i Live.no_lives f = λ a m. absurd m
    body_counted_by p i (Live.live_and l ls) f =
        counted_join (λ q. times q l) (λ q. times_in q ls) (places (at i ∷ p) l) (places_in p (suc i) ls) (part_counted_by (at i ∷ p) l f.0) (body_counted_by p (suc i) ls f.1)

  pub arm_counted_by : (p : Path) (k : Option ℕ) (ls : Lives) → FitsIn p 0 ls → CountedBy (λ q. times_in q ls + times_comment q k) (places_in p 0 ls ++ comment_places p k)
  arm_counted_by p k ls f = counted_arm p k ls (body_counted_by p 0 ls f)

  pub root_counted_by : (l : Live) → Rattle.gl_turns.specs.Fits.FitsRoot l → CountedBy (λ q. times q l) (places [] l)
  root_counted_by (Live.component_live i made gm args b ls) f =
      counted_cons (λ q. times q (Live.component_live i made gm args b ls)) (instance_place i.path i) (places_in i.path 0 ls) (left_above _ _ f.1)
      (λ a m. right_above _ _ (body_counted_by i.path 0 ls (subst (λ q. FitsIn q 0 ls) (sym f.0) f.2) a m))
  root_counted_by (Live.deep_live q) f = λ a m. absurd m
  root_counted_by _ f = absurd f

abbrev pub Counted : (Id → ℕ) → List Place → Type 0
Counted count xs = (a : Place) → Among a xs → 0 < count (id_of a)

value_made : (z : Rattle.gl_plain.specs.Live.ItemSpot) → 0 < occurs (ref z.value) (item_made z)
value_made z = left_above _ _ (hit_self (ref z.value))

index_made : (z : Rattle.gl_plain.specs.Live.ItemSpot) → 0 < occurs (ref z.index) (item_made z)
index_made z = right_above (hit (ref z.index) (ref z.value)) _ (left_above _ _ (hit_self (ref z.index)))

pub items_counted : (p : Path) (is : Items) → FitsItems p is → Counted (λ q. times_items q is) (places_items p is)
items_counted p is f = items_counted_by (λ z. z.value) value_made p is f

pub arm_counted : (p : Path) (k : Option ℕ) (ls : Lives) → FitsIn p 0 ls → Counted (λ q. times_in q ls + times_comment q k) (places_in p 0 ls ++ comment_places p k)
arm_counted p k ls f = arm_counted_by (λ z. z.value) value_made p k ls f

pub root_counted : (l : Live) → Rattle.gl_turns.specs.Fits.FitsRoot l → Counted (λ q. times q l) (places [] l)
root_counted l f = root_counted_by (λ z. z.value) value_made l f

-- an item's index too
pub root_indexed : (l : Live) → Rattle.gl_turns.specs.Fits.FitsRoot l → (p : Path) (z : Rattle.gl_plain.specs.Live.ItemSpot) → Among (item_place p z) (places [] l) → 0 < times (ref z.index) l
root_indexed l f p z m = root_counted_by (λ z. z.index) index_made l f (item_place p z) m

pub body_counted : (p : Path) (i : ℕ) (ls : Lives) → FitsIn p i ls → Counted (λ q. times_in q ls) (places_in p i ls)
body_counted p i ls f = body_counted_by (λ z. z.value) value_made p i ls f

pub part_counted : (p : Path) (l : Live) → Fits p l → Counted (λ q. times q l) (places p l)
part_counted p l f = part_counted_by (λ z. z.value) value_made p l f
