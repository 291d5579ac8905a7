-- The rows of a part stand at or below its path, and their ids are its own.
use Rattle.std.proofs.Common.{◌≡◌, ◌<◌, ◌≤◌, ℕ, suc, ◌+◌, List, [], ◌∷◌, ◌++◌, true, false, Option, Some, None, sym, ap, ◌∙◌, subst, arith, inl, inr, ◌⊎◌}
use Rattle.gl_meaning.specs.Path.{PathStep, at, main, otherwise, items, into, slot, empty, attribute_at, modifier_at, Path}
use Rattle.gl_meaning.specs.Known.{Among}
use Rattle.gl_meaning.specs.Laws.{Within}
use Rattle.gl_meaning.proofs.Pieces.{among_either}
use Rattle.gl_meaning.proofs.Under.{within_itself, within_outer, steps_apart, From, IsPartStep}
use Rattle.gl_plain.specs.Ids.{Id, ref, node, instance_id, hit, occurs}
use Rattle.gl_plain.specs.Live
use Rattle.gl_plain.specs.Live.{Live, Lives, Items, AttrSpot, ModSpot, ItemSpot, item_made, times, times_in, times_items, times_comment, times_attrs, times_mods}
use Rattle.gl_plain.proofs.Moves.{IdCase, id_case, hit_le, hit_other, hit_self}
use Rattle.gl_plain.proofs.Stay.{left_above, right_above}
use Rattle.gl_machine.specs.Rows.{Role, a_node, a_value, an_index, Row, row_of, comment_rows, attr_rows, mod_spot_rows, mod_rows, tag_rows, rows, rows_items, rows_in, row_ids}
use Rattle.gl_machine.proofs.Sits.{AttrsOwn, ModsOwn, item_step, NotAt, Sits, SitsItems, SitsIn, RootSits}

-- Where they stand

pub at_row : (r : Role) (p : Path) (q : Id) (x : Row) → x ≡ row_of r p q → x.path ≡ p
at_row r p q x e = ap (λ y. y.path) e

-- on a tag: the element itself, or one of its parts
abbrev pub OnTag : Path → Row → Type 0
OnTag p x = (x.path ≡ p) ⊎ ((l : PathStep) × IsPartStep l × (x.path ≡ l ∷ p))

attr_at : (p : Path) (xs : List AttrSpot) (x : Row) → Among x (attr_rows p xs) → OnTag p x
attr_at p [] x m = absurd m
attr_at p (a ∷ xs) x (inl e) = inr (attribute_at a.name, tt, ap (λ y. y.path) e)
attr_at p (a ∷ xs) x (inr m) = attr_at p xs x m

mod_spot_at : (p : Path) (i : ℕ) (zs : List ModSpot) (x : Row) → Among x (mod_spot_rows p i zs) → OnTag p x
mod_spot_at p i [] x m = absurd m
mod_spot_at p i (z ∷ zs) x (inl e) = inr (modifier_at i, tt, ap (λ y. y.path) e)
mod_spot_at p i (z ∷ zs) x (inr m) = mod_spot_at p (suc i) zs x m

mod_at : (p : Path) (i : ℕ) (zs : List ModSpot) (x : Row) → Among x (mod_rows p i zs) → OnTag p x
mod_at p i [] x m = absurd m
mod_at p i (z ∷ zs) x (inl e) = inr (modifier_at i, tt, ap (λ y. y.path) e)
mod_at p i (z ∷ zs) x (inr m) = mod_at p (suc i) zs x m

pub on_tag : (p : Path) (n : ℕ) (xs : List AttrSpot) (zs : List ModSpot) (x : Row) → Among x (tag_rows p n xs zs) → OnTag p x
on_tag p n xs zs x m =
    elim (among_either x (attr_rows p xs) (mod_spot_rows p 0 zs ++ (mod_rows p 0 zs ++ row_of a_node p (node n) ∷ [])) m) [
      | inl k ↦ attr_at p xs x k
      | inr k ↦ elim (among_either x (mod_spot_rows p 0 zs) (mod_rows p 0 zs ++ row_of a_node p (node n) ∷ []) k) [
        | inl j ↦ mod_spot_at p 0 zs x j
        | inr j ↦ elim (among_either x (mod_rows p 0 zs) (row_of a_node p (node n) ∷ []) j) [
          | inl i ↦ mod_at p 0 zs x i
          | inr i ↦ node_at i
        ]
      ]
    ]
  where
    node_at : Among x (row_of a_node p (node n) ∷ []) → OnTag p x
    node_at (inl e) = inl (ap (λ y. y.path) e)
    node_at (inr i) = absurd i

by_itself : (p j : Path) → j ≡ p → Within p j
by_itself p j e = subst (λ z. Within p z) (sym e) (within_itself p)

tag_within : (p : Path) (x : Row) → OnTag p x → Within p x.path
tag_within p x (inl e) = by_itself p x.path e
tag_within p x (inr (l, part, e)) = subst (λ z. Within p z) (sym e) (inr (within_itself p))

comment_at : (p : Path) (k : Option ℕ) (x : Row) → Among x (comment_rows p k) → x.path ≡ empty ∷ p
comment_at p None x m = absurd m
comment_at p (Some n) x (inl e) = ap (λ y. y.path) e
comment_at p (Some n) x (inr m) = absurd m

-- the rows of a branch or an item, and of an item with its own
abbrev pub arm_rows : Path → Option ℕ → Lives → List Row
arm_rows q k ls = rows_in q 0 ls ++ comment_rows q k

abbrev pub item_rows : Path → ItemSpot → Option ℕ → Lives → List Row
item_rows p z k ls = let q = item_step z ∷ p in row_of a_value q (ref z.value) ∷ (row_of an_index q (ref z.index) ∷ arm_rows q k ls)

-- a row of an arm is in its body, or its comment
pub arm_either : (q : Path) (k : Option ℕ) (ls : Lives) (x : Row) → Among x (arm_rows q k ls) → Among x (rows_in q 0 ls) ⊎ Among x (comment_rows q k)
arm_either q k ls x m = among_either x (rows_in q 0 ls) (comment_rows q k) m

from_through : (i : ℕ) (p j : Path) → From i p j → Within p j
from_through i p j w = within_outer (at w.0) p j w.2

arm_in : (q : Path) (k : Option ℕ) (ls : Lives) → ((x : Row) → Among x (rows_in q 0 ls) → From 0 q x.path) → (x : Row) → Among x (arm_rows q k ls) → Within q x.path
arm_in q k ls f x m =
    elim (arm_either q k ls x m) [ inl j ↦ from_through 0 q x.path (f x j) | inr j ↦ subst (λ z. Within q z) (sym (comment_at q k x j)) (inr (within_itself q)) ]

-- a row of an arm isn't at the arm's own place
pub arm_below : (q : Path) (k : Option ℕ) (ls : Lives) → ((x : Row) → Among x (rows_in q 0 ls) → From 0 q x.path) → (x : Row) → Among x (arm_rows q k ls) → (l : PathStep) × Within (l ∷ q) x.path
arm_below q k ls f x m = elim (arm_either q k ls x m) [ inl j ↦ (let w = f x j in (at w.0, w.2)) | inr j ↦ (empty, by_itself (empty ∷ q) x.path (comment_at q k x j)) ]

item_in : (p : Path) (z : ItemSpot) (k : Option ℕ) (ls : Lives) → ((x : Row) → Among x (arm_rows (item_step z ∷ p) k ls) → Within (item_step z ∷ p) x.path)
    → (x : Row) → Among x (item_rows p z k ls) → Within (item_step z ∷ p) x.path
item_in p z k ls f x (inl e) = by_itself (item_step z ∷ p) x.path (ap (λ y. y.path) e)
item_in p z k ls f x (inr (inl e)) = by_itself (item_step z ∷ p) x.path (ap (λ y. y.path) e)
item_in p z k ls f x (inr (inr m)) = f x m

mutual
  pub rows_within : (p : Path) (l : Live) → Sits p l → (x : Row) → Among x (rows p l) → Within p x.path
  rows_within p (Live.still n) s x (inl e) = by_itself p x.path (ap (λ y. y.path) e)
  rows_within p (Live.still n) s x (inr m) = absurd m
  rows_within p (Live.put_live n z) s x (inl e) = by_itself p x.path (ap (λ y. y.path) e)
  rows_within p (Live.put_live n z) s x (inr (inl e)) = by_itself p x.path (ap (λ y. y.path) e)
  rows_within p (Live.put_live n z) s x (inr (inr m)) = absurd m
  rows_within p (Live.element_live n made xs zs ls) s x m =
      elim (among_either x (tag_rows p n xs zs) (rows_in p 0 ls) m) [ inl k ↦ tag_within p x (on_tag p n xs zs x k) | inr k ↦ from_through 0 p x.path (rows_from p 0 ls s.2 x k) ]
  rows_within p (Live.branch_live z true k ls) s x (inl e) = by_itself p x.path (ap (λ y. y.path) e)
  rows_within p (Live.branch_live z true k ls) s x (inr m) = within_outer main p x.path (arm_in (main ∷ p) k ls (rows_from (main ∷ p) 0 ls s.1) x m)
  rows_within p (Live.branch_live z false k ls) s x (inl e) = by_itself p x.path (ap (λ y. y.path) e)
  rows_within p (Live.branch_live z false k ls) s x (inr m) = within_outer otherwise p x.path (arm_in (otherwise ∷ p) k ls (rows_from (otherwise ∷ p) 0 ls s.1) x m)
  rows_within p (Live.listed z is) s x (inl e) = by_itself p x.path (ap (λ y. y.path) e)
  rows_within p (Live.listed z is) s x (inr m) = within_outer items p x.path (items_within (items ∷ p) is s.1 x m)
  rows_within p (Live.unlisted z k ls) s x (inl e) = by_itself p x.path (ap (λ y. y.path) e)
  rows_within p (Live.unlisted z k ls) s x (inr m) = within_outer otherwise p x.path (arm_in (otherwise ∷ p) k ls (rows_from (otherwise ∷ p) 0 ls s.1) x m)
  rows_within p (Live.let_live made rs ls) s x m = within_outer main p x.path (from_through 0 (main ∷ p) x.path (rows_from (main ∷ p) 0 ls s x m))
  rows_within p (Live.component_live i made gm args k ls) s x (inl e) = subst (λ z. Within p z) (sym (ap (λ y. y.path) e ∙ s.1.1)) (inr (within_itself p))
  rows_within p (Live.component_live i made gm args k ls) s x (inr m) =
      within_outer (into s.1.0) p x.path (subst (λ z. Within z x.path) s.1.1 (from_through 0 i.path x.path (rows_from i.path 0 ls s.2 x m)))
  rows_within p (Live.yield_live n made rs ls) s x m = within_outer (slot n) p x.path (from_through 0 (slot n ∷ p) x.path (rows_from (slot n ∷ p) 0 ls s x m))
  rows_within p (Live.deep_live q) s x m = absurd m

  pub items_within : (p : Path) (is : Items) → SitsItems p is → (x : Row) → Among x (rows_items p is) → Within p x.path
  items_within p Live.no_items s x m = absurd m
  items_within p (Live.item_live z k ls is) s x m =
      elim (among_either x (item_rows p z k ls) (rows_items p is) m) [
        | inl j ↦ within_outer (item_step z) p x.path (item_in p z k ls (arm_in (item_step z ∷ p) k ls (rows_from (item_step z ∷ p) 0 ls s.1)) x j)
        | inr j ↦ items_within p is s.2 x j
      ]

  pub rows_from : (p : Path) (i : ℕ) (ls : Lives) → SitsIn p i ls → (x : Row) → Among x (rows_in p i ls) → From i p x.path
  rows_from p i Live.no_lives s x m = absurd m
  rows_from p i (Live.live_and l ls) s x m =
      elim (among_either x (rows (at i ∷ p) l) (rows_in p (suc i) ls) m) [
        | inl k ↦ (i, omega arith, rows_within (at i ∷ p) l s.0 x k)
        | inr k ↦ (let w = rows_from p (suc i) ls s.1 x k in let le = w.1 in (w.0, omega (arith, le), w.2))
      ]

pub arm_within : (q : Path) (k : Option ℕ) (ls : Lives) → SitsIn q 0 ls → (x : Row) → Among x (arm_rows q k ls) → Within q x.path
arm_within q k ls s x m = arm_in q k ls (rows_from q 0 ls s) x m

pub item_within : (p : Path) (z : ItemSpot) (k : Option ℕ) (ls : Lives) → SitsIn (item_step z ∷ p) 0 ls → (x : Row) → Among x (item_rows p z k ls) → Within (item_step z ∷ p) x.path
item_within p z k ls s x m = item_in p z k ls (arm_within (item_step z ∷ p) k ls s) x m

-- no row of these items is at or below the step
pub not_there : (l : PathStep) (p : Path) (is : Items) → NotAt l is → SitsItems p is → (x : Row) → Among x (rows_items p is) → Within (l ∷ p) x.path → ⊥
not_there l p Live.no_items n s x m w = m
not_there l p (Live.item_live z k ls is) n s x m w =
    elim (among_either x (item_rows p z k ls) (rows_items p is) m) [
      | inl j ↦ n.0 (steps_apart l (item_step z) p x.path w (item_within p z k ls s.1 x j))
      | inr j ↦ not_there l p is n.1 s.2 x j w
    ]

-- Whose ids they are

module _ (q : Id) where
  abbrev Ids : List Row → ℕ
  Ids xs = occurs q (row_ids xs)

  ids_append : (xs ys : List Row) → Ids (xs ++ ys) ≡ Ids xs + Ids ys
  ids_append [] ys = omega arith
  ids_append (x ∷ xs) ys = let h = ids_append xs ys in omega (arith, h)

  own_hit : (i : Id) (made : List Id) → 0 < occurs i made → hit q i ≤ occurs q made
  own_hit i made w = by (id_case q i) where
    by : IdCase q i → hit q i ≤ occurs q made
    by (inl e) = let k : 0 < occurs q made = subst (λ j. 0 < occurs j made) (sym e.1) w in let h = hit_le q i in omega (arith, k, h)
    by (inr e) = let h = hit_other q i e in omega (arith, h)

  attr_ids : (p : Path) (xs : List AttrSpot) → AttrsOwn xs → Ids (attr_rows p xs) ≤ times_attrs q xs
  attr_ids p [] h = omega arith
  attr_ids p (a ∷ xs) h = let i = own_hit (ref a.spot.ref) a.spot.made h.0 in let k = attr_ids p xs h.1 in omega (arith, i, k)

  mod_ids : (p : Path) (i j : ℕ) (zs : List ModSpot) → ModsOwn zs → Ids (mod_spot_rows p i zs) + Ids (mod_rows p j zs) ≤ times_mods q zs
  mod_ids p i j [] h = omega arith
  mod_ids p i j (z ∷ zs) h = let a = own_hit (ref z.spot.ref) z.spot.made h.0 in let k = mod_ids p (suc i) (suc j) zs h.1 in omega (arith, a, k)

  comment_ids : (p : Path) (k : Option ℕ) → Ids (comment_rows p k) ≤ times_comment q k
  comment_ids p None = omega arith
  comment_ids p (Some n) = omega arith

  arm_ids : (p : Path) (k : Option ℕ) (ls : Lives) → Ids (rows_in p 0 ls) ≤ times_in q ls → Ids (arm_rows p k ls) ≤ times_in q ls + times_comment q k
  arm_ids p k ls h = let e = ids_append (rows_in p 0 ls) (comment_rows p k) in let i = comment_ids p k in omega (arith, e, h, i)

  tag_ids : (p : Path) (n : ℕ) (xs : List AttrSpot) (zs : List ModSpot) → AttrsOwn xs → ModsOwn zs → Ids (tag_rows p n xs zs) ≤ hit q (node n) + times_attrs q xs + times_mods q zs
  tag_ids p n xs zs g h =
      let a = ids_append (attr_rows p xs) (mod_spot_rows p 0 zs ++ (mod_rows p 0 zs ++ row_of a_node p (node n) ∷ [])) in
      let b = ids_append (mod_spot_rows p 0 zs) (mod_rows p 0 zs ++ row_of a_node p (node n) ∷ []) in
      let c = ids_append (mod_rows p 0 zs) (row_of a_node p (node n) ∷ []) in
      let i = attr_ids p xs g in let j = mod_ids p 0 0 zs h in omega (arith, a, b, c, i, j)

  mutual
    pub rows_ids : (p : Path) (l : Live) → Sits p l → Ids (rows p l) ≤ times q l
    rows_ids p (Live.still n) s = omega arith
    rows_ids p (Live.put_live n z) s = let i = own_hit (ref z.ref) z.made s in omega (arith, i)
    rows_ids p (Live.element_live n made xs zs ls) s =
        let e = ids_append (tag_rows p n xs zs) (rows_in p 0 ls) in let i = tag_ids p n xs zs s.0 s.1 in let j = rows_in_ids p 0 ls s.2 in omega (arith, e, i, j)
    rows_ids p (Live.branch_live z true k ls) s = let i = own_hit (ref z.ref) z.made s.0 in let j = arm_ids (main ∷ p) k ls (rows_in_ids (main ∷ p) 0 ls s.1) in omega (arith, i, j)
    rows_ids p (Live.branch_live z false k ls) s = let i = own_hit (ref z.ref) z.made s.0 in let j = arm_ids (otherwise ∷ p) k ls (rows_in_ids (otherwise ∷ p) 0 ls s.1) in omega (arith, i, j)
    rows_ids p (Live.listed z is) s = let i = own_hit (ref z.ref) z.made s.0 in let j = rows_items_ids (items ∷ p) is s.1 in omega (arith, i, j)
    rows_ids p (Live.unlisted z k ls) s = let i = own_hit (ref z.ref) z.made s.0 in let j = arm_ids (otherwise ∷ p) k ls (rows_in_ids (otherwise ∷ p) 0 ls s.1) in omega (arith, i, j)
    rows_ids p (Live.let_live made rs ls) s = let j = rows_in_ids (main ∷ p) 0 ls s in omega (arith, j)
    rows_ids p (Live.component_live i made gm args k ls) s = let a = own_hit (instance_id i.id) made s.0 in let j = rows_in_ids i.path 0 ls s.2 in omega (arith, a, j)
    rows_ids p (Live.yield_live n made rs ls) s = let j = rows_in_ids (slot n ∷ p) 0 ls s in omega (arith, j)
    rows_ids p (Live.deep_live r) s = omega arith

    pub rows_items_ids : (p : Path) (is : Items) → SitsItems p is → Ids (rows_items p is) ≤ times_items q is
    rows_items_ids p Live.no_items s = omega arith
    rows_items_ids p (Live.item_live z k ls is) s =
        let e = ids_append (item_rows p z k ls) (rows_items p is) in
        let j = arm_ids (item_step z ∷ p) k ls (rows_in_ids (item_step z ∷ p) 0 ls s.1) in
        let r = rows_items_ids p is s.2 in
        omega (arith, e, j, r)

    pub rows_in_ids : (p : Path) (i : ℕ) (ls : Lives) → SitsIn p i ls → Ids (rows_in p i ls) ≤ times_in q ls
    rows_in_ids p i Live.no_lives s = omega arith
    rows_in_ids p i (Live.live_and l ls) s =
        let e = ids_append (rows (at i ∷ p) l) (rows_in p (suc i) ls) in let a = rows_ids (at i ∷ p) l s.0 in let b = rows_in_ids p (suc i) ls s.1 in omega (arith, e, a, b)

-- the ids of an arm, of items and of one item
pub ids_arm : (q : Id) (p : Path) (k : Option ℕ) (ls : Lives) → SitsIn p 0 ls → occurs q (row_ids (arm_rows p k ls)) ≤ times_in q ls + times_comment q k
ids_arm q p k ls s = arm_ids q p k ls (rows_in_ids q p 0 ls s)

pub ids_items : (q : Id) (p : Path) (is : Items) → SitsItems p is → occurs q (row_ids (rows_items p is)) ≤ times_items q is
ids_items q p is s = rows_items_ids q p is s

pub ids_item : (q : Id) (p : Path) (z : ItemSpot) (k : Option ℕ) (ls : Lives) → SitsIn (item_step z ∷ p) 0 ls
    → occurs q (row_ids (item_rows p z k ls)) ≤ occurs q (item_made z) + (times_in q ls + times_comment q k)
ids_item q p z k ls s = let j = ids_arm q (item_step z ∷ p) k ls s in omega (arith, j)

-- a row's id is counted
pub among_ids : (x : Row) (xs : List Row) → Among x xs → 0 < occurs x.id (row_ids xs)
among_ids x [] m = absurd m
among_ids x (y ∷ ys) (inl e) = subst (λ i. 0 < hit x.id i + occurs x.id (row_ids ys)) (ap (λ z. z.id) e) (left_above _ _ (hit_self x.id))
among_ids x (y ∷ ys) (inr m) = right_above _ _ (among_ids x ys m)

-- the rows of a page whose root has the empty path
pub page_ids : (q : Id) (l : Live) → RootSits l → occurs q (row_ids (rows [] l)) ≤ times q l
page_ids q (Live.component_live i made gm args None ls) s = let a = own_hit q (instance_id i.id) made s.0 in let j = rows_in_ids q i.path 0 ls s.2 in omega (arith, a, j)
page_ids q (Live.deep_live r) s = omega arith
page_ids q _ s = absurd s
