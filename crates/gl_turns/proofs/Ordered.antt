-- What goes, goes in the order of the meaning's walk, and the modifiers of a tree stand in it.
use Rattle.std.proofs.Common.{◌≡◌, ℕ, suc, List, [], ◌∷◌, ◌++◌, map, Bool, true, false, Option, Some, None, cond, refl, sym, ap, ap₂, ◌∙◌, inl, inr}
use Rattle.std.specs.Prelude.{filter, filter_map, flat_map, nat_eq}
use Rattle.std.proofs.lemmas.List.{append-nil}
use Rattle.gl_meaning.specs.Path.{at, main, otherwise, items, item, slot, modifier_at, Path}
use Rattle.gl_meaning.specs.Known.{Among}
use Rattle.gl_meaning.specs.Parts.{Modifier}
use Rattle.gl_meaning.specs.Render.{Piece, element_node, text_node, comment_node, component, branch, item_region, position, too_deep, draw}
use Rattle.gl_meaning.specs.Changes.{modifiers_on}
use Rattle.gl_meaning.specs.Print.{children_first}
use Rattle.gl_meaning.proofs.Pieces.{among_either, among_left, among_right, filter_map_append}
use Rattle.gl_plain.specs.Live
use Rattle.gl_plain.specs.Live.{AttrSpot, ModSpot, Live, Lives, Items, times}
use Rattle.gl_plain.specs.Renew.{renew_app}
use Rattle.gl_turns.specs.Places.{Place, node_place, position_place, item_place, instance_place, modifier_place, id_of, instance_in, modifier_in, comment_places, attr_places, mod_places, places, places_items, places_in}
use Rattle.gl_turns.specs.Leaving.{Leaver, modifier_leaves, instance_leaves, leavers, goes, leaver_of, mods_leaving, leaving, leaving_items, leaving_in}
use Rattle.gl_turns.specs.Laws.{DestroysInOrder, ModifiersInOrder}
use Rattle.gl_turns.proofs.Found.{found_in}
use Rattle.gl_turns.proofs.Destroyed.{modifier_gone, instance_gone}
use Rattle.gl_turns.proofs.Walked.{flat_join, tree_walked}

-- What leaves stands in the tree

mods_stand : (p : Path) (i : ℕ) (zs : List ModSpot) (a : Place) → Among a (mods_leaving p i zs) → Among a (mod_places p i zs)
mods_stand p i [] a m = m
mods_stand p i (z ∷ zs) a (inl e) = inr (inl e)
mods_stand p i (z ∷ zs) a (inr m) = inr (inr (mods_stand p (suc i) zs a m))

mutual
  leaves_stand : (p : Path) (l : Live) (a : Place) → Among a (leaving p l) → Among a (places p l)
  leaves_stand p (Live.still n) a m = absurd m
  leaves_stand p (Live.put_live n z) a m = absurd m
  leaves_stand p (Live.element_live n made xs zs ls) a m =
      inr (among_right a (attr_places p xs) (places_in p 0 ls ++ mod_places p 0 zs)
      (elim (among_either a (leaving_in p 0 ls) (mods_leaving p 0 zs) m) [ inl k ↦ among_left a (places_in p 0 ls) (mod_places p 0 zs) (in_stand p 0 ls a k) | inr k ↦ among_right a (places_in p 0 ls) (mod_places p 0 zs) (mods_stand p 0 zs a k) ]))
  leaves_stand p (Live.branch_live z true k ls) a m = inr (among_left a (places_in (main ∷ p) 0 ls) (comment_places (main ∷ p) k) (in_stand (main ∷ p) 0 ls a m))
  leaves_stand p (Live.branch_live z false k ls) a m = inr (among_left a (places_in (otherwise ∷ p) 0 ls) (comment_places (otherwise ∷ p) k) (in_stand (otherwise ∷ p) 0 ls a m))
  leaves_stand p (Live.listed z is) a m = inr (items_stand (items ∷ p) is a m)
  leaves_stand p (Live.unlisted z k ls) a m = inr (among_left a (places_in (otherwise ∷ p) 0 ls) (comment_places (otherwise ∷ p) k) (in_stand (otherwise ∷ p) 0 ls a m))
  leaves_stand p (Live.let_live made rs ls) a m = in_stand (main ∷ p) 0 ls a m
  leaves_stand p (Live.component_live i made gm args b ls) a m = elim (among_either a (leaving_in i.path 0 ls) (instance_place i.path i ∷ []) m) [ inl k ↦ inr (in_stand i.path 0 ls a k) | inr k ↦ elim k [ inl e ↦ inl e | inr e ↦ absurd e ] ]
  leaves_stand p (Live.yield_live n made rs ls) a m = in_stand (slot n ∷ p) 0 ls a m
  leaves_stand p (Live.deep_live q) a m = absurd m

  items_stand : (p : Path) (is : Items) (a : Place) → Among a (leaving_items p is) → Among a (places_items p is)
  items_stand p Live.no_items a m = absurd m
  items_stand p (Live.item_live z k ls is) a m =
      let q = item z.key z.occurrence ∷ p in
      elim (among_either a (leaving_in q 0 ls) (leaving_items p is) m) [
        | inl u ↦ inr (among_left a (places_in q 0 ls ++ comment_places q k) (places_items p is) (among_left a (places_in q 0 ls) (comment_places q k) (in_stand q 0 ls a u)))
        | inr u ↦ inr (among_right a (places_in q 0 ls ++ comment_places q k) (places_items p is) (items_stand p is a u))
      ]

  in_stand : (p : Path) (i : ℕ) (ls : Lives) (a : Place) → Among a (leaving_in p i ls) → Among a (places_in p i ls)
  in_stand p i Live.no_lives a m = absurd m
  in_stand p i (Live.live_and l ls) a m =
      elim (among_either a (leaving (at i ∷ p) l) (leaving_in p (suc i) ls) m) [
        | inl k ↦ among_left a (places (at i ∷ p) l) (places_in p (suc i) ls) (leaves_stand (at i ∷ p) l a k)
        | inr k ↦ among_right a (places (at i ∷ p) l) (places_in p (suc i) ls) (in_stand p (suc i) ls a k)
      ]

-- What goes of a walk

filter_flat : (f : Place → Bool) (g : Leaver → Bool) (xs : List Place) → ((a : Place) → Among a xs → (x : Leaver) → Among x (leaver_of a) → f a ≡ g x) → flat_map leaver_of (filter f xs) ≡ filter g (flat_map leaver_of xs)
filter_flat f g [] h = refl
filter_flat f g (a ∷ xs) h = by a (h a (inl refl)) (filter_flat f g xs (λ b m. h b (inr m))) where
  nothing : (b : Bool) (a : Place) → leaver_of a ≡ [] → flat_map leaver_of (filter f xs) ≡ filter g (flat_map leaver_of xs) → flat_map leaver_of (cond b (a ∷ filter f xs) (filter f xs)) ≡ filter g (flat_map leaver_of xs)
  nothing true a e k = ap (λ y. y ++ flat_map leaver_of (filter f xs)) e ∙ k
  nothing false a e k = k

  one : (b : Bool) (a : Place) (x : Leaver) → leaver_of a ≡ x ∷ [] → g x ≡ b → flat_map leaver_of (filter f xs) ≡ filter g (flat_map leaver_of xs)
      → flat_map leaver_of (cond b (a ∷ filter f xs) (filter f xs)) ≡ cond (g x) (x ∷ filter g (flat_map leaver_of xs)) (filter g (flat_map leaver_of xs))
  one true a x e w k = ap (λ y. y ++ flat_map leaver_of (filter f xs)) e ∙ (ap (λ ys. x ∷ ys) k ∙ ap (λ d. cond d (x ∷ filter g (flat_map leaver_of xs)) (filter g (flat_map leaver_of xs))) (sym w))
  one false a x e w k = k ∙ ap (λ d. cond d (x ∷ filter g (flat_map leaver_of xs)) (filter g (flat_map leaver_of xs))) (sym w)

  by : (a : Place) → ((x : Leaver) → Among x (leaver_of a) → f a ≡ g x) → flat_map leaver_of (filter f xs) ≡ filter g (flat_map leaver_of xs)
      → flat_map leaver_of (cond (f a) (a ∷ filter f xs) (filter f xs)) ≡ filter g (leaver_of a ++ flat_map leaver_of xs)
  by (node_place p n) w k = nothing (f (node_place p n)) (node_place p n) refl k
  by (position_place p n) w k = nothing (f (position_place p n)) (position_place p n) refl k
  by (item_place p n) w k = nothing (f (item_place p n)) (item_place p n) refl k
  by (modifier_place p n) w k = one (f (modifier_place p n)) (modifier_place p n) (modifier_leaves p) refl (sym (w (modifier_leaves p) (inl refl))) k
  by (instance_place p n) w k = one (f (instance_place p n)) (instance_place p n) (instance_leaves p) refl (sym (w (instance_leaves p) (inl refl))) k

pub destroys_in_order : DestroysInOrder
destroys_in_order app σ τ st l h cells =
    filter_flat (λ a. nat_eq (times (id_of a) l') 0) (goes (draw app τ)) (leaving [] l) (λ a m x n. by a (leaves_stand [] l a m) x n) ∙ ap (filter (goes (draw app τ))) (tree_walked app σ τ st l h) where
      l' : Live
      l' = (renew_app app τ l st).0

      by : (a : Place) → Among a (places [] l) → (x : Leaver) → Among x (leaver_of a) → nat_eq (times (id_of a) (renew_app app τ l st).0) 0 ≡ goes (draw app τ) x
      by (modifier_place p n) m x (inl e) = modifier_gone app σ τ st l h cells (p, n) (found_in modifier_in (p, n) (modifier_place p n) (places [] l) refl m) ∙ ap (goes (draw app τ)) (sym e)
      by (instance_place p i) m x (inl e) = instance_gone app σ τ st l h cells (p, i) (found_in instance_in (p, i) (instance_place p i) (places [] l) refl m) ∙ ap (goes (draw app τ)) (sym e)
      by (modifier_place p n) m x (inr e) = absurd e
      by (instance_place p i) m x (inr e) = absurd e
      by (node_place p n) m x e = absurd e
      by (position_place p n) m x e = absurd e
      by (item_place p n) m x e = absurd e

-- The modifiers of a walk

abbrev mod_leavers : List Leaver → List Path
mod_leavers [] = []
mod_leavers (modifier_leaves p ∷ xs) = p ∷ mod_leavers xs
mod_leavers (instance_leaves p ∷ xs) = mod_leavers xs

leavers_join : (xs ys : List Leaver) → mod_leavers (xs ++ ys) ≡ mod_leavers xs ++ mod_leavers ys
leavers_join [] ys = refl
leavers_join (modifier_leaves p ∷ xs) ys = ap (λ zs. p ∷ zs) (leavers_join xs ys)
leavers_join (instance_leaves p ∷ xs) ys = leavers_join xs ys

map_join : {A B : Type 0} (f : A → B) (xs ys : List A) → map f (xs ++ ys) ≡ map f xs ++ map f ys
map_join f [] ys = refl
map_join f (x ∷ xs) ys = ap (λ zs. f x ∷ zs) (map_join f xs ys)

of_mods : (ms : List Modifier) → mod_leavers (map (λ m. modifier_leaves m.path) ms) ≡ map (λ m. m.path) ms
of_mods [] = refl
of_mods (m ∷ ms) = ap (λ zs. m.path ∷ zs) (of_mods ms)

of_piece : (q : Piece) → mod_leavers (leavers q) ≡ map (λ m. m.path) (modifiers_on q)
of_piece (element_node p n a ms f) = of_mods ms
of_piece (component p s f) = refl
of_piece (text_node p z) = refl
of_piece (comment_node p z) = refl
of_piece (branch p f) = refl
of_piece (item_region p v i f) = refl
of_piece (position p vs) = refl
of_piece (too_deep p) = refl

of_pieces : (qs : List Piece) → mod_leavers (flat_map leavers qs) ≡ map (λ m. m.path) (flat_map modifiers_on qs)
of_pieces [] = refl
of_pieces (q ∷ qs) = leavers_join (leavers q) (flat_map leavers qs) ∙ (ap₂ (λ a b. a ++ b) (of_piece q) (of_pieces qs) ∙ sym (map_join (λ (m : Modifier). m.path) (modifiers_on q) (flat_map modifiers_on qs)))

abbrev left : List Place → List Path
left xs = mod_leavers (flat_map leaver_of xs)

abbrev firsts : List Place → List Path
firsts xs = map (λ z. z.0) (filter_map modifier_in xs)

left_join : (xs ys : List Place) (ps qs : List Path) → left xs ≡ ps → left ys ≡ qs → left (xs ++ ys) ≡ ps ++ qs
left_join xs ys ps qs e f = ap mod_leavers (flat_join leaver_of xs ys) ∙ (leavers_join (flat_map leaver_of xs) (flat_map leaver_of ys) ∙ ap₂ (λ a b. a ++ b) e f)

firsts_join : (xs ys : List Place) → firsts (xs ++ ys) ≡ firsts xs ++ firsts ys
firsts_join xs ys = ap (map (λ (z : Path × ℕ). z.0)) (filter_map_append modifier_in xs ys) ∙ map_join (λ (z : Path × ℕ). z.0) (filter_map modifier_in xs) (filter_map modifier_in ys)

attrs_first : (p : Path) (xs : List AttrSpot) → firsts (attr_places p xs) ≡ []
attrs_first p [] = refl
attrs_first p (a ∷ xs) = attrs_first p xs

comment_first : (p : Path) (k : Option ℕ) → firsts (comment_places p k) ≡ []
comment_first p None = refl
comment_first p (Some n) = refl

arm_first : (p : Path) (k : Option ℕ) (xs : List Place) (ps : List Path) → ps ≡ firsts xs → ps ≡ firsts (xs ++ comment_places p k)
arm_first p k xs ps e = e ∙ sym (firsts_join xs (comment_places p k) ∙ (ap (λ a. firsts xs ++ a) (comment_first p k) ∙ append-nil (firsts xs)))

mods_same : (p : Path) (i : ℕ) (zs : List ModSpot) → left (mods_leaving p i zs) ≡ firsts (mod_places p i zs)
mods_same p i [] = refl
mods_same p i (z ∷ zs) = ap (λ ps. (modifier_at i ∷ p) ∷ ps) (mods_same p (suc i) zs)

mutual
  same : (p : Path) (l : Live) → left (leaving p l) ≡ firsts (places p l)
  same p (Live.still n) = refl
  same p (Live.put_live n z) = refl
  same p (Live.element_live n made xs zs ls) =
      left_join (leaving_in p 0 ls) (mods_leaving p 0 zs) (firsts (places_in p 0 ls)) (firsts (mod_places p 0 zs)) (same_in p 0 ls) (mods_same p 0 zs)
      ∙ sym (firsts_join (attr_places p xs) (places_in p 0 ls ++ mod_places p 0 zs) ∙ (ap (λ a. a ++ firsts (places_in p 0 ls ++ mod_places p 0 zs)) (attrs_first p xs) ∙ firsts_join (places_in p 0 ls) (mod_places p 0 zs)))
  same p (Live.branch_live z true k ls) = arm_first (main ∷ p) k (places_in (main ∷ p) 0 ls) (left (leaving_in (main ∷ p) 0 ls)) (same_in (main ∷ p) 0 ls)
  same p (Live.branch_live z false k ls) = arm_first (otherwise ∷ p) k (places_in (otherwise ∷ p) 0 ls) (left (leaving_in (otherwise ∷ p) 0 ls)) (same_in (otherwise ∷ p) 0 ls)
  same p (Live.listed z is) = same_items (items ∷ p) is
  same p (Live.unlisted z k ls) = arm_first (otherwise ∷ p) k (places_in (otherwise ∷ p) 0 ls) (left (leaving_in (otherwise ∷ p) 0 ls)) (same_in (otherwise ∷ p) 0 ls)
  same p (Live.let_live made rs ls) = same_in (main ∷ p) 0 ls
  same p (Live.component_live i made gm args b ls) = left_join (leaving_in i.path 0 ls) (instance_place i.path i ∷ []) (firsts (places_in i.path 0 ls)) [] (same_in i.path 0 ls) refl ∙ append-nil (firsts (places_in i.path 0 ls))
  same p (Live.yield_live n made rs ls) = same_in (slot n ∷ p) 0 ls
  same p (Live.deep_live q) = refl

  same_items : (p : Path) (is : Items) → left (leaving_items p is) ≡ firsts (places_items p is)
  same_items p Live.no_items = refl
  same_items p (Live.item_live z k ls is) =
      let q = item z.key z.occurrence ∷ p in
      left_join (leaving_in q 0 ls) (leaving_items p is) (firsts (places_in q 0 ls ++ comment_places q k)) (firsts (places_items p is)) (arm_first q k (places_in q 0 ls) (left (leaving_in q 0 ls)) (same_in q 0 ls)) (same_items p is)
      ∙ sym (firsts_join (places_in q 0 ls ++ comment_places q k) (places_items p is))

  same_in : (p : Path) (i : ℕ) (ls : Lives) → left (leaving_in p i ls) ≡ firsts (places_in p i ls)
  same_in p i Live.no_lives = refl
  same_in p i (Live.live_and l ls) =
      left_join (leaving (at i ∷ p) l) (leaving_in p (suc i) ls) (firsts (places (at i ∷ p) l)) (firsts (places_in p (suc i) ls)) (same (at i ∷ p) l) (same_in p (suc i) ls) ∙ sym (firsts_join (places (at i ∷ p) l) (places_in p (suc i) ls))

pub modifiers_in_order : ModifiersInOrder
modifiers_in_order app σ τ st l h = sym (same [] l) ∙ (ap mod_leavers (tree_walked app σ τ st l h) ∙ of_pieces (children_first (draw app σ)))
