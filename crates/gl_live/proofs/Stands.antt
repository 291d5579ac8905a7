-- What stands in a tree by the list of its places.
use Rattle.std.proofs.Common.{◌≡◌, ◌+◌, ℕ, suc, List, [], ◌∷◌, ◌++◌, true, false, Option, Some, None, length, refl, sym, ◌∙◌, arith}
use Rattle.std.specs.Prelude.{filter_map}
use Rattle.gl_meaning.specs.Path.{at, main, otherwise, items, item, slot, Path}
use Rattle.gl_plain.specs.Live.{AttrSpot, ModSpot, Live, still, put_live, element_live, branch_live, listed, unlisted, let_live, component_live, yield_live, deep_live, Items, no_items, item_live, Lives, no_lives, live_and}
use Rattle.gl_turns.specs.Places.{Place, node_place, position_place, item_place, instance_place, modifier_place, node_in, instance_in, comment_places, attr_places, mod_places, places, places_items, places_in}
use Rattle.gl_live.specs.Counting.{weigh_comment, weigh, weigh_items, weigh_in}

module _ (a b : ℕ) where
  -- what a place counts
  abbrev one : Place → ℕ
  one (node_place p n) = a
  one (instance_place p i) = b
  one _ = 0

  abbrev all : List Place → ℕ
  all [] = 0
  all (x ∷ xs) = one x + all xs

  all_join : (xs ys : List Place) → all (xs ++ ys) ≡ all xs + all ys
  all_join [] ys = omega arith
  all_join (x ∷ xs) ys = let rest = all_join xs ys in omega (arith, rest)

  attrs_none : (p : Path) (xs : List AttrSpot) → all (attr_places p xs) ≡ 0
  attrs_none p [] = refl
  attrs_none p (x ∷ xs) = let rest = attrs_none p xs in omega (arith, rest)

  mods_none : (p : Path) (i : ℕ) (zs : List ModSpot) → all (mod_places p i zs) ≡ 0
  mods_none p i [] = refl
  mods_none p i (z ∷ zs) = let rest = mods_none p (suc i) zs in omega (arith, rest)

  comment_one : (p : Path) (k : Option ℕ) → all (comment_places p k) ≡ weigh_comment a k
  comment_one p None = refl
  comment_one p (Some n) = omega arith

  -- a body with its comment
  arm : (p : Path) (ls : Lives) (k : Option ℕ) → all (places_in p 0 ls) ≡ weigh_in a b ls → all (places_in p 0 ls ++ comment_places p k) ≡ weigh_in a b ls + weigh_comment a k
  arm p ls k body = let j = all_join (places_in p 0 ls) (comment_places p k) in let c = comment_one p k in omega (arith, j, c, body)

  mutual
    weighed : (p : Path) (l : Live) → all (places p l) ≡ weigh a b l
    weighed p (still n) = omega arith
    weighed p (put_live n z) = omega arith
    weighed p (element_live n made xs zs ls) =
        let body = weighed_in p 0 ls in
        let attrs = attrs_none p xs in
        let mods = mods_none p 0 zs in
        let j = all_join (attr_places p xs) (places_in p 0 ls ++ mod_places p 0 zs) in
        let k = all_join (places_in p 0 ls) (mod_places p 0 zs) in
        omega (arith, body, attrs, mods, j, k)
    weighed p (branch_live z true k ls) = let t = arm (main ∷ p) ls k (weighed_in (main ∷ p) 0 ls) in omega (arith, t)
    weighed p (branch_live z false k ls) = let t = arm (otherwise ∷ p) ls k (weighed_in (otherwise ∷ p) 0 ls) in omega (arith, t)
    weighed p (listed z is) = let t = weighed_items (items ∷ p) is in omega (arith, t)
    weighed p (unlisted z k ls) = let t = arm (otherwise ∷ p) ls k (weighed_in (otherwise ∷ p) 0 ls) in omega (arith, t)
    weighed p (let_live made rs ls) = weighed_in (main ∷ p) 0 ls
    weighed p (component_live i made gm args k ls) = let t = weighed_in i.path 0 ls in omega (arith, t)
    weighed p (yield_live n made rs ls) = weighed_in (slot n ∷ p) 0 ls
    weighed p (deep_live q) = refl

    weighed_items : (p : Path) (is : Items) → all (places_items p is) ≡ weigh_items a b is
    weighed_items p no_items = refl
    weighed_items p (item_live z k ls is) =
        let q : Path = item z.key z.occurrence ∷ p in
        let t = arm q ls k (weighed_in q 0 ls) in
        let rest = weighed_items p is in
        let j = all_join (places_in q 0 ls ++ comment_places q k) (places_items p is) in
        omega (arith, t, rest, j)

    weighed_in : (p : Path) (i : ℕ) (ls : Lives) → all (places_in p i ls) ≡ weigh_in a b ls
    weighed_in p i no_lives = refl
    weighed_in p i (live_and l ls) =
        let first = weighed (at i ∷ p) l in
        let rest = weighed_in p (suc i) ls in
        let j = all_join (places (at i ∷ p) l) (places_in p (suc i) ls) in
        omega (arith, first, rest, j)

nodes_all : (xs : List Place) → length (filter_map node_in xs) ≡ all 1 0 xs
nodes_all [] = refl
nodes_all (node_place p n ∷ xs) = let rest = nodes_all xs in omega (arith, rest)
nodes_all (position_place p r ∷ xs) = let rest = nodes_all xs in omega (arith, rest)
nodes_all (item_place p z ∷ xs) = let rest = nodes_all xs in omega (arith, rest)
nodes_all (instance_place p i ∷ xs) = let rest = nodes_all xs in omega (arith, rest)
nodes_all (modifier_place p m ∷ xs) = let rest = nodes_all xs in omega (arith, rest)

instances_all : (xs : List Place) → length (filter_map instance_in xs) ≡ all 0 1 xs
instances_all [] = refl
instances_all (node_place p n ∷ xs) = let rest = instances_all xs in omega (arith, rest)
instances_all (position_place p r ∷ xs) = let rest = instances_all xs in omega (arith, rest)
instances_all (item_place p z ∷ xs) = let rest = instances_all xs in omega (arith, rest)
instances_all (instance_place p i ∷ xs) = let rest = instances_all xs in omega (arith, rest)
instances_all (modifier_place p m ∷ xs) = let rest = instances_all xs in omega (arith, rest)

-- the nodes and the instances that stand in a tree
pub nodes_weigh : (p : Path) (l : Live) → weigh 1 0 l ≡ length (filter_map node_in (places p l))
nodes_weigh p l = sym (nodes_all (places p l) ∙ weighed 1 0 p l)

pub instances_weigh : (p : Path) (l : Live) → weigh 0 1 l ≡ length (filter_map instance_in (places p l))
instances_weigh p l = sym (instances_all (places p l) ∙ weighed 0 1 p l)
