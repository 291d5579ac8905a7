-- The nodes and the positions of the places, in order.
use Rattle.std.proofs.Common.{◌≡◌, ℕ, suc, List, [], ◌∷◌, ◌++◌, map, true, false, Option, Some, None, refl, ap, ap₂, ◌∙◌}
use Rattle.std.specs.Prelude.{filter_map}
use Rattle.std.proofs.lemmas.List.{append-nil}
use Rattle.gl_meaning.specs.Path.{at, main, otherwise, items, item, slot, Path}
use Rattle.gl_meaning.proofs.Pieces.{filter_map_append}
use Rattle.gl_plain.specs.Live
use Rattle.gl_plain.specs.Live.{AttrSpot, ModSpot, Live, Lives, Items}
use Rattle.gl_plain.specs.Counts.{comment_node, nodes_of, nodes_items, nodes_in, attr_positions, mod_positions, positions_of, positions_items, positions_in}
use Rattle.gl_turns.specs.Places.{Place, node_in, position_in, comment_places, attr_places, mod_places, places, places_items, places_in}

map_join : {A B : Type 0} (f : A → B) (xs ys : List A) → map f (xs ++ ys) ≡ map f xs ++ map f ys
map_join f [] ys = refl
map_join f (x ∷ xs) ys = ap (λ zs. f x ∷ zs) (map_join f xs ys)

abbrev pub Seconds : (Place → Option (Path × ℕ)) → List Place → List ℕ
Seconds g xs = map (λ z. z.1) (filter_map g xs)

seconds_join : (g : Place → Option (Path × ℕ)) (xs ys : List Place) → Seconds g (xs ++ ys) ≡ Seconds g xs ++ Seconds g ys
seconds_join g xs ys = ap (map (λ z. z.1)) (filter_map_append g xs ys) ∙ map_join (λ z. z.1) (filter_map g xs) (filter_map g ys)

both : (g : Place → Option (Path × ℕ)) (xs ys : List Place) (ns ms : List ℕ) → Seconds g xs ≡ ns → Seconds g ys ≡ ms → Seconds g (xs ++ ys) ≡ ns ++ ms
both g xs ys ns ms e f = seconds_join g xs ys ∙ ap₂ (λ a b. a ++ b) e f

attrs_nodes : (p : Path) (xs : List AttrSpot) → Seconds node_in (attr_places p xs) ≡ []
attrs_nodes p [] = refl
attrs_nodes p (a ∷ xs) = attrs_nodes p xs

attrs_positions : (p : Path) (xs : List AttrSpot) → Seconds position_in (attr_places p xs) ≡ attr_positions xs
attrs_positions p [] = refl
attrs_positions p (a ∷ xs) = ap (λ ns. a.spot.ref ∷ ns) (attrs_positions p xs)

mods_nodes : (p : Path) (i : ℕ) (zs : List ModSpot) → Seconds node_in (mod_places p i zs) ≡ []
mods_nodes p i [] = refl
mods_nodes p i (z ∷ zs) = mods_nodes p (suc i) zs

mods_positions : (p : Path) (i : ℕ) (zs : List ModSpot) → Seconds position_in (mod_places p i zs) ≡ mod_positions zs
mods_positions p i [] = refl
mods_positions p i (z ∷ zs) = ap (λ ns. z.spot.ref ∷ ns) (mods_positions p (suc i) zs)

comments_nodes : (p : Path) (k : Option ℕ) → Seconds node_in (comment_places p k) ≡ comment_node k
comments_nodes p None = refl
comments_nodes p (Some n) = refl

comments_positions : (p : Path) (k : Option ℕ) → Seconds position_in (comment_places p k) ≡ []
comments_positions p None = refl
comments_positions p (Some n) = refl

mutual
  pub nodes_listed : (p : Path) (l : Live) → Seconds node_in (places p l) ≡ nodes_of l
  nodes_listed p (Live.still n) = refl
  nodes_listed p (Live.put_live n z) = refl
  nodes_listed p (Live.element_live n made xs zs ls) =
      ap (λ ns. n ∷ ns) (both node_in (attr_places p xs) (places_in p 0 ls ++ mod_places p 0 zs) [] (nodes_in ls ++ []) (attrs_nodes p xs) (both node_in (places_in p 0 ls) (mod_places p 0 zs) (nodes_in ls) [] (body_nodes p 0 ls) (mods_nodes p 0 zs)) ∙ append-nil (nodes_in ls))
  nodes_listed p (Live.branch_live z true k ls) = both node_in (places_in (main ∷ p) 0 ls) (comment_places (main ∷ p) k) (nodes_in ls) (comment_node k) (body_nodes (main ∷ p) 0 ls) (comments_nodes (main ∷ p) k)
  nodes_listed p (Live.branch_live z false k ls) = both node_in (places_in (otherwise ∷ p) 0 ls) (comment_places (otherwise ∷ p) k) (nodes_in ls) (comment_node k) (body_nodes (otherwise ∷ p) 0 ls) (comments_nodes (otherwise ∷ p) k)
  nodes_listed p (Live.listed z is) = items_nodes (items ∷ p) is
  nodes_listed p (Live.unlisted z k ls) = both node_in (places_in (otherwise ∷ p) 0 ls) (comment_places (otherwise ∷ p) k) (nodes_in ls) (comment_node k) (body_nodes (otherwise ∷ p) 0 ls) (comments_nodes (otherwise ∷ p) k)
  nodes_listed p (Live.let_live made rs ls) = body_nodes (main ∷ p) 0 ls
  nodes_listed p (Live.component_live i made gm args b ls) = body_nodes i.path 0 ls
  nodes_listed p (Live.yield_live n made rs ls) = body_nodes (slot n ∷ p) 0 ls
  nodes_listed p (Live.deep_live q) = refl

  items_nodes : (p : Path) (is : Items) → Seconds node_in (places_items p is) ≡ nodes_items is
  items_nodes p Live.no_items = refl
  items_nodes p (Live.item_live z k ls is) =
      let q = item z.key z.occurrence ∷ p in
      both node_in (places_in q 0 ls ++ comment_places q k) (places_items p is) (nodes_in ls ++ comment_node k) (nodes_items is)
      (both node_in (places_in q 0 ls) (comment_places q k) (nodes_in ls) (comment_node k) (body_nodes q 0 ls) (comments_nodes q k)) (items_nodes p is)

  body_nodes : (p : Path) (i : ℕ) (ls : Lives) → Seconds node_in (places_in p i ls) ≡ nodes_in ls
  body_nodes p i Live.no_lives = refl
  body_nodes p i (Live.live_and l ls) = both node_in (places (at i ∷ p) l) (places_in p (suc i) ls) (nodes_of l) (nodes_in ls) (nodes_listed (at i ∷ p) l) (body_nodes p (suc i) ls)

arm_positions : (p : Path) (k : Option ℕ) (ls : Lives) → Seconds position_in (places_in p 0 ls) ≡ positions_in ls → Seconds position_in (places_in p 0 ls ++ comment_places p k) ≡ positions_in ls
arm_positions p k ls h = both position_in (places_in p 0 ls) (comment_places p k) (positions_in ls) [] h (comments_positions p k) ∙ append-nil (positions_in ls)

mutual
  pub positions_listed : (p : Path) (l : Live) → Seconds position_in (places p l) ≡ positions_of l
  positions_listed p (Live.still n) = refl
  positions_listed p (Live.put_live n z) = refl
  positions_listed p (Live.element_live n made xs zs ls) =
      both position_in (attr_places p xs) (places_in p 0 ls ++ mod_places p 0 zs) (attr_positions xs) (positions_in ls ++ mod_positions zs) (attrs_positions p xs)
      (both position_in (places_in p 0 ls) (mod_places p 0 zs) (positions_in ls) (mod_positions zs) (body_positions p 0 ls) (mods_positions p 0 zs))
  positions_listed p (Live.branch_live z true k ls) = ap (λ ns. z.ref ∷ ns) (arm_positions (main ∷ p) k ls (body_positions (main ∷ p) 0 ls))
  positions_listed p (Live.branch_live z false k ls) = ap (λ ns. z.ref ∷ ns) (arm_positions (otherwise ∷ p) k ls (body_positions (otherwise ∷ p) 0 ls))
  positions_listed p (Live.listed z is) = ap (λ ns. z.ref ∷ ns) (items_positions (items ∷ p) is)
  positions_listed p (Live.unlisted z k ls) = ap (λ ns. z.ref ∷ ns) (arm_positions (otherwise ∷ p) k ls (body_positions (otherwise ∷ p) 0 ls))
  positions_listed p (Live.let_live made rs ls) = body_positions (main ∷ p) 0 ls
  positions_listed p (Live.component_live i made gm args b ls) = body_positions i.path 0 ls
  positions_listed p (Live.yield_live n made rs ls) = body_positions (slot n ∷ p) 0 ls
  positions_listed p (Live.deep_live q) = refl

  items_positions : (p : Path) (is : Items) → Seconds position_in (places_items p is) ≡ positions_items is
  items_positions p Live.no_items = refl
  items_positions p (Live.item_live z k ls is) =
      let q = item z.key z.occurrence ∷ p in
      both position_in (places_in q 0 ls ++ comment_places q k) (places_items p is) (positions_in ls) (positions_items is) (arm_positions q k ls (body_positions q 0 ls)) (items_positions p is)

  body_positions : (p : Path) (i : ℕ) (ls : Lives) → Seconds position_in (places_in p i ls) ≡ positions_in ls
  body_positions p i Live.no_lives = refl
  body_positions p i (Live.live_and l ls) = both position_in (places (at i ∷ p) l) (places_in p (suc i) ls) (positions_of l) (positions_in ls) (positions_listed (at i ∷ p) l) (body_positions p (suc i) ls)
