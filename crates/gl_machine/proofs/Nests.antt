-- Nests in order, with their paths, and those of renderings.
use Rattle.std.proofs.Common.{◌≡◌, ℕ, suc, [], ◌∷◌, ◌++◌, map, true, false, Option, Some, None, refl, sym, ◌∙◌, ap, ap₂}
use Rattle.std.specs.Prelude.{filter_map}
use Rattle.std.proofs.lemmas.List.{append-nil, append_assoc, map-append}
use Rattle.gl_meaning.specs.Path.{at, main, otherwise, items, item, slot, Path}
use Rattle.gl_meaning.specs.Render.{Piece, element_node, text_node, comment_node, component, branch, item_region, position, too_deep, Forest, no_pieces, piece}
use Rattle.gl_meaning.specs.Changes.{pieces_in, pieces, node_path, nodes}
use Rattle.gl_meaning.proofs.Pieces.{filter_map_append}
use Rattle.gl_plain.specs.Live
use Rattle.gl_plain.specs.Live.{Live, Lives, Items}
use Rattle.gl_plain.specs.Counts.{comment_node as comment_list, nodes_of, nodes_items, nodes_in}
use Rattle.gl_machine.specs.Shape.{Nest, end, tree, joined, map_nest, in_order, nest_comment, nest, nest_items, nest_in, place_comment, placed_nest, placed_items, placed_in, piece_nest, forest_nest}
use Rattle.gl_machine.specs.UpdateLaws.{NestIsOrdered, NestIsPlaced, NestHasNodes}

-- Order

pub order_joined : {A : Type 0} (f g : Nest A) → in_order (joined f g) ≡ in_order f ++ in_order g
order_joined end g = refl
order_joined (tree n k r) g = ap (λ xs. n ∷ xs) (ap (λ xs. in_order k ++ xs) (order_joined r g) ∙ sym (append_assoc (in_order k) (in_order r) (in_order g)))

order_comment : (k : Option ℕ) → in_order (nest_comment k) ≡ comment_list k
order_comment None = refl
order_comment (Some n) = refl

mutual
  order_is : (l : Live) → in_order (nest l) ≡ nodes_of l
  order_is (Live.still n) = refl
  order_is (Live.put_live n z) = refl
  order_is (Live.element_live n made xs zs ls) = ap (λ ns. n ∷ ns) (append-nil (in_order (nest_in ls)) ∙ order_in ls)
  order_is (Live.branch_live z u k ls) = order_joined (nest_in ls) (nest_comment k) ∙ ap₂ (λ a b. a ++ b) (order_in ls) (order_comment k)
  order_is (Live.listed z is) = order_items is
  order_is (Live.unlisted z k ls) = order_joined (nest_in ls) (nest_comment k) ∙ ap₂ (λ a b. a ++ b) (order_in ls) (order_comment k)
  order_is (Live.let_live made rs ls) = order_in ls
  order_is (Live.component_live i made gm args k ls) = order_in ls
  order_is (Live.yield_live n made rs ls) = order_in ls
  order_is (Live.deep_live p) = refl

  order_items : (is : Items) → in_order (nest_items is) ≡ nodes_items is
  order_items Live.no_items = refl
  order_items (Live.item_live z k ls is) =
      order_joined (joined (nest_in ls) (nest_comment k)) (nest_items is)
      ∙ ap₂ (λ a b. a ++ b) (order_joined (nest_in ls) (nest_comment k) ∙ ap₂ (λ a b. a ++ b) (order_in ls) (order_comment k)) (order_items is)

  order_in : (ls : Lives) → in_order (nest_in ls) ≡ nodes_in ls
  order_in Live.no_lives = refl
  order_in (Live.live_and l ls) = order_joined (nest l) (nest_in ls) ∙ ap₂ (λ a b. a ++ b) (order_is l) (order_in ls)

pub nest_is_ordered : NestIsOrdered
nest_is_ordered l = order_is l

-- Paths

pub map_joined : {A B : Type 0} (h : A → B) (f g : Nest A) → map_nest h (joined f g) ≡ joined (map_nest h f) (map_nest h g)
map_joined h end g = refl
map_joined h (tree n k r) g = ap (tree (h n) (map_nest h k)) (map_joined h r g)

abbrev number : Path × ℕ → ℕ
number x = x.1

bare_comment : (p : Path) (k : Option ℕ) → map_nest number (place_comment p k) ≡ nest_comment k
bare_comment p None = refl
bare_comment p (Some n) = refl

bare_arm : (p : Path) (k : Option ℕ) (ls : Lives) → map_nest number (placed_in p 0 ls) ≡ nest_in ls → map_nest number (joined (placed_in p 0 ls) (place_comment p k)) ≡ joined (nest_in ls) (nest_comment k)
bare_arm p k ls e = map_joined number (placed_in p 0 ls) (place_comment p k) ∙ ap₂ joined e (bare_comment p k)

mutual
  bare_is : (p : Path) (l : Live) → map_nest number (placed_nest p l) ≡ nest l
  bare_is p (Live.still n) = refl
  bare_is p (Live.put_live n z) = refl
  bare_is p (Live.element_live n made xs zs ls) = ap (λ f. tree n f end) (bare_in p 0 ls)
  bare_is p (Live.branch_live z true k ls) = bare_arm (main ∷ p) k ls (bare_in (main ∷ p) 0 ls)
  bare_is p (Live.branch_live z false k ls) = bare_arm (otherwise ∷ p) k ls (bare_in (otherwise ∷ p) 0 ls)
  bare_is p (Live.listed z is) = bare_items (items ∷ p) is
  bare_is p (Live.unlisted z k ls) = bare_arm (otherwise ∷ p) k ls (bare_in (otherwise ∷ p) 0 ls)
  bare_is p (Live.let_live made rs ls) = bare_in (main ∷ p) 0 ls
  bare_is p (Live.component_live i made gm args k ls) = bare_in i.path 0 ls
  bare_is p (Live.yield_live n made rs ls) = bare_in (slot n ∷ p) 0 ls
  bare_is p (Live.deep_live q) = refl

  bare_items : (p : Path) (is : Items) → map_nest number (placed_items p is) ≡ nest_items is
  bare_items p Live.no_items = refl
  bare_items p (Live.item_live z k ls is) =
      map_joined number (joined (placed_in (item z.key z.occurrence ∷ p) 0 ls) (place_comment (item z.key z.occurrence ∷ p) k)) (placed_items p is)
      ∙ ap₂ joined (bare_arm (item z.key z.occurrence ∷ p) k ls (bare_in (item z.key z.occurrence ∷ p) 0 ls)) (bare_items p is)

  bare_in : (p : Path) (i : ℕ) (ls : Lives) → map_nest number (placed_in p i ls) ≡ nest_in ls
  bare_in p i Live.no_lives = refl
  bare_in p i (Live.live_and l ls) = map_joined number (placed_nest (at i ∷ p) l) (placed_in p (suc i) ls) ∙ ap₂ joined (bare_is (at i ∷ p) l) (bare_in p (suc i) ls)

pub nest_is_placed : NestIsPlaced
nest_is_placed l = bare_is [] l

-- Renderings

abbrev path : Path × Rattle.gl_plain.specs.State.Content → Path
path x = x.0

mutual
  piece_paths : (q : Piece) → map path (in_order (piece_nest q)) ≡ filter_map node_path (pieces_in q)
  piece_paths (element_node p t a m f) = ap (λ ps. p ∷ ps) (ap (map path) (append-nil (in_order (forest_nest f))) ∙ forest_paths f)
  piece_paths (text_node p t) = refl
  piece_paths (comment_node p t) = refl
  piece_paths (component p s f) = forest_paths f
  piece_paths (branch p f) = forest_paths f
  piece_paths (item_region p v i f) = forest_paths f
  piece_paths (position p ps) = refl
  piece_paths (too_deep p) = refl

  forest_paths : (f : Forest) → map path (in_order (forest_nest f)) ≡ nodes f
  forest_paths no_pieces = refl
  forest_paths (piece q f) =
      ap (map path) (order_joined (piece_nest q) (forest_nest f))
      ∙ (map-append path (in_order (piece_nest q)) (in_order (forest_nest f))
      ∙ (ap₂ (λ a b. a ++ b) (piece_paths q) (forest_paths f) ∙ sym (filter_map_append node_path (pieces_in q) (pieces f))))

pub nest_has_nodes : NestHasNodes
nest_has_nodes f = forest_paths f
