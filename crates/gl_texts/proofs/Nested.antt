-- The nodes of a nest with their paths are those of the places, each path with one number.
use Rattle.std.proofs.Common.{◌≡◌, ℕ, suc, List, [], ◌∷◌, ◌++◌, true, false, Option, Some, None, refl, sym, ap, ap₂, ◌∙◌, subst}
use Rattle.std.specs.Prelude.{filter_map}
use Rattle.std.proofs.lemmas.List.{append-nil}
use Rattle.gl_meaning.specs.App.{App}
use Rattle.gl_meaning.specs.Path.{at, main, otherwise, items, item, slot, Path, at_path}
use Rattle.gl_meaning.specs.Eval.{Store}
use Rattle.gl_meaning.specs.Known.{Among}
use Rattle.gl_meaning.specs.Laws.{NoRepeat}
use Rattle.gl_meaning.proofs.Once.{nodes_once}
use Rattle.gl_meaning.proofs.Pieces.{filter_map_append}
use Rattle.gl_plain.specs.State.{State}
use Rattle.gl_plain.specs.Live
use Rattle.gl_plain.specs.Live.{AttrSpot, ModSpot, Live, Lives, Items}
use Rattle.gl_plain.specs.Machine.{StandsFor}
use Rattle.gl_machine.specs.Shape.{Nest, joined, in_order, place_comment, placed_nest, placed_items, placed_in}
use Rattle.gl_machine.proofs.Nests.{order_joined}
use Rattle.gl_turns.specs.Places.{Place, node_place, node_in, comment_places, attr_places, mod_places, places, places_items, places_in}
use Rattle.gl_turns.proofs.Found.{found_in, at_found}
use Rattle.gl_turns.proofs.Numbered.{tree_agrees}

abbrev pub Nodes : List Place → List (Path × ℕ)
Nodes xs = filter_map node_in xs

attrs_none : (p : Path) (xs : List AttrSpot) → Nodes (attr_places p xs) ≡ []
attrs_none p [] = refl
attrs_none p (a ∷ xs) = attrs_none p xs

mods_none : (p : Path) (i : ℕ) (zs : List ModSpot) → Nodes (mod_places p i zs) ≡ []
mods_none p i [] = refl
mods_none p i (z ∷ zs) = mods_none p (suc i) zs

comment_order : (p : Path) (k : Option ℕ) → in_order (place_comment p k) ≡ Nodes (comment_places p k)
comment_order p None = refl
comment_order p (Some n) = refl

both_order : (f g : Nest (Path × ℕ)) (xs ys : List Place) → in_order f ≡ Nodes xs → in_order g ≡ Nodes ys → in_order (joined f g) ≡ Nodes (xs ++ ys)
both_order f g xs ys e d = order_joined f g ∙ (ap₂ (λ a b. a ++ b) e d ∙ sym (filter_map_append node_in xs ys))

arm_order : (p : Path) (k : Option ℕ) (ls : Lives) → in_order (placed_in p 0 ls) ≡ Nodes (places_in p 0 ls) → in_order (joined (placed_in p 0 ls) (place_comment p k)) ≡ Nodes (places_in p 0 ls ++ comment_places p k)
arm_order p k ls e = both_order (placed_in p 0 ls) (place_comment p k) (places_in p 0 ls) (comment_places p k) e (comment_order p k)

tag_order : (p : Path) (xs : List AttrSpot) (ys : List Place) (zs : List ModSpot) → Nodes (attr_places p xs ++ (ys ++ mod_places p 0 zs)) ≡ Nodes ys
tag_order p xs ys zs =
    filter_map_append node_in (attr_places p xs) (ys ++ mod_places p 0 zs)
    ∙ (ap (λ a. a ++ Nodes (ys ++ mod_places p 0 zs)) (attrs_none p xs)
    ∙ (filter_map_append node_in ys (mod_places p 0 zs) ∙ (ap (λ a. Nodes ys ++ a) (mods_none p 0 zs) ∙ append-nil (Nodes ys))))

mutual
  pub order_is : (p : Path) (l : Live) → in_order (placed_nest p l) ≡ Nodes (places p l)
  order_is p (Live.still n) = refl
  order_is p (Live.put_live n z) = refl
  order_is p (Live.element_live n made xs zs ls) = ap (λ ns. (p, n) ∷ ns) (append-nil (in_order (placed_in p 0 ls)) ∙ (order_in p 0 ls ∙ sym (tag_order p xs (places_in p 0 ls) zs)))
  order_is p (Live.branch_live z true k ls) = arm_order (main ∷ p) k ls (order_in (main ∷ p) 0 ls)
  order_is p (Live.branch_live z false k ls) = arm_order (otherwise ∷ p) k ls (order_in (otherwise ∷ p) 0 ls)
  order_is p (Live.listed z is) = order_items (items ∷ p) is
  order_is p (Live.unlisted z k ls) = arm_order (otherwise ∷ p) k ls (order_in (otherwise ∷ p) 0 ls)
  order_is p (Live.let_live made rs ls) = order_in (main ∷ p) 0 ls
  order_is p (Live.component_live i made gm args k ls) = order_in i.path 0 ls
  order_is p (Live.yield_live n made rs ls) = order_in (slot n ∷ p) 0 ls
  order_is p (Live.deep_live q) = refl

  order_items : (p : Path) (is : Items) → in_order (placed_items p is) ≡ Nodes (places_items p is)
  order_items p Live.no_items = refl
  order_items p (Live.item_live z k ls is) =
      let q = item z.key z.occurrence ∷ p in
      both_order (joined (placed_in q 0 ls) (place_comment q k)) (placed_items p is) (places_in q 0 ls ++ comment_places q k) (places_items p is) (arm_order q k ls (order_in q 0 ls)) (order_items p is)

  order_in : (p : Path) (i : ℕ) (ls : Lives) → in_order (placed_in p i ls) ≡ Nodes (places_in p i ls)
  order_in p i Live.no_lives = refl
  order_in p i (Live.live_and l ls) = both_order (placed_nest (at i ∷ p) l) (placed_in p (suc i) ls) (places (at i ∷ p) l) (places_in p (suc i) ls) (order_is (at i ∷ p) l) (order_in p (suc i) ls)

-- Where a tree stands the path of each of its nodes has that node's number.
pub numbered : (app : App) (σ τ : Store) (st : State) (l : Live) → StandsFor app σ τ st l → (z : Path × ℕ) → Among z (Nodes (places [] l)) → at_path z.0 (Nodes (places [] l)) ≡ Some z.1
numbered app σ τ st l h z m = at_found z.0 z.1 (Nodes (places [] l)) (subst NoRepeat (sym (tree_agrees app σ τ st l h).0.nodes) (nodes_once app σ)) m

pub place_numbered : (app : App) (σ τ : Store) (st : State) (l : Live) → StandsFor app σ τ st l → (p : Path) (n : ℕ) → Among (node_place p n) (places [] l) → at_path p (Nodes (places [] l)) ≡ Some n
place_numbered app σ τ st l h p n m = numbered app σ τ st l h (p, n) (found_in node_in (p, n) (node_place p n) (places [] l) refl m)
