-- The nodes of a tree with their modifiers, beside the pieces that are these nodes.
use Rattle.std.proofs.Common.{◌≡◌, ℕ, suc, List, [], ◌∷◌, ◌++◌, map, Bool, true, false, Option, Some, None, refl, sym, ap, ap₂, ◌∙◌, subst}
use Rattle.std.specs.Prelude.{if◌then◌else◌, nat_eq, filter, filter_map, flat_map, codes}
use Rattle.std.specs.Str.{bytes_eq}
use Rattle.std.proofs.lemmas.List.{append-nil, map-append}
use Rattle.gl_base.specs.Texts.{Text}
use Rattle.gl_meaning.specs.Path.{Path, V, empty, attribute_at}
use Rattle.gl_meaning.specs.Scope.{Pair, Scope}
use Rattle.gl_meaning.specs.Parts.{Attrs, Modifier, WrittenValue, distinct_names, taken_values, some_live}
use Rattle.gl_meaning.specs.Changes.{pieces}
use Rattle.gl_meaning.specs.Render as r
use Rattle.gl_meaning.specs.Render.{Forest, Piece, element_node, text_node, comment_node, component, branch, item_region, position, too_deep, no_pieces, piece, single, join, forest_of}
use Rattle.gl_meaning.proofs.Pieces.{filter_map_append, pieces_join}
use Rattle.gl_plain.specs.Ids.{Id, modifier_id}
use Rattle.gl_plain.specs.State.{Inst, modifier_row, Thing}
use Rattle.gl_plain.specs.Live.{AttrSpot, ModSpot, ItemSpot, Lives, have_node}
use Rattle.gl_plain.specs.Stands.{CommentStands}
use Rattle.gl_meaning.specs.App.{App}
use Rattle.gl_meaning.specs.Eval.{Store}
use Rattle.gl_turns.specs.Places.{Place, node_place, position_place, item_place, instance_place, node_in, comment_places, attr_places, mod_places}
use Rattle.gl_turns.proofs.Walked.{flat_join}
use Rattle.gl_acting.specs.Laws.{Told, told_modifier}

-- what is told of a modifier as it is kept
abbrev pub told_kept : Option Thing → Told
told_kept (Some (modifier_row x)) = (bytes_eq x.name (codes "on"), x.args)
told_kept _ = (false, [])

-- a node of the tree: its path, its number, and its modifiers
pub record Noted : Type 0 where
  pub path : Path
  pub number : ℕ
  pub spots : List ModSpot

abbrev pub numbered : Noted → Path × ℕ
numbered e = (e.path, e.number)

abbrev pub spots_at : ℕ → Noted → List ModSpot
spots_at k e = if nat_eq k e.number then e.spots else []

-- a piece that is a node, with what is told of its modifiers
abbrev pub piece_told : Piece → Option (Path × List Told)
piece_told (element_node p t a ms f) = Some (p, map told_modifier ms)
piece_told (text_node p t) = Some (p, [])
piece_told (comment_node p t) = Some (p, [])
piece_told _ = None

-- the positions of a tag's parts are no nodes
abbrev Untold : List Piece → Type 0
Untold qs = filter_map piece_told (pieces (forest_of qs)) ≡ []

modifiers_untold : (ms : List Modifier) → Untold (r.modifier_positions ms)
modifiers_untold [] = refl
modifiers_untold (m ∷ ms) = modifiers_untold ms

attributes_untold : (p : Path) (pairs : Text → List Pair) (ns : List Text) (qs : List Piece) → Untold qs → Untold (map (λ n. position (attribute_at n ∷ p) (pairs n)) ns ++ qs)
attributes_untold p pairs [] qs h = h
attributes_untold p pairs (n ∷ ns) qs h = attributes_untold p pairs ns qs h

pub parts_untold : (p : Path) (ws : List (WrittenValue Scope)) (pairs : Text → List Pair) (ms : List Modifier) → Untold (r.attr_positions p ws pairs ++ r.modifier_positions ms)
parts_untold p ws pairs ms = attributes_untold p pairs (filter (λ n. some_live (taken_values n ws)) (distinct_names ws)) (r.modifier_positions ms) (modifiers_untold ms)

attr_nodes : (p : Path) (xs : List AttrSpot) (ys : List Place) → filter_map node_in (attr_places p xs ++ ys) ≡ filter_map node_in ys
attr_nodes p [] ys = refl
attr_nodes p (a ∷ xs) ys = attr_nodes p xs ys

mod_nodes : (p : Path) (i : ℕ) (zs : List ModSpot) → filter_map node_in (mod_places p i zs) ≡ []
mod_nodes p i [] = refl
mod_nodes p i (z ∷ zs) = mod_nodes p (suc i) zs

none_there : (b : Bool) → ◌≡◌ {A = List ModSpot} [] ((if b then [] else []) ++ [])
none_there true = refl
none_there false = refl

module _ (look : Id → Option Thing) where
  abbrev pub told_spot : ModSpot → Told
  told_spot z = told_kept (look (modifier_id z.id))

  abbrev pub told_of : Noted → Path × List Told
  told_of e = (e.path, map (λ z. told_kept (look (modifier_id z.id))) e.spots)

  -- Some places have the same nodes as some pieces, with the same modifiers; and by number the modifiers are these.
  pub record Notes (xs : List Place) (spots : ℕ → List ModSpot) (qs : List Piece) : Type 0 where
    pub noted : List Noted
    pub nodes : filter_map node_in xs ≡ map numbered noted
    pub by_number : (k : ℕ) → spots k ≡ flat_map (spots_at k) noted
    pub told : map told_of noted ≡ filter_map piece_told qs

  pub notes_none : Notes [] (λ k. []) []
  notes_none = record { noted = []; nodes = refl; by_number = λ k. refl; told = refl }

  pub notes_join : (xs ys : List Place) (ss ts : ℕ → List ModSpot) (qs rs : List Piece) → Notes xs ss qs → Notes ys ts rs → Notes (xs ++ ys) (λ k. ss k ++ ts k) (qs ++ rs)
  notes_join xs ys ss ts qs rs h g = record {
    noted = h.noted ++ g.noted;
    nodes = filter_map_append node_in xs ys ∙ (ap₂ (λ a b. a ++ b) h.nodes g.nodes ∙ sym (map-append numbered h.noted g.noted));
    by_number = λ k. ap₂ (λ a b. a ++ b) (h.by_number k) (g.by_number k) ∙ sym (flat_join (spots_at k) h.noted g.noted);
    told = map-append told_of h.noted g.noted ∙ (ap₂ (λ a b. a ++ b) h.told g.told ∙ sym (filter_map_append piece_told qs rs));
  }

  pub notes_forests : (xs ys : List Place) (ss ts : ℕ → List ModSpot) (f g : Forest) → Notes xs ss (pieces f) → Notes ys ts (pieces g) → Notes (xs ++ ys) (λ k. ss k ++ ts k) (pieces (join f g))
  notes_forests xs ys ss ts f g h k = subst (Notes (xs ++ ys) (λ k. ss k ++ ts k)) (sym (pieces_join f g)) (notes_join xs ys ss ts (pieces f) (pieces g) h k)

  -- where what comes after has no modifiers
  notes_after : (xs ys : List Place) (ss : ℕ → List ModSpot) (f g : Forest) → Notes xs ss (pieces f) → Notes ys (λ k. []) (pieces g) → Notes (xs ++ ys) ss (pieces (join f g))
  notes_after xs ys ss f g h k =
      let j = notes_forests xs ys ss (λ k. []) f g h k in
      record { noted = j.noted; nodes = j.nodes; by_number = λ n. sym (append-nil (ss n)) ∙ j.by_number n; told = j.told }

  pub notes_leaf : (p : Path) (n : ℕ) (qs : List Piece) → ◌≡◌ {A = List (Path × List Told)} ((p, []) ∷ []) (filter_map piece_told qs) → Notes (node_place p n ∷ []) (λ k. []) qs
  notes_leaf p n qs e = record { noted = record { path = p; number = n; spots = [] } ∷ []; nodes = refl; by_number = λ k. none_there (nat_eq k n); told = e }

  pub notes_position : (p : Path) (n : ℕ) (vs : List Pair) (xs : List Place) (ss : ℕ → List ModSpot) (qs : List Piece) → Notes xs ss qs → Notes (position_place p n ∷ xs) ss (position p vs ∷ qs)
  notes_position p n vs xs ss qs h = record { noted = h.noted; nodes = h.nodes; by_number = h.by_number; told = h.told }

  at_end : (xs : List Place) (ss : ℕ → List ModSpot) (qs : List Piece) → Notes xs ss qs → Notes xs ss (qs ++ [])
  at_end xs ss qs h = subst (Notes xs ss) (sym (append-nil qs)) h

  pub notes_branch : (p : Path) (xs : List Place) (ss : ℕ → List ModSpot) (f : Forest) → Notes xs ss (pieces f) → Notes xs ss (pieces (single (branch p f)))
  notes_branch p xs ss f h = let k = at_end xs ss (pieces f) h in record { noted = k.noted; nodes = k.nodes; by_number = k.by_number; told = k.told }

  pub notes_component : (p q : Path) (i : Inst) (s : Scope) (xs : List Place) (ss : ℕ → List ModSpot) (f : Forest) → Notes xs ss (pieces f) → Notes (instance_place q i ∷ xs) ss (pieces (single (component p s f)))
  notes_component p q i s xs ss f h = let k = at_end xs ss (pieces f) h in record { noted = k.noted; nodes = k.nodes; by_number = k.by_number; told = k.told }

  -- a comment where no node is
  pub notes_arm : (app : App) (σ τ : Store) (p : Path) (o : Option ℕ) (xs : List Place) (ss : ℕ → List ModSpot) (ls : Lives) (f : Forest) → r.has_node f ≡ have_node ls → CommentStands app σ τ look o ls → Notes xs ss (pieces f)
      → Notes (xs ++ comment_places p o) ss (pieces (r.or_comment p f))
  notes_arm app σ τ p None xs ss ls f e s h =
      let g = single (comment_node (empty ∷ p) []) in
      subst (λ d. Notes (xs ++ []) ss (pieces (join f (if d then no_pieces else g)))) (sym (e ∙ s)) (notes_after xs [] ss f no_pieces h notes_none)
  notes_arm app σ τ p (Some n) xs ss ls f e s h =
      let g = single (comment_node (empty ∷ p) []) in
      subst (λ d. Notes (xs ++ node_place (empty ∷ p) n ∷ []) ss (pieces (join f (if d then no_pieces else g)))) (sym (e ∙ s.0))
      (notes_after xs (node_place (empty ∷ p) n ∷ []) ss f g h (notes_leaf (empty ∷ p) n (pieces g) refl))

  pub notes_item : (q : Path) (z : ItemSpot) (v : V) (i : ℕ) (xs ys : List Place) (ss ts : ℕ → List ModSpot) (f g : Forest) → Notes xs ss (pieces f) → Notes ys ts (pieces g)
      → Notes (item_place q z ∷ (xs ++ ys)) (λ k. ss k ++ ts k) (pieces (piece (item_region q v i f) g))
  notes_item q z v i xs ys ss ts f g h k = let j = notes_join xs ys ss ts (pieces f) (pieces g) h k in record { noted = j.noted; nodes = j.nodes; by_number = j.by_number; told = j.told }

  pub notes_element : (p : Path) (n : ℕ) (xs : List AttrSpot) (zs : List ModSpot) (ys : List Place) (ss : ℕ → List ModSpot) (qs : List Piece) (tag : Text) (attrs : Attrs) (mods : List Modifier) (f : Forest) → Untold qs
      → map told_spot zs ≡ map told_modifier mods → Notes ys ss (pieces f)
      → Notes (node_place p n ∷ (attr_places p xs ++ (ys ++ mod_places p 0 zs))) (λ k. (if nat_eq k n then zs else []) ++ ss k) (pieces (join (forest_of qs) (single (element_node p tag attrs mods f))))
  notes_element p n xs zs ys ss qs tag attrs mods f untold same h =
      let el = element_node p tag attrs mods f in
      let k = at_end ys ss (pieces f) h in
      record {
        noted = record { path = p; number = n; spots = zs } ∷ k.noted;
        nodes = ap (λ a. (p, n) ∷ a) (attr_nodes p xs (ys ++ mod_places p 0 zs) ∙ (filter_map_append node_in ys (mod_places p 0 zs) ∙ (ap (λ a. filter_map node_in ys ++ a) (mod_nodes p 0 zs) ∙ (append-nil (filter_map node_in ys) ∙ k.nodes))));
        by_number = λ j. ap (λ a. (if nat_eq j n then zs else []) ++ a) (k.by_number j);
        told =
            ap₂ (λ a b. (p, a) ∷ b) same k.told
            ∙ sym (ap (filter_map piece_told) (pieces_join (forest_of qs) (single el)) ∙ (filter_map_append piece_told (pieces (forest_of qs)) (pieces (single el)) ∙ ap (λ a. a ++ filter_map piece_told (pieces (single el))) untold));
      }
