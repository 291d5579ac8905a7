-- Two renderings after one another: what persists, what is numbered, what is touched.
use Rattle.std.specs.Prelude.{ℕ, List, [], ◌∷◌, ◌++◌, map, flat_map, filter_map, Bool, false, ◌&&◌, not, if◌then◌else◌, Option, Some, None}
use Rattle.std.specs.List.{list_any}
use Rattle.std.specs.Str.{bytes_eq}
use Rattle.gl_base.specs.Texts.{Text}
use Rattle.gl_value.specs.Value.{same, count_value}
use Rattle.gl_meaning.specs.App.{App}
use Rattle.gl_meaning.specs.Numbering.{NumbersOf, numbers_from}
use Rattle.gl_meaning.specs.Path.{Path, V, path_eq, has_path, at_path}
use Rattle.gl_meaning.specs.Scope.{Source, cell, item_value, item_index, Pair, sources_of, Scope}
use Rattle.gl_meaning.specs.Eval.{Held, Store, class_at, cell_value}
use Rattle.gl_meaning.specs.Parts.{Modifier}
use Rattle.gl_meaning.specs.Render.{Piece, element_node, text_node, comment_node, component, branch, item_region, position, too_deep, Forest, no_pieces, piece}

-- What stands in a rendering

-- all pieces in document order, an element before its children
abbrev mutual
  pub pieces_in : Piece → List Piece
  pieces_in (element_node p t a m f) = element_node p t a m f ∷ pieces f
  pieces_in (component p s f) = component p s f ∷ pieces f
  pieces_in (branch p f) = branch p f ∷ pieces f
  pieces_in (item_region p v i f) = item_region p v i f ∷ pieces f
  pieces_in p = p ∷ []

  pub pieces : Forest → List Piece
  pieces no_pieces = []
  pieces (piece p f) = pieces_in p ++ pieces f

abbrev pub piece_path : Piece → Path
piece_path (element_node p t a m f) = p
piece_path (text_node p t) = p
piece_path (comment_node p t) = p
piece_path (component p s f) = p
piece_path (branch p f) = p
piece_path (item_region p v i f) = p
piece_path (position p ps) = p
piece_path (too_deep p) = p

abbrev pub node_path : Piece → Option Path
node_path (element_node p t a m f) = Some p
node_path (text_node p t) = Some p
node_path (comment_node p t) = Some p
node_path _ = None

abbrev pub instance_path : Piece → Option Path
instance_path (component p s f) = Some p
instance_path _ = None

-- A component's body, a branch and an item are regions; the root's body is the whole rendering.
abbrev pub region_path : Piece → Option Path
region_path (component p s f) = Some p
region_path (branch p f) = Some p
region_path (item_region p v i f) = Some p
region_path _ = None

pub record Position : Type 0 where
  pub path : Path
  pub pairs : List Pair

abbrev pub position_in : Piece → Option Position
position_in (position p ps) = Some (record { path = p; pairs = ps })
position_in _ = None

pub record Item : Type 0 where
  pub path : Path
  pub value : V
  pub index : ℕ

abbrev pub item_in : Piece → Option Item
item_in (item_region p v i f) = Some (record { path = p; value = v; index = i })
item_in _ = None

abbrev pub scope_in : Piece → Option (Path × Scope)
scope_in (component p s f) = Some (p, s)
scope_in _ = None

abbrev pub modifiers_on : Piece → List Modifier
modifiers_on (element_node p t a ms f) = ms
modifiers_on _ = []

-- Each of these in document order.

abbrev pub nodes : Forest → List Path
nodes f = filter_map node_path (pieces f)

abbrev pub instances : Forest → List Path
instances f = filter_map instance_path (pieces f)

abbrev pub regions : Forest → List Path
regions f = filter_map region_path (pieces f)

abbrev pub positions : Forest → List Position
positions f = filter_map position_in (pieces f)

abbrev pub rendered_items : Forest → List Item
rendered_items f = filter_map item_in (pieces f)

abbrev pub scopes : Forest → List (Path × Scope)
scopes f = filter_map scope_in (pieces f)

abbrev pub modifiers : Forest → List Modifier
modifiers f = flat_map modifiers_on (pieces f)

-- What persists

-- What stands at a path persists where the path stands in the other rendering too: it is one of its nodes, instances, regions or
-- modifiers.
abbrev pub persists : Path → List Path → Bool
persists p others = has_path p others

-- A path of the new rendering is new where it isn't one of the old.
abbrev pub is_new : Path → List Path → Bool
is_new p old = not (persists p old)

-- A path of the old rendering is gone where it isn't one of the new.
abbrev pub is_gone : Path → List Path → Bool
is_gone p new = not (persists p new)

-- The same of a position.
abbrev pub position_persists : Path → List Position → Bool
position_persists p others = list_any (λ q. path_eq p q.path) others

-- Cells

-- The cells of just the instances that are rendered, in document order, and of each instance by name: what they hold, or else
-- their initial values. Cells of instances that are gone are dropped.
abbrev pub cells_of : App → Store → Path → List Held
cells_of app store t = map (λ f. record { instance = t; field = f.0; value = cell_value app store t f.0 }) (class_at app t).fields

abbrev pub settle : App → Store → Forest → Store
settle app store f = flat_map (cells_of app store) (instances f)

-- Numbers

-- the numbers of nodes by path, and the next one that is given
abbrev pub Numbers : Type 0
Numbers = NumbersOf Path

-- A node whose path has a number keeps it. The others take `next` and the following ones, in document order. Numbers of paths that
-- are gone are dropped.
abbrev pub number_from : List (Path × ℕ) → ℕ → List Path → Numbers
number_from old next ps = numbers_from (λ p. at_path p old) next ps

abbrev pub number : Numbers → Forest → Numbers
number old f = number_from old.of old.next (nodes f)

-- What is touched

-- what an event sets, in order
abbrev pub Sets : Type 0
Sets = List Held

-- the field of the instance is set, also where it is set to an equal value
abbrev pub is_set : Sets → Path → Text → Bool
is_set sets t f = list_any (λ h. path_eq t h.instance && bytes_eq f h.field) sets

-- the item with a path
abbrev pub item_of : Path → List Item → Option Item
item_of p [] = None
item_of p (i ∷ is) = if path_eq p i.path then Some i else item_of p is

-- both are there, and differ
abbrev pub both_differ : {A : Type 0} → (A → A → Bool) → Option A → Option A → Bool
both_differ eq (Some x) (Some y) = not (eq x y)
both_differ eq _ _ = false

abbrev pub same_value : Item → Item → Bool
same_value x y = same path_eq x.value y.value

abbrev pub same_index : Item → Item → Bool
same_index x y = same path_eq (count_value x.index) (count_value y.index)

-- A cell is touched where the event sets it; an item's value or index where the item persists and that isn't the same as before.
abbrev pub touched : Forest → Forest → Sets → Source → Bool
touched old new sets (cell t f) = is_set sets t f
touched old new sets (item_value p) = both_differ same_value (item_of p (rendered_items old)) (item_of p (rendered_items new))
touched old new sets (item_index p) = both_differ same_index (item_of p (rendered_items old)) (item_of p (rendered_items new))

abbrev pub some_touched : Forest → Forest → Sets → List Pair → Bool
some_touched old new sets ps = list_any (touched old new sets) (sources_of ps)

-- A position is stale where it persists and read in the old rendering what is touched.
abbrev pub stale : Forest → Forest → Sets → Path → Bool
stale old new sets p =
    list_any (λ q. path_eq p q.path && some_touched old new sets q.pairs) (positions old)
    && position_persists p (positions new)
