-- Which id stands at which place: of what was rendered, all nodes, positions, instances, items and modifiers by their paths.
use Rattle.std.specs.Prelude.{ℕ, suc, List, [], ◌∷◌, ◌++◌, map, true, false, Option, Some, None}
use Rattle.gl_meaning.specs.Path.{at, main, otherwise, items, item, slot, empty, attribute_at, modifier_at, Path}
use Rattle.gl_meaning.specs.Parts.{Modifier}
use Rattle.gl_meaning.specs.Render.{Piece, element_node, text_node, comment_node, component, branch, item_region, position, too_deep, Forest, no_pieces, piece}
use Rattle.gl_plain.specs.Ids.{Id, ref, node, instance_id, modifier_id}
use Rattle.gl_plain.specs.State.{Names, Inst}
use Rattle.gl_plain.specs.Live.{AttrSpot, ModSpot, Live, still, put_live, element_live, branch_live, listed, unlisted, let_live, component_live, yield_live, deep_live, Items, no_items, item_live, Lives, no_lives, live_and}

-- what may stand at a path
pub data Role : Type 0 where
  a_node : Role
  a_position : Role
  an_instance : Role
  a_modifier : Role
  -- the value and the index of an item
  a_value : Role
  an_index : Role

-- An instance has its cells too.
pub record Row : Type 0 where
  pub role : Role
  pub path : Path
  pub id : Id
  pub cells : Names

abbrev pub row_of : Role → Path → Id → Row
row_of r p q = record { role = r; path = p; id = q; cells = [] }

abbrev pub comment_rows : Path → Option ℕ → List Row
comment_rows p None = []
comment_rows p (Some n) = row_of a_node (empty ∷ p) (node n) ∷ []

abbrev pub attr_rows : Path → List AttrSpot → List Row
attr_rows p [] = []
attr_rows p (a ∷ xs) = row_of a_position (attribute_at a.name ∷ p) (ref a.spot.ref) ∷ attr_rows p xs

abbrev pub mod_spot_rows : Path → ℕ → List ModSpot → List Row
mod_spot_rows p i [] = []
mod_spot_rows p i (z ∷ zs) = row_of a_position (modifier_at i ∷ p) (ref z.spot.ref) ∷ mod_spot_rows p (suc i) zs

abbrev pub mod_rows : Path → ℕ → List ModSpot → List Row
mod_rows p i [] = []
mod_rows p i (z ∷ zs) = row_of a_modifier (modifier_at i ∷ p) (modifier_id z.id) ∷ mod_rows p (suc i) zs

-- of an element's tag, and the element's node last
abbrev pub tag_rows : Path → ℕ → List AttrSpot → List ModSpot → List Row
tag_rows p n xs zs = attr_rows p xs ++ (mod_spot_rows p 0 zs ++ (mod_rows p 0 zs ++ row_of a_node p (node n) ∷ []))

abbrev pub instance_rows : Inst → List Row
instance_rows i = record { role = an_instance; path = i.path; id = instance_id i.id; cells = i.cells } ∷ []

-- The path of a part is that of its statement. An element's positions and modifiers come before its node.
abbrev mutual
  pub rows : Path → Live → List Row
  rows p (still n) = row_of a_node p (node n) ∷ []
  rows p (put_live n z) = row_of a_position p (ref z.ref) ∷ row_of a_node p (node n) ∷ []
  rows p (element_live n made xs zs ls) = tag_rows p n xs zs ++ rows_in p 0 ls
  rows p (branch_live z true k ls) = row_of a_position p (ref z.ref) ∷ (rows_in (main ∷ p) 0 ls ++ comment_rows (main ∷ p) k)
  rows p (branch_live z false k ls) = row_of a_position p (ref z.ref) ∷ (rows_in (otherwise ∷ p) 0 ls ++ comment_rows (otherwise ∷ p) k)
  rows p (listed z is) = row_of a_position p (ref z.ref) ∷ rows_items (items ∷ p) is
  rows p (unlisted z k ls) = row_of a_position p (ref z.ref) ∷ (rows_in (otherwise ∷ p) 0 ls ++ comment_rows (otherwise ∷ p) k)
  rows p (let_live made rs ls) = rows_in (main ∷ p) 0 ls
  rows p (component_live i made gm args k ls) = instance_rows i ++ rows_in i.path 0 ls
  rows p (yield_live n made rs ls) = rows_in (slot n ∷ p) 0 ls
  rows p (deep_live q) = []

  pub rows_items : Path → Items → List Row
  rows_items p no_items = []
  rows_items p (item_live z k ls is) =
      let q = item z.key z.occurrence ∷ p in
      (row_of a_value q (ref z.value) ∷ (row_of an_index q (ref z.index) ∷ (rows_in q 0 ls ++ comment_rows q k))) ++ rows_items p is

  pub rows_in : Path → ℕ → Lives → List Row
  rows_in p i no_lives = []
  rows_in p i (live_and l ls) = rows (at i ∷ p) l ++ rows_in p (suc i) ls

-- of the whole page
abbrev pub page_rows : Live → List Row
page_rows l = rows [] l

abbrev pub row_ids : List Row → List Id
row_ids xs = map (λ x. x.id) xs

-- What a rendering has, in the same order

abbrev pub modifier_places : List Modifier → List (Role × Path)
modifier_places ms = map (λ m. (a_modifier, m.path)) ms

abbrev mutual
  pub piece_places : Piece → List (Role × Path)
  piece_places (element_node p t a ms f) = modifier_places ms ++ ((a_node, p) ∷ places f)
  piece_places (text_node p t) = (a_node, p) ∷ []
  piece_places (comment_node p t) = (a_node, p) ∷ []
  piece_places (component p s f) = (an_instance, p) ∷ places f
  piece_places (branch p f) = places f
  piece_places (item_region p v i f) = (a_value, p) ∷ ((an_index, p) ∷ places f)
  piece_places (position p ps) = (a_position, p) ∷ []
  piece_places (too_deep p) = []

  pub places : Forest → List (Role × Path)
  places no_pieces = []
  places (piece q f) = piece_places q ++ places f
