-- Where the things of a tree stand: each node, position, item, instance and modifier with its path.
use Rattle.std.specs.Prelude.{ℕ, suc, List, [], ◌∷◌, ◌++◌, true, false, Option, Some, None}
use Rattle.gl_meaning.specs.Path.{at, main, otherwise, items, item, slot, empty, attribute_at, modifier_at, Path}
use Rattle.gl_plain.specs.Ids.{Id, ref, node, instance_id, modifier_id}
use Rattle.gl_plain.specs.State.{Inst}
use Rattle.gl_plain.specs.Live.{AttrSpot, ModSpot, ItemSpot, Live, still, put_live, element_live, branch_live, listed, unlisted, let_live, component_live, yield_live, deep_live, Items, no_items, item_live, Lives, no_lives, live_and}

pub data Place : Type 0 where
  node_place : Path → ℕ → Place
  position_place : Path → ℕ → Place
  item_place : Path → ItemSpot → Place
  instance_place : Path → Inst → Place
  modifier_place : Path → ℕ → Place

abbrev pub path_of : Place → Path
path_of (node_place p n) = p
path_of (position_place p r) = p
path_of (item_place p z) = p
path_of (instance_place p i) = p
path_of (modifier_place p m) = p

-- what is named there; an item by one of its references
abbrev pub id_by : (ItemSpot → ℕ) → Place → Id
id_by f (node_place p n) = node n
id_by f (position_place p r) = ref r
id_by f (item_place p z) = ref (f z)
id_by f (instance_place p i) = instance_id i.id
id_by f (modifier_place p m) = modifier_id m

-- an item by the reference of its value
abbrev pub id_of : Place → Id
id_of a = id_by (λ z. z.value) a

abbrev pub node_in : Place → Option (Path × ℕ)
node_in (node_place p n) = Some (p, n)
node_in _ = None

abbrev pub position_in : Place → Option (Path × ℕ)
position_in (position_place p r) = Some (p, r)
position_in _ = None

abbrev pub item_in : Place → Option (Path × ItemSpot)
item_in (item_place p z) = Some (p, z)
item_in _ = None

abbrev pub instance_in : Place → Option (Path × Inst)
instance_in (instance_place p i) = Some (p, i)
instance_in _ = None

abbrev pub modifier_in : Place → Option (Path × ℕ)
modifier_in (modifier_place p m) = Some (p, m)
modifier_in _ = None

abbrev pub comment_places : Path → Option ℕ → List Place
comment_places p None = []
comment_places p (Some n) = node_place (empty ∷ p) n ∷ []

abbrev pub attr_places : Path → List AttrSpot → List Place
attr_places p [] = []
attr_places p (a ∷ xs) = position_place (attribute_at a.name ∷ p) a.spot.ref ∷ attr_places p xs

-- the modifiers of an element; the first of these has the number i
abbrev pub mod_places : Path → ℕ → List ModSpot → List Place
mod_places p i [] = []
mod_places p i (z ∷ zs) = position_place (modifier_at i ∷ p) z.spot.ref ∷ modifier_place (modifier_at i ∷ p) z.id ∷ mod_places p (suc i) zs

-- What stands in a tree, in order: an element and its attributes before what is in it, its modifiers after it; a condition and an `each`
-- list before what they choose; the comment of a branch or an item last. The path is that of the part, or of the body whose first part
-- has the number i.
abbrev mutual
  pub places : Path → Live → List Place
  places p (still n) = node_place p n ∷ []
  places p (put_live n z) = position_place p z.ref ∷ node_place p n ∷ []
  places p (element_live n made xs zs ls) = node_place p n ∷ (attr_places p xs ++ (places_in p 0 ls ++ mod_places p 0 zs))
  places p (branch_live z true k ls) = position_place p z.ref ∷ (places_in (main ∷ p) 0 ls ++ comment_places (main ∷ p) k)
  places p (branch_live z false k ls) = position_place p z.ref ∷ (places_in (otherwise ∷ p) 0 ls ++ comment_places (otherwise ∷ p) k)
  places p (listed z is) = position_place p z.ref ∷ places_items (items ∷ p) is
  places p (unlisted z k ls) = position_place p z.ref ∷ (places_in (otherwise ∷ p) 0 ls ++ comment_places (otherwise ∷ p) k)
  places p (let_live made rs ls) = places_in (main ∷ p) 0 ls
  places p (component_live i made gm args b ls) = instance_place i.path i ∷ places_in i.path 0 ls
  places p (yield_live n made rs ls) = places_in (slot n ∷ p) 0 ls
  places p (deep_live q) = []

  pub places_items : Path → Items → List Place
  places_items p no_items = []
  places_items p (item_live z k ls is) =
      item_place (item z.key z.occurrence ∷ p) z
      ∷ ((places_in (item z.key z.occurrence ∷ p) 0 ls ++ comment_places (item z.key z.occurrence ∷ p) k) ++ places_items p is)

  pub places_in : Path → ℕ → Lives → List Place
  places_in p i no_lives = []
  places_in p i (live_and l ls) = places (at i ∷ p) l ++ places_in p (suc i) ls
