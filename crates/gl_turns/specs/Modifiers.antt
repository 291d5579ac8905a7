-- The modifiers of a tree, in the order in which they stand: those in an element before the element's own.
use Rattle.std.specs.Prelude.{ℕ, List, [], ◌∷◌, ◌++◌}
use Rattle.gl_plain.specs.Live.{ModSpot, Live, still, put_live, element_live, branch_live, listed, unlisted, let_live, component_live, yield_live, deep_live, Items, no_items, item_live, Lives, no_lives, live_and}

abbrev pub mod_ids : List ModSpot → List ℕ
mod_ids [] = []
mod_ids (z ∷ zs) = z.id ∷ mod_ids zs

abbrev mutual
  pub modifiers_of : Live → List ℕ
  modifiers_of (still n) = []
  modifiers_of (put_live n z) = []
  modifiers_of (element_live n made xs zs ls) = modifiers_in ls ++ mod_ids zs
  modifiers_of (branch_live z u k ls) = modifiers_in ls
  modifiers_of (listed z is) = modifiers_items is
  modifiers_of (unlisted z k ls) = modifiers_in ls
  modifiers_of (let_live made rs ls) = modifiers_in ls
  modifiers_of (component_live i made gm args b ls) = modifiers_in ls
  modifiers_of (yield_live n made rs ls) = modifiers_in ls
  modifiers_of (deep_live q) = []

  pub modifiers_items : Items → List ℕ
  modifiers_items no_items = []
  modifiers_items (item_live z k ls is) = modifiers_in ls ++ modifiers_items is

  pub modifiers_in : Lives → List ℕ
  modifiers_in no_lives = []
  modifiers_in (live_and l ls) = modifiers_of l ++ modifiers_in ls
