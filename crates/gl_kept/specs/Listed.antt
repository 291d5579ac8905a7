-- The lists of a rendering, and the plans by which they become those of the next.
use Rattle.std.specs.Prelude.{◌≡◌, ℕ, suc, List, [], ◌∷◌, ◌++◌, map, filter_map, true, false, Option, Some, None, unwrap_or}
use Rattle.gl_base.specs.Texts.{Text}
use Rattle.gl_value.specs.Value.{Values, undefined}
use Rattle.gl_ast.specs.ExprCode.{owned}
use Rattle.gl_meaning.specs.Path.{at, main, otherwise, items, item, slot, Path, at_path}
use Rattle.gl_meaning.specs.Render.{Piece, branch, item_region, Forest, no_pieces, piece, entries}
use Rattle.gl_meaning.specs.Changes.{pieces, Item}
use Rattle.gl_plain.specs.Live.{Live, element_live, branch_live, listed, unlisted, let_live, component_live, yield_live, Items, no_items, item_live, Lives, no_lives, live_and}
use Rattle.gl_each.specs.Key.{Key}
use Rattle.gl_each.specs.Sync.{Step, IsSync}
use Rattle.gl_each.specs.Moved.{items_at}

-- the items that stand in a forest with nothing between
abbrev pub direct_items : Forest → List Item
direct_items no_pieces = []
direct_items (piece (item_region p v i f) r) = record { path = p; value = v; index = i } ∷ direct_items r
direct_items (piece _ r) = direct_items r

-- What a branch has of items, with its path. The branch of an `if` has none.
abbrev pub list_in : Piece → Option (Path × List Item)
list_in (branch p f) = Some (p, direct_items f)
list_in _ = None

-- the lists of a rendering, in order
abbrev pub lists : Forest → List (Path × List Item)
lists f = filter_map list_in (pieces f)

-- the items are those that entries of some values render
abbrev pub AreEntries : Path → List Item → Type 0
AreEntries p is = (k : Text) × (vs : Values Path) × (is ≡ items_at p (entries k 0 [] vs))

-- the key of an item, with its occurrence
abbrev pub key_at : Path → Key
key_at (item k n ∷ p) = (owned k, n)
key_at _ = (undefined, 0)

abbrev pub item_keys : List Item → List Key
item_keys is = map (λ i. key_at i.path) is

-- the keys of each list of a rendering, in order
abbrev pub keys_of_list : Path × List Item → Path × List Key
keys_of_list l = (l.0, item_keys l.1)

abbrev pub keyed_lists : Forest → List (Path × List Key)
keyed_lists f = map keys_of_list (lists f)

-- The same of a tree.

abbrev pub spot_keys : Items → List Key
spot_keys no_items = []
spot_keys (item_live z k ls is) = (owned z.key, z.occurrence) ∷ spot_keys is

abbrev mutual
  pub tree_lists : Path → Live → List (Path × List Key)
  tree_lists p (element_live n made xs zs ls) = tree_lists_in p 0 ls
  tree_lists p (branch_live z true k ls) = (main ∷ p, []) ∷ tree_lists_in (main ∷ p) 0 ls
  tree_lists p (branch_live z false k ls) = (otherwise ∷ p, []) ∷ tree_lists_in (otherwise ∷ p) 0 ls
  tree_lists p (listed z is) = (items ∷ p, spot_keys is) ∷ tree_lists_items (items ∷ p) is
  tree_lists p (unlisted z k ls) = (otherwise ∷ p, []) ∷ tree_lists_in (otherwise ∷ p) 0 ls
  tree_lists p (let_live made rs ls) = tree_lists_in (main ∷ p) 0 ls
  tree_lists p (component_live i made gm args b ls) = tree_lists_in i.path 0 ls
  tree_lists p (yield_live n made rs ls) = tree_lists_in (slot n ∷ p) 0 ls
  tree_lists p _ = []

  pub tree_lists_items : Path → Items → List (Path × List Key)
  tree_lists_items p no_items = []
  tree_lists_items p (item_live z k ls is) = tree_lists_in (item z.key z.occurrence ∷ p) 0 ls ++ tree_lists_items p is

  pub tree_lists_in : Path → ℕ → Lives → List (Path × List Key)
  tree_lists_in p i no_lives = []
  tree_lists_in p i (live_and l ls) = tree_lists (at i ∷ p) l ++ tree_lists_in p (suc i) ls

-- the keys of the list with a path, or none
abbrev pub keys_at : Path → List (Path × List Key) → List Key
keys_at p ls = unwrap_or (at_path p ls) []

-- the plans by which each of the lists comes of the old one with its path
abbrev pub ArePlans : List (Path × List Key) → List (Path × List Key) → List (List Step) → Type 0
ArePlans olds [] [] = Unit {0}
ArePlans olds (l ∷ ls) (steps ∷ plans) = ((removed : List ℕ) × IsSync (keys_at l.0 olds) l.1 steps removed) × ArePlans olds ls plans
ArePlans olds _ _ = ⊥
