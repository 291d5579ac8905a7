-- How much a turn has to do.
use Rattle.std.specs.Prelude.{ℕ, ◌+◌, List, [], ◌∷◌, map, filter, filter_map, length, sum, Bool, false, ◌&&◌, ◌||◌, not, nat_lt, Option, Some, None}
use Rattle.std.specs.List.{list_any}
use Rattle.gl_meaning.specs.Path.{Path, path_eq}
use Rattle.gl_meaning.specs.Render.{Piece, element_node, component, branch, item_region, position, Forest, no_pieces, piece}
use Rattle.gl_meaning.specs.Changes.{pieces, nodes, regions, region_path, positions, persists, is_new, position_persists, Item, item_of, rendered_items, Sets, some_touched, stale}

pub record Work : Type 0 where
  -- the positions that are new or stale
  pub evaluated : ℕ
  -- the nodes whose path is new
  pub made : ℕ
  -- the persisting items before which an item of the same list has come that stood behind them
  pub moved : ℕ

-- the path of the list that an item is of
abbrev pub list_path : Path → Path
list_path [] = []
list_path (s ∷ p) = p

-- a persisting item with its index before and after
pub record Kept : Type 0 where
  pub path : Path
  pub before : ℕ
  pub after : ℕ

abbrev pub kept_one : Item → Option Item → Option Kept
kept_one new None = None
kept_one new (Some old) = Some (record { path = new.path; before = old.index; after = new.index })

abbrev pub kept_items : Forest → Forest → List Kept
kept_items old new = filter_map (λ i. kept_one i (item_of i.path (rendered_items old))) (rendered_items new)

-- some item of the same list has a smaller new and a greater old index
abbrev pub is_passed : List Kept → Kept → Bool
is_passed all k = list_any (λ o. path_eq (list_path o.path) (list_path k.path) && (nat_lt o.after k.after && nat_lt k.before o.before)) all

abbrev pub work : Forest → Forest → Sets → Work
work old new sets = record {
  evaluated = length (filter (λ q. not (position_persists q.path (positions old)) || stale old new sets q.path) (positions new));
  made = length (filter (λ p. is_new p (nodes old)) (nodes new));
  moved = length (filter (is_passed (kept_items old new)) (kept_items old new));
}

-- Questions
--
-- A condition and an `each` list are members of the region round their statement.

-- how many positions and regions stand in it with no region between
abbrev mutual
  pub members_in : Piece → ℕ
  members_in (element_node p t a m f) = members f
  members_in (component p s f) = 1
  members_in (branch p f) = 1
  members_in (item_region p v i f) = 1
  members_in (position p ps) = 1
  members_in _ = 0

  pub members : Forest → ℕ
  members no_pieces = 0
  members (piece p f) = members_in p + members f

abbrev pub region_forest : Piece → Forest
region_forest (component p s f) = f
region_forest (branch p f) = f
region_forest (item_region p v i f) = f
region_forest _ = no_pieces

abbrev pub persists_region : Forest → Option Path → Bool
persists_region new None = false
persists_region new (Some p) = persists p (regions new)

-- A region is open where it persists and some position in it, or in a region within it, read in the old rendering what is touched.
abbrev pub is_open : Forest → Forest → Sets → Piece → Bool
is_open old new sets r = persists_region new (region_path r) && list_any (λ q. some_touched old new sets q.pairs) (positions (region_forest r))

-- How many questions suffice to find what is stale: one for the whole, and one for each member of each open region.
abbrev pub asked : Forest → Forest → Sets → ℕ
asked old new sets = 1 + sum (map (λ r. members (region_forest r)) (filter (is_open old new sets) (pieces old)))
