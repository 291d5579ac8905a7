-- How many items of one list are moved.
use Rattle.std.specs.Prelude.{ℕ, suc, List, [], ◌∷◌, map, filter, filter_map, length}
use Rattle.gl_meaning.specs.Path.{Path, item}
use Rattle.gl_meaning.specs.Render.{Entry}
use Rattle.gl_meaning.specs.Changes.{Item, item_of}
use Rattle.gl_meaning.specs.Work.{Kept, kept_one, is_passed}
use Rattle.gl_each.specs.Sync.{Step, retain, move, insert}

-- the items that the entries of the list at a path render
abbrev pub item_at : Path → Entry → Item
item_at p e = record { path = item e.key e.occurrence ∷ p; value = e.value; index = e.index }

abbrev pub items_at : Path → List Entry → List Item
items_at p es = map (item_at p) es

-- the items that persist, with their indexes before and after
abbrev pub persisting : List Item → List Item → List Kept
persisting old new = filter_map (λ i. kept_one i (item_of i.path old)) new

-- how many items persist for which there is one of the same list with a smaller new and a greater old index
abbrev pub moved_among : List Item → List Item → ℕ
moved_among old new = length (filter (is_passed (persisting old new)) (persisting old new))

-- how many steps move an item
abbrev pub moves : List Step → ℕ
moves [] = 0
moves (move i ∷ ss) = suc (moves ss)
moves (retain i ∷ ss) = moves ss
moves (insert ∷ ss) = moves ss
