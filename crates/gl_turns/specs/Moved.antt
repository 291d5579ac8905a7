-- How many items are moved, list by list.
use Rattle.std.specs.Prelude.{ℕ, ◌+◌, List, [], ◌∷◌, filter, filter_map, length}
use Rattle.gl_meaning.specs.Path.{Path, path_eq}
use Rattle.gl_meaning.specs.Changes.{Item, item_of}
use Rattle.gl_meaning.specs.Work.{Kept, list_path, kept_one, is_passed}

-- the items of the list at a path
abbrev pub of_list : Path → List Item → List Item
of_list q is = filter (λ i. path_eq (list_path i.path) q) is

-- those that persist, with their indexes before and after
abbrev pub kept_between : List Item → List Item → List Kept
kept_between old new = filter_map (λ i. kept_one i (item_of i.path old)) new

-- how many of them are moved
abbrev pub moved_between : List Item → List Item → ℕ
moved_between old new = length (filter (is_passed (kept_between old new)) (kept_between old new))

-- and in the lists at some paths
abbrev pub moved_in : List Item → List Item → List Path → ℕ
moved_in old new [] = 0
moved_in old new (q ∷ qs) = moved_between (of_list q old) (of_list q new) + moved_in old new qs
