-- How a plan is carried out on a list of items.
use Rattle.std.specs.Prelude.{ℕ, suc, List, [], ◌∷◌, ◌++◌, map, filter, Bool, false, nat_eq, not, if◌then◌else◌, Option, slice_get}
use Rattle.std.specs.List.{range_with_len}
use Rattle.gl_each.specs.Sync.{Step, retain, move, insert, has_place}

-- an item: the old one at a place of the old list, or the new one at a place of the new list
pub data Item : Type 0 where
  old_item : ℕ → Item
  new_item : ℕ → Item

abbrev pub is_old : ℕ → Item → Bool
is_old i (old_item j) = nat_eq j i
is_old i (new_item n) = false

-- the old items from i on
abbrev pub old_items : List ℕ → List Item
old_items places = map old_item places

-- the items without the old one at a place
abbrev pub without : ℕ → List Item → List Item
without i xs = filter (λ x. not (is_old i x)) xs

-- the places up to i, and those behind it
abbrev pub up_to : ℕ → List ℕ → List ℕ
up_to i [] = []
up_to i (j ∷ js) = if nat_eq i j then j ∷ [] else j ∷ up_to i js

abbrev pub behind : ℕ → List ℕ → List ℕ
behind i [] = []
behind i (j ∷ js) = if nat_eq i j then js else behind i js

-- Carrying out the steps from the one with the number n on, where a mark parts the list. What stands behind the mark are old items,
-- given by their places. A retained item stays where it is, and the mark is put behind it; an item is moved to the mark, in front of
-- it; a new item is put in there.
abbrev pub carried : ℕ → List Step → List Item → List ℕ → List Item
carried n [] front back = front ++ old_items back
carried n (retain i ∷ ss) front back = carried (suc n) ss (front ++ old_items (up_to i back)) (behind i back)
carried n (move i ∷ ss) front back = carried (suc n) ss (without i front ++ old_item i ∷ []) back
carried n (insert ∷ ss) front back = carried (suc n) ss (front ++ new_item n ∷ []) back

-- Carrying out a plan on the list of m old items: the removed ones are taken out, and then the steps are carried out in order.
abbrev pub carried_out : ℕ → List Step → List ℕ → List Item
carried_out m steps removed = carried 0 steps [] (filter (λ i. not (has_place removed i)) (range_with_len 0 m))

-- the items of the new list: for each step the old item that it keeps, or the new one
abbrev pub wanted : ℕ → List Step → List Item
wanted n [] = []
wanted n (retain i ∷ ss) = old_item i ∷ wanted (suc n) ss
wanted n (move i ∷ ss) = old_item i ∷ wanted (suc n) ss
wanted n (insert ∷ ss) = new_item n ∷ wanted (suc n) ss

-- the key of an item
abbrev pub item_key : {K : Type 0} → List K → List K → Item → Option K
item_key old new (old_item i) = slice_get old i
item_key old new (new_item n) = slice_get new n
