-- How many items an update moved, with what was counted before. It is said of updating programs in which no key of a list stands twice, as in
-- those of a session.
use Rattle.std.specs.Prelude.{◌≡◌, ℕ, ◌+◌, List, ◌∷◌, map, Bool, Option, Some, None, if◌then◌else◌}
use Rattle.gl_plain.specs.Live.{Live, listed, unlisted, Items}
use Rattle.gl_machine.specs.Code.{Code, live_of, Codes, lives_of, items_of}
use Rattle.gl_each.specs.Key.{Key}
use Rattle.gl_kept.specs.Between.{moved_between, moved_bodies, moved_items}
use Rattle.gl_guards.specs.Once.{KeysOnce, KeysOnceIn, KeysOnceItems}
use Rattle.gl_vm.specs.View.{Tables}
use Rattle.gl_code.specs.CodeView.{seen_item_code, all_items}
use Rattle.gl_code.specs.declared.code.ItemCode.{ItemCode}
use Rattle.gl_update.specs.ListItems.{Item, spot_key}
use Rattle.gl_update.specs.declared.counting.Moved.{Moved}

-- one, where an item is moved
abbrev pub one_if : Bool → ℕ
one_if b = if b then 1 else 0

-- so many more were moved than between what stood there and what stands there now: of a statement
abbrev pub CodeMoved : Moved → Moved → (Tables → Code) → (Tables → Code) → Type 0
CodeMoved before after x y = (n : Tables) → KeysOnce (live_of (x n)) → after.items ≡ before.items + moved_between (live_of (x n)) (live_of (y n))

-- of a body
abbrev pub CodesMoved : Moved → Moved → (Tables → Codes) → (Tables → Codes) → Type 0
CodesMoved before after x y = (n : Tables) → KeysOnceIn (lives_of (x n)) → after.items ≡ before.items + moved_bodies (lives_of (x n)) (lives_of (y n))

-- of an item, which is moved itself where it is told so
abbrev pub KeptMoved : Moved → Moved → Bool → (Tables → Item) → (Tables → Item) → Type 0
KeptMoved before after moves x y = (n : Tables) → KeysOnceIn (lives_of (x n).1.1) → after.items ≡ before.items + (one_if moves + moved_bodies (lives_of (x n).1.1) (lives_of (y n).1.1))

-- of the item of an entry: of a new one nothing is moved
abbrev pub ItemMoved : Moved → Moved → Bool → Option ItemCode → ItemCode → Type 0
ItemMoved before after moves None y = after.items ≡ before.items
ItemMoved before after moves (Some x) y = KeptMoved before after moves (λ n. seen_item_code n x) (λ n. seen_item_code n y)

-- the items of a list as they are kept
abbrev pub live_items : Tables → List ItemCode → Items
live_items n xs = items_of (all_items (map (seen_item_code n) xs))

-- of the items of a list, of which so many are moved by the plan
abbrev pub ItemsMoved : Moved → Moved → ℕ → List ItemCode → List ItemCode → Type 0
ItemsMoved before after count olds news = (n : Tables) → KeysOnceItems (live_items n olds) → after.items ≡ before.items + (count + moved_items (live_items n olds) (live_items n news))

-- what was moved within items that stay in their places
abbrev pub along_moved : List Item → List Item → ℕ
along_moved (x ∷ xs) (y ∷ ys) = moved_bodies (lives_of x.1.1) (lives_of y.1.1) + along_moved xs ys
along_moved _ _ = 0

-- of the items of a list that are walked along in order: their keys stay
abbrev pub ItemsAlong : Moved → Moved → List ItemCode → List ItemCode → Type 0
ItemsAlong before after olds news =
    (n : Tables) → (map spot_key (map (seen_item_code n) news) ≡ map spot_key (map (seen_item_code n) olds)) × (KeysOnceItems (live_items n olds) → after.items ≡ before.items + along_moved (map (seen_item_code n) olds) (map (seen_item_code n) news))

-- the key of the item of an entry: that of the old one, or the entry's
abbrev pub HasKey : Tables → Option ItemCode → Key → ItemCode → Type 0
HasKey n None k y = spot_key (seen_item_code n y) ≡ k
HasKey n (Some x) k y = spot_key (seen_item_code n y) ≡ spot_key (seen_item_code n x)

-- a list with items, and without
abbrev pub IsListed : Live → Type 0
IsListed (listed z is) = Unit {0}
IsListed _ = ⊥

abbrev pub IsUnlisted : Live → Type 0
IsUnlisted (unlisted z k ls) = Unit {0}
IsUnlisted _ = ⊥
