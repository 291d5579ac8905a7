-- The items of a list, one after another.
use Rattle.std.specs.Prelude.{◌≡◌, ℕ, List, [], ◌∷◌, Option, Some, None}
use Rattle.gl_ast.specs.ExprCode.{owned}
use Rattle.gl_meaning.specs.Path.{item, items, otherwise, Path}
use Rattle.gl_meaning.specs.Render.{Entry, entries, values_listed}
use Rattle.gl_plain.specs.Ids.{Id}
use Rattle.gl_plain.specs.State.{State}
use Rattle.gl_plain.specs.Binding.{Spot, first_value}
use Rattle.gl_plain.specs.Live.{ItemSpot, times_items}
use Rattle.gl_plain.specs.Renew.{spot_pairs, reread}
use Rattle.gl_plain.specs.Naming.{by_number, dropped_as}
use Rattle.gl_machine.specs.Code.{Listing, Code, listed_code, Codes, ItemCodes, item_code, items_of}
use Rattle.gl_machine.specs.Outcome.{Outcome, ok, on_ok}
use Rattle.gl_machine.specs.RenewCode.{Start, Runs, CodeHandle, ItemDone, item_done, commented, kept, unlisted_with, fresh_item_as, fresh_codes, fresh_other, by_values, sync_codes_as, renew_item_code_as}
use Rattle.gl_guards.specs.Along.{along_body_as, along_items_as, along_list_as, along_handles_as}
use Rattle.gl_each.specs.Key.{Key}
use Rattle.gl_vm.specs.View.{Tables}
use Rattle.gl_code.specs.CodeView.{all_items}
use Rattle.gl_code.specs.Renewing.{Renewal}

-- an item that was rendered: its comment stands where it has no node
abbrev pub Item : Type 0
Item = ItemSpot × (Option ℕ × Codes)

-- an item that is done, and what is kept then
abbrev pub item_kept : ItemDone → Item × State
item_kept g = ((g.spot, (g.arm.comment, g.arm.codes)), g.arm.state)

abbrev pub one_item : Outcome ItemDone → Outcome (Item × State)
one_item o = on_ok o (λ g. ok (item_kept g))

-- items that stand before others
abbrev pub items_before : List Item → ItemCodes → ItemCodes
items_before [] is = is
items_before (x ∷ xs) is = item_code x.0 x.1.0 x.1.1 (items_before xs is)

-- items in front of what comes of those that are left
abbrev pub onto : List Item → Outcome (ItemCodes × State) → Outcome (ItemCodes × State)
onto ys o = on_ok o (λ r. ok (items_before ys r.0, r.1))

-- how each of them is updated
module _ (run : Runs) (m : ℕ) where
  abbrev pub handle : Item → CodeHandle
  handle x = record { spot = x.0; comment = x.1.0; codes = x.1.1; go = λ q st. along_body_as by_number run m q x.1.1 st }

  abbrev pub handles : List Item → List CodeHandle
  handles [] = []
  handles (x ∷ xs) = handle x ∷ handles xs

-- the key of an item that was rendered
abbrev pub spot_key : Item → Key
spot_key x = (owned x.0.key, x.0.occurrence)

-- what is there, of what may be
abbrev pub there : {A : Type 0} → List (Option A) → List A
there [] = []
there (None ∷ xs) = there xs
there (Some x ∷ xs) = x ∷ there xs

-- what is there has these keys, by its places
abbrev pub HasKeys : List Key → List (Option Item) → Type 0
HasKeys [] [] = Unit {0}
HasKeys (k ∷ ks) (None ∷ os) = HasKeys ks os
HasKeys (k ∷ ks) (Some x ∷ os) = (spot_key x ≡ k) × HasKeys ks os
HasKeys [] (o ∷ os) = ⊥
HasKeys (k ∷ ks) [] = ⊥

-- What an update does of it.

-- a body that is begun from there is an item's, with these references
abbrev pub BodyItem : (Tables → Start) → ItemSpot → Renewal Item
BodyItem from s = λ n run st. on_ok (run (from n) st) (λ r. ok (item_kept (item_done s (commented r))))

-- an old item is given another value and index, and is walked along
abbrev pub KeptItem : ℕ → Path → Entry → (Tables → Item) → Renewal Item
KeptItem m p e x = λ n run st. one_item (renew_item_code_as by_number p e (handle run m (x n)) st)

-- an item is walked along, with the value and the index that it has
abbrev pub AlongItem : ℕ → Path → (Tables → Item) → Renewal Item
AlongItem m p x = λ n run st. on_ok (along_body_as by_number run m (item (x n).0.key (x n).0.occurrence ∷ p) (x n).1.1 st) (λ r. ok (((x n).0, ((x n).1.0, r.0)), r.1))

-- all items are
abbrev pub AlongItems : ℕ → Path → (Tables → List Item) → Renewal ItemCodes
AlongItems m p xs = λ n run st. along_items_as by_number run m p (all_items (xs n)) st

module _ (z : Tables → Listing) (m : ℕ) (p : Path) where
  -- an item is appended
  abbrev pub FreshItem : Entry → Renewal Item
  FreshItem e = λ n run st. one_item (fresh_item_as by_number run (z n) m p e st)

  -- all items are appended
  abbrev pub FreshItems : List Entry → Renewal ItemCodes
  FreshItems es = λ n run st. fresh_codes (fresh_item_as by_number run (z n) m) p es st

  -- the old items become those of these entries
  abbrev pub SyncItems : List Entry → (Tables → List Item) → Renewal ItemCodes
  SyncItems es xs = λ n run st. sync_codes_as by_number (fresh_item_as by_number run (z n) m) p es (handles run m (xs n)) st

-- A list whose items are these now, or that has none, in the place of what stood there.
module _ (z : Tables → Listing) (s : Spot) (m : ℕ) (p : Path) where
  abbrev pub ListsFresh : List Entry → (Tables → Id → ℕ) → Renewal Code
  ListsFresh es gone = λ n run st. on_ok (fresh_codes (fresh_item_as by_number run (z n) m) (items ∷ p) es (dropped_as by_number (gone n) st)) (λ r. ok (listed_code (z n) s r.0, r.1))

  abbrev pub ListsNone : (Tables → Id → ℕ) → Renewal Code
  ListsNone gone = λ n run st. fresh_other run (z n) s p m (dropped_as by_number (gone n) st)

  abbrev pub StaysNone : Option ℕ → (Tables → Codes) → Renewal Code
  StaysNone k cs = λ n run st. on_ok (along_body_as by_number run m (otherwise ∷ p) (cs n) st) (λ r. ok (unlisted_with (z n) s (kept k r)))

  abbrev pub Syncs : List Entry → (Tables → List Item) → Renewal Code
  Syncs es xs = λ n run st. on_ok (sync_codes_as by_number (fresh_item_as by_number run (z n) m) (items ∷ p) es (handles run m (xs n)) st) (λ r. ok (listed_code (z n) s r.0, r.1))

  -- its position is read, and its items become others, or end
  abbrev pub Relists : (Tables → List Item) → Renewal Code
  Relists xs = λ n run st.
      let st1 = reread s.ref st in
      by_values (values_listed (first_value (spot_pairs st1 s.ref)))
      (λ vs. on_ok (sync_codes_as by_number (fresh_item_as by_number run (z n) m) (items ∷ p) (entries (z n).key 0 [] vs) (along_handles_as by_number run m (all_items (xs n))) st1) (λ r. ok (listed_code (z n) s r.0, r.1)))
      (fresh_other run (z n) s p m (dropped_as by_number (λ q. times_items q (items_of (all_items (xs n)))) st1))

  -- its items are walked along in order
  abbrev pub EntersList : (Tables → List Item) → Renewal Code
  EntersList xs = λ n run st. on_ok (AlongItems m (items ∷ p) xs n run st) (λ r. ok (listed_code (z n) s r.0, r.1))

  -- they are, where the list is entered
  abbrev pub GoesAlong : (Tables → List Item) → Renewal Code
  GoesAlong xs = λ n run st. on_ok (along_list_as by_number run m (items ∷ p) (all_items (xs n)) st) (λ r. ok (listed_code (z n) s r.0, r.1))
