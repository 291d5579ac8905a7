-- Items of a list, one after another.
use Rattle.std.proofs.Common.{◌≡◌, ℕ, List, [], ◌∷◌, ◌++◌, Option, refl, ap}
use Rattle.gl_meaning.specs.Path.{Path}
use Rattle.gl_meaning.specs.Render.{Entry}
use Rattle.gl_value.specs.Value.{count_value}
use Rattle.gl_plain.specs.State.{State}
use Rattle.gl_plain.specs.Live.{ItemSpot}
use Rattle.gl_plain.specs.Naming.{by_number}
use Rattle.gl_plain.specs.Renew.{give}
use Rattle.gl_machine.specs.Code.{Codes, ItemCodes, no_item_codes, item_code}
use Rattle.gl_machine.specs.Outcome.{Outcome, ok, deep, lost, on_ok}
use Rattle.gl_machine.specs.RenewCode.{Runs, CodeHandle, ItemDone, item_done, item_with, commented, with_left, renew_item_code_as}
use Rattle.gl_guards.specs.Along.{along_body_as, along_handles_as}
use Rattle.gl_code.specs.CodeView.{all_items}
use Rattle.gl_update.specs.ListItems.{Item, item_kept, one_item, items_before, onto, handle, handles}

before_more : (ys : List Item) (s : ItemSpot) (k : Option ℕ) (cs : Codes) (is : ItemCodes) → items_before ys (item_code s k cs is) ≡ items_before (ys ++ (s, (k, cs)) ∷ []) is
before_more [] s k cs is = refl
before_more (y ∷ ys) s k cs is = ap (item_code y.0 y.1.0 y.1.1) (before_more ys s k cs is)

item_more : (ys : List Item) (g : ItemDone) (z : Outcome (ItemCodes × State)) → onto ys (on_ok z (λ r. ok (item_with g r))) ≡ onto (ys ++ (item_kept g).0 ∷ []) z
item_more ys g (ok r) = ap (λ is. ok (is, r.1)) (before_more ys g.spot g.arm.comment g.arm.codes r.0)
item_more ys g deep = refl
item_more ys g lost = refl

-- one item is done, and then those that are left
pub item_then : (ys : List Item) (o : Outcome ItemDone) (k : State → Outcome (ItemCodes × State))
    → onto ys (on_ok o (λ g. on_ok (k g.arm.state) (λ r. ok (item_with g r)))) ≡ on_ok (one_item o) (λ y. onto (ys ++ y.0 ∷ []) (k y.1))
item_then ys (ok g) k = item_more ys g (k g.arm.state)
item_then ys deep k = refl
item_then ys lost k = refl

-- the same, where these old items are left
pub item_synced : (ys : List Item) (o : Outcome ItemDone) (hs : List CodeHandle) (k : List CodeHandle → State → Outcome (ItemCodes × State))
    → onto ys (on_ok (on_ok o (with_left hs)) (λ g. on_ok (k g.1 g.0.arm.state) (λ r. ok (item_with g.0 r)))) ≡ on_ok (one_item o) (λ y. onto (ys ++ y.0 ∷ []) (k hs y.1))
item_synced ys (ok g) hs k = item_more ys g (k hs g.arm.state)
item_synced ys deep hs k = refl
item_synced ys lost hs k = refl

pub onto_none : (o : Outcome (ItemCodes × State)) → onto [] o ≡ o
onto_none (ok r) = refl
onto_none deep = refl
onto_none lost = refl

-- in front of nothing
pub before_none : (ys : List Item) → items_before ys no_item_codes ≡ all_items ys
before_none [] = refl
before_none (y ∷ ys) = ap (item_code y.0 y.1.0 y.1.1) (before_none ys)

pub handles_are : (run : Runs) (m : ℕ) (xs : List Item) → along_handles_as by_number run m (all_items xs) ≡ handles run m xs
handles_are run m [] = refl
handles_are run m (x ∷ xs) = ap (λ hs. handle run m x ∷ hs) (handles_are run m xs)

pub body_is : (s : ItemSpot) (o : Outcome (Codes × State)) → one_item (on_ok o (λ r. ok (item_done s (commented r)))) ≡ on_ok o (λ r. ok (item_kept (item_done s (commented r))))
body_is s (ok r) = refl
body_is s deep = refl
body_is s lost = refl

-- an old item is updated: its value and its index are given, and its body is walked along
renewed_by : (x : Item) (o : Outcome (Codes × State)) → one_item (on_ok o (λ r. ok (record { spot = x.0; arm = record { comment = x.1.0; codes = r.0; state = r.1 } }))) ≡ on_ok o (λ r. ok ((x.0, (x.1.0, r.0)), r.1))
renewed_by x (ok r) = refl
renewed_by x deep = refl
renewed_by x lost = refl

pub item_renewed : (run : Runs) (m : ℕ) (q : Path) (e : Entry) (x : Item) (st : State)
    → one_item (renew_item_code_as by_number q e (handle run m x) st)
    ≡ on_ok (along_body_as by_number run m q x.1.1 (give x.0.index (by_number.index_source x.0.index q) (count_value e.index) (give x.0.value (by_number.value_source x.0.value q) e.value st))) (λ r. ok ((x.0, (x.1.0, r.0)), r.1))
item_renewed run m q e x st =
    renewed_by x (along_body_as by_number run m q x.1.1 (give x.0.index (by_number.index_source x.0.index q) (count_value e.index) (give x.0.value (by_number.value_source x.0.value q) e.value st)))
