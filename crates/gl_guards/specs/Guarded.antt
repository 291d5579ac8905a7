-- Updates of the recorded program that pass over parts of it. At each region it is asked first whether it is entered; where it isn't, the region
-- stays as it is, and the state too.
use Rattle.std.specs.Prelude.{ℕ, zero, suc, ◌+◌, List, [], ◌∷◌, Bool, true, false, ◌||◌, if◌then◌else◌, Option, Some, None}
use Rattle.std.specs.List.{list_any}
use Rattle.gl_value.specs.Value.{count_value}
use Rattle.gl_meaning.specs.Path.{at, main, otherwise, items, item, slot, Path}
use Rattle.gl_meaning.specs.Eval.{takes_first}
use Rattle.gl_meaning.specs.Render.{Entry, entries, values_listed}
use Rattle.gl_plain.specs.State.{State}
use Rattle.gl_plain.specs.Naming.{Naming, dropped_as}
use Rattle.gl_plain.specs.Binding.{first_value}
use Rattle.gl_plain.specs.Live.{times_in, times_comment, times_items}
use Rattle.gl_plain.specs.Counts.{positions_in, positions_items}
use Rattle.gl_plain.specs.Renew.{spot_pairs, is_stale, evaluate, reread, renew_text, renew_attrs, renew_mods, give}
use Rattle.gl_machine.specs.Code.{Code, still_code, put_code, element_code, branch_code, listed_code, unlisted_code, let_code, component_code, yield_code, ItemCodes, no_item_codes, item_code, items_of, Codes, no_codes, code_and, lives_of}
use Rattle.gl_machine.specs.Outcome.{Outcome, ok, lost, on_ok}
use Rattle.gl_machine.specs.RenewCode.{Runs, kept, branch_with, unlisted_with, ItemDone, CodeHandle, taken_code, sync_codes_as, fresh_codes, by_values, fresh_branch, fresh_other, fresh_item_as, renew_codes_as}

-- some of the positions are stale
abbrev pub any_stale : State → List ℕ → Bool
any_stale st rs = list_any (λ r. is_stale st r) rs

-- A region with these positions: it is entered where the question says so, and stays as it is else.
abbrev pub entering : {A : Type 0} → (State → List ℕ → Bool) → State → List ℕ → A → Outcome (A × State) → Outcome (A × State)
entering enters st rs x o = if enters st rs then o else ok (x, st)

-- It is entered where one of its positions is stale.
abbrev pub guard : {A : Type 0} → State → List ℕ → A → Outcome (A × State) → Outcome (A × State)
guard st rs x o = entering any_stale st rs x o

-- Items

-- an item that stays as it is, whatever is given to it
abbrev pub idle_handles : ItemCodes → List CodeHandle
idle_handles no_item_codes = []
idle_handles (item_code z k cs is) = record { spot = z; comment = k; codes = cs; go = λ q st. ok (cs, st) } ∷ idle_handles is

-- whether it holds of what was made
abbrev pub if_ok : {A : Type 0} → Outcome A → (A → Bool) → Bool
if_ok (ok x) f = f x
if_ok _ f = false

-- the old item of an entry has its value and its index
abbrev pub given_as : Naming → Path → Entry → CodeHandle → State → State
given_as naming q x h st = give h.spot.index (naming.index_source h.spot.index q) (count_value x.index) (give h.spot.value (naming.value_source h.spot.value q) x.value st)

-- what is asked where there is an old item, and where there is none
abbrev pub with_taken : Option (CodeHandle × List CodeHandle) → (CodeHandle → List CodeHandle → Bool) → Bool → Bool
with_taken None f b = b
with_taken (Some k) f b = f k.0 k.1

-- The items of a list that was read again: whether one of those that stay is stale once it has its value and index of now.
abbrev pub stale_taken_as : Naming → (Path → Entry → State → Outcome ItemDone) → Path → List Entry → List CodeHandle → State → Bool
stale_taken_as naming one p [] olds st = false
stale_taken_as naming one p (x ∷ xs) olds st =
    let q = item x.key x.occurrence ∷ p in
    with_taken (taken_code x olds)
    (λ h rest. let st2 = given_as naming q x h st in any_stale st2 (positions_in (lives_of h.codes)) || stale_taken_as naming one p xs rest st2)
    (if_ok (one q x st) (λ d. stale_taken_as naming one p xs olds d.arm.state))

-- The recorded program. The regions are the body of a component, what is rendered in a branch, the items of a list, and an item. A list that
-- is read again is synced; the items of one that isn't are gone along in order. Of a list that is read again it may be asked once whether any item
-- that stays is stale.
module _ (naming : Naming) (run : Runs) (enters : State → List ℕ → Bool) (once : Bool) where
  abbrev mutual
    pub entered_code_as : ℕ → Path → Code → State → Outcome (Code × State)
    entered_code_as m p (still_code n) st = ok (still_code n, st)
    entered_code_as m p (put_code n s) st = ok (put_code n s, renew_text n s.ref st)
    entered_code_as m p (element_code n made xs zs cs) st =
        on_ok (entered_codes_as m p 0 cs (renew_attrs n xs st)) (λ r. ok (element_code n made xs zs r.0, renew_mods zs r.1))
    entered_code_as m p (branch_code z s true k cs) st =
        let st1 = reread s.ref st in
        if takes_first z.unless (first_value (spot_pairs st1 s.ref))
        then on_ok (entering enters st1 (positions_in (lives_of cs)) cs (entered_codes_as m (main ∷ p) 0 cs st1)) (λ r. ok (branch_with z s true (kept k r)))
        else fresh_branch run z s false p m (dropped_as naming (λ q. times_in q (lives_of cs) + times_comment q k) st1)
    entered_code_as m p (branch_code z s false k cs) st =
        let st1 = reread s.ref st in
        if takes_first z.unless (first_value (spot_pairs st1 s.ref))
        then fresh_branch run z s true p m (dropped_as naming (λ q. times_in q (lives_of cs) + times_comment q k) st1)
        else on_ok (entering enters st1 (positions_in (lives_of cs)) cs (entered_codes_as m (otherwise ∷ p) 0 cs st1)) (λ r. ok (branch_with z s false (kept k r)))
    entered_code_as m p (listed_code z s is) st =
        if is_stale st s.ref
        then (
        let st1 = evaluate s.ref st in
        let one = fresh_item_as naming run z m in
        by_values (values_listed (first_value (spot_pairs st1 s.ref)))
        (λ vs.
        let xs = entries z.key 0 [] vs in
        let olds = if (if once then stale_taken_as naming one (items ∷ p) xs (idle_handles is) st1 else true) then entered_handles_as m is else idle_handles is in
        on_ok (sync_codes_as naming one (items ∷ p) xs olds st1) (λ r. ok (listed_code z s r.0, r.1)))
        (fresh_other run z s p m (dropped_as naming (λ q. times_items q (items_of is)) st1))
        )
        else on_ok (entering enters st (positions_items (items_of is)) is (entered_items_as m (items ∷ p) is st)) (λ r. ok (listed_code z s r.0, r.1))
    entered_code_as m p (unlisted_code z s k cs) st =
        let st1 = reread s.ref st in
        by_values (values_listed (first_value (spot_pairs st1 s.ref)))
        (λ vs. on_ok (fresh_codes (fresh_item_as naming run z m) (items ∷ p) (entries z.key 0 [] vs) (dropped_as naming (λ q. times_in q (lives_of cs) + times_comment q k) st1)) (λ r. ok (listed_code z s r.0, r.1)))
        (on_ok (entering enters st1 (positions_in (lives_of cs)) cs (entered_codes_as m (otherwise ∷ p) 0 cs st1)) (λ r. ok (unlisted_with z s (kept k r))))
    entered_code_as m p (let_code made rs cs) st = on_ok (entered_codes_as m (main ∷ p) 0 cs st) (λ r. ok (let_code made rs r.0, r.1))
    entered_code_as zero p (component_code i made gm args k cs) st = lost
    entered_code_as (suc m) p (component_code i made gm args k cs) st =
        on_ok (entering enters st (positions_in (lives_of cs)) cs (entered_codes_as m i.path 0 cs st)) (λ r. ok (component_code i made gm args k r.0, r.1))
    entered_code_as m p (yield_code n made rs cs) st = on_ok (entered_codes_as m (slot n ∷ p) 0 cs st) (λ r. ok (yield_code n made rs r.0, r.1))

    pub entered_codes_as : ℕ → Path → ℕ → Codes → State → Outcome (Codes × State)
    entered_codes_as m p i no_codes st = ok (no_codes, st)
    entered_codes_as m p i (code_and c cs) st =
        on_ok (entered_code_as m (at i ∷ p) c st) (λ r. on_ok (entered_codes_as m p (suc i) cs r.1) (λ z. ok (code_and r.0 z.0, z.1)))

    pub entered_items_as : ℕ → Path → ItemCodes → State → Outcome (ItemCodes × State)
    entered_items_as m p no_item_codes st = ok (no_item_codes, st)
    entered_items_as m p (item_code z k cs is) st =
        on_ok (entering enters st (positions_in (lives_of cs)) cs (entered_codes_as m (item z.key z.occurrence ∷ p) 0 cs st))
        (λ r. on_ok (entered_items_as m p is r.1) (λ y. ok (item_code z k r.0 y.0, y.1)))

    pub entered_handles_as : ℕ → ItemCodes → List CodeHandle
    entered_handles_as m no_item_codes = []
    entered_handles_as m (item_code z k cs is) =
        record { spot = z; comment = k; codes = cs; go = λ q st. entering enters st (positions_in (lives_of cs)) cs (entered_codes_as m q 0 cs st) } ∷ entered_handles_as m is

module _ (naming : Naming) (run : Runs) where
  -- The items of a list in order, each in its place and with the value and index that it has.
  abbrev pub renew_items_as : ℕ → Path → ItemCodes → State → Outcome (ItemCodes × State)
  renew_items_as m p no_item_codes st = ok (no_item_codes, st)
  renew_items_as m p (item_code z k cs is) st =
      on_ok (renew_codes_as naming run m (item z.key z.occurrence ∷ p) 0 cs st) (λ r. on_ok (renew_items_as m p is r.1) (λ y. ok (item_code z k r.0 y.0, y.1)))

-- The whole page is a region too, of which the first question is asked.
abbrev pub entered_root_code_as : Naming → (first enters : State → List ℕ → Bool) → Bool → ℕ → Runs → Code → State → Outcome (Code × State)
entered_root_code_as naming first enters once (suc m) run (component_code i made gm args k cs) st =
    on_ok (entering first st (positions_in (lives_of cs)) cs (entered_codes_as naming run enters once m [] 0 cs st)) (λ r. ok (component_code i made gm args k r.0, r.1))
entered_root_code_as naming first enters once _ run k st = lost

-- The update that passes over what is fresh: a region is entered just where one of its positions is stale in the state as it stands then.
abbrev pub guarded_code_as : Naming → Runs → ℕ → Path → Code → State → Outcome (Code × State)
guarded_code_as naming run m p c st = entered_code_as naming run any_stale true m p c st

abbrev pub guarded_codes_as : Naming → Runs → ℕ → Path → ℕ → Codes → State → Outcome (Codes × State)
guarded_codes_as naming run m p i cs st = entered_codes_as naming run any_stale true m p i cs st

abbrev pub guarded_items_as : Naming → Runs → ℕ → Path → ItemCodes → State → Outcome (ItemCodes × State)
guarded_items_as naming run m p is st = entered_items_as naming run any_stale true m p is st

abbrev pub guarded_handles_as : Naming → Runs → ℕ → ItemCodes → List CodeHandle
guarded_handles_as naming run m is = entered_handles_as naming run any_stale true m is

abbrev pub guarded_root_code_as : Naming → ℕ → Runs → Code → State → Outcome (Code × State)
guarded_root_code_as naming m run k st = entered_root_code_as naming any_stale any_stale true m run k st
