-- How many questions an update asks that passes over what is fresh: one for each position that it comes to, one for each region, and in a region
-- that is entered those of its members.
use Rattle.std.specs.Prelude.{ℕ, zero, suc, ◌+◌, List, [], ◌∷◌, length, true, false, if◌then◌else◌, Option, Some, None}
use Rattle.gl_meaning.specs.Path.{at, main, otherwise, items, item, slot, Path}
use Rattle.gl_meaning.specs.Eval.{takes_first}
use Rattle.gl_meaning.specs.Render.{Entry, entries, values_listed}
use Rattle.gl_plain.specs.State.{State}
use Rattle.gl_plain.specs.Naming.{Naming}
use Rattle.gl_plain.specs.Binding.{first_value}
use Rattle.gl_plain.specs.Counts.{positions_in, positions_items}
use Rattle.gl_plain.specs.Renew.{spot_pairs, is_stale, evaluate, reread, renew_attrs}
use Rattle.gl_machine.specs.Code.{Code, still_code, put_code, element_code, branch_code, listed_code, unlisted_code, let_code, component_code, yield_code, ItemCodes, no_item_codes, item_code, items_of, Codes, no_codes, code_and, lives_of}
use Rattle.gl_machine.specs.Outcome.{Outcome, ok}
use Rattle.gl_machine.specs.RenewCode.{Runs, ItemDone, CodeHandle, is_code_of, by_values, fresh_item_as}
use Rattle.gl_guards.specs.Guarded.{any_stale, guard, given_as, idle_handles, stale_taken_as, guarded_code_as, guarded_codes_as}

-- one for a region with these positions, and in it n where one of them is stale
abbrev pub region : State → List ℕ → ℕ → ℕ
region st rs n = 1 + (if any_stale st rs then n else 0)

-- what is asked after something that may stop
abbrev pub after : {A : Type 0} → Outcome A → (A → ℕ) → ℕ
after (ok x) f = f x
after _ f = 0

-- an old item, with what is asked in it
pub record OldItem : Type 0 where
  pub handle : CodeHandle
  pub asks : Path → State → ℕ

abbrev pub with_first : OldItem → Option (OldItem × List OldItem) → Option (OldItem × List OldItem)
with_first h None = None
with_first h (Some p) = Some (p.0, h ∷ p.1)

abbrev pub taken_item : Entry → List OldItem → Option (OldItem × List OldItem)
taken_item x [] = None
taken_item x (h ∷ hs) = if is_code_of x h.handle then Some (h, hs) else with_first h (taken_item x hs)

abbrev pub where_taken : Option (OldItem × List OldItem) → (OldItem → List OldItem → ℕ) → ℕ → ℕ
where_taken None f n = n
where_taken (Some k) f n = f k.0 k.1

-- the items of a list that was read again: each one that stays, once it has its value and index of now
abbrev pub synced_asks_as : Naming → (Path → Entry → State → Outcome ItemDone) → Path → List Entry → List OldItem → State → ℕ
synced_asks_as naming one p [] olds st = 0
synced_asks_as naming one p (x ∷ xs) olds st =
    let q = item x.key x.occurrence ∷ p in
    where_taken (taken_item x olds)
    (λ h rest.
    let st2 = given_as naming q x h.handle st in
    region st2 (positions_in (lives_of h.handle.codes)) (h.asks q st2) + after (h.handle.go q st2) (λ r. synced_asks_as naming one p xs rest r.1))
    (after (one q x st) (λ d. synced_asks_as naming one p xs olds d.arm.state))

module _ (naming : Naming) (run : Runs) where
  abbrev mutual
    pub code_asks_as : ℕ → Path → Code → State → ℕ
    code_asks_as m p (still_code n) st = 0
    code_asks_as m p (put_code n s) st = 1
    code_asks_as m p (element_code n made xs zs cs) st = (length xs + length zs) + codes_asks_as m p 0 cs (renew_attrs n xs st)
    code_asks_as m p (branch_code z s true k cs) st =
        let st1 = reread s.ref st in
        1 + (if takes_first z.unless (first_value (spot_pairs st1 s.ref)) then region st1 (positions_in (lives_of cs)) (codes_asks_as m (main ∷ p) 0 cs st1) else 0)
    code_asks_as m p (branch_code z s false k cs) st =
        let st1 = reread s.ref st in
        1 + (if takes_first z.unless (first_value (spot_pairs st1 s.ref)) then 0 else region st1 (positions_in (lives_of cs)) (codes_asks_as m (otherwise ∷ p) 0 cs st1))
    code_asks_as m p (listed_code z s is) st =
        if is_stale st s.ref
        then (
        let st1 = evaluate s.ref st in
        let one = fresh_item_as naming run z m in
        1
        + by_values (values_listed (first_value (spot_pairs st1 s.ref)))
        (λ vs. let xs = entries z.key 0 [] vs in 1 + (if stale_taken_as naming one (items ∷ p) xs (idle_handles is) st1 then synced_asks_as naming one (items ∷ p) xs (old_items_as m is) st1 else 0)) 0
        )
        else 1 + region st (positions_items (items_of is)) (items_asks_as m (items ∷ p) is st)
    code_asks_as m p (unlisted_code z s k cs) st =
        let st1 = reread s.ref st in
        1 + by_values (values_listed (first_value (spot_pairs st1 s.ref))) (λ vs. 0) (region st1 (positions_in (lives_of cs)) (codes_asks_as m (otherwise ∷ p) 0 cs st1))
    code_asks_as m p (let_code made rs cs) st = codes_asks_as m (main ∷ p) 0 cs st
    code_asks_as zero p (component_code i made gm args k cs) st = 0
    code_asks_as (suc m) p (component_code i made gm args k cs) st = region st (positions_in (lives_of cs)) (codes_asks_as m i.path 0 cs st)
    code_asks_as m p (yield_code n made rs cs) st = codes_asks_as m (slot n ∷ p) 0 cs st

    pub codes_asks_as : ℕ → Path → ℕ → Codes → State → ℕ
    codes_asks_as m p i no_codes st = 0
    codes_asks_as m p i (code_and c cs) st = code_asks_as m (at i ∷ p) c st + after (guarded_code_as naming run m (at i ∷ p) c st) (λ r. codes_asks_as m p (suc i) cs r.1)

    pub items_asks_as : ℕ → Path → ItemCodes → State → ℕ
    items_asks_as m p no_item_codes st = 0
    items_asks_as m p (item_code z k cs is) st =
        let q = item z.key z.occurrence ∷ p in
        region st (positions_in (lives_of cs)) (codes_asks_as m q 0 cs st)
        + after (guard st (positions_in (lives_of cs)) cs (guarded_codes_as naming run m q 0 cs st)) (λ r. items_asks_as m p is r.1)

    pub old_items_as : ℕ → ItemCodes → List OldItem
    old_items_as m no_item_codes = []
    old_items_as m (item_code z k cs is) =
        record {
          handle = record { spot = z; comment = k; codes = cs; go = λ q st. guard st (positions_in (lives_of cs)) cs (guarded_codes_as naming run m q 0 cs st) };
          asks = λ q st. codes_asks_as m q 0 cs st;
        } ∷ old_items_as m is

-- the whole page
abbrev pub root_asks_as : Naming → ℕ → Runs → Code → State → ℕ
root_asks_as naming (suc m) run (component_code i made gm args k cs) st = region st (positions_in (lives_of cs)) (codes_asks_as naming run m [] 0 cs st)
root_asks_as naming _ run k st = 0
