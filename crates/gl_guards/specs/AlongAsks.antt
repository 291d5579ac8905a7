-- How many questions an update that goes along answers. They are counted as in Questions: one for each position that it comes to, one for each region, and
-- those of the members of a region. What differs is how a region's question is answered: it is gone along, and where nothing was evaluated in it, it counts one,
-- however many of its positions were looked at.
use Rattle.std.specs.Prelude.{ℕ, zero, suc, ◌+◌, List, [], ◌∷◌, length, nat_eq, true, false, if◌then◌else◌}
use Rattle.gl_meaning.specs.Path.{at, main, otherwise, items, item, slot, Path}
use Rattle.gl_meaning.specs.Eval.{takes_first}
use Rattle.gl_meaning.specs.Render.{Entry, entries, values_listed}
use Rattle.gl_plain.specs.State.{State}
use Rattle.gl_plain.specs.Naming.{Naming}
use Rattle.gl_plain.specs.Binding.{first_value}
use Rattle.gl_plain.specs.Renew.{spot_pairs, is_stale, evaluate, reread, renew_attrs}
use Rattle.gl_machine.specs.Code.{Code, still_code, put_code, element_code, branch_code, listed_code, unlisted_code, let_code, component_code, yield_code, ItemCodes, no_item_codes, item_code, Codes, no_codes, code_and}
use Rattle.gl_machine.specs.Outcome.{Outcome}
use Rattle.gl_machine.specs.RenewCode.{Runs, ItemDone, by_values, fresh_item_as}
use Rattle.gl_guards.specs.Guarded.{given_as}
use Rattle.gl_guards.specs.Along.{along_code_as, along_body_as, along_page_as, along_list_as}
use Rattle.gl_guards.specs.Questions.{after, OldItem, taken_item, where_taken}

-- one for a region, and n for what it holds where something was evaluated in it
abbrev pub gone_along : {A : Type 0} → State → Outcome (A × State) → ℕ → ℕ
gone_along st o n = 1 + after o (λ r. if nat_eq (length r.1.evaluated) (length st.evaluated) then 0 else n)

-- the old items that stay
abbrev pub stay_count : List Entry → List OldItem → ℕ
stay_count [] olds = 0
stay_count (x ∷ xs) olds = where_taken (taken_item x olds) (λ h rest. 1 + stay_count xs rest) (stay_count xs olds)

-- what is asked of them, once each has its value and index of now
abbrev pub stay_asks_as : Naming → (Path → Entry → State → Outcome ItemDone) → Path → List Entry → List OldItem → State → ℕ
stay_asks_as naming one p [] olds st = 0
stay_asks_as naming one p (x ∷ xs) olds st =
    let q = item x.key x.occurrence ∷ p in
    where_taken (taken_item x olds)
    (λ h rest. let st2 = given_as naming q x h.handle st in gone_along st2 (h.handle.go q st2) (h.asks q st2) + after (h.handle.go q st2) (λ r. stay_asks_as naming one p xs rest r.1))
    (after (one q x st) (λ d. stay_asks_as naming one p xs olds d.arm.state))

-- The items of a list that was read again: they count one together, and what was asked of those that stay where that is more than one each.
abbrev pub together : ℕ → ℕ → ℕ
together kept asked = 1 + (if nat_eq asked kept then 0 else asked)

module _ (naming : Naming) (run : Runs) where
  abbrev mutual
    pub along_asks_as : ℕ → Path → Code → State → ℕ
    along_asks_as m p (still_code n) st = 0
    along_asks_as m p (put_code n s) st = 1
    along_asks_as m p (element_code n made xs zs cs) st = (length xs + length zs) + along_asks_in m p 0 cs (renew_attrs n xs st)
    along_asks_as m p (branch_code z s true k cs) st =
        let st1 = reread s.ref st in
        1 + (if takes_first z.unless (first_value (spot_pairs st1 s.ref)) then gone_along st1 (along_body_as naming run m (main ∷ p) cs st1) (along_asks_in m (main ∷ p) 0 cs st1) else 0)
    along_asks_as m p (branch_code z s false k cs) st =
        let st1 = reread s.ref st in
        1 + (if takes_first z.unless (first_value (spot_pairs st1 s.ref)) then 0 else gone_along st1 (along_body_as naming run m (otherwise ∷ p) cs st1) (along_asks_in m (otherwise ∷ p) 0 cs st1))
    along_asks_as m p (listed_code z s is) st =
        if is_stale st s.ref
        then (
        let st1 = evaluate s.ref st in
        1
        + by_values (values_listed (first_value (spot_pairs st1 s.ref)))
        (λ vs. let xs = entries z.key 0 [] vs in let olds = along_olds_as m is in together (stay_count xs olds) (stay_asks_as naming (fresh_item_as naming run z m) (items ∷ p) xs olds st1)) 0
        )
        else 1 + gone_along st (along_list_as naming run m (items ∷ p) is st) (along_asks_items m (items ∷ p) is st)
    along_asks_as m p (unlisted_code z s k cs) st =
        let st1 = reread s.ref st in
        1
        + by_values (values_listed (first_value (spot_pairs st1 s.ref))) (λ vs. 0)
        (gone_along st1 (along_body_as naming run m (otherwise ∷ p) cs st1) (along_asks_in m (otherwise ∷ p) 0 cs st1))
    along_asks_as m p (let_code made rs cs) st = along_asks_in m (main ∷ p) 0 cs st
    along_asks_as zero p (component_code i made gm args k cs) st = 0
    along_asks_as (suc m) p (component_code i made gm args k cs) st = gone_along st (along_body_as naming run m i.path cs st) (along_asks_in m i.path 0 cs st)
    along_asks_as m p (yield_code n made rs cs) st = along_asks_in m (slot n ∷ p) 0 cs st

    pub along_asks_in : ℕ → Path → ℕ → Codes → State → ℕ
    along_asks_in m p i no_codes st = 0
    along_asks_in m p i (code_and c cs) st = along_asks_as m (at i ∷ p) c st + after (along_code_as naming run m (at i ∷ p) c st) (λ r. along_asks_in m p (suc i) cs r.1)

    pub along_asks_items : ℕ → Path → ItemCodes → State → ℕ
    along_asks_items m p no_item_codes st = 0
    along_asks_items m p (item_code z k cs is) st =
        let q = item z.key z.occurrence ∷ p in
        gone_along st (along_body_as naming run m q cs st) (along_asks_in m q 0 cs st) + after (along_body_as naming run m q cs st) (λ r. along_asks_items m p is r.1)

    pub along_olds_as : ℕ → ItemCodes → List OldItem
    along_olds_as m no_item_codes = []
    along_olds_as m (item_code z k cs is) =
        record {
          handle = record { spot = z; comment = k; codes = cs; go = λ q st. along_body_as naming run m q cs st };
          asks = λ q st. along_asks_in m q 0 cs st;
        } ∷ along_olds_as m is

  -- a body that is a region
  abbrev pub along_asks_body : ℕ → Path → Codes → State → ℕ
  along_asks_body m p cs st = gone_along st (along_body_as naming run m p cs st) (along_asks_in m p 0 cs st)

  -- the body of the page
  abbrev pub along_asks_page : ℕ → Path → Codes → State → ℕ
  along_asks_page m p cs st = gone_along st (along_page_as naming run m p cs st) (along_asks_in m p 0 cs st)

-- the whole page
abbrev pub along_asks_root : Naming → ℕ → Runs → Code → State → ℕ
along_asks_root naming (suc m) run (component_code i made gm args k cs) st = along_asks_page naming run m [] cs st
along_asks_root naming _ run k st = 0
