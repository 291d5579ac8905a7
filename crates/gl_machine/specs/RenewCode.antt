-- One update of the recorded program. It sees no tree: positions go by their references, and a body is appended again by running the
-- machine from the address that was recorded.
use Rattle.std.specs.Prelude.{ℕ, zero, suc, ◌+◌, List, [], ◌∷◌, ◌++◌, Bool, true, false, ◌&&◌, nat_eq, if◌then◌else◌, Option, Some, None}
use Rattle.gl_value.specs.Value.{Values, no_values, value, same, count_value}
use Rattle.gl_meaning.specs.Path.{at, main, otherwise, items, item, slot, Path, no_owners}
use Rattle.gl_meaning.specs.Eval.{takes_first}
use Rattle.gl_meaning.specs.Render.{Entry, entries, values_listed}
use Rattle.gl_plain.specs.Ids.{a_ref, a_node, Id, occurs}
use Rattle.gl_plain.specs.State.{comment_content, State}
use Rattle.gl_plain.specs.Naming.{Naming, by_path, made_source, dropped_as}
use Rattle.gl_plain.specs.Binding.{Spot, first_value}
use Rattle.gl_plain.specs.Live.{ItemSpot, item_made, have_node, times_in, times_comment, times_items}
use Rattle.gl_plain.specs.Grow.{made_node}
use Rattle.gl_plain.specs.Renew.{spot_pairs, reread, renew_text, renew_attrs, renew_mods, give}
use Rattle.gl_machine.specs.Sight.{Locals, Sight, with_locals}
use Rattle.gl_machine.specs.Code.{Choice, Listing, Code, still_code, put_code, element_code, branch_code, listed_code, unlisted_code, let_code, component_code, yield_code, ItemCodes, no_item_codes, item_code, Codes, no_codes, code_and, items_of, lives_of}
use Rattle.gl_machine.specs.Outcome.{Outcome, ok, lost, on_ok}

-- where the machine begins: what is seen there, the address, the path of the body, and how deep components may still nest
pub record Start : Type 0 where
  pub sight : Sight
  pub pc : ℕ
  pub path : Path
  pub left : ℕ

abbrev pub start : Sight → ℕ → Path → ℕ → Start
start s pc p m = record { sight = s; pc = pc; path = p; left = m }

abbrev pub Runs : Type 0
Runs = Start → State → Outcome (Codes × State)

-- what was rendered in a branch or an item, with the comment where it has no node
pub record CodeArm : Type 0 where
  pub comment : Option ℕ
  pub codes : Codes
  pub state : State

abbrev pub commented : Codes × State → CodeArm
commented r =
    if have_node (lives_of r.0)
    then record { comment = None; codes = r.0; state = r.1 }
    else record { comment = Some (r.1.next a_node); codes = r.0; state = made_node (comment_content []) r.1 }

abbrev pub kept : Option ℕ → Codes × State → CodeArm
kept k r = record { comment = k; codes = r.0; state = r.1 }

abbrev pub branch_with : Choice → Spot → Bool → CodeArm → Code × State
branch_with z s u a = (branch_code z s u a.comment a.codes, a.state)

abbrev pub unlisted_with : Listing → Spot → CodeArm → Code × State
unlisted_with z s a = (unlisted_code z s a.comment a.codes, a.state)

-- Items

abbrev pub by_operand : ℕ → ℕ → Locals
by_operand zero r = []
by_operand (suc s) r = (s, r) ∷ []

abbrev pub refs_in : Locals → List ℕ
refs_in [] = []
refs_in (x ∷ xs) = x.1 ∷ refs_in xs

-- the references of an item's value and index, with its parameters by the operands of Item
abbrev pub item_locals : Listing → ℕ → ℕ → Locals
item_locals z v i = by_operand z.value v ++ by_operand z.index i

pub record ItemStart : Type 0 where
  pub spot : ItemSpot
  pub locals : Locals
  pub state : State

abbrev pub item_start_as : Naming → Listing → Path → Entry → State → ItemStart
item_start_as naming z q x st =
    let v = st.next a_ref in
    let st1 = made_source naming (naming.value_source v q) x.value st in
    let i = st1.next a_ref in
    let ls = item_locals z v i in
    record {
      spot = record { key = x.key; occurrence = x.occurrence; value = v; index = i; more = []; params = refs_in ls };
      locals = ls;
      state = made_source naming (naming.index_source i q) (count_value x.index) st1;
    }

pub record ItemDone : Type 0 where
  pub spot : ItemSpot
  pub arm : CodeArm

abbrev pub item_done : ItemSpot → CodeArm → ItemDone
item_done s a = record { spot = s; arm = a }

-- an item that was rendered, with how it is updated
pub record CodeHandle : Type 0 where
  pub spot : ItemSpot
  pub comment : Option ℕ
  pub codes : Codes
  pub go : Path → State → Outcome (Codes × State)

abbrev pub times_code_handles : Id → List CodeHandle → ℕ
times_code_handles q [] = 0
times_code_handles q (h ∷ hs) = (occurs q (item_made h.spot) + (times_in q (lives_of h.codes) + times_comment q h.comment)) + times_code_handles q hs

abbrev pub is_code_of : Entry → CodeHandle → Bool
is_code_of x h = same no_owners x.key h.spot.key && nat_eq x.occurrence h.spot.occurrence

abbrev pub with_code_front : CodeHandle → Option (CodeHandle × List CodeHandle) → Option (CodeHandle × List CodeHandle)
with_code_front h None = None
with_code_front h (Some p) = Some (p.0, h ∷ p.1)

abbrev pub taken_code : Entry → List CodeHandle → Option (CodeHandle × List CodeHandle)
taken_code x [] = None
taken_code x (h ∷ hs) = if is_code_of x h then Some (h, hs) else with_code_front h (taken_code x hs)

abbrev pub with_left : List CodeHandle → ItemDone → Outcome (ItemDone × List CodeHandle)
with_left hs g = ok (g, hs)

abbrev pub item_with : ItemDone → ItemCodes × State → ItemCodes × State
item_with g r = (item_code g.spot g.arm.comment g.arm.codes r.0, r.1)

module _ (naming : Naming) where
  abbrev pub renew_item_code_as : Path → Entry → CodeHandle → State → Outcome ItemDone
  renew_item_code_as q x h st =
      on_ok
      (h.go q (give h.spot.index (naming.index_source h.spot.index q) (count_value x.index) (give h.spot.value (naming.value_source h.spot.value q) x.value st)))
      (λ r. ok (item_done h.spot (kept h.comment r)))

  abbrev pub sync_one_code_as : (Path → Entry → State → Outcome ItemDone) → Path → Entry → List CodeHandle → Option (CodeHandle × List CodeHandle) → State → Outcome (ItemDone × List CodeHandle)
  sync_one_code_as one q x olds None st = on_ok (one q x st) (with_left olds)
  sync_one_code_as one q x olds (Some p) st = on_ok (renew_item_code_as q x p.0 st) (with_left p.1)

  abbrev pub sync_codes_as : (Path → Entry → State → Outcome ItemDone) → Path → List Entry → List CodeHandle → State → Outcome (ItemCodes × State)
  sync_codes_as one p [] olds st = ok (no_item_codes, dropped_as naming (λ q. times_code_handles q olds) st)
  sync_codes_as one p (x ∷ xs) olds st =
      on_ok (sync_one_code_as one (item x.key x.occurrence ∷ p) x olds (taken_code x olds) st)
      (λ g. on_ok (sync_codes_as one p xs g.1 g.0.arm.state) (λ r. ok (item_with g.0 r)))

abbrev pub fresh_codes : (Path → Entry → State → Outcome ItemDone) → Path → List Entry → State → Outcome (ItemCodes × State)
fresh_codes one p [] st = ok (no_item_codes, st)
fresh_codes one p (x ∷ xs) st =
    on_ok (one (item x.key x.occurrence ∷ p) x st) (λ g. on_ok (fresh_codes one p xs g.arm.state) (λ r. ok (item_with g r)))

abbrev pub by_values : {A : Type 0} → Values Path → (Values Path → A) → A → A
by_values no_values f a = a
by_values (value v vs) f a = f (value v vs)

-- `run` appends a body from where it begins.
module _ (run : Runs) where
  abbrev pub fresh_branch : Choice → Spot → Bool → Path → ℕ → State → Outcome (Code × State)
  fresh_branch z s u p m st =
      on_ok (run (start z.sight (if u then z.first else z.second) ((if u then main else otherwise) ∷ p) m) st) (λ r. ok (branch_with z s u (commented r)))

  abbrev pub fresh_other : Listing → Spot → Path → ℕ → State → Outcome (Code × State)
  fresh_other z s p m st = on_ok (run (start z.sight z.other (otherwise ∷ p) m) st) (λ r. ok (unlisted_with z s (commented r)))

-- The recorded program.
module _ (naming : Naming) (run : Runs) where
  abbrev pub fresh_item_as : Listing → ℕ → Path → Entry → State → Outcome ItemDone
  fresh_item_as z m q x st =
      let b = item_start_as naming z q x st in on_ok (run (start (with_locals b.locals z.sight) z.body q m) b.state) (λ r. ok (item_done b.spot (commented r)))

  abbrev mutual
    pub renew_code_as : ℕ → Path → Code → State → Outcome (Code × State)
    renew_code_as m p (still_code n) st = ok (still_code n, st)
    renew_code_as m p (put_code n s) st = ok (put_code n s, renew_text n s.ref st)
    renew_code_as m p (element_code n made xs zs cs) st =
        on_ok (renew_codes_as m p 0 cs (renew_attrs n xs st)) (λ r. ok (element_code n made xs zs r.0, renew_mods zs r.1))
    renew_code_as m p (branch_code z s true k cs) st =
        let st1 = reread s.ref st in
        if takes_first z.unless (first_value (spot_pairs st1 s.ref))
        then on_ok (renew_codes_as m (main ∷ p) 0 cs st1) (λ r. ok (branch_with z s true (kept k r)))
        else fresh_branch run z s false p m (dropped_as naming (λ q. times_in q (lives_of cs) + times_comment q k) st1)
    renew_code_as m p (branch_code z s false k cs) st =
        let st1 = reread s.ref st in
        if takes_first z.unless (first_value (spot_pairs st1 s.ref))
        then fresh_branch run z s true p m (dropped_as naming (λ q. times_in q (lives_of cs) + times_comment q k) st1)
        else on_ok (renew_codes_as m (otherwise ∷ p) 0 cs st1) (λ r. ok (branch_with z s false (kept k r)))
    renew_code_as m p (listed_code z s is) st =
        let st1 = reread s.ref st in
        by_values (values_listed (first_value (spot_pairs st1 s.ref)))
        (λ vs. on_ok (sync_codes_as naming (fresh_item_as z m) (items ∷ p) (entries z.key 0 [] vs) (code_handles_as m is) st1) (λ r. ok (listed_code z s r.0, r.1)))
        (fresh_other run z s p m (dropped_as naming (λ q. times_items q (items_of is)) st1))
    renew_code_as m p (unlisted_code z s k cs) st =
        let st1 = reread s.ref st in
        by_values (values_listed (first_value (spot_pairs st1 s.ref)))
        (λ vs. on_ok (fresh_codes (fresh_item_as z m) (items ∷ p) (entries z.key 0 [] vs) (dropped_as naming (λ q. times_in q (lives_of cs) + times_comment q k) st1)) (λ r. ok (listed_code z s r.0, r.1)))
        (on_ok (renew_codes_as m (otherwise ∷ p) 0 cs st1) (λ r. ok (unlisted_with z s (kept k r))))
    renew_code_as m p (let_code made rs cs) st = on_ok (renew_codes_as m (main ∷ p) 0 cs st) (λ r. ok (let_code made rs r.0, r.1))
    renew_code_as zero p (component_code i made gm args k cs) st = lost
    renew_code_as (suc m) p (component_code i made gm args k cs) st = on_ok (renew_codes_as m i.path 0 cs st) (λ r. ok (component_code i made gm args k r.0, r.1))
    renew_code_as m p (yield_code n made rs cs) st = on_ok (renew_codes_as m (slot n ∷ p) 0 cs st) (λ r. ok (yield_code n made rs r.0, r.1))

    pub renew_codes_as : ℕ → Path → ℕ → Codes → State → Outcome (Codes × State)
    renew_codes_as m p i no_codes st = ok (no_codes, st)
    renew_codes_as m p i (code_and c cs) st =
        on_ok (renew_code_as m (at i ∷ p) c st) (λ r. on_ok (renew_codes_as m p (suc i) cs r.1) (λ z. ok (code_and r.0 z.0, z.1)))

    pub code_handles_as : ℕ → ItemCodes → List CodeHandle
    code_handles_as m no_item_codes = []
    code_handles_as m (item_code s k cs is) = record { spot = s; comment = k; codes = cs; go = λ q st. renew_codes_as m q 0 cs st } ∷ code_handles_as m is

  -- the root counts as one level of nesting
  abbrev pub renew_page_as : ℕ → Code → State → Outcome (Code × State)
  renew_page_as m c st = renew_code_as m [] c st

-- By paths.

abbrev pub item_start : Listing → Path → Entry → State → ItemStart
item_start = item_start_as by_path

abbrev pub renew_item_code : Path → Entry → CodeHandle → State → Outcome ItemDone
renew_item_code = renew_item_code_as by_path

abbrev pub sync_one_code : (Path → Entry → State → Outcome ItemDone) → Path → Entry → List CodeHandle → Option (CodeHandle × List CodeHandle) → State → Outcome (ItemDone × List CodeHandle)
sync_one_code = sync_one_code_as by_path

abbrev pub sync_codes : (Path → Entry → State → Outcome ItemDone) → Path → List Entry → List CodeHandle → State → Outcome (ItemCodes × State)
sync_codes = sync_codes_as by_path

abbrev pub fresh_item : Runs → Listing → ℕ → Path → Entry → State → Outcome ItemDone
fresh_item = fresh_item_as by_path

abbrev pub renew_code : Runs → ℕ → Path → Code → State → Outcome (Code × State)
renew_code = renew_code_as by_path

abbrev pub renew_codes : Runs → ℕ → Path → ℕ → Codes → State → Outcome (Codes × State)
renew_codes = renew_codes_as by_path

abbrev pub code_handles : Runs → ℕ → ItemCodes → List CodeHandle
code_handles = code_handles_as by_path

abbrev pub renew_page : Runs → ℕ → Code → State → Outcome (Code × State)
renew_page = renew_page_as by_path
