-- The items of a list that become those of other entries.
use Rattle.std.proofs.Common.{◌≡◌, ℕ, zero, suc, ◌+◌, Bool, List, [], ◌∷◌, ◌++◌, map, reverse, set, Option, Some, None, option_map, slice_get, refl, sym, ◌∙◌, ap, ap₂, subst, rules}
use Rattle.std.proofs.lemmas.List.{map-append}
use Rattle.gl_arena.specs.Id.{Id}
use Rattle.gl_value.specs.Value.{plain, count_value}
use Rattle.gl_value.specs.View.{view}
use Rattle.gl_value.specs.declared.value.Value.{Value}
use Rattle.gl_meaning.specs.Laws.{NoRepeat}
use Rattle.gl_meaning.specs.Path.{item, items, Path}
use Rattle.gl_meaning.specs.Render.{Entry as PlainEntry}
use Rattle.gl_meaning.specs.Scope.{Source}
use Rattle.gl_opc.specs.declared.app.App.{App}
use Rattle.gl_plain.specs.Ids.{Id as Name, occurs}
use Rattle.gl_plain.specs.Binding.{Spot as PlainSpot}
use Rattle.gl_plain.specs.Live.{item_made, times_in, times_comment, times_items}
use Rattle.gl_plain.specs.Naming.{by_number, dropped_as}
use Rattle.gl_plain.specs.Renew.{give}
use Rattle.gl_plain.specs.State.{State}
use Rattle.gl_machine.specs.Code.{Code as PlainCode, Codes as PlainCodes, listed_code, ItemCodes, lives_of, items_of}
use Rattle.gl_machine.specs.Outcome.{Outcome, ok, on_ok}
use Rattle.gl_machine.specs.RenewCode.{Runs, CodeHandle, ItemDone, item_with, fresh_item_as, renew_item_code_as, sync_one_code_as, sync_codes_as, taken_code, times_code_handles}
use Rattle.gl_guards.specs.Along.{along_body_as}
use Rattle.gl_each.specs.Key.{Key, entry_key, entry_keys}
use Rattle.gl_each.specs.Sync.{Step, retain, move, insert}
use Rattle.gl_each.specs.View.{seen_steps}
use Rattle.gl_vm.specs.Labels.{label, labelled}
use Rattle.gl_vm.specs.View.{Tables, state_of}
use Rattle.gl_vm.specs.Steps.{Does}
use Rattle.gl_vm.specs.declared.vm.Vm.{Vm}
use Rattle.gl_code.specs.Cells.{CellList}
use Rattle.gl_code.specs.CodeView.{seen_codes, seen_listing, seen_item_spot, stamp_of, seen_item_code, all_items}
use Rattle.gl_code.specs.Entries.{seen_entry, seen_left}
use Rattle.gl_code.specs.declared.code.Code.{the_lemmas}
use Rattle.gl_code.specs.declared.code.Codes.{Codes}
use Rattle.gl_code.specs.declared.code.ItemCode.{ItemCode}
use Rattle.gl_code.specs.declared.code.ItemSpot.{ItemSpot}
use Rattle.gl_code.specs.declared.code.Listing.{Listing}
use Rattle.gl_code.specs.declared.fault.VmFault.{VmFault}
use Rattle.gl_code.specs.declared.entries.Entry.{Entry}
use Rattle.gl_code.proofs.EntryLists.{next_left}
use Rattle.gl_code.proofs.Doing.{does_then}
use Rattle.gl_update.specs.declared.old_items.Work.{Work}
use Rattle.gl_code.specs.Renewing.{Renewal, Renews, RenewFails}
use Rattle.gl_update.specs.ListItems.{Item, one_item, onto, handle, handles, spot_key, there, HasKeys, KeptItem, SyncItems, Syncs}
use Rattle.gl_update.specs.OldItems.{code_key, Picks, Plans, CodeKeys, TakenAt, TakenBy, IsReady, OneItem}
use Rattle.gl_update.proofs.ItemJoins.{item_synced, item_renewed, onto_none, before_none}
use Rattle.gl_update.proofs.Onward.{Onward, onward_begin, onward_next, onward_fails, onward_as}
use Rattle.gl_update.proofs.Places.{taken_there, taken_nowhere}
use Rattle.gl_update.proofs.Renewing.{renews_same, renews_as, renews_by, renews_in, does_renews, fails_same, fails_in, does_fails}

-- an item by its parts
pub item_is : (n : Tables) (x : ItemCode) → seen_item_code n x ≡ (seen_item_spot x.spot, (stamp_of x.comment, seen_codes n x.body))
item_is n x = search (rules, the_lemmas)

pub key_is : (n : Tables) (x : ItemCode) → spot_key (seen_item_code n x) ≡ code_key x
key_is n x = ap spot_key (item_is n x)

-- what may be there, as it is seen
abbrev pub seen_olds : Tables → List (Option ItemCode) → List (Option Item)
seen_olds n os = map (option_map (seen_item_code n)) os

pub there_seen : (n : Tables) (os : List (Option ItemCode)) → map (seen_item_code n) (there os) ≡ there (seen_olds n os)
there_seen n [] = refl
there_seen n (None ∷ os) = there_seen n os
there_seen n (Some x ∷ os) = ap (λ xs. seen_item_code n x ∷ xs) (there_seen n os)

pub has_seen : (n : Tables) (ks : List Key) (os : List (Option ItemCode)) → CodeKeys ks os → HasKeys ks (seen_olds n os)
has_seen n [] [] h = h
has_seen n (k ∷ ks) (None ∷ os) h = has_seen n ks os h
has_seen n (k ∷ ks) (Some x ∷ os) h = (key_is n x ∙ h.0, has_seen n ks os h.1)
has_seen n [] (o ∷ os) h = absurd h
has_seen n (k ∷ ks) [] h = absurd h

code_keys_left : (ks : List Key) (os : List (Option ItemCode)) (i : ℕ) → CodeKeys ks os → CodeKeys ks (set os i None)
code_keys_left [] [] i has = has
code_keys_left [] (o ∷ os) i has = absurd has
code_keys_left (k ∷ ks) [] i has = absurd has
code_keys_left (k ∷ ks) (None ∷ os) zero has = has
code_keys_left (k ∷ ks) (Some y ∷ os) zero has = has.1
code_keys_left (k ∷ ks) (None ∷ os) (suc i) has = code_keys_left ks os i has
code_keys_left (k ∷ ks) (Some y ∷ os) (suc i) has = (has.0, code_keys_left ks os i has.1)

pub seen_at : (n : Tables) (os : List (Option ItemCode)) (i : ℕ) (x : ItemCode) → slice_get os i ≡ Some (Some x) → slice_get (seen_olds n os) i ≡ Some (Some (seen_item_code n x))
seen_at n [] i x e = absurd (cc)
seen_at n (o ∷ os) zero x e = let is : o ≡ Some x = cc in ap (λ p. Some (option_map (seen_item_code n) p)) is
seen_at n (o ∷ os) (suc i) x e = seen_at n os i x e

seen_left_out : (n : Tables) (os : List (Option ItemCode)) (i : ℕ) → seen_olds n (set os i None) ≡ set (seen_olds n os) i None
seen_left_out n [] i = refl
seen_left_out n (o ∷ os) zero = refl
seen_left_out n (o ∷ os) (suc i) = ap (λ xs. option_map (seen_item_code n) o ∷ xs) (seen_left_out n os i)

-- What is taken

abbrev pub TakesOld : PlainEntry → List (Option ItemCode) → List (Option ItemCode) → Option ItemCode → Type 0
TakesOld e os ps (Some x) = (n : Tables) (run : Runs) (m : ℕ) → taken_code e (handles run m (map (seen_item_code n) (there os))) ≡ Some (handle run m (seen_item_code n x), handles run m (map (seen_item_code n) (there ps)))
TakesOld e os ps None = (n : Tables) (run : Runs) (m : ℕ) → (taken_code e (handles run m (map (seen_item_code n) (there os))) ≡ None) × (ps ≡ os)

taken_at : (e : PlainEntry) (ks : List Key) (os ps : List (Option ItemCode)) (i : ℕ) (o : Option ItemCode) → NoRepeat ks → CodeKeys ks os → slice_get ks i ≡ Some (entry_key e) → TakenAt i os ps o → TakesOld e os ps o × CodeKeys ks ps
taken_at e ks os ps i None once has k t = absurd t
taken_at e ks os ps i (Some x) once has k t = (
  (λ n run m. ap (λ xs. taken_code e (handles run m xs)) (there_seen n os)
      ∙ (taken_there run m e ks (seen_olds n os) i (seen_item_code n x) once (has_seen n ks os has) k (seen_at n os i x t.0)
      ∙ ap (λ xs. Some (handle run m (seen_item_code n x), handles run m xs)) (ap there (sym (seen_left_out n os i)) ∙ (sym (there_seen n (set os i None)) ∙ ap (λ qs. map (seen_item_code n) (there qs)) (sym t.1))))),
  subst (CodeKeys ks) (sym t.1) (code_keys_left ks os i has),
)

-- the step of the entry's key takes what the definition takes
pub taken_old : (e : PlainEntry) (ks : List Key) (s : Step) (os ps : List (Option ItemCode)) (o : Option ItemCode) → NoRepeat ks → CodeKeys ks os → Picks ks (entry_key e) s → TakenBy s os ps o → TakesOld e os ps o × CodeKeys ks ps
taken_old e ks (retain i) os ps o once has k t = taken_at e ks os ps i o once has k t
taken_old e ks (move i) os ps o once has k t = taken_at e ks os ps i o once has k t
taken_old e ks insert os ps (Some x) once has k t = absurd t
taken_old e ks insert os ps None once has k t = (
  (λ n run m. (ap (λ xs. taken_code e (handles run m xs)) (there_seen n os) ∙ taken_nowhere run m e ks (seen_olds n os) (has_seen n ks os has) k, t)),
  subst (CodeKeys ks) (sym t) has,
)

-- The work of one entry

-- the entry that waits is the first key of the plan
pub planned : (ks : List Key) (k : Key) (rest : List Key) (ss : List Step) → Plans ks (k ∷ rest) ss → (s : Step) × (more : List Step) × (ss ≡ s ∷ more) × (Picks ks k s × Plans ks rest more)
planned ks k rest [] h = absurd h
planned ks k rest (s ∷ ss) h = (s, ss, refl, h)

-- what waits is the same by another name
pub still_waits : (es rest more : List Entry) (e : Entry) → es ≡ rest ++ e ∷ [] → more ≡ rest → es ≡ more ++ e ∷ []
still_waits es rest more e is same = is ∙ ap (λ xs. xs ++ e ∷ []) (sym same)

pub work_next : (w v : Work) (rest : List Entry) (e : Entry) (o : Option ItemCode) → IsReady w → w.waiting.items ≡ rest ++ e ∷ [] → v.waiting.items ≡ rest → v.keys ≡ w.keys
    → ((s : Step) (ss : List Step) → reverse (seen_steps w.steps.items) ≡ s ∷ ss → (reverse (seen_steps v.steps.items) ≡ ss) × TakenBy s w.olds.items v.olds.items o)
    → TakesOld (seen_entry e) w.olds.items v.olds.items o × IsReady v
work_next w v rest e o r is left same took =
    let p : Plans w.keys (entry_key (seen_entry e) ∷ entry_keys (seen_left rest)) (reverse (seen_steps w.steps.items)) = subst (λ es. Plans w.keys (entry_keys es) (reverse (seen_steps w.steps.items))) (next_left w.waiting.items rest e is) r.plans in
    let q = planned w.keys (entry_key (seen_entry e)) (entry_keys (seen_left rest)) (reverse (seen_steps w.steps.items)) p in
    let t = took q.0 q.1 q.2 in
    let x = taken_old (seen_entry e) w.keys q.0 w.olds.items v.olds.items o r.once r.has q.3.0 t.1 in (
      x.0,
      record {
        once = subst NoRepeat (sym same) r.once;
        has = subst (λ ks. CodeKeys ks v.olds.items) (sym same) x.1;
        plans = subst (λ ks. Plans ks (entry_keys (seen_left v.waiting.items)) (reverse (seen_steps v.steps.items))) (sym same)
            (subst (λ es. Plans w.keys (entry_keys (seen_left es)) (reverse (seen_steps v.steps.items))) (sym left) (subst (Plans w.keys (entry_keys (seen_left rest))) (sym t.0) q.3.1));
      },
    )

-- The loop

module _ (a : App) (cells : CellList) (left : ℕ) (z : Listing) (base : Path) where
  abbrev pub seen_done : List ItemCode → Tables → List Item
  seen_done ys n = map (seen_item_code n) ys

  abbrev pub AllOf : List PlainEntry → List ItemCode → Renewal ItemCodes
  AllOf fs xs = SyncItems (λ n. seen_listing n z) left base fs (seen_done xs)

  -- of entries that wait, the next one last
  abbrev pub All : List Entry → List ItemCode → Renewal ItemCodes
  All es xs = AllOf (seen_left es) xs

  -- these are done, and those are left
  abbrev pub LeftOf : List ItemCode → List PlainEntry → List ItemCode → Renewal ItemCodes
  LeftOf ys fs xs = λ n run st. onto (seen_done ys n) (AllOf fs xs n run st)

  abbrev pub Left : List ItemCode → List Entry → List ItemCode → Renewal ItemCodes
  Left ys es xs = LeftOf ys (seen_left es) xs

  pub sync_begin_of : (fs : List PlainEntry) (xs ys : List ItemCode) (vm : Vm) → ys ≡ [] → Onward a cells (AllOf fs xs) vm (LeftOf ys fs xs) vm
  sync_begin_of fs xs ys vm none =
      onward_begin a cells (AllOf fs xs) (LeftOf ys fs xs) vm (λ n run u. ap (λ zs. LeftOf zs fs xs n run (state_of n vm u)) none ∙ onto_none (AllOf fs xs n run (state_of n vm u)))

  pub sync_begin : (es : List Entry) (xs ys : List ItemCode) (vm : Vm) → ys ≡ [] → Onward a cells (All es xs) vm (Left ys es xs) vm
  sync_begin es xs ys vm none = sync_begin_of (seen_left es) xs ys vm none

  abbrev then_left : List ItemCode → List PlainEntry → List ItemCode → Tables → Item → Runs → State → Outcome (ItemCodes × State)
  then_left ys fs xs n y run st = onto (seen_done ys n ++ y ∷ []) (AllOf fs xs n run st)

  -- how the entry's item is made
  abbrev One : PlainEntry → Path → Option ItemCode → Renewal Item
  One e q o = OneItem (λ n. seen_listing n z) left q e o

  abbrev one_by : PlainEntry → Path → Option ItemCode → Tables → Runs → State → Outcome ItemDone
  one_by e q None n run st = fresh_item_as by_number run (seen_listing n z) left q e st
  one_by e q (Some x) n run st = renew_item_code_as by_number q e (handle run left (seen_item_code n x)) st

  one_is : (e : PlainEntry) (q : Path) (o : Option ItemCode) (n : Tables) (run : Runs) (st : State) → One e q o n run st ≡ one_item (one_by e q o n run st)
  one_is e q None n run st = refl
  one_is e q (Some x) n run st = refl

  -- the entry's item is made so, and what is left of the old ones
  sync_one_is : (e : PlainEntry) (q : Path) (os ps : List (Option ItemCode)) (o : Option ItemCode) → TakesOld e os ps o → (n : Tables) (run : Runs) (st : State)
      → sync_one_code_as by_number (fresh_item_as by_number run (seen_listing n z) left) q e (handles run left (seen_done (there os) n)) (taken_code e (handles run left (seen_done (there os) n))) st
      ≡ on_ok (one_by e q o n run st) (λ g. ok (g, handles run left (seen_done (there ps) n)))
  sync_one_is e q os ps None t n run st =
      let w = t n run left in
      ap (λ y. sync_one_code_as by_number (fresh_item_as by_number run (seen_listing n z) left) q e (handles run left (seen_done (there os) n)) y st) w.0
      ∙ ap (λ qs. on_ok (fresh_item_as by_number run (seen_listing n z) left q e st) (λ g. ok (g, handles run left (seen_done (there qs) n)))) (sym w.1)
  sync_one_is e q os ps (Some x) t n run st =
      ap (λ y. sync_one_code_as by_number (fresh_item_as by_number run (seen_listing n z) left) q e (handles run left (seen_done (there os) n)) y st) (t n run left)

  left_is : (ys : List ItemCode) (fs rest : List PlainEntry) (e : PlainEntry) (q : Path) (os ps : List (Option ItemCode)) (o : Option ItemCode) (vm : Vm) → fs ≡ e ∷ rest → q ≡ item e.key e.occurrence ∷ base
      → TakesOld e os ps o → (n : Tables) (run : Runs) (u : Source → Bool)
      → on_ok (One e q o n run (state_of n vm u)) (λ r. then_left ys rest (there ps) n r.0 run r.1) ≡ LeftOf ys fs (there os) n run (state_of n vm u)
  left_is ys fs rest e q os ps o vm is at t n run u =
      let st : State = state_of n vm u in
      let p0 : Path = item e.key e.occurrence ∷ base in
      let fresh : Path → PlainEntry → State → Outcome ItemDone = fresh_item_as by_number run (seen_listing n z) left in
      let hs : List CodeHandle = handles run left (seen_done (there ps) n) in
      let k : List CodeHandle → State → Outcome (ItemCodes × State) = λ gs st2. sync_codes_as by_number fresh base rest gs st2 in
      ap (λ p. on_ok (One e p o n run st) (λ r. then_left ys rest (there ps) n r.0 run r.1)) at
      ∙ (ap (λ y. on_ok y (λ r. then_left ys rest (there ps) n r.0 run r.1)) (one_is e p0 o n run st)
      ∙ (sym (item_synced (seen_done ys n) (one_by e p0 o n run st) hs k)
      ∙ (ap (λ y. onto (seen_done ys n) (on_ok y (λ g. on_ok (k g.1 g.0.arm.state) (λ r. ok (item_with g.0 r))))) (sym (sync_one_is e p0 os ps o t n run st))
      ∙ ap (λ gs. onto (seen_done ys n) (sync_codes_as by_number fresh base gs (handles run left (seen_done (there os) n)) st)) (sym is))))

  done_is : (ys zs : List ItemCode) (x : ItemCode) → zs ≡ ys ++ x ∷ [] → (n : Tables) → seen_done zs n ≡ seen_done ys n ++ seen_item_code n x ∷ []
  done_is ys zs x is n = ap (λ ws. seen_done ws n) is ∙ map-append (seen_item_code n) ys (x ∷ [])

  pub sync_next_of : (all : Renewal ItemCodes) (ys zs : List ItemCode) (fs rest : List PlainEntry) (e : PlainEntry) (x : ItemCode) (q : Path) (os ps : List (Option ItemCode)) (o : Option ItemCode) (vm0 vm mid : Vm) → fs ≡ e ∷ rest
      → q ≡ item e.key e.occurrence ∷ base → TakesOld e os ps o → zs ≡ ys ++ x ∷ [] → Onward a cells all vm0 (LeftOf ys fs (there os)) vm → Renews a cells (One e q o) vm (λ n. seen_item_code n x) mid
      → Onward a cells all vm0 (LeftOf zs rest (there ps)) mid
  sync_next_of all ys zs fs rest e x q os ps o vm0 vm mid is at t more w p =
      onward_as a cells all (λ n run st. then_left ys rest (there ps) n (seen_item_code n x) run st) (LeftOf zs rest (there ps)) vm0 mid (λ n run u. ap (λ ws. onto ws (AllOf rest (there ps) n run (state_of n mid u))) (done_is ys zs x more n))
      (onward_next a cells all vm0 (LeftOf ys fs (there os)) vm (One e q o) (then_left ys rest (there ps)) (left_is ys fs rest e q os ps o vm is at t) w (λ n. seen_item_code n x) mid p)

  pub sync_next : (all : Renewal ItemCodes) (ys zs : List ItemCode) (es rest : List Entry) (e : Entry) (x : ItemCode) (q : Path) (os ps : List (Option ItemCode)) (o : Option ItemCode) (vm0 vm mid : Vm) → es ≡ rest ++ e ∷ []
      → q ≡ item (plain (view e.key)) e.occurrence ∷ base → TakesOld (seen_entry e) os ps o → zs ≡ ys ++ x ∷ [] → Onward a cells all vm0 (Left ys es (there os)) vm → Renews a cells (One (seen_entry e) q o) vm (λ n. seen_item_code n x) mid
      → Onward a cells all vm0 (Left zs rest (there ps)) mid
  sync_next all ys zs es rest e x q os ps o vm0 vm mid is at t more w p = sync_next_of all ys zs (seen_left es) (seen_left rest) (seen_entry e) x q os ps o vm0 vm mid (next_left es rest e is) at t more w p

  pub sync_fails_of : (all : Renewal ItemCodes) (ys : List ItemCode) (fs rest : List PlainEntry) (e : PlainEntry) (q : Path) (os ps : List (Option ItemCode)) (o : Option ItemCode) (vm0 vm : Vm) (h : VmFault) → fs ≡ e ∷ rest
      → q ≡ item e.key e.occurrence ∷ base → TakesOld e os ps o → Onward a cells all vm0 (LeftOf ys fs (there os)) vm → RenewFails {A = Item} a cells (One e q o) vm h
      → RenewFails {A = ItemCodes} a cells all vm0 h
  sync_fails_of all ys fs rest e q os ps o vm0 vm h is at t w p = onward_fails a cells all vm0 (LeftOf ys fs (there os)) vm (One e q o) (then_left ys rest (there ps)) (left_is ys fs rest e q os ps o vm is at t) w h p

  pub sync_fails : (all : Renewal ItemCodes) (ys : List ItemCode) (es rest : List Entry) (e : Entry) (q : Path) (os ps : List (Option ItemCode)) (o : Option ItemCode) (vm0 vm : Vm) (h : VmFault) → es ≡ rest ++ e ∷ []
      → q ≡ item (plain (view e.key)) e.occurrence ∷ base → TakesOld (seen_entry e) os ps o → Onward a cells all vm0 (Left ys es (there os)) vm → RenewFails {A = Item} a cells (One (seen_entry e) q o) vm h
      → RenewFails {A = ItemCodes} a cells all vm0 h
  sync_fails all ys es rest e q os ps o vm0 vm h is at t w p = sync_fails_of all ys (seen_left es) (seen_left rest) (seen_entry e) q os ps o vm0 vm h (next_left es rest e is) at t w p

  -- what is left of the old ones is ended
  counted_is : (q : Name) (run : Runs) (xs : List Item) → times_items q (items_of (all_items xs)) ≡ times_code_handles q (handles run left xs)
  counted_is q run [] = refl
  counted_is q run (x ∷ xs) = ap (λ k. (occurs q (item_made x.0) + (times_in q (lives_of x.1.1) + times_comment q x.1.0)) + k) (counted_is q run xs)

  pub sync_end_of : (all : Renewal ItemCodes) (ys xs : List ItemCode) (fs : List PlainEntry) (os : List (Option ItemCode)) (vm0 vm new : Vm) → fs ≡ [] → xs ≡ there os → Onward a cells all vm0 (LeftOf ys fs (there os)) vm
      → Does (λ n. dropped_as by_number (λ q. times_items q (items_of (all_items (map (seen_item_code n) xs))))) vm new
      → Renews a cells all vm0 (λ n. all_items (seen_done ys n)) new
  sync_end_of all ys xs fs os vm0 vm new none are w d =
      let gone : Tables → State → State = λ n. dropped_as by_number (λ q. times_items q (items_of (all_items (map (seen_item_code n) xs)))) in
      w.goes (λ n. all_items (seen_done ys n)) new
      (renews_same a cells (λ n run st. ok (all_items (seen_done ys n), gone n st)) (LeftOf ys fs (there os)) (λ n. all_items (seen_done ys n)) vm new
      (λ n run u. let st : State = state_of n vm u in
      ap₂ (λ is c. ok (is, dropped_as by_number c st)) (sym (before_none (seen_done ys n))) (λ t q. counted_is q run (map (seen_item_code n) xs) t)
      ∙ (ap (λ qs. LeftOf ys [] qs n run st) are ∙ ap (λ gs. LeftOf ys gs (there os) n run st) (sym none)))
      (renews_by a cells gone (λ n. all_items (seen_done ys n)) vm new d))

  pub sync_end : (all : Renewal ItemCodes) (ys xs : List ItemCode) (es : List Entry) (os : List (Option ItemCode)) (vm0 vm new : Vm) → es ≡ [] → xs ≡ there os → Onward a cells all vm0 (Left ys es (there os)) vm
      → Does (λ n. dropped_as by_number (λ q. times_items q (items_of (all_items (map (seen_item_code n) xs))))) vm new
      → Renews a cells all vm0 (λ n. all_items (seen_done ys n)) new
  sync_end all ys xs es os vm0 vm new none are w d = sync_end_of all ys xs (seen_left es) os vm0 vm new (ap seen_left none) are w d

-- An old item

-- what it is given
abbrev pub given_of : ItemSpot → PlainEntry → Tables → State → State
given_of sp e n st = give sp.index.1 (label sp.index.1) (labelled (count_value e.index)) (give sp.value.1 (label sp.value.1) e.value st)

abbrev pub given_item : ItemSpot → Entry → Tables → State → State
given_item sp e n st = given_of sp (seen_entry e) n st

pub item_given : (sp : ItemSpot) (e : Entry) (count : Value) (vm vm1 vm2 : Vm) → Does (λ n. give sp.value.1 (label sp.value.1) (labelled (view e.value))) vm vm1 → Does (λ n. give sp.index.1 (label sp.index.1) (labelled (view count))) vm1 vm2 → view count ≡ count_value e.index
    → Does (given_item sp e) vm vm2
item_given sp e count vm vm1 vm2 d1 d2 counts =
    does_then (λ n. give sp.value.1 (label sp.value.1) (labelled (view e.value))) (λ n. give sp.index.1 (label sp.index.1) (labelled (count_value e.index))) vm vm1 vm2 d1
    (subst (λ v. Does (λ n. give sp.index.1 (label sp.index.1) (labelled v)) vm1 vm2) counts d2)

module _ (a : App) (cells : CellList) (left : ℕ) (q : Path) (e : Entry) (sp : ItemSpot) (k : Option Id) (b : Codes) (x : Tables → Item) (vm vm2 : Vm)
    (old : (n : Tables) → x n ≡ (seen_item_spot sp, (stamp_of k, seen_codes n b)))
    (d : Does (given_item sp e) vm vm2) where
  abbrev Walked : Renewal PlainCodes
  Walked = λ n run. along_body_as by_number run left q (seen_codes n b)

  abbrev in_item : Tables → PlainCodes → Item
  in_item n cs = (seen_item_spot sp, (stamp_of k, cs))

  kept_is : (n : Tables) (run : Runs) (u : Source → Bool) → on_ok (Walked n run (given_item sp e n (state_of n vm u))) (λ r. ok (in_item n r.0, r.1)) ≡ KeptItem left q (seen_entry e) x n run (state_of n vm u)
  kept_is n run u =
      let st : State = state_of n vm u in
      sym (item_renewed run left q (seen_entry e) (in_item n (seen_codes n b)) st)
      ∙ ap (λ y. one_item (renew_item_code_as by_number q (seen_entry e) (handle run left y) st)) (sym (old n))

  pub kept_renews : (b' : Codes) (y : Tables → Item) (new : Vm) → ((n : Tables) → y n ≡ (seen_item_spot sp, (stamp_of k, seen_codes n b'))) → Renews a cells Walked vm2 (λ n. seen_codes n b') new → Renews a cells (KeptItem left q (seen_entry e) x) vm y new
  kept_renews b' y new is r =
      renews_as a cells (KeptItem left q (seen_entry e) x) (λ n. in_item n (seen_codes n b')) y vm new (λ n. sym (is n))
      (renews_same a cells (λ n run st. on_ok (Walked n run (given_item sp e n st)) (λ r. ok (in_item n r.0, r.1))) (KeptItem left q (seen_entry e) x) (λ n. in_item n (seen_codes n b')) vm new kept_is
      (does_renews a cells (given_item sp e) (λ n run st. on_ok (Walked n run st) (λ r. ok (in_item n r.0, r.1))) (λ n. in_item n (seen_codes n b')) vm vm2 new d
      (renews_in a cells Walked in_item (λ n. seen_codes n b') vm2 new r)))

  pub kept_fails : (h : VmFault) → RenewFails {A = PlainCodes} a cells Walked vm2 h → RenewFails {A = Item} a cells (KeptItem left q (seen_entry e) x) vm h
  kept_fails h r =
      fails_same a cells (λ n run st. on_ok (Walked n run (given_item sp e n st)) (λ r. ok (in_item n r.0, r.1))) (KeptItem left q (seen_entry e) x) vm h kept_is
      (does_fails a cells (given_item sp e) (λ n run st. on_ok (Walked n run st) (λ r. ok (in_item n r.0, r.1))) vm vm2 h d
      (fails_in a cells Walked in_item (λ n st. st) vm2 h r))

-- All of it

module _ (a : App) (cells : CellList) (left : ℕ) (z : Listing) (s : PlainSpot) (p q : Path) (es es' : List PlainEntry) (xs xs' : List ItemCode) (below : q ≡ items ∷ p) (same_entries : es' ≡ es) (same_items : xs' ≡ xs) where
  abbrev pub Inner : Renewal ItemCodes
  Inner = SyncItems (λ n. seen_listing n z) left q es' (λ n. map (seen_item_code n) xs')

  abbrev pub Outer : Renewal PlainCode
  Outer = Syncs (λ n. seen_listing n z) s left p es (λ n. map (seen_item_code n) xs)

  inner_is : (vm : Vm) (n : Tables) (run : Runs) (u : Source → Bool) → on_ok (Inner n run (state_of n vm u)) (λ r. ok (listed_code (seen_listing n z) s r.0, r.1)) ≡ Outer n run (state_of n vm u)
  inner_is vm n run u =
      let at : Path → List PlainEntry → List ItemCode → Outcome (PlainCode × State) = λ w fs ys. on_ok (SyncItems (λ n. seen_listing n z) left w fs (λ n. map (seen_item_code n) ys) n run (state_of n vm u)) (λ r. ok (listed_code (seen_listing n z) s r.0, r.1)) in
      ap (λ w. at w es' xs') below ∙ (ap (λ fs. at (items ∷ p) fs xs') same_entries ∙ ap (λ ys. at (items ∷ p) es ys) same_items)

  pub list_syncs : (is : Tables → ItemCodes) (y : Tables → PlainCode) (old new : Vm) → ((n : Tables) → y n ≡ listed_code (seen_listing n z) s (is n)) → Renews a cells Inner old is new → Renews a cells Outer old y new
  list_syncs is y old new e r =
      renews_as a cells Outer (λ n. listed_code (seen_listing n z) s (is n)) y old new (λ n. sym (e n))
      (renews_same a cells (λ n run st. on_ok (Inner n run st) (λ r. ok (listed_code (seen_listing n z) s r.0, r.1))) Outer (λ n. listed_code (seen_listing n z) s (is n)) old new (inner_is old)
      (renews_in a cells Inner (λ n x. listed_code (seen_listing n z) s x) is old new r))

  pub list_sync_fails : (old : Vm) (h : VmFault) → RenewFails {A = ItemCodes} a cells Inner old h → RenewFails {A = PlainCode} a cells Outer old h
  list_sync_fails old h r =
      fails_same a cells (λ n run st. on_ok (Inner n run st) (λ r. ok (listed_code (seen_listing n z) s r.0, r.1))) Outer old h (inner_is old)
      (fails_in a cells Inner (λ n x. listed_code (seen_listing n z) s x) (λ n st. st) old h r)
