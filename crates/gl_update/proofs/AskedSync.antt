-- Questions of the items of a list that become those of other entries.
use Rattle.std.proofs.Common.{◌≡◌, ℕ, ◌+◌, nat_eq, Bool, true, false, List, [], ◌∷◌, ◌++◌, map, Option, Some, None, is_some, refl, sym, ◌∙◌, ap, arith}
use Rattle.std.specs.Prelude.{if◌then◌else◌}
use Rattle.std.proofs.lemmas.Bool.Decides.{Decides-eqb}
use Rattle.gl_arena.specs.Id.{Id}
use Rattle.gl_value.specs.Value.{plain}
use Rattle.gl_value.specs.View.{view}
use Rattle.gl_meaning.specs.Path.{item, Path}
use Rattle.gl_meaning.specs.Render.{Entry as PlainEntry}
use Rattle.gl_meaning.specs.Scope.{Source}
use Rattle.gl_meaning.specs.View.{manifest_view}
use Rattle.gl_opc.specs.declared.app.App.{App}
use Rattle.gl_plain.specs.Naming.{by_number}
use Rattle.gl_plain.specs.State.{State}
use Rattle.gl_machine.specs.Outcome.{Outcome, ok, deep, lost}
use Rattle.gl_machine.specs.RenewCode.{Runs, CodeHandle, ItemDone, is_code_of, taken_code, with_code_front, fresh_item_as}
use Rattle.gl_machine.specs.Step.{run_for_as}
use Rattle.gl_guards.specs.Along.{along_body_as}
use Rattle.gl_guards.specs.AlongAsks.{gone_along, stay_count, stay_asks_as, together}
use Rattle.gl_guards.specs.Guarded.{given_as}
use Rattle.gl_guards.specs.Questions.{after, OldItem, taken_item, with_first, where_taken}
use Rattle.gl_vm.specs.Steps.{Does}
use Rattle.gl_vm.specs.View.{Tables, state_of}
use Rattle.gl_vm.specs.declared.vm.Vm.{Vm}
use Rattle.gl_code.specs.Cells.{CellList, store_of}
use Rattle.gl_code.specs.CodeView.{seen_codes, seen_listing, seen_item_spot, stamp_of, seen_item_code}
use Rattle.gl_code.specs.Entries.{seen_entry, seen_left}
use Rattle.gl_code.specs.Renewing.{Renews}
use Rattle.gl_code.specs.Tables.{tables_of, env_of}
use Rattle.gl_code.specs.declared.code.Codes.{Codes}
use Rattle.gl_code.specs.declared.code.ItemCode.{ItemCode}
use Rattle.gl_code.specs.declared.code.ItemSpot.{ItemSpot}
use Rattle.gl_code.specs.declared.code.Listing.{Listing}
use Rattle.gl_code.specs.declared.entries.Entry.{Entry}
use Rattle.gl_code.proofs.EntryLists.{next_left}
use Rattle.gl_update.specs.Counted.{one_if}
use Rattle.gl_update.specs.ListItems.{Item, one_item, handle, handles, there}
use Rattle.gl_update.specs.OldItems.{OneItem}
use Rattle.gl_update.specs.Questions.{Count, Asks, AsksBody, AsksKept, AsksOne, AsksStaying, old_item, old_items, closed}
use Rattle.gl_update.proofs.AskedItems.{after_in}
use Rattle.gl_update.proofs.Asking.{asks_same, does_asks, AsksOn, ason_begin, ason_next, ason_end}
use Rattle.gl_update.proofs.ItemJoins.{item_renewed}
use Rattle.gl_update.proofs.SyncItems.{TakesOld, given_item}

-- Old items that are taken, with what is asked in them

-- an item by its handle
abbrev item_of : CodeHandle → Item
item_of h = (h.spot, (h.comment, h.codes))

module _ (run : Runs) (m : ℕ) where
  items_of_handles : (xs : List Item) → map item_of (handles run m xs) ≡ xs
  items_of_handles [] = refl
  items_of_handles (x ∷ xs) = ap (λ ys. x ∷ ys) (items_of_handles xs)

  abbrev as_olds : Option (CodeHandle × List CodeHandle) → Option (OldItem × List OldItem)
  as_olds None = None
  as_olds (Some p) = Some (old_item run m (item_of p.0), old_items run m (map item_of p.1))

  -- the same is taken of old items as of their handles
  taken_alike : (e : PlainEntry) (xs : List Item) → taken_item e (old_items run m xs) ≡ as_olds (taken_code e (handles run m xs))
  taken_alike e [] = refl
  taken_alike e (x ∷ xs) = by (is_code_of e (handle run m x)) (taken_item e (old_items run m xs)) (taken_code e (handles run m xs)) (taken_alike e xs) where
    by : (b : Bool) (o : Option (OldItem × List OldItem)) (k : Option (CodeHandle × List CodeHandle)) → o ≡ as_olds k
        → (if b then Some (old_item run m x, old_items run m xs) else with_first (old_item run m x) o) ≡ as_olds (if b then Some (handle run m x, handles run m xs) else with_code_front (handle run m x) k)
    by true o k same = ap (λ ys. Some (old_item run m x, old_items run m ys)) (sym (items_of_handles xs))
    by false o None same = ap (with_first (old_item run m x)) same
    by false o (Some p) same = ap (with_first (old_item run m x)) same

-- of those that are there
abbrev pub olds_there : Tables → Runs → ℕ → List (Option ItemCode) → List OldItem
olds_there n run m os = old_items run m (map (seen_item_code n) (there os))

pub taken_with : (e : PlainEntry) (os ps : List (Option ItemCode)) (x : ItemCode) → TakesOld e os ps (Some x) → (n : Tables) (run : Runs) (m : ℕ)
    → taken_item e (olds_there n run m os) ≡ Some (old_item run m (seen_item_code n x), olds_there n run m ps)
taken_with e os ps x t n run m =
    taken_alike run m e (map (seen_item_code n) (there os))
    ∙ (ap (as_olds run m) (t n run m) ∙ ap (λ ys. Some (old_item run m (seen_item_code n x), old_items run m ys)) (items_of_handles run m (map (seen_item_code n) (there ps))))

pub taken_without : (e : PlainEntry) (os ps : List (Option ItemCode)) → TakesOld e os ps None → (n : Tables) (run : Runs) (m : ℕ) → taken_item e (olds_there n run m os) ≡ None
taken_without e os ps t n run m = taken_alike run m e (map (seen_item_code n) (there os)) ∙ ap (as_olds run m) (t n run m).0

-- none more
none_more : (k : ℕ) → k ≡ 0 + k
none_more k = omega arith

-- How many stay

pub stays_more : (e : PlainEntry) (fs rest : List PlainEntry) (os ps : List (Option ItemCode)) (o : Option ItemCode) → fs ≡ e ∷ rest → TakesOld e os ps o → (n : Tables) (run : Runs) (m : ℕ)
    → stay_count fs (olds_there n run m os) ≡ one_if (is_some o) + stay_count rest (olds_there n run m ps)
stays_more e fs rest os ps None is t n run m =
    ap (λ gs. stay_count gs (olds_there n run m os)) is
    ∙ (ap (λ k. where_taken k (λ h more. 1 + stay_count rest more) (stay_count rest (olds_there n run m os))) (taken_without e os ps t n run m)
    ∙ (ap (λ qs. stay_count rest (olds_there n run m qs)) (sym (t n run m).1) ∙ none_more (stay_count rest (olds_there n run m ps))))
stays_more e fs rest os ps (Some x) is t n run m =
    ap (λ gs. stay_count gs (olds_there n run m os)) is ∙ ap (λ k. where_taken k (λ h more. 1 + stay_count rest more) (stay_count rest (olds_there n run m os))) (taken_with e os ps x t n run m)

-- Whatever stays from there on, this many stay of all.
abbrev pub StaysOn : ℕ → ℕ → List PlainEntry → List (Option ItemCode) → ℕ → List PlainEntry → List (Option ItemCode) → Type 0
StaysOn m before es olds done fs os = (n : Tables) (run : Runs) → before + stay_count es (olds_there n run m olds) ≡ done + stay_count fs (olds_there n run m os)

pub stays_one : (m before done more : ℕ) (es fs rest : List PlainEntry) (olds os ps : List (Option ItemCode)) (e : PlainEntry) (o : Option ItemCode) → fs ≡ e ∷ rest → TakesOld e os ps o → more ≡ done + one_if (is_some o)
    → StaysOn m before es olds done fs os → StaysOn m before es olds more rest ps
stays_one m before done more es fs rest olds os ps e o is t counts w = λ n run.
    let one = stays_more e fs rest os ps o is t n run m in
    let all = w n run in omega (arith, one, all, counts)

-- What is asked in one

one_after : (o : Outcome ItemDone) (k : State → ℕ) → after (one_item o) (λ r. k r.1) ≡ after o (λ g. k g.arm.state)
one_after (ok g) k = refl
one_after deep k = refl
one_after lost k = refl

module _ (a : App) (cells : CellList) (left : ℕ) (z : Listing) (base : Path) where
  -- of these entries, and of old items that are there
  abbrev pub AsksOf : List PlainEntry → List (Option ItemCode) → Count
  AsksOf fs os = AsksStaying (λ n. seen_listing n z) left base fs (λ n. map (seen_item_code n) (there os))

  abbrev pub Entered : PlainEntry → Path → Option ItemCode → Tables → Runs → State → Outcome (Item × State)
  Entered e q o = OneItem (λ n. seen_listing n z) left q e o

  first_asks : (rest : List PlainEntry) (e : PlainEntry) (os ps : List (Option ItemCode)) (o : Option ItemCode) → TakesOld e os ps o → (n : Tables) (run : Runs) (st : State)
      → let q : Path = item e.key e.occurrence ∷ base in AsksOne left q e o n run st + after (Entered e q o n run st) (λ r. AsksOf rest ps n run r.1) ≡ AsksOf (e ∷ rest) os n run st
  first_asks rest e os ps None t n run st =
      let q : Path = item e.key e.occurrence ∷ base in
      let fresh : Path → PlainEntry → State → Outcome ItemDone = fresh_item_as by_number run (seen_listing n z) left in
      let stays : List OldItem → State → ℕ = λ hs. stay_asks_as by_number fresh base rest hs in
      let both : OldItem → List OldItem → ℕ = λ h more. let st2 = given_as by_number q e h.handle st in gone_along st2 (h.handle.go q st2) (h.asks q st2) + after (h.handle.go q st2) (λ r. stays more r.1) in
      sym (none_more (after (Entered e q None n run st) (λ r. AsksOf rest ps n run r.1)))
      ∙ (one_after (fresh q e st) (λ s. stays (olds_there n run left ps) s)
      ∙ (ap (λ qs. after (fresh q e st) (λ d. stays (olds_there n run left qs) d.arm.state)) (t n run left).1
      ∙ sym (ap (λ k. where_taken k both (after (fresh q e st) (λ d. stays (olds_there n run left os) d.arm.state))) (taken_without e os ps t n run left))))
  first_asks rest e os ps (Some x) t n run st =
      let q : Path = item e.key e.occurrence ∷ base in
      let fresh : Path → PlainEntry → State → Outcome ItemDone = fresh_item_as by_number run (seen_listing n z) left in
      let stays : List OldItem → State → ℕ = λ hs. stay_asks_as by_number fresh base rest hs in
      let both : OldItem → List OldItem → ℕ = λ h more. let st2 = given_as by_number q e h.handle st in gone_along st2 (h.handle.go q st2) (h.asks q st2) + after (h.handle.go q st2) (λ r. stays more r.1) in
      let y = seen_item_code n x in
      let st2 = given_as by_number q e (handle run left y) st in
      ap (λ k. AsksOne left q e (Some x) n run st + k)
      (ap (λ (w : Outcome (Item × State)). after w (λ r. AsksOf rest ps n run r.1)) (item_renewed run left q e y st)
      ∙ after_in (along_body_as by_number run left q y.1.1 st2) (λ cs. (y.0, (y.1.0, cs))) (λ s. AsksOf rest ps n run s))
      ∙ sym (ap (λ k. where_taken k both (after (fresh q e st) (λ d. stays (olds_there n run left os) d.arm.state))) (taken_with e os ps x t n run left))

  asks_is : (fs rest : List PlainEntry) (e : PlainEntry) (q : Path) (os ps : List (Option ItemCode)) (o : Option ItemCode) (vm : Vm) → fs ≡ e ∷ rest → q ≡ item e.key e.occurrence ∷ base → TakesOld e os ps o
      → (n : Tables) (run : Runs) (u : Source → Bool)
      → AsksOne left q e o n run (state_of n vm u) + after (Entered e q o n run (state_of n vm u)) (λ r. AsksOf rest ps n run r.1) ≡ AsksOf fs os n run (state_of n vm u)
  asks_is fs rest e q os ps o vm is at t n run u =
      let st : State = state_of n vm u in
      ap (λ w. AsksOne left w e o n run st + after (Entered e w o n run st) (λ r. AsksOf rest ps n run r.1)) at
      ∙ (first_asks rest e os ps o t n run st ∙ ap (λ gs. AsksOf gs os n run st) (sym is))

  pub sync_asked : (fs : List PlainEntry) (os : List (Option ItemCode)) (vm : Vm) (b : ℕ) → AsksOn a cells (AsksOf fs os) vm b (AsksOf fs os) vm b
  sync_asked fs os vm b = ason_begin a cells (AsksOf fs os) (AsksOf fs os) vm b (λ n run u. refl)

  pub sync_asks_of : (all : Count) (fs rest : List PlainEntry) (e : PlainEntry) (x : ItemCode) (q : Path) (os ps : List (Option ItemCode)) (o : Option ItemCode) (vm0 vm mid : Vm) (b0 b m : ℕ) → fs ≡ e ∷ rest
      → q ≡ item e.key e.occurrence ∷ base → TakesOld e os ps o → AsksOn a cells all vm0 b0 (AsksOf fs os) vm b → Asks a cells (AsksOne left q e o) vm b m → Renews a cells (Entered e q o) vm (λ n. seen_item_code n x) mid
      → AsksOn a cells all vm0 b0 (AsksOf rest ps) mid m
  sync_asks_of all fs rest e x q os ps o vm0 vm mid b0 b m is at t w p r =
      ason_next a cells all (AsksOf fs os) (AsksOne left q e o) (Entered e q o) (λ n v. AsksOf rest ps n) (λ n. seen_item_code n x) vm0 vm mid b0 b m (asks_is fs rest e q os ps o vm is at t) w p r

  pub sync_asks : (all : Count) (es rest : List Entry) (e : Entry) (x : ItemCode) (q : Path) (os ps : List (Option ItemCode)) (o : Option ItemCode) (vm0 vm mid : Vm) (b0 b m : ℕ) → es ≡ rest ++ e ∷ []
      → q ≡ item (plain (view e.key)) e.occurrence ∷ base → TakesOld (seen_entry e) os ps o → AsksOn a cells all vm0 b0 (AsksOf (seen_left es) os) vm b → Asks a cells (AsksOne left q (seen_entry e) o) vm b m
      → Renews a cells (Entered (seen_entry e) q o) vm (λ n. seen_item_code n x) mid
      → AsksOn a cells all vm0 b0 (AsksOf (seen_left rest) ps) mid m
  sync_asks all es rest e x q os ps o vm0 vm mid b0 b m is at t w p r = sync_asks_of all (seen_left es) (seen_left rest) (seen_entry e) x q os ps o vm0 vm mid b0 b m (next_left es rest e is) at t w p r

  pub sync_all_asked : (all : Count) (fs : List PlainEntry) (os : List (Option ItemCode)) (vm0 vm : Vm) (b0 b : ℕ) → fs ≡ [] → AsksOn a cells all vm0 b0 (AsksOf fs os) vm b → Asks a cells all vm0 b0 b
  sync_all_asked all fs os vm0 vm b0 b none w = ason_end a cells all (AsksOf fs os) vm0 vm b0 b (λ n run u. ap (λ gs. AsksOf gs os n run (state_of n vm u)) none) w

-- An old item is given the value and the index of an entry.
module _ (a : App) (cells : CellList) (left : ℕ) (q : Path) (e : Entry) (sp : ItemSpot) (k : Option Id) (b : Codes) (x : Tables → Item) (vm vm2 : Vm)
    (old : (n : Tables) → x n ≡ (seen_item_spot sp, (stamp_of k, seen_codes n b)))
    (d : Does (given_item sp e) vm vm2) where
  pub kept_asks : (m c : ℕ) → Asks a cells (AsksBody left q (λ n. seen_codes n b)) vm2 m c → Asks a cells (AsksKept left q (seen_entry e) x) vm m c
  kept_asks m c r =
      asks_same a cells (λ n run st. AsksBody left q (λ t. seen_codes t b) n run (given_item sp e n st)) (AsksKept left q (seen_entry e) x) vm m c
      (λ n run u. ap (λ (y : Item). AsksBody left q (λ t. y.1.1) n run (given_as by_number q (seen_entry e) (handle run left y) (state_of n vm u))) (sym (old n)))
      (does_asks a cells (given_item sp e) (AsksBody left q (λ n. seen_codes n b)) vm vm2 m c d r)

-- All of them together

-- what was counted once they are settled
together_is : (b m0 m c k s : ℕ) → m0 ≡ b + 1 → m ≡ m0 + s → c ≡ closed m0 m (nat_eq m (m0 + k)) → c ≡ b + together k s
together_is b m0 m c k s first inside e = by (nat_eq m (m0 + k)) (nat_eq s k) refl refl where
  by : (d f : Bool) → nat_eq m (m0 + k) ≡ d → nat_eq s k ≡ f → c ≡ b + together k s
  by true true is at =
      let now : c ≡ m0 = e ∙ ap (λ y. closed m0 m y) is in
      let none : together k s ≡ 1 = ap (λ y. 1 + (if y then 0 else s)) at in omega (arith, now, none, first)
  by false false is at =
      let now : c ≡ m = e ∙ ap (λ y. closed m0 m y) is in
      let some : together k s ≡ 1 + s = ap (λ y. 1 + (if y then 0 else s)) at in omega (arith, now, some, first, inside)
  by true false is at =
      let one : m ≡ m0 + k = (Decides-eqb m (m0 + k)).0 is in
      let same : s ≡ k = omega (arith, one, inside) in
      let no : true ≡ false = sym ((Decides-eqb s k).1 same) ∙ at in absurd (cc)
  by false true is at =
      let one : s ≡ k = (Decides-eqb s k).0 at in
      let same : m ≡ m0 + k = omega (arith, one, inside) in
      let no : true ≡ false = sym ((Decides-eqb m (m0 + k)).1 same) ∙ is in absurd (cc)

-- they were settled at a count that is this
pub settled_at : (m0 m1 m c k : ℕ) → m1 ≡ m0 → c ≡ closed m1 m (nat_eq m (m1 + k)) → c ≡ closed m0 m (nat_eq m (m0 + k))
settled_at m0 m1 m c k e is = is ∙ ap (λ j. closed j m (nat_eq m (j + k))) e

-- Items that are settled count one, and what was asked of them where that is more than one each.
pub asks_together : (a : App) (cells : CellList) (f : Count) (keeps : Tables → Runs → ℕ) (old : Vm) (b m0 m c k : ℕ) → m0 ≡ b + 1 → ((n : Tables) (run : Runs) → keeps n run ≡ k) → Asks a cells f old m0 m
    → c ≡ closed m0 m (nat_eq m (m0 + k)) → Asks a cells (λ n run st. together (keeps n run) (f n run st)) old b c
asks_together a cells f keeps old b m0 m c k first same r e ts rise u agrees =
    let env = env_of a ts in
    let n = tables_of (manifest_view a.manifest) in
    let run : ℕ → Runs = λ j. run_for_as by_number env (store_of env.app cells) j in
    let y = r ts rise u agrees in
    record {
      steps = y.steps;
      is = λ j less. together_is b m0 m c k (f n (run j) (state_of n old u)) first (y.is j less) e ∙ ap (λ i. b + together i (f n (run j) (state_of n old u))) (sym (same n (run j)));
    }
