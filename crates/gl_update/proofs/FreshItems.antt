-- Items that are appended.
use Rattle.std.proofs.Common.{◌≡◌, ℕ, Bool, List, [], ◌∷◌, ◌++◌, map, Option, sym, ◌∙◌, ap, ap₂, ◌-◌, take, append-nil}
use Rattle.std.proofs.lemmas.List.{map-append}
use Rattle.gl_arena.specs.Id.{Id}
use Rattle.gl_value.specs.Value.{plain, count_value}
use Rattle.gl_value.specs.View.{view}
use Rattle.gl_value.specs.declared.value.Value.{Value}
use Rattle.gl_meaning.specs.Path.{item, Path, V}
use Rattle.gl_meaning.specs.Scope.{Source}
use Rattle.gl_meaning.specs.View.{path_view}
use Rattle.gl_meaning.specs.declared.path.Path.{Path as CodePath}
use Rattle.gl_opc.specs.declared.app.App.{App}
use Rattle.gl_plain.specs.Ids.{a_ref}
use Rattle.gl_plain.specs.State.{State}
use Rattle.gl_plain.specs.Live.{ItemSpot as PlainSpot}
use Rattle.gl_plain.specs.Naming.{by_number, made_source}
use Rattle.gl_machine.specs.Code.{Listing as PlainListing, Codes as PlainCodes, ItemCodes}
use Rattle.gl_machine.specs.Outcome.{Outcome, ok, on_ok}
use Rattle.gl_machine.specs.RenewCode.{Start, start, Runs, item_done, item_locals, refs_in, commented, fresh_item_as, fresh_codes}
use Rattle.gl_machine.specs.Sight as w
use Rattle.gl_vm.specs.Labels.{label, labelled}
use Rattle.gl_vm.specs.View.{Tables, stamps, state_of, Agrees}
use Rattle.gl_vm.specs.Steps.{Does, Numbers}
use Rattle.gl_vm.specs.declared.vm.Vm.{Vm}
use Rattle.gl_code.specs.Cells.{CellList}
use Rattle.gl_code.specs.Comments.{Commented}
use Rattle.gl_code.specs.View.{seen_sight}
use Rattle.gl_code.specs.CodeView.{seen_listing, stamp_of, seen_item_code, all_items}
use Rattle.gl_code.specs.Entries.{seen_entry, seen_left}
use Rattle.gl_code.specs.declared.code.ItemCode.{ItemCode}
use Rattle.gl_code.specs.declared.code.Listing.{Listing}
use Rattle.gl_code.specs.declared.fault.VmFault.{VmFault}
use Rattle.gl_code.specs.declared.entries.Entry.{Entry}
use Rattle.gl_code.specs.declared.sight.Sight.{Sight}
use Rattle.gl_code.proofs.EntryLists.{next_left}
use Rattle.gl_code.proofs.Doing.{does_then}
use Rattle.gl_code.specs.Renewing.{Renewal, Renews, RenewFails}
use Rattle.gl_update.specs.ListItems.{Item, item_kept, one_item, onto, BodyItem, FreshItem, FreshItems}
use Rattle.gl_update.proofs.Branching.{renews_commented}
use Rattle.gl_update.proofs.ItemJoins.{item_then, onto_none, before_none, body_is}
use Rattle.gl_update.proofs.Onward.{Onward, onward_begin, onward_next, onward_fails, onward_as, renews_agreed, fails_agreed}
use Rattle.gl_update.proofs.Renewing.{renews_same, renews_as, renews_then, renews_still, does_renews, fails_first, does_fails}

-- Where none could be taken, none waits.
pub none_waits : {A : Type 0} (es rest : List A) (k : ℕ) → es ≡ rest ++ [] → rest ≡ take (k - 1) es → k ≡ 0 → es ≡ []
none_waits es rest k is left none = is ∙ (append-nil rest ∙ (left ∙ ap (λ n. take (n - 1) es) none))

module _ (a : App) (cells : CellList) where
  -- A body

  -- the comment is made behind what was appended
  abbrev after_body : PlainSpot → Tables → PlainCodes → Runs → State → Outcome (Item × State)
  after_body s n v run st = ok (item_kept (item_done s (commented (v, st))))

  pub body_renews : (s : PlainSpot) (from : Tables → Start) (ds : Tables → PlainCodes) (c : Option Id) (x : Tables → Item) (old v new : Vm) → Renews a cells (λ n run. run (from n)) old ds v
      → ((n : Tables) (u : Source → Bool) → Agrees u v → Commented n (ds n, state_of n v u) new c) → ((n : Tables) → x n ≡ (s, (stamp_of c, ds n)))
      → Renews a cells (BodyItem from s) old x new
  body_renews s from ds c x old v new r g e =
      renews_as a cells (BodyItem from s) (λ n. (s, (stamp_of c, ds n))) x old new (λ n. sym (e n))
      (renews_then a cells (λ n run. run (from n)) (after_body s) ds (λ n. (s, (stamp_of c, ds n))) old v new r
      (renews_commented a cells (λ n o y. (s, (o, y))) ds v new c g))

  pub body_fails : (s : PlainSpot) (from : Tables → Start) (old : Vm) (e : VmFault) → RenewFails {A = PlainCodes} a cells (λ n run. run (from n)) old e → RenewFails {A = Item} a cells (BodyItem from s) old e
  body_fails s from old e r = fails_first a cells (λ n run. run (from n)) (after_body s) old e r

  -- An item

  module _ (left : ℕ) (z : Listing) (e : Entry) (vm vm1 vm2 : Vm) (v x : Id) (count : Value) (params : List Id) (sight : Sight) (path : CodePath)
      (d1 : Does (λ n. made_source by_number (label vm.refs.rows.made) (labelled (view e.value))) vm vm1) (i1 : Numbers vm.refs.rows vm1.refs.rows v)
      (d2 : Does (λ n. made_source by_number (label vm1.refs.rows.made) (labelled (view count))) vm1 vm2) (i2 : Numbers vm1.refs.rows vm2.refs.rows x) (counts : view count ≡ count_value e.index)
      (q : (n : Tables) → seen_sight n sight ≡ w.with_locals (item_locals (seen_listing n z) v.1 x.1) (seen_sight n z.sight.value))
      (r : (n : Tables) → stamps params ≡ refs_in (item_locals (seen_listing n z) v.1 x.1)) where
    abbrev pub spot : PlainSpot
    spot = record { key = plain (view e.key); occurrence = e.occurrence; value = v.1; index = x.1; more = []; params = stamps params }

    abbrev pub Begun : Tables → Start
    Begun n = start (seen_sight n sight) z.body (path_view path) left

    abbrev pub Whole : Renewal Item
    Whole = FreshItem (λ n. seen_listing n z) left (path_view path) (seen_entry e)

    abbrev first : Tables → State → State
    first n = made_source by_number (label vm.refs.rows.made) (labelled (view e.value))

    abbrev second : Tables → State → State
    second n = made_source by_number (label vm1.refs.rows.made) (labelled (view count))

    -- the item with its references made
    made_is : (n : Tables) (run : Runs) (u : Source → Bool) → Agrees u vm → BodyItem Begun spot n run (second n (first n (state_of n vm u))) ≡ Whole n run (state_of n vm u)
    made_is n run u agrees =
        let st : State = state_of n vm u in
        let st1 : State = first n st in
        let zl : PlainListing = seen_listing n z in
        let cv : V = count_value e.index in
        let next : st1.next a_ref ≡ vm1.refs.rows.made = ap (λ (y : State). y.next a_ref) (sym (d1 n u agrees).state) in
        let number : labelled (view count) ≡ cv = ap labelled counts in
        let at : ℕ → ℕ → List ℕ → PlainSpot = λ b j ps. record { key = plain (view e.key); occurrence = e.occurrence; value = b; index = j; more = []; params = ps } in
        let from : ℕ → ℕ → ℕ → V → Outcome (Item × State) = λ b j o y.
        one_item (on_ok (run (start (w.with_locals (item_locals zl b j) zl.sight) zl.body (path_view path) left) (made_source by_number (label o) y st1)) (λ k. ok (item_done (at b j (refs_in (item_locals zl b j))) (commented k)))) in
        ap₂ (λ s ps. on_ok (run (start s zl.body (path_view path) left) (second n st1)) (λ k. ok (item_kept (item_done (at v.1 x.1 ps) (commented k))))) (q n) (r n)
        ∙ (sym (body_is (at v.1 x.1 (refs_in (item_locals zl v.1 x.1))) (run (start (w.with_locals (item_locals zl v.1 x.1) zl.sight) zl.body (path_view path) left) (second n st1)))
        ∙ (ap (λ y. from v.1 x.1 vm1.refs.rows.made y) number
        ∙ (ap (λ j. from v.1 j vm1.refs.rows.made cv) i2.stamp
        ∙ (ap (λ o. from v.1 o o cv) (sym next)
        ∙ ap (λ b. from b (st1.next a_ref) (st1.next a_ref) cv) i1.stamp))))

    pub fresh_renews : (y : Tables → Item) (new : Vm) → Renews a cells (BodyItem Begun spot) vm2 y new → Renews a cells Whole vm y new
    fresh_renews y new p =
        renews_agreed a cells (λ n run st. BodyItem Begun spot n run (second n (first n st))) Whole y vm new made_is
        (does_renews a cells (λ n st. second n (first n st)) (BodyItem Begun spot) y vm vm2 new (does_then first second vm vm1 vm2 d1 d2) p)

    pub fresh_fails : (h : VmFault) → RenewFails {A = Item} a cells (BodyItem Begun spot) vm2 h → RenewFails {A = Item} a cells Whole vm h
    fresh_fails h p =
        fails_agreed a cells (λ n run st. BodyItem Begun spot n run (second n (first n st))) Whole vm h made_is
        (does_fails a cells (λ n st. second n (first n st)) (BodyItem Begun spot) vm vm2 h (does_then first second vm vm1 vm2 d1 d2) p)

  -- All items

  module _ (left : ℕ) (z : Listing) (base : Path) where
    abbrev pub seen_done : List ItemCode → Tables → List Item
    seen_done ys n = map (seen_item_code n) ys

    -- these are done, and those are left
    abbrev pub Left : List ItemCode → List Entry → Renewal ItemCodes
    Left ys es = λ n run st. onto (seen_done ys n) (FreshItems (λ n. seen_listing n z) left base (seen_left es) n run st)

    abbrev pub All : List Entry → Renewal ItemCodes
    All es = FreshItems (λ n. seen_listing n z) left base (seen_left es)

    abbrev pub One : Path → Entry → Renewal Item
    One q e = FreshItem (λ n. seen_listing n z) left q (seen_entry e)

    pub items_begin : (es : List Entry) (ys : List ItemCode) (vm : Vm) → ys ≡ [] → Onward a cells (All es) vm (Left ys es) vm
    items_begin es ys vm none = onward_begin a cells (All es) (Left ys es) vm (λ n run u. ap (λ zs. Left zs es n run (state_of n vm u)) none ∙ onto_none (All es n run (state_of n vm u)))

    abbrev then_left : List ItemCode → List Entry → Tables → Item → Runs → State → Outcome (ItemCodes × State)
    then_left ys es n y run st = onto (seen_done ys n ++ y ∷ []) (All es n run st)

    left_is : (ys : List ItemCode) (es rest : List Entry) (e : Entry) (q : Path) (vm : Vm) → es ≡ rest ++ e ∷ [] → q ≡ item (plain (view e.key)) e.occurrence ∷ base → (n : Tables) (run : Runs) (u : Source → Bool)
        → on_ok (One q e n run (state_of n vm u)) (λ r. then_left ys rest n r.0 run r.1) ≡ Left ys es n run (state_of n vm u)
    left_is ys es rest e q vm is at n run u =
        let st : State = state_of n vm u in
        let one : Path → Outcome (Item × State) = λ p. One p e n run st in
        let p0 : Path = item (plain (view e.key)) e.occurrence ∷ base in
        ap (λ p. on_ok (one p) (λ r. then_left ys rest n r.0 run r.1)) at
        ∙ (sym (item_then (seen_done ys n) (fresh_item_as by_number run (seen_listing n z) left p0 (seen_entry e) st) (λ st2. fresh_codes (fresh_item_as by_number run (seen_listing n z) left) base (seen_left rest) st2))
        ∙ ap (λ fs. onto (seen_done ys n) (fresh_codes (fresh_item_as by_number run (seen_listing n z) left) base fs st)) (sym (next_left es rest e is)))

    done_is : (ys zs : List ItemCode) (x : ItemCode) → zs ≡ ys ++ x ∷ [] → (n : Tables) → seen_done zs n ≡ seen_done ys n ++ seen_item_code n x ∷ []
    done_is ys zs x is n = ap (λ ws. seen_done ws n) is ∙ map-append (seen_item_code n) ys (x ∷ [])

    pub items_next : (all : Renewal ItemCodes) (ys zs : List ItemCode) (es rest : List Entry) (e : Entry) (x : ItemCode) (q : Path) (vm0 vm mid : Vm) → es ≡ rest ++ e ∷ [] → q ≡ item (plain (view e.key)) e.occurrence ∷ base
        → zs ≡ ys ++ x ∷ [] → Onward a cells all vm0 (Left ys es) vm → Renews a cells (One q e) vm (λ n. seen_item_code n x) mid → Onward a cells all vm0 (Left zs rest) mid
    items_next all ys zs es rest e x q vm0 vm mid is at more w p =
        onward_as a cells all (λ n run st. then_left ys rest n (seen_item_code n x) run st) (Left zs rest) vm0 mid (λ n run u. ap (λ ws. onto ws (All rest n run (state_of n mid u))) (done_is ys zs x more n))
        (onward_next a cells all vm0 (Left ys es) vm (One q e) (then_left ys rest) (left_is ys es rest e q vm is at) w (λ n. seen_item_code n x) mid p)

    pub items_fail : (all : Renewal ItemCodes) (ys : List ItemCode) (es rest : List Entry) (e : Entry) (q : Path) (vm0 vm : Vm) (h : VmFault) → es ≡ rest ++ e ∷ [] → q ≡ item (plain (view e.key)) e.occurrence ∷ base
        → Onward a cells all vm0 (Left ys es) vm → RenewFails {A = Item} a cells (One q e) vm h → RenewFails {A = ItemCodes} a cells all vm0 h
    items_fail all ys es rest e q vm0 vm h is at w p = onward_fails a cells all vm0 (Left ys es) vm (One q e) (then_left ys rest) (left_is ys es rest e q vm is at) w h p

    pub items_end : (all : Renewal ItemCodes) (ys : List ItemCode) (es : List Entry) (vm0 vm : Vm) → es ≡ [] → Onward a cells all vm0 (Left ys es) vm → Renews a cells all vm0 (λ n. all_items (seen_done ys n)) vm
    items_end all ys es vm0 vm none w =
        w.goes (λ n. all_items (seen_done ys n)) vm
        (renews_same a cells (λ n run st. ok (all_items (seen_done ys n), st)) (Left ys es) (λ n. all_items (seen_done ys n)) vm vm
        (λ n run u. ap (λ is. ok (is, state_of n vm u)) (sym (before_none (seen_done ys n))) ∙ ap (λ fs. Left ys fs n run (state_of n vm u)) (sym none))
        (renews_still a cells (λ n. all_items (seen_done ys n)) vm))
