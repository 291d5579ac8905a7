-- Questions of the items of a list that are walked along.
use Rattle.std.proofs.Common.{◌≡◌, ◌≤◌, ◌<◌, ℕ, ◌+◌, nat_eq, Bool, false, List, ◌∷◌, drop, set, length, get_or, Option, refl, sym, ◌∙◌, ap, subst, arith}
use Rattle.std.specs.Prelude.{if◌then◌else◌}
use Rattle.std.proofs.lemmas.List.{drop_all, drop-set-lt, length-map}
use Rattle.gl_arena.specs.Id.{Id}
use Rattle.gl_base.proofs.Lists.{drop_item}
use Rattle.gl_value.specs.Value.{plain}
use Rattle.gl_value.specs.View.{view}
use Rattle.gl_meaning.specs.Path.{item, items, Path}
use Rattle.gl_meaning.specs.Scope.{Source}
use Rattle.gl_meaning.specs.View.{manifest_view}
use Rattle.gl_opc.specs.declared.app.App.{App}
use Rattle.gl_plain.specs.Binding.{Spot as PlainSpot}
use Rattle.gl_plain.specs.Naming.{by_number}
use Rattle.gl_plain.specs.State.{State}
use Rattle.gl_machine.specs.Code.{Listing as PlainListing, Code as PlainCode, ItemCodes, listed_code}
use Rattle.gl_machine.specs.Outcome.{Outcome, ok, deep, lost, on_ok}
use Rattle.gl_machine.specs.RenewCode.{Runs}
use Rattle.gl_guards.specs.Along.{along_body_as, along_list_as}
use Rattle.gl_guards.specs.AlongAsks.{gone_along, along_asks_body}
use Rattle.gl_guards.specs.Questions.{after}
use Rattle.gl_vm.specs.Steps.{Does, Follows}
use Rattle.gl_vm.specs.View.{Tables, Agrees, state_of}
use Rattle.gl_vm.specs.declared.vm.Vm.{Vm}
use Rattle.gl_code.specs.Cells.{CellList}
use Rattle.gl_code.specs.CodeView.{seen_codes, seen_item_spot, stamp_of, seen_item_code, all_items}
use Rattle.gl_code.specs.Renewing.{Renewal, Renews}
use Rattle.gl_code.specs.Tables.{tables_of}
use Rattle.gl_code.specs.declared.code.Codes.{Codes}
use Rattle.gl_code.specs.declared.code.ItemCode.{ItemCode}
use Rattle.gl_code.specs.declared.code.ItemSpot.{ItemSpot}
use Rattle.gl_update.specs.ListItems.{Item, GoesAlong}
use Rattle.gl_update.specs.Questions.{Count, Asks, AsksBody, AsksItems, AsksList, closed}
use Rattle.gl_update.proofs.AlongItems.{One, seen_all, ListAsked, list_passed}
use Rattle.gl_update.proofs.AskedCodes.{asks_entered}
use Rattle.gl_update.proofs.Asking.{asks_same, asks_passed, AsksOn, ason_begin, ason_next, ason_end}

-- An answer that stands in another

pub after_in : {A B : Type 0} (o : Outcome (A × State)) (h : A → B) (k : State → ℕ) → after {A = B × State} (on_ok o (λ r. ok (h r.0, r.1))) (λ r. k r.1) ≡ after o (λ r. k r.1)
after_in (ok r) h k = refl
after_in deep h k = refl
after_in lost h k = refl

pub gone_in : {A B : Type 0} (st : State) (o : Outcome (A × State)) (h : A → B) (i : ℕ) → gone_along {A = B} st (on_ok o (λ r. ok (h r.0, r.1))) i ≡ gone_along st o i
gone_in st o h i = ap (λ k. 1 + k) (after_in o h (λ s. if nat_eq (length s.evaluated) (length st.evaluated) then 0 else i))

-- nothing is done
pub does_nothing : (vm : Vm) → Does (λ n st. st) vm vm
does_nothing vm = λ n u agrees. record { state = refl; agrees = agrees }

-- where the state stays, as much was evaluated
same_long : (old new : Vm) (n : Tables) (u : Source → Bool) → Agrees u old → Does (λ n st. st) old new → length new.refs.evaluated ≡ length old.refs.evaluated
same_long old new n u agrees d =
    let v : Follows n (state_of n old u) new = d n u agrees in
    sym (length-map new.refs.evaluated (λ i. i.1)) ∙ (ap (λ (s : State). length s.evaluated) v.state ∙ length-map old.refs.evaluated (λ i. i.1))

module _ (a : App) (cells : CellList) where
  -- what is known of all sources that may have been touched may be used
  asks_knowing : (f : Count) (old : Vm) (b c : ℕ) → ((n : Tables) (u : Source → Bool) → Agrees u old → Asks a cells f old b c) → Asks a cells f old b c
  asks_knowing f old b c r ts rise u agrees = r (tables_of (manifest_view a.manifest)) u agrees ts rise u agrees

  -- A region is entered, and the mark is set once it is known that it is.
  asks_marked : {A : Type 0} (flow : Renewal A) (g : Count) (x : Tables → A) (old mid new : Vm) (b m0 m c k l : ℕ) → m0 ≡ b + 1 → k ≡ m0 → l ≡ length mid.refs.evaluated → c ≡ closed k m (nat_eq (length new.refs.evaluated) l)
      → Does (λ n st. st) old mid → Renews a cells flow old x new → Asks a cells g mid m0 m → Asks a cells (λ n run st. gone_along st (flow n run st) (g n run st)) old b c
  asks_marked flow g x old mid new b m0 m c k l first e d over still r h =
      asks_knowing (λ n run st. gone_along st (flow n run st) (g n run st)) old b c
      (λ n u agrees. asks_entered a cells flow g x old mid new b m0 m c k l first e (d ∙ same_long old mid n u agrees still) over still r h)

-- An item

module _ (a : App) (cells : CellList) (left : ℕ) (p q : Path) (sp : ItemSpot) (k : Option Id) (b : Codes) (x : Tables → Item) (vm : Vm)
    (old : (n : Tables) → x n ≡ (seen_item_spot sp, (stamp_of k, seen_codes n b)))
    (here : q ≡ item (plain (view sp.key)) sp.occurrence ∷ p) where
  pub item_asks : (m c : ℕ) → Asks a cells (AsksBody left q (λ n. seen_codes n b)) vm m c → Asks a cells (λ n. AsksBody left (item (x n).0.key (x n).0.occurrence ∷ p) (λ t. (x t).1.1) n) vm m c
  item_asks m c r =
      asks_same a cells (AsksBody left q (λ n. seen_codes n b)) (λ n. AsksBody left (item (x n).0.key (x n).0.occurrence ∷ p) (λ t. (x t).1.1) n) vm m c
      (λ n run u. ap (λ w. along_asks_body by_number run left w (seen_codes n b) (state_of n vm u)) here
      ∙ ap (λ (y : Item). along_asks_body by_number run left (item y.0.key y.0.occurrence ∷ p) y.1.1 (state_of n vm u)) (sym (old n))) r

-- All of them

module _ (a : App) (cells : CellList) (left : ℕ) (p : Path) where
  -- of an item
  abbrev pub AsksItem : ItemCode → Count
  AsksItem x = λ n. AsksBody left (item (seen_item_code n x).0.key (seen_item_code n x).0.occurrence ∷ p) (λ t. (seen_item_code t x).1.1) n

  -- of those that are left
  abbrev pub AsksRest : List ItemCode → Count
  AsksRest xs = AsksItems left p (seen_all xs)

  -- Whatever those from a place on ask, all ask.
  abbrev pub AsksWalkItems : List ItemCode → Vm → ℕ → List ItemCode → ℕ → Vm → ℕ → Type 0
  AsksWalkItems all vm0 b0 held i vm b = AsksOn a cells (AsksRest all) vm0 b0 (AsksRest (drop i held)) vm b

  pub items_asked : (all held : List ItemCode) (vm : Vm) (b : ℕ) → held ≡ all → AsksWalkItems all vm b held 0 vm b
  items_asked all held vm b e = ason_begin a cells (AsksRest all) (AsksRest held) vm b (λ n run u. ap (λ xs. AsksRest xs n run (state_of n vm u)) e)

  first_is : (x : ItemCode) (more : List ItemCode) (vm : Vm) (n : Tables) (run : Runs) (u : Source → Bool)
      → AsksItem x n run (state_of n vm u) + after (One a cells left p x n run (state_of n vm u)) (λ r. AsksRest more n run r.1) ≡ AsksRest (x ∷ more) n run (state_of n vm u)
  first_is x more vm n run u =
      let st : State = state_of n vm u in
      let y = seen_item_code n x in
      ap (λ k. AsksItem x n run st + k) (after_in (along_body_as by_number run left (item y.0.key y.0.occurrence ∷ p) y.1.1 st) (λ cs. (y.0, (y.1.0, cs))) (λ s. AsksRest more n run s))

  pub items_ask : (all held : List ItemCode) (i : ℕ) (x y : ItemCode) (vm0 vm mid : Vm) (b0 b m : ℕ) → i < length held → x ≡ get_or held i x → AsksWalkItems all vm0 b0 held i vm b
      → Asks a cells (AsksItem x) vm b m → Renews a cells (One a cells left p x) vm (λ n. seen_item_code n y) mid → AsksWalkItems all vm0 b0 (set held i y) (i + 1) mid m
  items_ask all held i x y vm0 vm mid b0 b m lt is w q r =
      let more = drop (i + 1) held in
      subst (λ xs. AsksOn a cells (AsksRest all) vm0 b0 (AsksRest xs) mid m) (sym (drop-set-lt (i + 1) held i y (omega arith)))
      (ason_next a cells (AsksRest all) (AsksRest (x ∷ more)) (AsksItem x) (One a cells left p x) (λ n v. AsksRest more n) (λ n. seen_item_code n y) vm0 vm mid b0 b m (first_is x more vm)
      (subst (λ xs. AsksOn a cells (AsksRest all) vm0 b0 (AsksRest xs) vm b) (drop_item held i x lt is) w) q r)

  pub items_all_asked : (all held : List ItemCode) (i : ℕ) (vm0 vm : Vm) (b0 b : ℕ) → length held ≤ i → AsksWalkItems all vm0 b0 held i vm b → Asks a cells (AsksRest all) vm0 b0 b
  items_all_asked all held i vm0 vm b0 b le w = ason_end a cells (AsksRest all) (AsksRest (drop i held)) vm0 vm b0 b (λ n run u. ap (λ xs. AsksRest xs n run (state_of n vm u)) (drop_all i held le)) w

-- The list as a region

module _ (a : App) (cells : CellList) (z : Tables → PlainListing) (s : PlainSpot) (left : ℕ) (p : Path) (xs : Tables → List Item) where
  -- of its items with what they stand in
  abbrev AsksAlong : Count
  AsksAlong = λ n run st. gone_along st (GoesAlong z s left p xs n run st) (AsksItems left (items ∷ p) xs n run st)

  list_is : (vm : Vm) (n : Tables) (run : Runs) (u : Source → Bool) → AsksAlong n run (state_of n vm u) ≡ AsksList left (items ∷ p) xs n run (state_of n vm u)
  list_is vm n run u =
      let st : State = state_of n vm u in
      gone_in st (along_list_as by_number run left (items ∷ p) (all_items (xs n)) st) (λ (is : ItemCodes). listed_code (z n) s is) (AsksItems left (items ∷ p) xs n run st)

  pub list_asks : (old mid new : Vm) (y : Tables → PlainCode) (b m0 m c k l : ℕ) → m0 ≡ b + 1 → k ≡ m0 → l ≡ length mid.refs.evaluated → c ≡ closed k m (nat_eq (length new.refs.evaluated) l)
      → Does (λ n st. st) old mid → Renews a cells (GoesAlong z s left p xs) old y new → Asks a cells (AsksItems left (items ∷ p) xs) mid m0 m → Asks a cells (AsksList left (items ∷ p) xs) old b c
  list_asks old mid new y b m0 m c k l first e d over still r h =
      asks_same a cells AsksAlong (AsksList left (items ∷ p) xs) old b c (list_is old) (asks_marked a cells (GoesAlong z s left p xs) (AsksItems left (items ∷ p) xs) y old mid new b m0 m c k l first e d over still r h)

  pub list_asks_one : (old : Vm) (b c : ℕ) → c ≡ b + 1 → ListAsked a cells z s left p xs false old → Asks a cells (AsksList left (items ∷ p) xs) old b c
  list_asks_one old b c one h =
      let y : Tables → PlainCode = λ n. listed_code (z n) s (all_items (xs n)) in
      asks_same a cells AsksAlong (AsksList left (items ∷ p) xs) old b c (list_is old)
      (asks_passed a cells (GoesAlong z s left p xs) (AsksItems left (items ∷ p) xs) y old old b c one (list_passed a cells z s left p xs old old y (λ n. refl) h (does_nothing old)) refl)
