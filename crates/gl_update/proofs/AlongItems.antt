-- The items of a list that wasn't touched, one after another.
use Rattle.std.proofs.Common.{◌≡◌, ◌≤◌, ◌<◌, ℕ, ◌+◌, Bool, true, false, List, [], ◌∷◌, ◌++◌, map, take, drop, set, length, get_or, Option, refl, sym, ◌∙◌, ap, subst, append-nil, append_assoc, arith}
use Rattle.std.specs.Prelude.{if◌then◌else◌}
use Rattle.std.proofs.lemmas.List.{drop_all, drop-set-lt, take_all, take_more_set}
use Rattle.gl_base.proofs.Lists.{drop_item}
use Rattle.gl_arena.specs.Id.{Id}
use Rattle.gl_value.specs.Value.{plain}
use Rattle.gl_value.specs.View.{view}
use Rattle.gl_meaning.specs.Path.{item, items, Path}
use Rattle.gl_meaning.specs.Scope.{Source}
use Rattle.gl_opc.specs.declared.app.App.{App}
use Rattle.gl_plain.specs.Binding.{Spot as PlainSpot}
use Rattle.gl_plain.specs.Counts.{positions_items}
use Rattle.gl_plain.specs.Naming.{by_number}
use Rattle.gl_plain.specs.State.{State}
use Rattle.gl_machine.specs.Code.{Listing as PlainListing, Code as PlainCode, Codes as PlainCodes, ItemCodes, no_item_codes, item_code, items_of, listed_code}
use Rattle.gl_machine.specs.Outcome.{Outcome, ok, deep, lost, on_ok}
use Rattle.gl_machine.specs.RenewCode.{Runs}
use Rattle.gl_guards.specs.Along.{enters_few, along_body_as}
use Rattle.gl_vm.specs.View.{Tables, state_of, Agrees}
use Rattle.gl_vm.specs.Steps.{Does}
use Rattle.gl_vm.specs.declared.vm.Vm.{Vm}
use Rattle.gl_code.specs.Cells.{CellList}
use Rattle.gl_code.specs.CodeView.{seen_codes, seen_item_spot, stamp_of, seen_item_code, all_items}
use Rattle.gl_code.specs.declared.code.Codes.{Codes}
use Rattle.gl_code.specs.declared.code.ItemCode.{ItemCode}
use Rattle.gl_code.specs.declared.code.ItemSpot.{ItemSpot}
use Rattle.gl_code.specs.declared.fault.VmFault.{VmFault}
use Rattle.gl_code.specs.Renewing.{Renewal, Renews, RenewFails}
use Rattle.gl_update.specs.ListItems.{Item, AlongItem, AlongItems, EntersList, GoesAlong}
use Rattle.gl_update.proofs.Onward.{renews_agreed, fails_agreed}
use Rattle.gl_update.proofs.Renewing.{renews_same, renews_as, renews_by, renews_then, renews_still, renews_in, does_renews, fails_same, fails_first, fails_then, fails_in, does_fails}

-- An item

module _ (a : App) (cells : CellList) (left : ℕ) (p q : Path) (sp : ItemSpot) (k : Option Id) (b : Codes) (x : Tables → Item) (vm : Vm)
    (old : (n : Tables) → x n ≡ (seen_item_spot sp, (stamp_of k, seen_codes n b)))
    (here : q ≡ item (plain (view sp.key)) sp.occurrence ∷ p) where
  abbrev Walked : Renewal PlainCodes
  Walked = λ n run. along_body_as by_number run left q (seen_codes n b)

  abbrev in_item : Tables → PlainCodes → Item
  in_item n cs = (seen_item_spot sp, (stamp_of k, cs))

  along_is : (n : Tables) (run : Runs) (u : Source → Bool) → on_ok (Walked n run (state_of n vm u)) (λ r. ok (in_item n r.0, r.1)) ≡ AlongItem left p x n run (state_of n vm u)
  along_is n run u =
      let st : State = state_of n vm u in
      ap (λ w. on_ok (along_body_as by_number run left w (seen_codes n b) st) (λ r. ok (in_item n r.0, r.1))) here
      ∙ ap (λ (y : Item). on_ok (along_body_as by_number run left (item y.0.key y.0.occurrence ∷ p) y.1.1 st) (λ r. ok ((y.0, (y.1.0, r.0)), r.1))) (sym (old n))

  pub along_renews : (b' : Codes) (y : Tables → Item) (new : Vm) → ((n : Tables) → y n ≡ (seen_item_spot sp, (stamp_of k, seen_codes n b'))) → Renews a cells Walked vm (λ n. seen_codes n b') new → Renews a cells (AlongItem left p x) vm y new
  along_renews b' y new is r =
      renews_as a cells (AlongItem left p x) (λ n. in_item n (seen_codes n b')) y vm new (λ n. sym (is n))
      (renews_same a cells (λ n run st. on_ok (Walked n run st) (λ r. ok (in_item n r.0, r.1))) (AlongItem left p x) (λ n. in_item n (seen_codes n b')) vm new along_is (renews_in a cells Walked in_item (λ n. seen_codes n b') vm new r))

  pub along_fails : (h : VmFault) → RenewFails {A = PlainCodes} a cells Walked vm h → RenewFails {A = Item} a cells (AlongItem left p x) vm h
  along_fails h r =
      fails_same a cells (λ n run st. on_ok (Walked n run st) (λ r. ok (in_item n r.0, r.1))) (AlongItem left p x) vm h along_is (fails_in a cells Walked in_item (λ n st. st) vm h r)

-- All of them

abbrev pub seen_all : List ItemCode → Tables → List Item
seen_all xs n = map (seen_item_code n) xs

-- what comes after an item
item_on : {B : Type 0} (x : Item) (o : Outcome (PlainCodes × State)) (k : Item × State → Outcome (B × State)) → on_ok (on_ok o (λ r. ok ((x.0, (x.1.0, r.0)), r.1))) k ≡ on_ok o (λ r. k ((x.0, (x.1.0, r.0)), r.1))
item_on x (ok r) k = refl
item_on x deep k = refl
item_on x lost k = refl

module _ (a : App) (cells : CellList) (left : ℕ) (p : Path) where
  abbrev pub One : ItemCode → Renewal Item
  One x = AlongItem left p (λ n. seen_item_code n x)

  abbrev pub Rest : List ItemCode → Renewal ItemCodes
  Rest xs = AlongItems left p (seen_all xs)

  -- Whatever the rest gives, the whole gives.
  pub record WalksItems (all : List ItemCode) (vm0 : Vm) (held : List ItemCode) (i : ℕ) (vm : Vm) : Type 0 where
    pub goes : (ys : List ItemCode) (v : Vm) → Renews a cells (Rest (drop i held)) vm (λ n. all_items (seen_all ys n)) v → Renews a cells (Rest all) vm0 (λ n. all_items (seen_all (take i held ++ ys) n)) v
    pub stops : (e : VmFault) → RenewFails a cells (Rest (drop i held)) vm e → RenewFails a cells (Rest all) vm0 e

  pub items_begin : (all held : List ItemCode) (vm : Vm) → held ≡ all → WalksItems all vm held 0 vm
  items_begin all held vm e = record {
    goes = λ ys v r. subst (λ xs. Renews a cells (Rest xs) vm (λ n. all_items (seen_all ys n)) v) e r;
    stops = λ f r. subst (λ xs. RenewFails a cells (Rest xs) vm f) e r;
  }

  module _ (held : List ItemCode) (i : ℕ) (x : ItemCode) (lt : i < length held) (is : x ≡ get_or held i x) where
    abbrev more : List ItemCode
    more = drop (i + 1) held

    abbrev onward : Tables → Item → Renewal ItemCodes
    onward n v m run st = on_ok (Rest more m run st) (λ z. ok (item_code v.0 v.1.0 v.1.1 z.0, z.1))

    both_is : (vm : Vm) (n : Tables) (run : Runs) (u : Source → Bool) → on_ok (One x n run (state_of n vm u)) (λ r. onward n r.0 n run r.1) ≡ Rest (x ∷ more) n run (state_of n vm u)
    both_is vm n run u =
        let y = seen_item_code n x in
        item_on y (along_body_as by_number run left (item y.0.key y.0.occurrence ∷ p) y.1.1 (state_of n vm u)) (λ r. onward n r.0 n run r.1)

    rest_is : (y : ItemCode) → drop (i + 1) (set held i y) ≡ more
    rest_is y = drop-set-lt (i + 1) held i y (omega arith)

    -- one more, and then the rest
    one_more : (y : ItemCode) (ys : List ItemCode) (old mid new : Vm) → Renews a cells (One x) old (λ n. seen_item_code n y) mid → Renews a cells (Rest (drop (i + 1) (set held i y))) mid (λ n. all_items (seen_all ys n)) new
        → Renews a cells (Rest (drop i held)) old (λ n. all_items (seen_all (y ∷ ys) n)) new
    one_more y ys old mid new r s =
        let s1 : Renews a cells (Rest more) mid (λ n. all_items (seen_all ys n)) new = subst (λ zs. Renews a cells (Rest zs) mid (λ n. all_items (seen_all ys n)) new) (rest_is y) s in
        subst (λ zs. Renews a cells (Rest zs) old (λ n. all_items (seen_all (y ∷ ys) n)) new) (sym (drop_item held i x lt is))
        (renews_same a cells (λ n run st. on_ok (One x n run st) (λ r. onward n r.0 n run r.1)) (Rest (x ∷ more)) (λ n. all_items (seen_all (y ∷ ys) n)) old new (both_is old)
        (renews_then a cells (One x) (λ n v run st. onward n v n run st) (λ n. seen_item_code n y) (λ n. all_items (seen_all (y ∷ ys) n)) old mid new r
        (renews_in a cells (Rest more) (λ n is. let v = seen_item_code n y in item_code v.0 v.1.0 v.1.1 is) (λ n. all_items (seen_all ys n)) mid new s1)))

    one_fails : (old : Vm) (e : VmFault) → RenewFails a cells (One x) old e → RenewFails a cells (Rest (drop i held)) old e
    one_fails old e r =
        subst (λ zs. RenewFails a cells (Rest zs) old e) (sym (drop_item held i x lt is))
        (fails_same a cells (λ n run st. on_ok (One x n run st) (λ r. onward n r.0 n run r.1)) (Rest (x ∷ more)) old e (both_is old) (fails_first a cells (One x) (λ n v run st. onward n v n run st) old e r))

    more_fails : (y : ItemCode) (old mid : Vm) (e : VmFault) → Renews a cells (One x) old (λ n. seen_item_code n y) mid → RenewFails a cells (Rest (drop (i + 1) (set held i y))) mid e → RenewFails a cells (Rest (drop i held)) old e
    more_fails y old mid e r s =
        let s1 : RenewFails a cells (Rest more) mid e = subst (λ zs. RenewFails a cells (Rest zs) mid e) (rest_is y) s in
        subst (λ zs. RenewFails a cells (Rest zs) old e) (sym (drop_item held i x lt is))
        (fails_same a cells (λ n run st. on_ok (One x n run st) (λ r. onward n r.0 n run r.1)) (Rest (x ∷ more)) old e (both_is old)
        (fails_then a cells (One x) (λ n v run st. onward n v n run st) (λ n. seen_item_code n y) old mid e r
        (fails_in a cells (Rest more) (λ n is. let v = seen_item_code n y in item_code v.0 v.1.0 v.1.1 is) (λ n st. st) mid e s1)))

    pub items_next : (all : List ItemCode) (vm0 vm mid : Vm) (y : ItemCode) → WalksItems all vm0 held i vm → Renews a cells (One x) vm (λ n. seen_item_code n y) mid → WalksItems all vm0 (set held i y) (i + 1) mid
    items_next all vm0 vm mid y w r = record {
      goes = λ ys v s. subst (λ zs. Renews a cells (Rest all) vm0 (λ n. all_items (seen_all zs n)) v)
          (sym (append_assoc (take i held) (y ∷ []) ys) ∙ ap (λ zs. zs ++ ys) (sym (take_more_set held i y lt)))
          (w.goes (y ∷ ys) v (one_more y ys vm mid v r s));
      stops = λ e s. w.stops e (more_fails y vm mid e r s);
    }

    pub items_fail : (all : List ItemCode) (vm0 vm : Vm) (e : VmFault) → WalksItems all vm0 held i vm → RenewFails a cells (One x) vm e → RenewFails a cells (Rest all) vm0 e
    items_fail all vm0 vm e w r = w.stops e (one_fails vm e r)

  pub items_end : (all new : List ItemCode) (vm0 vm : Vm) (held : List ItemCode) (i : ℕ) → length held ≤ i → WalksItems all vm0 held i vm → held ≡ new → Renews a cells (Rest all) vm0 (λ n. all_items (seen_all new n)) vm
  items_end all new vm0 vm held i le w e =
      subst (λ zs. Renews a cells (Rest all) vm0 (λ n. all_items (seen_all zs n)) vm) (append-nil (take i held) ∙ (take_all i held le ∙ e))
      (w.goes [] vm (subst (λ zs. Renews a cells (Rest zs) vm (λ n. no_item_codes) vm) (sym (drop_all i held le)) (renews_still a cells (λ n. no_item_codes) vm)))

-- The list

module _ (a : App) (cells : CellList) (z : Tables → PlainListing) (s : PlainSpot) (left : ℕ) (p q : Path) (below : q ≡ items ∷ p) (xs xs' : List ItemCode) (same : xs' ≡ xs) where
  abbrev Inner : Renewal ItemCodes
  Inner = AlongItems left q (seen_all xs')

  abbrev Outer : Renewal PlainCode
  Outer = EntersList z s left p (seen_all xs)

  inner_is : (vm : Vm) (n : Tables) (run : Runs) (u : Source → Bool) → on_ok (Inner n run (state_of n vm u)) (λ r. ok (listed_code (z n) s r.0, r.1)) ≡ Outer n run (state_of n vm u)
  inner_is vm n run u =
      let at : Path → List ItemCode → Outcome (PlainCode × State) = λ w ys. on_ok (AlongItems left w (seen_all ys) n run (state_of n vm u)) (λ r. ok (listed_code (z n) s r.0, r.1)) in
      ap (λ w. at w xs') below ∙ ap (λ ys. at (items ∷ p) ys) same

  pub list_goes : (is : Tables → ItemCodes) (y : Tables → PlainCode) (old new : Vm) → ((n : Tables) → y n ≡ listed_code (z n) s (is n)) → Renews a cells Inner old is new → Renews a cells Outer old y new
  list_goes is y old new e r =
      renews_as a cells Outer (λ n. listed_code (z n) s (is n)) y old new (λ n. sym (e n))
      (renews_same a cells (λ n run st. on_ok (Inner n run st) (λ r. ok (listed_code (z n) s r.0, r.1))) Outer (λ n. listed_code (z n) s (is n)) old new (inner_is old) (renews_in a cells Inner (λ n x. listed_code (z n) s x) is old new r))

  pub list_goes_fails : (old : Vm) (h : VmFault) → RenewFails {A = ItemCodes} a cells Inner old h → RenewFails {A = PlainCode} a cells Outer old h
  list_goes_fails old h r =
      fails_same a cells (λ n run st. on_ok (Inner n run st) (λ r. ok (listed_code (z n) s r.0, r.1))) Outer old h (inner_is old) (fails_in a cells Inner (λ n x. listed_code (z n) s x) (λ n st. st) old h r)

-- where it is entered, or passed over
module _ (a : App) (cells : CellList) (z : Tables → PlainListing) (s : PlainSpot) (left : ℕ) (p : Path) (xs : Tables → List Item) where
  abbrev inside : Renewal ItemCodes
  inside = AlongItems left (items ∷ p) xs

  abbrev positions : Tables → List ℕ
  positions n = positions_items (items_of (all_items (xs n)))

  abbrev pub ListAsked : Bool → Vm → Type 0
  ListAsked b vm = (n : Tables) (u : Source → Bool) → Agrees u vm → enters_few (state_of n vm u) (positions n) ≡ b

  goes_is : (b : Bool) (vm : Vm) → ListAsked b vm → (n : Tables) (run : Runs) (u : Source → Bool) → Agrees u vm
      → on_ok (if b then inside n run (state_of n vm u) else ok (all_items (xs n), state_of n vm u)) (λ r. ok (listed_code (z n) s r.0, r.1)) ≡ GoesAlong z s left p xs n run (state_of n vm u)
  goes_is b vm h n run u agrees =
      let st : State = state_of n vm u in sym (ap (λ e. on_ok (if e then inside n run st else ok (all_items (xs n), st)) (λ r. ok (listed_code (z n) s r.0, r.1))) (h n u agrees))

  pub list_entered : (old mid new : Vm) (y : Tables → PlainCode) → ListAsked true old → Does (λ n st. st) old mid → Renews a cells (EntersList z s left p xs) mid y new → Renews a cells (GoesAlong z s left p xs) old y new
  list_entered old mid new y h d r =
      renews_agreed a cells (EntersList z s left p xs) (GoesAlong z s left p xs) y old new (goes_is true old h) (does_renews a cells (λ n st. st) (EntersList z s left p xs) y old mid new d r)

  pub list_fails : (old mid : Vm) (e : VmFault) → ListAsked true old → Does (λ n st. st) old mid → RenewFails {A = PlainCode} a cells (EntersList z s left p xs) mid e → RenewFails {A = PlainCode} a cells (GoesAlong z s left p xs) old e
  list_fails old mid e h d r =
      fails_agreed a cells (EntersList z s left p xs) (GoesAlong z s left p xs) old e (goes_is true old h) (does_fails a cells (λ n st. st) (EntersList z s left p xs) old mid e d r)

  pub list_passed : (old new : Vm) (y : Tables → PlainCode) → ((n : Tables) → y n ≡ listed_code (z n) s (all_items (xs n))) → ListAsked false old → Does (λ n st. st) old new → Renews a cells (GoesAlong z s left p xs) old y new
  list_passed old new y e h d =
      renews_as a cells (GoesAlong z s left p xs) (λ n. listed_code (z n) s (all_items (xs n))) y old new (λ n. sym (e n))
      (renews_agreed a cells (λ n run st. ok (listed_code (z n) s (all_items (xs n)), st)) (GoesAlong z s left p xs) (λ n. listed_code (z n) s (all_items (xs n))) old new (goes_is false old h)
      (renews_by a cells (λ n st. st) (λ n. listed_code (z n) s (all_items (xs n))) old new d))
