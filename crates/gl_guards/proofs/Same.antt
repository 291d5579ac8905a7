-- An update that passes over nothing but what is fresh does what the update does.
use Rattle.std.proofs.Common.{◌≡◌, ℕ, zero, suc, ◌+◌, ◌<◌, List, [], ◌∷◌, map, Bool, true, false, ◌||◌, cond, true≢false, Option, Some, None, option_map, refl, sym, ◌∙◌, ap, ap₂, subst, arith}
use Rattle.std.specs.Prelude.{if◌then◌else◌}
use Rattle.std.proofs.lemmas.Bool.Decides.{Decides-eqb}
use mathlib.Core.Path.{fun_ext}
use Rattle.gl_value.specs.Value.{Values, no_values, value, count_value, same}
use Rattle.gl_meaning.specs.Path.{at, main, otherwise, items, item, slot, Path, no_owners}
use Rattle.gl_meaning.specs.Eval.{takes_first}
use Rattle.gl_meaning.specs.Render.{Entry, entries, values_listed}
use Rattle.gl_meaning.proofs.Equal.{both_left, both_right, same_means, no_owners-Decides}
use Rattle.gl_plain.specs.Ids.{Id, ref, node, hit, occurs}
use Rattle.gl_plain.specs.State.{State}
use Rattle.gl_plain.specs.Naming.{Naming, dropped_as}
use Rattle.gl_plain.specs.Binding.{Spot, first_value}
use Rattle.gl_plain.specs.Live.{item_made, times, times_in, times_items, times_attrs, times_comment}
use Rattle.gl_plain.specs.Counts.{positions_in, positions_items}
use Rattle.gl_plain.specs.Renew.{spot_pairs, is_stale, evaluate, reread, renew_attrs, renew_mods, give}
use Rattle.gl_plain.proofs.Moves.{hit_self}
use Rattle.gl_kept.specs.Around.{with_made, AllThere}
use Rattle.gl_machine.specs.Code.{Listing, Code, still_code, put_code, element_code, branch_code, listed_code, unlisted_code, let_code, component_code, yield_code, ItemCodes, no_item_codes, item_code, items_of, Codes, no_codes, code_and, live_of, lives_of}
use Rattle.gl_machine.specs.Outcome.{Outcome, ok, deep, lost, on_ok}
use Rattle.gl_machine.specs.Nesting.{Nests, NestsIn, NestsItems}
use Rattle.gl_machine.specs.RenewCode.{Runs, kept, branch_with, unlisted_with, ItemDone, item_done, CodeHandle, with_code_front, taken_code, with_left, item_with, renew_item_code_as, sync_one_code_as, sync_codes_as, fresh_codes, by_values, fresh_branch, fresh_other, fresh_item_as, renew_code_as, renew_codes_as, code_handles_as}
use Rattle.gl_guards.specs.Guarded.{any_stale, entering, guard, guarded_codes_as, idle_handles, if_ok, given_as, with_taken, stale_taken_as, entered_code_as, entered_codes_as, entered_items_as, entered_handles_as, renew_items_as}
use Rattle.gl_guards.specs.Settled.{PassesFresh, Leaves, Ended, NotesApart, Owns, OwnsItems, OwnsIn, Fits, HoldsSource, Settled, SettledItems, SettledIn, Room}
use Rattle.gl_guards.proofs.Fresh.{or_left, or_right, give_idle, first_is, list_chosen, codes_stay, items_stay}
use Rattle.gl_guards.proofs.Leaves.{left_more, reread_left, evaluate_left, attrs_left}
use Rattle.gl_guards.proofs.Parts.{Elem, Goes, handle, elems, taken_elem, both_handles, handles_taken, times_elem, times_elems, times_handles, times_elems_of, EachElem, is_elem, Parted, parted, attrs_counted, Left, OneLeft, one_left, ElemLeft, elem_count, item_left, renewing, handles_are, codes_left, elems_left}
use Rattle.gl_guards.proofs.Steps.{Step, step_less, step_into, items_go, codes_go, made_goes, fits_goes, room_less, room_into, beside_same, room_beside, step_beside, give_step, give_holds}

-- The question whether a position is stale passes over what is fresh alone.
pub fresh_alone : PassesFresh any_stale
fresh_alone st rs e = e

module _ (naming : Naming) (notes : NotesApart naming) (run : Runs) where
  -- Old items

  -- the item agrees with the state, where its path is q
  abbrev pub SettledAt : State → (Id → ℕ) → Path → Elem → Type 0
  SettledAt st around q h =
      AllThere st.look around (item_made h.spot)
      × HoldsSource st.look h.spot.value (naming.value_source h.spot.value q)
      × HoldsSource st.look h.spot.index (naming.index_source h.spot.index q)
      × SettledIn naming st (with_made (item_made h.spot) around) q 0 h.codes

  abbrev pub SettledElem : State → (Id → ℕ) → Path → Elem → Type 0
  SettledElem st around p h = SettledAt st around (item h.spot.key h.spot.occurrence ∷ p) h

  abbrev pub ElemOwns : Elem → Type 0
  ElemOwns h = OwnsIn naming run h.codes

  pub elems_settled : (st : State) (around : Id → ℕ) (p : Path) (is : ItemCodes) → SettledItems naming st around p is → EachElem (SettledElem st around p) (elems is)
  elems_settled st around p no_item_codes h = tt
  elems_settled st around p (item_code z k cs is) h = (h.0, elems_settled st around p is h.1)

  pub elems_own : (is : ItemCodes) → OwnsItems naming run is → EachElem ElemOwns (elems is)
  elems_own no_item_codes h = tt
  elems_own (item_code z k cs is) h = (h.0, elems_own is h.1)

  elem_goes : (st st' : State) (around : Id → ℕ) (q : Path) (h : Elem) → Step naming st st' around (λ i. times_elem i h) → ElemOwns h → SettledAt st around q h → SettledAt st' around q h
  elem_goes st st' around q h s o k =
      let own = step_less naming st st' around (λ i. occurs i (item_made h.spot) + times_in i (lives_of h.codes)) _ (λ i w. omega (arith, w)) s in (
        made_goes naming run st st' around (item_made h.spot) (λ i. times_in i (lives_of h.codes)) own k.0,
        (k.1.0, own.rows (ref h.spot.value) (let i = hit_self (ref h.spot.value) in omega (arith, i)) ∙ k.1.1),
        (k.2.0, own.rows (ref h.spot.index) (let i = hit_self (ref h.spot.index) in omega (arith, i)) ∙ k.2.1),
        codes_go naming run st st' (with_made (item_made h.spot) around) q 0 h.codes (step_into naming st st' around (λ i. times_in i (lives_of h.codes)) (item_made h.spot) k.0 own) o k.3,
      )

  pub elems_go : (st st' : State) (around : Id → ℕ) (p : Path) (hs : List Elem) → Step naming st st' around (λ i. times_elems i hs) → EachElem ElemOwns hs → EachElem (SettledElem st around p) hs → EachElem (SettledElem st' around p) hs
  elems_go st st' around p [] s o k = tt
  elems_go st st' around p (h ∷ hs) s o k = (
    elem_goes st st' around (item h.spot.key h.spot.occurrence ∷ p) h (step_less naming st st' around (λ i. times_elem i h) _ (λ i w. omega (arith, w)) s) o.0 k.0,
    elems_go st st' around p hs (step_less naming st st' around (λ i. times_elems i hs) _ (λ i w. omega (arith, w)) s) o.1 k.1,
  )

  -- once it has its value and index of now
  pub given_settled : (q : Path) (x : Entry) (h : CodeHandle) (cs : Codes) (st : State) (around : Id → ℕ) → let e : Elem = record { spot = h.spot; comment = h.comment; codes = cs } in
      Room st around (λ i. times_elem i e) → OwnsIn naming run cs → SettledAt st around q e
      → let st2 = given_as naming q x h st in let inside = with_made (item_made h.spot) around in Room st2 inside (λ i. times_in i (lives_of cs)) × SettledIn naming st2 inside q 0 cs
  given_settled q x h cs st around room o k =
      let z = h.spot in
      let inside = with_made (item_made z) around in
      let c : Id → ℕ = λ i. times_in i (lives_of cs) in
      let r0 = room_into st around c (item_made z) k.0 (room_less st around (λ i. occurs i (item_made z) + c i) _ (λ i. omega arith) room) in
      let x1 = naming.value_source z.value q in
      let x2 = naming.index_source z.index q in
      let st1 = give z.value x1 x.value st in
      let st2 = give z.index x2 (count_value x.index) st1 in
      let w1 : 0 < inside (ref z.value) = let i = hit_self (ref z.value) in omega (arith, i) in
      let w2 : 0 < inside (ref z.index) = let i = hit_self (ref z.index) in omega (arith, i) in
      let g1 = give_step naming st inside c z.value x1 x.value k.1 r0 w1 in
      let differ : z.index ≡ z.value → x1 ≡ x2 = λ e.
      let i = hit_self (ref z.value) in let j : hit (ref z.value) (ref z.index) ≡ hit (ref z.value) (ref z.value) = ap (λ n. hit (ref z.value) (ref n)) e in let u = room.once (ref z.value) in absurd (omega (arith, i, j, u)) in
      let k2 = give_holds naming st inside c z.value x1 x.value k.1 r0 w1 z.index x2 k.2 differ in
      let g2 = give_step naming st1 inside c z.index x2 (count_value x.index) k2 g1.1 w2 in
      (g2.1, codes_go naming run st1 st2 inside q 0 cs g2.0 o (codes_go naming run st st1 inside q 0 cs g1.0 o k.3))

  -- the path of an old item is the one of its entry
  pub path_is : (x : Entry) (h : Elem) (p : Path) → is_elem x h ≡ true → item h.spot.key h.spot.occurrence ∷ p ≡ item x.key x.occurrence ∷ p
  path_is x h p e =
      ap₂ (λ a n. item a n ∷ p) (sym (same_means ⊥ no_owners no_owners-Decides x.key h.spot.key (both_left _ _ e))) (sym ((Decides-eqb x.occurrence h.spot.occurrence).0 (both_right (same no_owners x.key h.spot.key) _ e)))

  -- what two ways to update old items give is the same
  abbrev pub ElemSame : Goes → Goes → Elem → Type 0
  ElemSame f g h = (q : Path) (st : State) (around : Id → ℕ) → Room st around (λ i. times_in i (lives_of h.codes)) → SettledIn naming st around q 0 h.codes → f h.codes q st ≡ g h.codes q st

  -- what is done after one item, and what is known of the others then
  abbrev Then : (Path → Entry → State → Outcome ItemDone) → Path → List Entry → Goes → List Elem → Outcome ItemDone → Outcome (ItemCodes × State)
  Then one p xs go gs o = on_ok (on_ok o (with_left (map (handle go) gs))) (λ y. on_ok (sync_codes_as naming one p xs y.1 y.0.arm.state) (λ r. ok (item_with y.0 r)))

  abbrev More : Goes → Goes → (Path → Entry → State → Outcome ItemDone) → Path → (Id → ℕ) → List Entry → List Elem → State → Type 0
  More f g one p around xs gs t =
      EachElem (ElemSame f g) gs → EachElem (ElemLeft naming notes run g) gs → EachElem ElemOwns gs → Room t around (λ i. times_elems i gs) → EachElem (SettledElem t around p) gs
      → sync_codes_as naming one p xs (map (handle f) gs) t ≡ sync_codes_as naming one p xs (map (handle g) gs) t

  pub sync_same : (f g : Goes) (one : Path → Entry → State → Outcome ItemDone) → OneLeft naming notes run one → (p : Path) (around : Id → ℕ) (xs : List Entry) (hs : List Elem) (st : State)
      → EachElem (ElemSame f g) hs → EachElem (ElemLeft naming notes run g) hs → EachElem ElemOwns hs → Room st around (λ i. times_elems i hs) → EachElem (SettledElem st around p) hs
      → sync_codes_as naming one p xs (map (handle f) hs) st ≡ sync_codes_as naming one p xs (map (handle g) hs) st
  sync_same f g one ol p around [] hs st same left own room k =
      ap (λ (n : Id → ℕ). ok (no_item_codes, dropped_as naming n st)) (fun_ext (λ q. times_handles f q hs ∙ sym (times_handles g q hs)))
  sync_same f g one ol p around (x ∷ xs) hs st same left own room k =
      let q = item x.key x.occurrence ∷ p in
      let S : Goes → Option (CodeHandle × List CodeHandle) → Outcome (ItemCodes × State) = λ go o.
      on_ok (sync_one_code_as naming one q x (map (handle go) hs) o st) (λ y. on_ok (sync_codes_as naming one p xs y.1 y.0.arm.state) (λ r. ok (item_with y.0 r))) in
      ap (S f) (handles_taken f x hs) ∙ (by (taken_elem x hs) (parted x hs) (λ gs t. sync_same f g one ol p around xs gs t) ∙ ap (S g) (sym (handles_taken g x hs))) where
        after : (gs : List Elem) (a : Id → ℕ) (o : Outcome ItemDone) → Ended o (λ d. Leaves naming st d.arm.state a) → ((t : State) → More f g one p around xs gs t) → EachElem (ElemSame f g) gs → EachElem (ElemLeft naming notes run g) gs → EachElem ElemOwns gs
            → Room st around (λ i. a i + times_elems i gs) → EachElem (SettledElem st around p) gs → Then one p xs f gs o ≡ Then one p xs g gs o
        after gs a (ok d) l rec sa le ow ro se =
            ap (λ o. on_ok o (λ r. ok (item_with d r)))
            (rec d.arm.state sa le ow (room_beside naming st d.arm.state around a (λ i. times_elems i gs) ro l) (elems_go st d.arm.state around p gs (step_beside naming st d.arm.state around a (λ i. times_elems i gs) ro l) ow se))
        after gs a deep l rec sa le ow ro se = refl
        after gs a lost l rec sa le ow ro se = refl

        by : (o : Option (Elem × List Elem)) → Parted x hs o → ((gs : List Elem) (t : State) → More f g one p around xs gs t)
            → let q = item x.key x.occurrence ∷ p in
            let S : Goes → Option (CodeHandle × List CodeHandle) → Outcome (ItemCodes × State) = λ go o'.
            on_ok (sync_one_code_as naming one q x (map (handle go) hs) o' st) (λ y. on_ok (sync_codes_as naming one p xs y.1 y.0.arm.state) (λ r. ok (item_with y.0 r))) in
            S f (option_map (both_handles f) o) ≡ S g (option_map (both_handles g) o)
        by None e rec =
            let q = item x.key x.occurrence ∷ p in
            after hs (λ i. 0) (one q x st) (ol q x st) (rec hs) same left own (room_less st around (λ i. 0 + times_elems i hs) _ (λ i. omega arith) room) k
        by (Some y) e rec =
            let q = item x.key x.occurrence ∷ p in
            let st2 = given_as naming q x (handle g y.0) st in
            let ke = e.2 (SettledElem st around p) k in
            let se = e.2 (ElemSame f g) same in
            let le = e.2 (ElemLeft naming notes run g) left in
            let oe = e.2 ElemOwns own in
            let ro : Room st around (λ i. times_elem i y.0 + times_elems i y.1) = room_less st around (λ i. times_elem i y.0 + times_elems i y.1) _ (λ i. let c = e.1 i in omega (arith, c)) room in
            let now = given_settled q x (handle g y.0) y.0.codes st around (room_less st around (λ i. times_elem i y.0) _ (λ i. omega arith) ro) oe.0 (subst (λ j. SettledAt st around j y.0) (path_is x y.0 p e.0) ke.0) in
            ap (λ o. Then one p xs f y.1 (on_ok o (λ r. ok (item_done y.0.spot (kept y.0.comment r))))) (se.0 q st2 (with_made (item_made y.0.spot) around) now.0 now.1)
            ∙ after y.1 (elem_count naming notes run y.0) (renew_item_code_as naming q x (handle g y.0) st) (item_left naming notes run g q x y.0 st le.0) (rec y.1) se.1 le.1 oe.1 ro ke.1

  -- items that stay idle, where none is stale once it has its value and index of now
  abbrev pub idle : Goes
  idle cs q st = ok (cs, st)

  abbrev ElemStays : Goes → Elem → Type 0
  ElemStays g h = (q : Path) (st : State) (around : Id → ℕ) → SettledIn naming st around q 0 h.codes → any_stale st (positions_in (lives_of h.codes)) ≡ false → g h.codes q st ≡ ok (h.codes, st)

  abbrev MoreIdle : Goes → (Path → Entry → State → Outcome ItemDone) → Path → (Id → ℕ) → List Entry → List Elem → State → Type 0
  MoreIdle g one p around xs gs t =
      EachElem (ElemStays g) gs → EachElem ElemOwns gs → Room t around (λ i. times_elems i gs) → EachElem (SettledElem t around p) gs
      → stale_taken_as naming one p xs (map (handle idle) gs) t ≡ false → sync_codes_as naming one p xs (map (handle idle) gs) t ≡ sync_codes_as naming one p xs (map (handle g) gs) t

  sync_idle : (g : Goes) (one : Path → Entry → State → Outcome ItemDone) → OneLeft naming notes run one → (p : Path) (around : Id → ℕ) (xs : List Entry) (hs : List Elem) (st : State)
      → EachElem (ElemStays g) hs → EachElem ElemOwns hs → Room st around (λ i. times_elems i hs) → EachElem (SettledElem st around p) hs
      → stale_taken_as naming one p xs (map (handle idle) hs) st ≡ false
      → sync_codes_as naming one p xs (map (handle idle) hs) st ≡ sync_codes_as naming one p xs (map (handle g) hs) st
  sync_idle g one ol p around [] hs st stays own room k none =
      ap (λ (n : Id → ℕ). ok (no_item_codes, dropped_as naming n st)) (fun_ext (λ q. times_handles idle q hs ∙ sym (times_handles g q hs)))
  sync_idle g one ol p around (x ∷ xs) hs st stays own room k none =
      let q = item x.key x.occurrence ∷ p in
      let S : Goes → Option (CodeHandle × List CodeHandle) → Outcome (ItemCodes × State) = λ go o.
      on_ok (sync_one_code_as naming one q x (map (handle go) hs) o st) (λ y. on_ok (sync_codes_as naming one p xs y.1 y.0.arm.state) (λ r. ok (item_with y.0 r))) in
      ap (S idle) (handles_taken idle x hs)
      ∙ (by (taken_elem x hs) (parted x hs) (λ gs t. sync_idle g one ol p around xs gs t)
      (ap (λ o. with_taken o
      (λ h rest. let st2 = given_as naming q x h st in any_stale st2 (positions_in (lives_of h.codes)) || stale_taken_as naming one p xs rest st2)
      (if_ok (one q x st) (λ d. stale_taken_as naming one p xs (map (handle idle) hs) d.arm.state))) (sym (handles_taken idle x hs)) ∙ none)
      ∙ ap (S g) (sym (handles_taken g x hs))) where
        after : (gs : List Elem) (a : Id → ℕ) (o : Outcome ItemDone) → Ended o (λ d. Leaves naming st d.arm.state a) → ((t : State) → MoreIdle g one p around xs gs t) → EachElem (ElemStays g) gs → EachElem ElemOwns gs
            → Room st around (λ i. a i + times_elems i gs) → EachElem (SettledElem st around p) gs → if_ok o (λ d. stale_taken_as naming one p xs (map (handle idle) gs) d.arm.state) ≡ false → Then one p xs idle gs o ≡ Then one p xs g gs o
        after gs a (ok d) l rec sa ow ro se not_stale =
            ap (λ o. on_ok o (λ r. ok (item_with d r)))
            (rec d.arm.state sa ow (room_beside naming st d.arm.state around a (λ i. times_elems i gs) ro l) (elems_go st d.arm.state around p gs (step_beside naming st d.arm.state around a (λ i. times_elems i gs) ro l) ow se) not_stale)
        after gs a deep l rec sa ow ro se not_stale = refl
        after gs a lost l rec sa ow ro se not_stale = refl

        by : (o : Option (Elem × List Elem)) → Parted x hs o → ((gs : List Elem) (t : State) → MoreIdle g one p around xs gs t)
            → let q = item x.key x.occurrence ∷ p in
            with_taken (option_map (both_handles idle) o) (λ h rest. let st2 = given_as naming q x h st in any_stale st2 (positions_in (lives_of h.codes)) || stale_taken_as naming one p xs rest st2)
            (if_ok (one q x st) (λ d. stale_taken_as naming one p xs (map (handle idle) hs) d.arm.state)) ≡ false
            → let S : Goes → Option (CodeHandle × List CodeHandle) → Outcome (ItemCodes × State) = λ go o'.
            on_ok (sync_one_code_as naming one q x (map (handle go) hs) o' st) (λ y. on_ok (sync_codes_as naming one p xs y.1 y.0.arm.state) (λ r. ok (item_with y.0 r))) in
            S idle (option_map (both_handles idle) o) ≡ S g (option_map (both_handles g) o)
        by None e rec not_stale =
            let q = item x.key x.occurrence ∷ p in
            after hs (λ i. 0) (one q x st) (ol q x st) (rec hs) stays own (room_less st around (λ i. 0 + times_elems i hs) _ (λ i. omega arith) room) k not_stale
        by (Some y) e rec not_stale =
            let q = item x.key x.occurrence ∷ p in
            let st2 = given_as naming q x (handle g y.0) st in
            let ke = e.2 (SettledElem st around p) k in
            let se = e.2 (ElemStays g) stays in
            let oe = e.2 ElemOwns own in
            let ro : Room st around (λ i. times_elem i y.0 + times_elems i y.1) = room_less st around (λ i. times_elem i y.0 + times_elems i y.1) _ (λ i. let c = e.1 i in omega (arith, c)) room in
            let now = given_settled q x (handle g y.0) y.0.codes st around (room_less st around (λ i. times_elem i y.0) _ (λ i. omega arith) ro) oe.0 (subst (λ j. SettledAt st around j y.0) (path_is x y.0 p e.0) ke.0) in
            let left : Leaves naming st st2 (λ i. times_elem i y.0) = Rattle.gl_guards.proofs.Parts.given_left naming notes run q x (handle g y.0) st (λ i. times_elem i y.0) (λ i w. omega (arith, w)) in
            after y.1 (λ i. times_elem i y.0) (renew_item_code_as naming q x (handle idle y.0) st) left (rec y.1) se.1 oe.1 ro ke.1 (or_right (any_stale st2 (positions_in (lives_of y.0.codes))) _ not_stale)
            ∙ ap (λ o. Then one p xs g y.1 (on_ok o (λ r. ok (item_done y.0.spot (kept y.0.comment r)))))
            (sym (se.0 q st2 (with_made (item_made y.0.spot) around) now.1 (or_left (any_stale st2 (positions_in (lives_of y.0.codes))) _ not_stale)))

  -- The items of a list that wasn't read again are gone along in order.
  pub walks : (one : Path → Entry → State → Outcome ItemDone) (m : ℕ) (p : Path) (around : Id → ℕ) (xs : List Entry) (is : ItemCodes) (st : State) → Room st around (λ i. times_items i (items_of is)) → OwnsItems naming run is → Fits st.look xs is
      → sync_codes_as naming one p xs (code_handles_as naming run m is) st ≡ renew_items_as naming run m p is st
  walks one m p around [] no_item_codes st room o f = ap (λ t. ok (no_item_codes, t)) (notes.none st)
  walks one m p around (x ∷ xs) (item_code z k cs is) st room o f =
      let q = item x.key x.occurrence ∷ p in
      let hs = code_handles_as naming run m is in
      let h : CodeHandle = record { spot = z; comment = k; codes = cs; go = λ q' t. renew_codes_as naming run m q' 0 cs t } in
      let S : Option (CodeHandle × List CodeHandle) → Outcome (ItemCodes × State) = λ o'.
      on_ok (sync_one_code_as naming one q x (h ∷ hs) o' st) (λ g. on_ok (sync_codes_as naming one p xs g.1 g.0.arm.state) (λ r. ok (item_with g.0 r))) in
      let T : Outcome (Codes × State) → Outcome (ItemCodes × State) = λ o'.
      on_ok (on_ok (on_ok o' (λ r. ok (item_done z (kept k r)))) (with_left hs)) (λ g. on_ok (sync_codes_as naming one p xs g.1 g.0.arm.state) (λ r. ok (item_with g.0 r))) in
      let e1 : q ≡ item z.key z.occurrence ∷ p = ap₂ (λ a n. item a n ∷ p) (sym f.0) (sym f.1) in
      let given : give z.index (naming.index_source z.index q) (count_value x.index) (give z.value (naming.value_source z.value q) x.value st) ≡ st =
      ap (give z.index (naming.index_source z.index q) (count_value x.index)) (give_idle z.value (naming.value_source z.value q) x.value st f.2) ∙ give_idle z.index (naming.index_source z.index q) (count_value x.index) st f.3 in
      ap (λ b. S (if b then Some (h, hs) else with_code_front h (taken_code x hs))) (first_is x h f.0 f.1)
      ∙ (ap (λ t. T (renew_codes_as naming run m q 0 cs t)) given
      ∙ (ap (λ j. T (renew_codes_as naming run m j 0 cs st)) e1
      ∙ by (renew_codes_as naming run m (item z.key z.occurrence ∷ p) 0 cs st) (codes_left naming notes run m (item z.key z.occurrence ∷ p) 0 cs st o.0) (λ t. walks one m p around xs is t))) where
        by : (o' : Outcome (Codes × State)) → Ended o' (λ r. Leaves naming st r.1 (λ i. times_in i (lives_of cs)))
            → ((t : State) → Room t around (λ i. times_items i (items_of is)) → OwnsItems naming run is → Fits t.look xs is → sync_codes_as naming one p xs (code_handles_as naming run m is) t ≡ renew_items_as naming run m p is t)
            → on_ok (on_ok (on_ok o' (λ r. ok (item_done z (kept k r)))) (with_left (code_handles_as naming run m is))) (λ g. on_ok (sync_codes_as naming one p xs g.1 g.0.arm.state) (λ r. ok (item_with g.0 r)))
            ≡ on_ok o' (λ r. on_ok (renew_items_as naming run m p is r.1) (λ y. ok (item_code z k r.0 y.0, y.1)))
        by (ok r) l rec =
            let ca : Id → ℕ = λ i. times_in i (lives_of cs) in
            let cb : Id → ℕ = λ i. times_items i (items_of is) in
            let ro = room_less st around (λ i. ca i + cb i) _ (λ i. omega arith) room in
            ap (λ o'. on_ok o' (λ y. ok (item_code z k r.0 y.0, y.1)))
            (rec r.1 (room_beside naming st r.1 around ca cb ro l) o.1 (fits_goes naming st.look r.1.look xs is (λ i w. beside_same naming st r.1 around ca cb ro l i (omega (arith, w))) f.4))
        by deep l rec = refl
        by lost l rec = refl
  walks one m p around _ _ st room o f = absurd f

  pub idle_are : (is : ItemCodes) → idle_handles is ≡ map (handle idle) (elems is)
  idle_are no_item_codes = refl
  idle_are (item_code z k cs is) = ap (λ hs. handle idle (record { spot = z; comment = k; codes = cs }) ∷ hs) (idle_are is)

  elems_stay : (m : ℕ) (is : ItemCodes) → NestsItems (items_of is) m → EachElem (ElemStays (renewing naming notes run m)) (elems is)
  elems_stay m no_item_codes d = tt
  elems_stay m (item_code z k cs is) d = ((λ q st around s e. codes_stay naming notes run st m q 0 around cs s d.0 e), elems_stay m is d.1)

  -- it was asked
  asked_none : (once b : Bool) → (if once then b else true) ≡ false → b ≡ false
  asked_none true b e = e
  asked_none false b e = absurd (true≢false e)

  values_same : {A : Type 0} (vs : Values Path) (F G : Values Path → A) (y : A) → ((us : Values Path) → F us ≡ G us) → by_values vs F y ≡ by_values vs G y
  values_same no_values F G y e = refl
  values_same (value v vs) F G y e = e (value v vs)

  -- the items of a list by its values, and the body that stands in their place
  abbrev new_item : Listing → ℕ → Path → Entry → State → Outcome ItemDone
  new_item z m = fresh_item_as naming run z m

  abbrev other_body : Listing → Spot → ℕ → Path → ItemCodes → State → Outcome (Code × State)
  other_body z x m p is t = fresh_other run z x p m (dropped_as naming (λ q. times_items q (items_of is)) t)

  abbrev plain_list : Listing → Spot → ℕ → Path → ItemCodes → State → Values Path → Outcome (Code × State)
  plain_list z x m p is t vs = on_ok (sync_codes_as naming (new_item z m) (items ∷ p) (entries z.key 0 [] vs) (code_handles_as naming run m is) t) (λ r. ok (listed_code z x r.0, r.1))

  -- a region
  pub region_same : (asks : State → List ℕ → Bool) → PassesFresh asks → (m : ℕ) (q : Path) (around : Id → ℕ) (cs : Codes) (st : State) → SettledIn naming st around q 0 cs → NestsIn (lives_of cs) m
      → {o : Outcome (Codes × State)} → o ≡ renew_codes_as naming run m q 0 cs st → entering asks st (positions_in (lives_of cs)) cs o ≡ renew_codes_as naming run m q 0 cs st
  region_same asks safe m q around cs st s d {o} rec = by (asks st (positions_in (lives_of cs))) refl where
    by : (b : Bool) → asks st (positions_in (lives_of cs)) ≡ b → (if b then o else ok (cs, st)) ≡ renew_codes_as naming run m q 0 cs st
    by true e = rec
    by false e = sym (codes_stay naming notes run st m q 0 around cs s d (safe st (positions_in (lives_of cs)) e))

  -- The recorded program, of which a question passes over what is fresh alone
  module _ (enters : State → List ℕ → Bool) (safe : PassesFresh enters) (once : Bool) where
    abbrev pub entering_in : ℕ → Goes
    entering_in m cs q st = entering enters st (positions_in (lives_of cs)) cs (entered_codes_as naming run enters once m q 0 cs st)

    pub entered_are : (m : ℕ) (is : ItemCodes) → entered_handles_as naming run enters once m is ≡ map (handle (entering_in m)) (elems is)
    entered_are m no_item_codes = refl
    entered_are m (item_code z k cs is) = ap (λ hs. handle (entering_in m) (record { spot = z; comment = k; codes = cs }) ∷ hs) (entered_are m is)

    -- the items of a list that wasn't read again
    items_region : (one : Path → Entry → State → Outcome ItemDone) (m : ℕ) (p : Path) (around : Id → ℕ) (xs : List Entry) (is : ItemCodes) (st : State) → Room st around (λ i. times_items i (items_of is)) → OwnsItems naming run is
        → SettledItems naming st around p is → NestsItems (items_of is) m → Fits st.look xs is → entered_items_as naming run enters once m p is st ≡ renew_items_as naming run m p is st
        → sync_codes_as naming one p xs (code_handles_as naming run m is) st ≡ entering enters st (positions_items (items_of is)) is (entered_items_as naming run enters once m p is st)
    items_region one m p around xs is st room o s d f rec = by (enters st (positions_items (items_of is))) refl where
      by : (b : Bool) → enters st (positions_items (items_of is)) ≡ b → sync_codes_as naming one p xs (code_handles_as naming run m is) st ≡ (if b then entered_items_as naming run enters once m p is st else ok (is, st))
      by true e = walks one m p around xs is st room o f ∙ sym rec
      by false e = items_stay naming notes run st one m p around xs is f s d (safe st (positions_items (items_of is)) e)

    -- where the items of a list that was read again are asked at once, whether one of those that stay is stale
    abbrev asked_once : (Path → Entry → State → Outcome ItemDone) → Path → List Entry → ItemCodes → State → Bool
    asked_once one p xs is st = if once then stale_taken_as naming one p xs (idle_handles is) st else true

    -- the items of a list that was read again
    synced_same : (one : Path → Entry → State → Outcome ItemDone) → OneLeft naming notes run one → (m : ℕ) (p : Path) (around : Id → ℕ) (xs : List Entry) (is : ItemCodes) (st : State) → Room st around (λ i. times_items i (items_of is)) → OwnsItems naming run is
        → SettledItems naming st around p is → NestsItems (items_of is) m → EachElem (ElemSame (entering_in m) (renewing naming notes run m)) (elems is)
        → sync_codes_as naming one p xs (if asked_once one p xs is st then entered_handles_as naming run enters once m is else idle_handles is) st ≡ sync_codes_as naming one p xs (code_handles_as naming run m is) st
    synced_same one ol m p around xs is st room o s d same =
        by (asked_once one p xs is st) refl ∙ ap (λ hs. sync_codes_as naming one p xs hs st) (sym (handles_are naming notes run m is)) where
          ro : Room st around (λ i. times_elems i (elems is))
          ro = room_less st around (λ i. times_elems i (elems is)) _ (λ i. let e = times_elems_of i is in omega (arith, e)) room

          by : (b : Bool) → asked_once one p xs is st ≡ b
              → sync_codes_as naming one p xs (if b then entered_handles_as naming run enters once m is else idle_handles is) st ≡ sync_codes_as naming one p xs (map (handle (renewing naming notes run m)) (elems is)) st
          by true e =
              ap (λ hs. sync_codes_as naming one p xs hs st) (entered_are m is)
              ∙ sync_same (entering_in m) (renewing naming notes run m) one ol p around xs (elems is) st same (elems_left naming notes run m is o) (elems_own is o) ro (elems_settled st around p is s)
          by false e =
              ap (λ hs. sync_codes_as naming one p xs hs st) (idle_are is)
              ∙ sync_idle (renewing naming notes run m) one ol p around xs (elems is) st (elems_stay m is d) (elems_own is o) ro (elems_settled st around p is s)
              (ap (λ hs. stale_taken_as naming one p xs hs st) (sym (idle_are is)) ∙ asked_none once _ e)

    abbrev entered_list : Listing → Spot → ℕ → Path → ItemCodes → State → Values Path → Outcome (Code × State)
    entered_list z x m p is t vs =
        let xs = entries z.key 0 [] vs in
        let olds = if asked_once (new_item z m) (items ∷ p) xs is t then entered_handles_as naming run enters once m is else idle_handles is in
        on_ok (sync_codes_as naming (new_item z m) (items ∷ p) xs olds t) (λ r. ok (listed_code z x r.0, r.1))

    mutual
      pub code_same : (m : ℕ) (p : Path) (around : Id → ℕ) (c : Code) (st : State) → Room st around (λ q. times q (live_of c)) → Owns naming run c → Settled naming st around p c → Nests (live_of c) m
          → entered_code_as naming run enters once m p c st ≡ renew_code_as naming run m p c st
      code_same m p around (still_code n) st room o s d = refl
      code_same m p around (put_code n x) st room o s d = refl
      code_same m p around (element_code n made xs zs cs) st room o s d =
          let a : Id → ℕ = λ q. hit q (node n) + times_attrs q xs in
          let c : Id → ℕ = λ q. times_in q (lives_of cs) in
          let st1 = renew_attrs n xs st in
          let l = attrs_left naming n xs st a (let i = hit_self (node n) in omega (arith, i)) (attrs_counted xs a (λ q w. omega (arith, w)) o.0) in
          let ro = room_less st around (λ q. a q + c q) _ (λ q. omega arith) room in
          ap (λ y. on_ok y (λ r. ok (element_code n made xs zs r.0, renew_mods zs r.1)))
          (codes_same m p 0 around cs st1 (room_beside naming st st1 around a c ro l) o.2 (codes_go naming run st st1 around p 0 cs (step_beside naming st st1 around a c ro l) o.2 s) d)
      code_same m p around (branch_code z x true k cs) st room o s d =
          let a : Id → ℕ = λ q. occurs q x.made in
          let c : Id → ℕ = λ q. times_in q (lives_of cs) in
          let st1 = reread x.ref st in
          let l = reread_left naming x.ref st a o.0 in
          let ro = room_less st around (λ q. a q + c q) _ (λ q. omega arith) room in
          let s1 = codes_go naming run st st1 around (main ∷ p) 0 cs (step_beside naming st st1 around a c ro l) o.2 s.1 in
          ap (λ y. cond {A = Outcome (Code × State)} (takes_first z.unless (first_value (spot_pairs st1 x.ref))) (on_ok y (λ r. ok (branch_with z x true (kept k r)))) (fresh_branch run z x false p m (dropped_as naming (λ q. times_in q (lives_of cs) + times_comment q k) st1)))
          (region_same enters safe m (main ∷ p) around cs st1 s1 d (codes_same m (main ∷ p) 0 around cs st1 (room_beside naming st st1 around a c ro l) o.2 s1 d))
      code_same m p around (branch_code z x false k cs) st room o s d =
          let a : Id → ℕ = λ q. occurs q x.made in
          let c : Id → ℕ = λ q. times_in q (lives_of cs) in
          let st1 = reread x.ref st in
          let l = reread_left naming x.ref st a o.0 in
          let ro = room_less st around (λ q. a q + c q) _ (λ q. omega arith) room in
          let s1 = codes_go naming run st st1 around (otherwise ∷ p) 0 cs (step_beside naming st st1 around a c ro l) o.2 s.1 in
          ap (λ y. cond {A = Outcome (Code × State)} (takes_first z.unless (first_value (spot_pairs st1 x.ref))) (fresh_branch run z x true p m (dropped_as naming (λ q. times_in q (lives_of cs) + times_comment q k) st1)) (on_ok y (λ r. ok (branch_with z x false (kept k r)))))
          (region_same enters safe m (otherwise ∷ p) around cs st1 s1 d (codes_same m (otherwise ∷ p) 0 around cs st1 (room_beside naming st st1 around a c ro l) o.2 s1 d))
      code_same m p around (listed_code z x is) st room o s d =
          by (is_stale st x.ref) refl (λ t r k. items_same m (items ∷ p) around is t r o.2 k d) (elems_same m is o.2 d) where
            by : (b : Bool) → is_stale st x.ref ≡ b
                → ((t : State) → Room t around (λ q. times_items q (items_of is)) → SettledItems naming t around (items ∷ p) is → entered_items_as naming run enters once m (items ∷ p) is t ≡ renew_items_as naming run m (items ∷ p) is t)
                → EachElem (ElemSame (entering_in m) (renewing naming notes run m)) (elems is)
                → (if b then (let st1 = evaluate x.ref st in by_values (values_listed (first_value (spot_pairs st1 x.ref))) (entered_list z x m p is st1) (other_body z x m p is st1))
                else on_ok (entering enters st (positions_items (items_of is)) is (entered_items_as naming run enters once m (items ∷ p) is st)) (λ r. ok (listed_code z x r.0, r.1)))
                ≡ (let st1 = (if b then evaluate x.ref st else st) in by_values (values_listed (first_value (spot_pairs st1 x.ref))) (plain_list z x m p is st1) (other_body z x m p is st1))
            by true e rec same =
                let a : Id → ℕ = λ q. occurs q x.made in
                let c : Id → ℕ = λ q. times_items q (items_of is) in
                let st1 = evaluate x.ref st in
                let l = evaluate_left naming x.ref st a o.0 in
                let s1 = items_go naming run st st1 around (items ∷ p) is (step_beside naming st st1 around a c room l) o.2 s.1 in
                values_same (values_listed (first_value (spot_pairs st1 x.ref))) (entered_list z x m p is st1) (plain_list z x m p is st1) (other_body z x m p is st1)
                (λ vs. ap (λ y. on_ok y (λ r. ok (listed_code z x r.0, r.1)))
                (synced_same (new_item z m) (one_left naming notes run z m o.1) m (items ∷ p) around (entries z.key 0 [] vs) is st1 (room_beside naming st st1 around a c room l) o.2 s1 d same))
            by false e rec same =
                let ri = room_less st around (λ q. times_items q (items_of is)) _ (λ q. omega arith) room in
                let K : ItemCodes × State → Outcome (Code × State) = λ r. ok (listed_code z x r.0, r.1) in
                sym
                (list_chosen (values_listed (first_value (spot_pairs st x.ref))) (λ vs. Fits st.look (entries z.key 0 [] vs) is) (plain_list z x m p is st) (other_body z x m p is st)
                (on_ok (entering enters st (positions_items (items_of is)) is (entered_items_as naming run enters once m (items ∷ p) is st)) K)
                (λ vs f. ap (λ y. on_ok y K) (items_region (new_item z m) m (items ∷ p) around (entries z.key 0 [] vs) is st ri o.2 s.1 d f (rec st ri s.1))) (s.0.holds e))
      code_same m p around (unlisted_code z x k cs) st room o s d =
          let a : Id → ℕ = λ q. occurs q x.made in
          let c : Id → ℕ = λ q. times_in q (lives_of cs) in
          let st1 = reread x.ref st in
          let l = reread_left naming x.ref st a o.0 in
          let ro = room_less st around (λ q. a q + c q) _ (λ q. omega arith) room in
          let s1 = codes_go naming run st st1 around (otherwise ∷ p) 0 cs (step_beside naming st st1 around a c ro l) o.2 s.1 in
          ap (λ y. by_values (values_listed (first_value (spot_pairs st1 x.ref)))
          (λ vs. on_ok (fresh_codes (fresh_item_as naming run z m) (items ∷ p) (entries z.key 0 [] vs) (dropped_as naming (λ q. times_in q (lives_of cs) + times_comment q k) st1)) (λ r. ok (listed_code z x r.0, r.1)))
          (on_ok y (λ r. ok (unlisted_with z x (kept k r)))))
          (region_same enters safe m (otherwise ∷ p) around cs st1 s1 d (codes_same m (otherwise ∷ p) 0 around cs st1 (room_beside naming st st1 around a c ro l) o.2 s1 d))
      code_same m p around (let_code made rs cs) st room o s d =
          ap (λ y. on_ok y (λ r. ok (let_code made rs r.0, r.1))) (codes_same m (main ∷ p) 0 (with_made made around) cs st (room_into st around (λ q. times_in q (lives_of cs)) made s.0 room) o s.1 d)
      code_same zero p around (component_code i made gm args k cs) st room o s d = refl
      code_same (suc m) p around (component_code i made gm args k cs) st room o s d =
          ap (λ y. on_ok y (λ r. ok (component_code i made gm args k r.0, r.1)))
          (region_same enters safe m i.path (with_made made around) cs st s.1 d (codes_same m i.path 0 (with_made made around) cs st (room_into st around (λ q. times_in q (lives_of cs)) made s.0 room) o s.1 d))
      code_same m p around (yield_code n made rs cs) st room o s d =
          ap (λ y. on_ok y (λ r. ok (yield_code n made rs r.0, r.1))) (codes_same m (slot n ∷ p) 0 (with_made made around) cs st (room_into st around (λ q. times_in q (lives_of cs)) made s.0 room) o s.1 d)

      pub codes_same : (m : ℕ) (p : Path) (i : ℕ) (around : Id → ℕ) (cs : Codes) (st : State) → Room st around (λ q. times_in q (lives_of cs)) → OwnsIn naming run cs → SettledIn naming st around p i cs → NestsIn (lives_of cs) m
          → entered_codes_as naming run enters once m p i cs st ≡ renew_codes_as naming run m p i cs st
      codes_same m p i around no_codes st room o s d = refl
      codes_same m p i around (code_and c cs) st room o s d =
          let ca : Id → ℕ = λ q. times q (live_of c) in
          let cb : Id → ℕ = λ q. times_in q (lives_of cs) in
          ap (λ y. on_ok y (λ r. on_ok (entered_codes_as naming run enters once m p (suc i) cs r.1) (λ z. ok (code_and r.0 z.0, z.1)))) (code_same m (at i ∷ p) around c st (room_less st around ca _ (λ q. omega arith) room) o.0 s.0 d.0)
          ∙ Rattle.gl_guards.proofs.Leaves.on_same (renew_code_as naming run m (at i ∷ p) c st) (λ r. on_ok (entered_codes_as naming run enters once m p (suc i) cs r.1) (λ z. ok (code_and r.0 z.0, z.1)))
          (λ r. on_ok (renew_codes_as naming run m p (suc i) cs r.1) (λ z. ok (code_and r.0 z.0, z.1))) (λ r. Leaves naming st r.1 ca) (Rattle.gl_guards.proofs.Parts.code_left naming notes run m (at i ∷ p) c st o.0)
          (λ r l. ap (λ y. on_ok y (λ z. ok (code_and r.0 z.0, z.1)))
          (codes_same m p (suc i) around cs r.1 (room_beside naming st r.1 around ca cb room l) o.1 (codes_go naming run st r.1 around p (suc i) cs (step_beside naming st r.1 around ca cb room l) o.1 s.1) d.1))

      pub items_same : (m : ℕ) (p : Path) (around : Id → ℕ) (is : ItemCodes) (st : State) → Room st around (λ q. times_items q (items_of is)) → OwnsItems naming run is → SettledItems naming st around p is → NestsItems (items_of is) m
          → entered_items_as naming run enters once m p is st ≡ renew_items_as naming run m p is st
      items_same m p around no_item_codes st room o s d = refl
      items_same m p around (item_code z k cs is) st room o s d =
          let q = item z.key z.occurrence ∷ p in
          let inside = with_made (item_made z) around in
          let ca : Id → ℕ = λ i. times_in i (lives_of cs) in
          let cb : Id → ℕ = λ i. times_items i (items_of is) in
          let ri = room_into st around ca (item_made z) s.0.0 (room_less st around (λ i. occurs i (item_made z) + ca i) _ (λ i. omega arith) room) in
          let ro = room_less st around (λ i. ca i + cb i) _ (λ i. omega arith) room in
          ap (λ y. on_ok y (λ r. on_ok (entered_items_as naming run enters once m p is r.1) (λ w. ok (item_code z k r.0 w.0, w.1)))) (region_same enters safe m q inside cs st s.0.3 d.0 (codes_same m q 0 inside cs st ri o.0 s.0.3 d.0))
          ∙ Rattle.gl_guards.proofs.Leaves.on_same (renew_codes_as naming run m q 0 cs st) (λ r. on_ok (entered_items_as naming run enters once m p is r.1) (λ w. ok (item_code z k r.0 w.0, w.1)))
          (λ r. on_ok (renew_items_as naming run m p is r.1) (λ w. ok (item_code z k r.0 w.0, w.1))) (λ r. Leaves naming st r.1 ca) (codes_left naming notes run m q 0 cs st o.0)
          (λ r l. ap (λ y. on_ok y (λ w. ok (item_code z k r.0 w.0, w.1)))
          (items_same m p around is r.1 (room_beside naming st r.1 around ca cb ro l) o.1 (items_go naming run st r.1 around p is (step_beside naming st r.1 around ca cb ro l) o.1 s.1) d.1))

      pub elems_same : (m : ℕ) (is : ItemCodes) → OwnsItems naming run is → NestsItems (items_of is) m → EachElem (ElemSame (entering_in m) (renewing naming notes run m)) (elems is)
      elems_same m no_item_codes o d = tt
      elems_same m (item_code z k cs is) o d = ((λ q st around room s. region_same enters safe m q around cs st s d.0 (codes_same m q 0 around cs st room o.0 s d.0)), elems_same m is o.1 d.1)

  -- an item that is entered where one of its positions is stale
  abbrev pub guarding : ℕ → Goes
  guarding m cs q st = guard st (positions_in (lives_of cs)) cs (guarded_codes_as naming run m q 0 cs st)
