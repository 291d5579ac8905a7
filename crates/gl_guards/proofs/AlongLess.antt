-- An update that goes along answers no more questions than one asks that passes over just what is fresh.
use Rattle.std.proofs.Common.{◌≡◌, ℕ, zero, suc, ◌+◌, ◌≤◌, List, [], ◌∷◌, map, Bool, true, false, ◌||◌, Option, Some, None, option_map, refl, sym, ◌∙◌, ap, subst, arith}
use Rattle.std.specs.Prelude.{if◌then◌else◌, length, nat_eq}
use Rattle.std.proofs.lemmas.Bool.Decides.{Decides-eqb}
use Rattle.gl_value.specs.Value.{Values, no_values, value}
use Rattle.gl_meaning.specs.Path.{at, main, otherwise, items, item, slot, Path}
use Rattle.gl_meaning.specs.Eval.{takes_first}
use Rattle.gl_meaning.specs.Render.{Entry, entries, values_listed}
use Rattle.gl_meaning.specs.Session.{applied}
use Rattle.gl_plain.specs.Ids.{Id, node, hit, occurs}
use Rattle.gl_plain.specs.State.{State}
use Rattle.gl_plain.specs.Naming.{Naming, by_number, dropped_as}
use Rattle.gl_plain.specs.Binding.{Spot, first_value}
use Rattle.gl_plain.specs.Live.{item_made, times, times_in, times_items, times_attrs, times_comment}
use Rattle.gl_plain.specs.Counts.{positions_in, positions_items}
use Rattle.gl_plain.specs.Renew.{spot_pairs, is_stale, evaluate, reread, renew_attrs, renew_mods}
use Rattle.gl_plain.specs.Turns.{begin}
use Rattle.gl_plain.proofs.Moves.{hit_self}
use Rattle.gl_kept.specs.Around.{with_made}
use Rattle.gl_naming.proofs.Choices.{where_list}
use Rattle.gl_machine.specs.Code.{Listing, Code, still_code, put_code, element_code, branch_code, listed_code, unlisted_code, let_code, component_code, yield_code, ItemCodes, no_item_codes, item_code, items_of, Codes, no_codes, code_and, live_of, lives_of}
use Rattle.gl_machine.specs.Nesting.{Nests, NestsIn, NestsItems}
use Rattle.gl_machine.specs.Outcome.{Outcome, ok, deep, lost, on_ok}
use Rattle.gl_machine.specs.RenewCode.{Runs, kept, ItemDone, item_done, CodeHandle, taken_code, with_left, item_with, renew_item_code_as, sync_one_code_as, sync_codes_as, by_values, fresh_other, fresh_item_as, renew_code_as, renew_codes_as, code_handles_as}
use Rattle.gl_machine.specs.Step.{run_for_as}
use Rattle.gl_follows.specs.Sets.{set_all_by, AreThere, put_all}
use Rattle.gl_follows.proofs.Owners.{puts_by}
use Rattle.gl_guards.specs.Guarded.{any_stale, entering, guard, if_ok, with_taken, given_as, idle_handles, stale_taken_as, entered_codes_as, guarded_code_as, guarded_codes_as, renew_items_as}
use Rattle.gl_guards.specs.Along.{few, enters_few, whole, enters_whole, along_code_as, along_codes_as, along_body_as, along_items_as}
use Rattle.gl_guards.specs.Questions.{region, after, OldItem, taken_item, where_taken, synced_asks_as, code_asks_as, codes_asks_as, items_asks_as, old_items_as, root_asks_as}
use Rattle.gl_guards.specs.AlongAsks.{gone_along, stay_count, stay_asks_as, together, along_asks_as, along_asks_in, along_asks_items, along_olds_as, along_asks_root}
use Rattle.gl_guards.specs.Settled.{PassesFresh, Leaves, Ended, NotesApart, OwnSpot, ListingApart, Owns, OwnsItems, OwnsIn, Fits, Settled, SettledItems, SettledIn, Room}
use Rattle.gl_guards.specs.Laws.{AlongAsksLess, PutsAskAlong}
use Rattle.gl_guards.proofs.Leaves.{reread_left, evaluate_left, attrs_left}
use Rattle.gl_guards.proofs.Fresh.{or_left, or_right, codes_stay, items_stay}
use Rattle.gl_guards.proofs.Parts.{Elem, Goes, handle, elems, taken_elem, both_handles, handles_taken, old_with, both_old, old_taken, times_elem, times_elems, times_elems_of, EachElem, Parted, parted, OneLeft, one_left, item_left, renewing, handles_are, attrs_counted, code_left, codes_left}
use Rattle.gl_guards.proofs.Steps.{codes_go, items_go, room_less, room_into, room_beside, step_beside}
use Rattle.gl_guards.proofs.Same.{fresh_alone, SettledAt, SettledElem, ElemOwns, elems_settled, elems_go, given_settled, path_is, idle, idle_are, walks, region_same, code_same, codes_same, items_same, guarding}
use Rattle.gl_guards.proofs.Outcomes.{Holds, holds_on, holds_both, holds_then}
use Rattle.gl_guards.proofs.Joined.{namings_apart}
use Rattle.gl_guards.proofs.Pages.{turn_may_pass, puts_are_renew, over_enters, puts_go_along}
use Rattle.gl_guards.proofs.TurnAsks.{puts_ask}

-- it ended well
abbrev Well : {A : Type 0} → Outcome A → Type 0
Well o = Holds o (λ x. Unit {0})

well_on : {A B : Type 0} (o : Outcome A) (f : A → Outcome B) → Well (on_ok o f) → Well o
well_on (ok x) f w = tt
well_on deep f w = w
well_on lost f w = w

-- what is asked after the same
after_both : {A : Type 0} (o : Outcome A) (f g : A → ℕ) → Holds o (λ r. f r ≤ g r) → after o f ≤ after o g
after_both (ok r) f g h = h
after_both deep f g h = absurd h
after_both lost f g h = absurd h

after_less : {A : Type 0} (o o' u : Outcome A) (f g : A → ℕ) → o ≡ u → o' ≡ u → Holds u (λ r. f r ≤ g r) → after o f ≤ after o' g
after_less o o' u f g e e' h = let i = ap (λ y. after y f) e in let j = ap (λ y. after y g) e' in let k = after_both u f g h in omega (arith, i, j, k)

none_less : (b : Bool) (n : ℕ) → (if b then 0 else n) ≤ n
none_less true n = omega arith
none_less false n = omega arith

cond_less : (b : Bool) (n n' k k' : ℕ) → (b ≡ true → n ≤ k) → (b ≡ false → n' ≤ k') → (if b then n else n') ≤ (if b then k else k')
cond_less true n n' k k' f g = f refl
cond_less false n n' k k' f g = g refl

values_less : (vs : Values Path) (n k : ℕ) → n ≤ k → by_values vs (λ us. 0) n ≤ by_values vs (λ us. 0) k
values_less no_values n k le = le
values_less (value v vs) n k le = omega arith

-- n is at most so many, and just what is told where b is false
abbrev Both : ℕ → ℕ → ℕ → Bool → Type 0
Both n most told b = (n ≤ most) × (b ≡ false → n ≡ told)

-- Regions

-- where nothing was evaluated, and where something may have been
gone_once : {A : Type 0} (st : State) (x : A) (n : ℕ) → gone_along st (ok (x, st)) n ≡ 1
gone_once st x n = ap (λ b. 1 + (if b then 0 else n)) ((Decides-eqb (length st.evaluated) (length st.evaluated)).1 refl)

gone_most : {A : Type 0} (st : State) (o : Outcome (A × State)) (n k : ℕ) → (Well o → n ≤ k) → gone_along st o n ≤ 1 + k
gone_most st (ok r) n k f = let i = f tt in let j = none_less (nat_eq (length r.1.evaluated) (length st.evaluated)) n in omega (arith, i, j)
gone_most st deep n k f = omega arith
gone_most st lost n k f = omega arith

-- what a question passes over that is fresh is as it would be
entering_same : (enters : State → List ℕ → Bool) → PassesFresh enters → {A : Type 0} (st : State) (rs : List ℕ) (x : A) (o u : Outcome (A × State)) → o ≡ u → (any_stale st rs ≡ false → u ≡ ok (x, st)) → entering enters st rs x o ≡ u
entering_same enters safe st rs x o u e f = by (enters st rs) refl where
  by : (b : Bool) → enters st rs ≡ b → (if b then o else ok (x, st)) ≡ u
  by true g = e
  by false g = sym (f (safe st rs g))

region_less : (enters : State → List ℕ → Bool) → PassesFresh enters → {A : Type 0} (st : State) (rs : List ℕ) (x : A) (o u : Outcome (A × State)) (n k : ℕ) → o ≡ u → (any_stale st rs ≡ false → u ≡ ok (x, st)) → (Well u → n ≤ k)
    → gone_along st (entering enters st rs x o) n ≤ region st rs k
region_less enters safe st rs x o u n k e f g = subst (λ y. gone_along st y n ≤ region st rs k) (sym (entering_same enters safe st rs x o u e f)) (by (any_stale st rs) refl) where
  by : (b : Bool) → any_stale st rs ≡ b → gone_along st u n ≤ 1 + (if b then k else 0)
  by true h = gone_most st u n k g
  by false h = let i = ap (λ y. gone_along st y n) (f h) in let j = gone_once st x n in omega (arith, i, j)

-- the items of a list that was read again, where those that stay were asked no more than one each if none of them is stale
together_less : (b : Bool) (kept asked most : ℕ) → Both asked most kept b → together kept asked ≤ 1 + (if b then most else 0)
together_less true kept asked most h = let i = none_less (nat_eq asked kept) asked in let le = h.0 in omega (arith, le, i)
together_less false kept asked most h = let i = ap (λ b. 1 + (if b then 0 else asked)) ((Decides-eqb asked kept).1 (h.1 refl)) in omega (arith, i)

module _ (naming : Naming) (notes : NotesApart naming) (run : Runs) where
  abbrev going : ℕ → Goes
  going m cs q st = along_body_as naming run m q cs st

  -- an update that passes over what is fresh does what the update does, on a body that is a region
  body_same : (enters : State → List ℕ → Bool) → PassesFresh enters → (once : Bool) (m : ℕ) (q : Path) (around : Id → ℕ) (cs : Codes) (st : State) → Room st around (λ i. times_in i (lives_of cs)) → OwnsIn naming run cs → SettledIn naming st around q 0 cs
      → NestsIn (lives_of cs) m → entering enters st (positions_in (lives_of cs)) cs (entered_codes_as naming run enters once m q 0 cs st) ≡ renew_codes_as naming run m q 0 cs st
  body_same enters safe once m q around cs st room o s d = region_same naming notes run enters safe m q around cs st s d (codes_same naming notes run enters safe once m q 0 around cs st room o s d)

  -- A body is asked no more where its update ends well. Where it stops, so does what stands around it, up to a region, which then counts one.
  abbrev InLess : ℕ → Path → Codes → Type 0
  InLess m q cs =
      (st : State) (around : Id → ℕ) → Room st around (λ i. times_in i (lives_of cs)) → SettledIn naming st around q 0 cs → Well (renew_codes_as naming run m q 0 cs st)
      → along_asks_in naming run m q 0 cs st ≤ codes_asks_as naming run m q 0 cs st

  body_less : (m : ℕ) (q : Path) (around : Id → ℕ) (cs : Codes) (st : State) → Room st around (λ i. times_in i (lives_of cs)) → OwnsIn naming run cs → SettledIn naming st around q 0 cs → NestsIn (lives_of cs) m → InLess m q cs
      → gone_along st (going m cs q st) (along_asks_in naming run m q 0 cs st) ≤ region st (positions_in (lives_of cs)) (codes_asks_as naming run m q 0 cs st)
  body_less m q around cs st room o s d rec =
      region_less enters_few (over_enters few) st (positions_in (lives_of cs)) cs (along_codes_as naming run m q 0 cs st) (renew_codes_as naming run m q 0 cs st) (along_asks_in naming run m q 0 cs st) (codes_asks_as naming run m q 0 cs st)
      (codes_same naming notes run enters_few (over_enters few) false m q 0 around cs st room o s d) (λ e. codes_stay naming notes run st m q 0 around cs s d e) (λ w. rec st around room s w)

  -- a body behind a position that is read again
  reread_less : (m : ℕ) (q : Path) (around : Id → ℕ) (x : Spot) (k : Option ℕ) (cs : Codes) (st : State) → Room st around (λ i. occurs i x.made + (times_in i (lives_of cs) + times_comment i k)) → OwnSpot x → OwnsIn naming run cs
      → SettledIn naming st around q 0 cs → NestsIn (lives_of cs) m → InLess m q cs
      → let st1 = reread x.ref st in gone_along st1 (going m cs q st1) (along_asks_in naming run m q 0 cs st1) ≤ region st1 (positions_in (lives_of cs)) (codes_asks_as naming run m q 0 cs st1)
  reread_less m q around x k cs st room own o s d rec =
      let a : Id → ℕ = λ i. occurs i x.made in
      let c : Id → ℕ = λ i. times_in i (lives_of cs) in
      let st1 = reread x.ref st in
      let l = reread_left naming x.ref st a own in
      let ro = room_less st around (λ i. a i + c i) _ (λ i. omega arith) room in
      body_less m q around cs st1 (room_beside naming st st1 around a c ro l) o (codes_go naming run st st1 around q 0 cs (step_beside naming st st1 around a c ro l) o s) d rec

  -- Lists that were read again

  abbrev along_old : ℕ → Elem → OldItem
  along_old m = old_with (going m) (λ cs q st. along_asks_in naming run m q 0 cs st)

  abbrev guarded_old : ℕ → Elem → OldItem
  guarded_old m = old_with (guarding naming notes run m) (λ cs q st. codes_asks_as naming run m q 0 cs st)

  along_are : (m : ℕ) (is : ItemCodes) → along_olds_as naming run m is ≡ map (along_old m) (elems is)
  along_are m no_item_codes = refl
  along_are m (item_code z k cs is) = ap (λ hs. along_old m (record { spot = z; comment = k; codes = cs }) ∷ hs) (along_are m is)

  guarded_are : (m : ℕ) (is : ItemCodes) → old_items_as naming run m is ≡ map (guarded_old m) (elems is)
  guarded_are m no_item_codes = refl
  guarded_are m (item_code z k cs is) = ap (λ hs. guarded_old m (record { spot = z; comment = k; codes = cs }) ∷ hs) (guarded_are m is)

  -- what is known of an old item
  abbrev ItemLess : ℕ → Elem → Type 0
  ItemLess m h = OwnsIn naming run h.codes × NestsIn (lives_of h.codes) m × ((q : Path) → InLess m q h.codes)

  all_own : (m : ℕ) (hs : List Elem) → EachElem (ItemLess m) hs → EachElem (ElemOwns naming notes run) hs
  all_own m [] b = tt
  all_own m (h ∷ hs) b = (b.0.0, all_own m hs b.1)

  module _ (m : ℕ) (one : Path → Entry → State → Outcome ItemDone) (ol : OneLeft naming notes run one) (p : Path) (around : Id → ℕ) where
    abbrev ren : Goes
    ren = renewing naming notes run m

    abbrev idly : Goes
    idly = idle naming notes run

    -- those that stay are asked no more, and one each where none of them is stale
    abbrev Less : List Entry → List Elem → State → Type 0
    Less xs hs st =
        Both (stay_asks_as naming one p xs (map (along_old m) hs) st) (synced_asks_as naming one p xs (map (guarded_old m) hs) st) (stay_count xs (map (along_old m) hs)) (stale_taken_as naming one p xs (map (handle idly) hs) st)

    abbrev More : List Entry → List Elem → State → Type 0
    More xs hs st =
        EachElem (ItemLess m) hs → Room st around (λ i. times_elems i hs) → EachElem (SettledElem naming notes run st around p) hs → Well (sync_codes_as naming one p xs (map (handle ren) hs) st) → Less xs hs st

    -- of the others, once an item was updated or appended, which counts a
    rests : (xs : List Entry) (a : Id → ℕ) (gs : List Elem) (st : State) (o : Outcome ItemDone) → Ended o (λ d. Leaves naming st d.arm.state a) → EachElem (ItemLess m) gs → Room st around (λ i. a i + times_elems i gs)
        → EachElem (SettledElem naming notes run st around p) gs → Well (on_ok (on_ok o (with_left (map (handle ren) gs))) (λ y. on_ok (sync_codes_as naming one p xs y.1 y.0.arm.state) (λ r. ok (item_with y.0 r)))) → ((t : State) → More xs gs t)
        → Holds o (λ d. Less xs gs d.arm.state)
    rests xs a gs st (ok d) l b room k w rec =
        rec d.arm.state b (room_beside naming st d.arm.state around a (λ i. times_elems i gs) room l)
        (elems_go naming notes run st d.arm.state around p gs (step_beside naming st d.arm.state around a (λ i. times_elems i gs) room l) (all_own m gs b) k)
        (well_on (sync_codes_as naming one p xs (map (handle ren) gs) d.arm.state) (λ r. ok (item_with d r)) w)
    rests xs a gs st deep l b room k w rec = w
    rests xs a gs st lost l b room k w rec = w

    -- after an item that was appended
    appended_less : (xs : List Entry) (hs : List Elem) (o : Outcome ItemDone) → Holds o (λ d. Less xs hs d.arm.state)
        → Both (after o (λ d. stay_asks_as naming one p xs (map (along_old m) hs) d.arm.state)) (after o (λ d. synced_asks_as naming one p xs (map (guarded_old m) hs) d.arm.state)) (stay_count xs (map (along_old m) hs))
        (if_ok o (λ d. stale_taken_as naming one p xs (map (handle idly) hs) d.arm.state))
    appended_less xs hs (ok d) h = h
    appended_less xs hs deep h = absurd h
    appended_less xs hs lost h = absurd h

    -- the same of an entry and the others, by which old item is taken
    abbrev Next : Entry → List Entry → List Elem → State → Option (OldItem × List OldItem) → Option (OldItem × List OldItem) → Option (CodeHandle × List CodeHandle) → Type 0
    Next x xs hs st a g i =
        let q = item x.key x.occurrence ∷ p in
        Both
        (where_taken a (λ h rest. let st2 = given_as naming q x h.handle st in gone_along st2 (h.handle.go q st2) (h.asks q st2) + after (h.handle.go q st2) (λ r. stay_asks_as naming one p xs rest r.1))
        (after (one q x st) (λ d. stay_asks_as naming one p xs (map (along_old m) hs) d.arm.state)))
        (where_taken g (λ h rest. let st2 = given_as naming q x h.handle st in region st2 (positions_in (lives_of h.handle.codes)) (h.asks q st2) + after (h.handle.go q st2) (λ r. synced_asks_as naming one p xs rest r.1))
        (after (one q x st) (λ d. synced_asks_as naming one p xs (map (guarded_old m) hs) d.arm.state)))
        (where_taken a (λ h rest. 1 + stay_count xs rest) (stay_count xs (map (along_old m) hs)))
        (with_taken i (λ h rest. let st2 = given_as naming q x h st in any_stale st2 (positions_in (lives_of h.codes)) || stale_taken_as naming one p xs rest st2)
        (if_ok (one q x st) (λ d. stale_taken_as naming one p xs (map (handle idly) hs) d.arm.state)))

    sync_less : (xs : List Entry) (hs : List Elem) (st : State) → More xs hs st
    sync_less [] hs st b room k w = (omega arith, λ e. refl)
    sync_less (x ∷ xs) hs st b room k w =
        let y = taken_elem x hs in
        subst (λ a. Next x xs hs st a (taken_item x (map (guarded_old m) hs)) (taken_code x (map (handle idly) hs))) (sym (old_taken (going m) _ x hs))
        (subst (λ g. Next x xs hs st (option_map (both_old (along_old m)) y) g (taken_code x (map (handle idly) hs))) (sym (old_taken (guarding naming notes run m) _ x hs))
        (subst (λ i. Next x xs hs st (option_map (both_old (along_old m)) y) (option_map (both_old (guarded_old m)) y) i) (sym (handles_taken idly x hs))
        (by y (parted x hs) (λ gs t. sync_less xs gs t)
        (subst (λ o. Well (on_ok (sync_one_code_as naming one (item x.key x.occurrence ∷ p) x (map (handle ren) hs) o st) (λ z. on_ok (sync_codes_as naming one p xs z.1 z.0.arm.state) (λ r. ok (item_with z.0 r))))) (handles_taken ren x hs) w)))) where
          by : (o : Option (Elem × List Elem)) → Parted x hs o → ((gs : List Elem) (t : State) → More xs gs t)
              → Well (on_ok (sync_one_code_as naming one (item x.key x.occurrence ∷ p) x (map (handle ren) hs) (option_map (both_handles ren) o) st) (λ z. on_ok (sync_codes_as naming one p xs z.1 z.0.arm.state) (λ r. ok (item_with z.0 r))))
              → Next x xs hs st (option_map (both_old (along_old m)) o) (option_map (both_old (guarded_old m)) o) (option_map (both_handles idly) o)
          by None e rec v =
              let q = item x.key x.occurrence ∷ p in
              appended_less xs hs (one q x st) (rests xs (λ i. 0) hs st (one q x st) (ol q x st) b (room_less st around (λ i. 0 + times_elems i hs) _ (λ i. omega arith) room) k v (rec hs))
          by (Some y) e rec v =
              let q = item x.key x.occurrence ∷ p in
              let cs = y.0.codes in
              let st2 = given_as naming q x (handle ren y.0) st in
              let bs = e.2 (ItemLess m) b in
              let ks = e.2 (SettledElem naming notes run st around p) k in
              let ro : Room st around (λ i. times_elem i y.0 + times_elems i y.1) = room_less st around (λ i. times_elem i y.0 + times_elems i y.1) _ (λ i. let c = e.1 i in omega (arith, c)) room in
              let now = given_settled naming notes run q x (handle ren y.0) cs st around (room_less st around (λ i. times_elem i y.0) _ (λ i. omega arith) ro) bs.0.0 (subst (λ j. SettledAt naming notes run st around j y.0) (path_is naming notes run x y.0 p e.0) ks.0) in
              let inside = with_made (item_made y.0.spot) around in
              let u = renew_codes_as naming run m q 0 cs st2 in
              let n = along_asks_in naming run m q 0 cs st2 in
              let here = body_less m q inside cs st2 now.0 bs.0.0 now.1 bs.0.1 (bs.0.2 q) in
              let same = body_same enters_few (over_enters few) false m q inside cs st2 now.0 bs.0.0 now.1 bs.0.1 in
              let more : Holds u (λ r. Less xs y.1 r.1) =
              holds_on u (λ r. ok (item_done y.0.spot (kept y.0.comment r))) (λ d. Less xs y.1 d.arm.state)
              (rests xs (λ i. times_elem i y.0) y.1 st (renew_item_code_as naming q x (handle ren y.0) st) (item_left naming notes run ren q x y.0 st (λ j t. codes_left naming notes run m j 0 cs t bs.0.0)) bs.1 ro ks.1 v (rec y.1)) in
              let le =
              after_less (going m cs q st2) (guarding naming notes run m cs q st2) u (λ r. stay_asks_as naming one p xs (map (along_old m) y.1) r.1) (λ r. synced_asks_as naming one p xs (map (guarded_old m) y.1) r.1) same
              (body_same any_stale fresh_alone true m q inside cs st2 now.0 bs.0.0 now.1 bs.0.1) (holds_then u _ _ more (λ r z. z.0)) in (
                omega (arith, here, le),
                λ f.
                    let idles = codes_stay naming notes run st2 m q 0 inside cs now.1 bs.0.1 (or_left (any_stale st2 (positions_in (lives_of cs))) _ f) in
                    let rest : Less xs y.1 st2 = subst (λ o. Holds o (λ r. Less xs y.1 r.1)) idles more in
                    let i = ap (λ o. gone_along st2 o n + after o (λ r. stay_asks_as naming one p xs (map (along_old m) y.1) r.1)) (same ∙ idles) in
                    let j = gone_once st2 cs n in
                    let c = rest.1 (or_right (any_stale st2 (positions_in (lives_of cs))) _ f) in omega (arith, i, j, c),
              )

  list_less : (m : ℕ) (p : Path) (around : Id → ℕ) (z : Listing) (x : Spot) (is : ItemCodes) (st : State) → ListingApart naming run z → EachElem (ItemLess m) (elems is) → Room st around (λ q. times_items q (items_of is)) → SettledItems naming st around (items ∷ p) is
      → (vs : Values Path) (o : Outcome (Code × State)) → let one = fresh_item_as naming run z m in
      Well (by_values vs (λ us. on_ok (sync_codes_as naming one (items ∷ p) (entries z.key 0 [] us) (code_handles_as naming run m is) st) (λ r. ok (listed_code z x r.0, r.1))) o)
      → by_values vs (λ us. let xs = entries z.key 0 [] us in let olds = along_olds_as naming run m is in together (stay_count xs olds) (stay_asks_as naming one (items ∷ p) xs olds st)) 0
      ≤ by_values vs (λ us. let xs = entries z.key 0 [] us in 1 + (if stale_taken_as naming one (items ∷ p) xs (idle_handles is) st then synced_asks_as naming one (items ∷ p) xs (old_items_as naming run m is) st else 0)) 0
  list_less m p around z x is st la b room s no_values o w = omega arith
  list_less m p around z x is st la b room s (value v vs) o w =
      let one = fresh_item_as naming run z m in
      let xs = entries z.key 0 [] (value v vs) in
      let hs = elems is in
      let Le : List OldItem → List OldItem → List CodeHandle → Type 0 = λ a g i.
      together (stay_count xs a) (stay_asks_as naming one (items ∷ p) xs a st) ≤ 1 + (if stale_taken_as naming one (items ∷ p) xs i st then synced_asks_as naming one (items ∷ p) xs g st else 0) in
      let le =
      sync_less m one (one_left naming notes run z m la) (items ∷ p) around xs hs st b (room_less st around (λ i. times_elems i hs) _ (λ i. let e = times_elems_of i is in omega (arith, e)) room) (elems_settled naming notes run st around (items ∷ p) is s)
      (subst (λ gs. Well (sync_codes_as naming one (items ∷ p) xs gs st)) (handles_are naming notes run m is) (well_on (sync_codes_as naming one (items ∷ p) xs (code_handles_as naming run m is) st) (λ r. ok (listed_code z x r.0, r.1)) w)) in
      subst (λ a. Le a (old_items_as naming run m is) (idle_handles is)) (sym (along_are m is))
      (subst (λ g. Le (map (along_old m) hs) g (idle_handles is)) (sym (guarded_are m is))
      (subst (λ i. Le (map (along_old m) hs) (map (guarded_old m) hs) i) (sym (idle_are naming notes run is))
      (together_less (stale_taken_as naming one (items ∷ p) xs (map (handle (idle naming notes run)) hs) st) _ _ _ le)))

  -- Parts

  mutual
    code_less : (m : ℕ) (p : Path) (around : Id → ℕ) (c : Code) (st : State) → Room st around (λ q. times q (live_of c)) → Owns naming run c → Settled naming st around p c → Nests (live_of c) m → Well (renew_code_as naming run m p c st)
        → along_asks_as naming run m p c st ≤ code_asks_as naming run m p c st
    code_less m p around (still_code n) st room o s d w = omega arith
    code_less m p around (put_code n x) st room o s d w = omega arith
    code_less m p around (element_code n made xs zs cs) st room o s d w =
        let a : Id → ℕ = λ q. hit q (node n) + times_attrs q xs in
        let c : Id → ℕ = λ q. times_in q (lives_of cs) in
        let st1 = renew_attrs n xs st in
        let l = attrs_left naming n xs st a (let i = hit_self (node n) in omega (arith, i)) (attrs_counted xs a (λ q v. omega (arith, v)) o.0) in
        let ro = room_less st around (λ q. a q + c q) _ (λ q. omega arith) room in
        let le =
        codes_less m p 0 around cs st1 (room_beside naming st st1 around a c ro l) o.2 (codes_go naming run st st1 around p 0 cs (step_beside naming st st1 around a c ro l) o.2 s) d
        (well_on (renew_codes_as naming run m p 0 cs st1) (λ r. ok (element_code n made xs zs r.0, renew_mods zs r.1)) w) in omega (arith, le)
    code_less m p around (branch_code z x true k cs) st room o s d w =
        let le = reread_less m (main ∷ p) around x k cs st room o.0 o.2 s.1 d (λ t a r v w'. codes_less m (main ∷ p) 0 a cs t r o.2 v d w') in
        let i = cond_less (takes_first z.unless (first_value (spot_pairs (reread x.ref st) x.ref))) _ 0 _ 0 (λ e. le) (λ e. omega arith) in omega (arith, i)
    code_less m p around (branch_code z x false k cs) st room o s d w =
        let le = reread_less m (otherwise ∷ p) around x k cs st room o.0 o.2 s.1 d (λ t a r v w'. codes_less m (otherwise ∷ p) 0 a cs t r o.2 v d w') in
        let i = cond_less (takes_first z.unless (first_value (spot_pairs (reread x.ref st) x.ref))) 0 _ 0 _ (λ e. omega arith) (λ e. le) in omega (arith, i)
    code_less m p around (listed_code z x is) st room o s d w =
        let a : Id → ℕ = λ q. occurs q x.made in
        let c : Id → ℕ = λ q. times_items q (items_of is) in
        let st1 = evaluate x.ref st in
        let one = fresh_item_as naming run z m in
        let l = evaluate_left naming x.ref st a o.0 in
        let s1 = items_go naming run st st1 around (items ∷ p) is (step_beside naming st st1 around a c room l) o.2 s.1 in
        let ri = room_less st around c _ (λ q. omega arith) room in
        let u = renew_items_as naming run m (items ∷ p) is st in
        let W : Bool → Type 0 = λ b.
        (let t = (if b then st1 else st) in
        Well (by_values (values_listed (first_value (spot_pairs t x.ref))) (λ vs. on_ok (sync_codes_as naming one (items ∷ p) (entries z.key 0 [] vs) (code_handles_as naming run m is) t) (λ r. ok (listed_code z x r.0, r.1))) (fresh_other run z x p m (dropped_as naming c t)))) in
        cond_less (is_stale st x.ref) _ _ _ _
        (λ e. let le = list_less m p around z x is st1 o.1 (elems_less m is o.2 d) (room_beside naming st st1 around a c room l) s1 (values_listed (first_value (spot_pairs st1 x.ref))) _ (subst W e w) in omega (arith, le))
        (λ e.
        let idles : any_stale st (positions_items (items_of is)) ≡ false → u ≡ ok (is, st) = λ f.
        where_list (u ≡ ok (is, st)) (values_listed (first_value (spot_pairs st x.ref))) (λ vs. Fits st.look (entries z.key 0 [] vs) is)
        (λ vs h. sym (walks naming notes run one m (items ∷ p) around (entries z.key 0 [] vs) is st ri o.2 h) ∙ items_stay naming notes run st one m (items ∷ p) around (entries z.key 0 [] vs) is h s.1 d f) (s.0.holds e) in
        let le =
        region_less enters_few (over_enters few) st (positions_items (items_of is)) is (along_items_as naming run m (items ∷ p) is st) u (along_asks_items naming run m (items ∷ p) is st) (items_asks_as naming run m (items ∷ p) is st)
        (items_same naming notes run enters_few (over_enters few) false m (items ∷ p) around is st ri o.2 s.1 d) idles (λ w'. items_less m (items ∷ p) around is st ri o.2 s.1 d w') in omega (arith, le))
    code_less m p around (unlisted_code z x k cs) st room o s d w =
        let le =
        values_less (values_listed (first_value (spot_pairs (reread x.ref st) x.ref))) _ _ (reread_less m (otherwise ∷ p) around x k cs st room o.0 o.2 s.1 d (λ t a r v w'. codes_less m (otherwise ∷ p) 0 a cs t r o.2 v d w')) in omega (arith, le)
    code_less m p around (let_code made rs cs) st room o s d w =
        codes_less m (main ∷ p) 0 (with_made made around) cs st (room_into st around (λ q. times_in q (lives_of cs)) made s.0 room) o s.1 d (well_on (renew_codes_as naming run m (main ∷ p) 0 cs st) (λ r. ok (let_code made rs r.0, r.1)) w)
    code_less zero p around (component_code i made gm args k cs) st room o s d w = omega arith
    code_less (suc m) p around (component_code i made gm args k cs) st room o s d w =
        body_less m i.path (with_made made around) cs st (room_into st around (λ q. times_in q (lives_of cs)) made s.0 room) o s.1 d (λ t a r v w'. codes_less m i.path 0 a cs t r o v d w')
    code_less m p around (yield_code n made rs cs) st room o s d w =
        codes_less m (slot n ∷ p) 0 (with_made made around) cs st (room_into st around (λ q. times_in q (lives_of cs)) made s.0 room) o s.1 d (well_on (renew_codes_as naming run m (slot n ∷ p) 0 cs st) (λ r. ok (yield_code n made rs r.0, r.1)) w)

    codes_less : (m : ℕ) (p : Path) (i : ℕ) (around : Id → ℕ) (cs : Codes) (st : State) → Room st around (λ q. times_in q (lives_of cs)) → OwnsIn naming run cs → SettledIn naming st around p i cs → NestsIn (lives_of cs) m
        → Well (renew_codes_as naming run m p i cs st) → along_asks_in naming run m p i cs st ≤ codes_asks_as naming run m p i cs st
    codes_less m p i around no_codes st room o s d w = omega arith
    codes_less m p i around (code_and c cs) st room o s d w =
        let ca : Id → ℕ = λ q. times q (live_of c) in
        let cb : Id → ℕ = λ q. times_in q (lives_of cs) in
        let ra = room_less st around ca _ (λ q. omega arith) room in
        let u = renew_code_as naming run m (at i ∷ p) c st in
        let then_on : Code × State → Outcome (Codes × State) = λ r. on_ok (renew_codes_as naming run m p (suc i) cs r.1) (λ z. ok (code_and r.0 z.0, z.1)) in
        let le =
        after_less (along_code_as naming run m (at i ∷ p) c st) (guarded_code_as naming run m (at i ∷ p) c st) u (λ r. along_asks_in naming run m p (suc i) cs r.1) (λ r. codes_asks_as naming run m p (suc i) cs r.1)
        (code_same naming notes run enters_few (over_enters few) false m (at i ∷ p) around c st ra o.0 s.0 d.0) (code_same naming notes run any_stale fresh_alone true m (at i ∷ p) around c st ra o.0 s.0 d.0)
        (holds_both u (λ r. Leaves naming st r.1 ca) _ _ (code_left naming notes run m (at i ∷ p) c st o.0) (holds_on u then_on (λ z. Unit {0}) w)
        (λ r l v.
        codes_less m p (suc i) around cs r.1 (room_beside naming st r.1 around ca cb room l) o.1 (codes_go naming run st r.1 around p (suc i) cs (step_beside naming st r.1 around ca cb room l) o.1 s.1) d.1
        (well_on (renew_codes_as naming run m p (suc i) cs r.1) (λ z. ok (code_and r.0 z.0, z.1)) v))) in
        let here = code_less m (at i ∷ p) around c st ra o.0 s.0 d.0 (well_on u then_on w) in omega (arith, here, le)

    items_less : (m : ℕ) (p : Path) (around : Id → ℕ) (is : ItemCodes) (st : State) → Room st around (λ q. times_items q (items_of is)) → OwnsItems naming run is → SettledItems naming st around p is → NestsItems (items_of is) m
        → Well (renew_items_as naming run m p is st) → along_asks_items naming run m p is st ≤ items_asks_as naming run m p is st
    items_less m p around no_item_codes st room o s d w = omega arith
    items_less m p around (item_code z k cs is) st room o s d w =
        let q = item z.key z.occurrence ∷ p in
        let inside = with_made (item_made z) around in
        let ca : Id → ℕ = λ i. times_in i (lives_of cs) in
        let cb : Id → ℕ = λ i. times_items i (items_of is) in
        let ri = room_into st around ca (item_made z) s.0.0 (room_less st around (λ i. occurs i (item_made z) + ca i) _ (λ i. omega arith) room) in
        let ro = room_less st around (λ i. ca i + cb i) _ (λ i. omega arith) room in
        let u = renew_codes_as naming run m q 0 cs st in
        let le =
        after_less (going m cs q st) (guard st (positions_in (lives_of cs)) cs (guarded_codes_as naming run m q 0 cs st)) u (λ r. along_asks_items naming run m p is r.1) (λ r. items_asks_as naming run m p is r.1)
        (body_same enters_few (over_enters few) false m q inside cs st ri o.0 s.0.3 d.0) (body_same any_stale fresh_alone true m q inside cs st ri o.0 s.0.3 d.0)
        (holds_both u (λ r. Leaves naming st r.1 ca) _ _ (codes_left naming notes run m q 0 cs st o.0) (holds_on u (λ r. on_ok (renew_items_as naming run m p is r.1) (λ y. ok (item_code z k r.0 y.0, y.1))) (λ z. Unit {0}) w)
        (λ r l v.
        items_less m p around is r.1 (room_beside naming st r.1 around ca cb ro l) o.1 (items_go naming run st r.1 around p is (step_beside naming st r.1 around ca cb ro l) o.1 s.1) d.1
        (well_on (renew_items_as naming run m p is r.1) (λ y. ok (item_code z k r.0 y.0, y.1)) v))) in
        let here = body_less m q inside cs st ri o.0 s.0.3 d.0 (λ t a r v w'. codes_less m q 0 a cs t r o.0 v d.0 w') in omega (arith, here, le)

    elems_less : (m : ℕ) (is : ItemCodes) → OwnsItems naming run is → NestsItems (items_of is) m → EachElem (ItemLess m) (elems is)
    elems_less m no_item_codes o d = tt
    elems_less m (item_code z k cs is) o d = ((o.0, d.0, (λ q t a r v w. codes_less m q 0 a cs t r o.0 v d.0 w)), elems_less m is o.1 d.1)

-- the whole page
pub along_asks_less : AlongAsksLess
along_asks_less naming notes run around (suc m) (component_code i made gm args k cs) st may r =
    let inside = with_made made around in
    let s = subst (λ q. SettledIn naming st inside q 0 cs) r may.settled.1 in
    let room = room_into st around (λ q. times_in q (lives_of cs)) made may.settled.0 may.room in
    region_less enters_whole (over_enters whole) st (positions_in (lives_of cs)) cs (along_codes_as naming run m [] 0 cs st) (renew_codes_as naming run m [] 0 cs st) (along_asks_in naming run m [] 0 cs st) (codes_asks_as naming run m [] 0 cs st)
    (codes_same naming notes run enters_few (over_enters few) false m [] 0 inside cs st room may.owns s may.nests) (λ e. codes_stay naming notes run st m [] 0 inside cs s may.nests e) (λ w. codes_less naming notes run m [] 0 inside cs st room may.owns s may.nests w)
along_asks_less naming notes run around _ _ st may r = omega arith

pub puts_ask_along : PutsAskAlong
puts_ask_along env lowered differ s e t reached h k st placed follows xs own same n x is =
    let l = live_of k in
    let run = run_for_as by_number env [] n in
    let y = puts_by env.app s st l follows xs own in
    let there : AreThere env.app l (applied env.app s (Some e)).sets = subst (AreThere env.app l) (sym same) y.0 in
    let put : set_all_by env.app l (applied env.app s (Some e)).sets (begin st) ≡ put_all xs (begin st) = ap (λ hs. set_all_by env.app l hs (begin st)) same ∙ y.1 in
    let m = turn_may_pass env lowered differ s e reached k st placed follows there n in
    let less =
    subst (λ now. along_asks_root by_number env.app.limit run k now ≤ root_asks_as by_number env.app.limit run k now) put
    (along_asks_less by_number namings_apart.1 run (λ q. 0) env.app.limit k (set_all_by env.app l (applied env.app s (Some e)).sets (begin st)) m.0 m.1) in
    let le =
    puts_ask env lowered differ s e t reached h k st placed follows xs own same n x
    (puts_are_renew env lowered differ s e reached k st placed follows xs own same n ∙ (sym (puts_go_along env lowered differ s e reached k st placed follows xs own same n) ∙ is)) in omega (arith, less, le)
