-- An update that passes over what is fresh asks at most as much as is counted beside it.
use Rattle.std.proofs.Common.{◌≡◌, ℕ, zero, suc, ◌+◌, ◌<◌, ◌≤◌, List, [], ◌∷◌, ◌++◌, map, Bool, true, false, ◌||◌, ◌&&◌, true≢false, cond, Option, Some, None, option_map, refl, sym, ◌∙◌, ap, ap₂, subst, arith}
use Rattle.std.specs.Prelude.{if◌then◌else◌}
use Rattle.std.proofs.lemmas.List.Folds.{list_any-append}
use Rattle.gl_value.specs.Value.{Values, no_values, value}
use Rattle.gl_meaning.specs.Path.{at, main, otherwise, items, item, slot, Path}
use Rattle.gl_meaning.specs.Scope.{Source}
use Rattle.gl_meaning.specs.Eval.{takes_first}
use Rattle.gl_meaning.specs.Render.{Entry, entries, values_listed}
use Rattle.gl_plain.specs.Ids.{Id, ref, node, hit, occurs}
use Rattle.gl_plain.specs.State.{Thing, State}
use Rattle.gl_plain.specs.Naming.{Naming, dropped_as}
use Rattle.gl_plain.specs.Binding.{Spot, first_value}
use Rattle.gl_plain.specs.Live.{item_made, times, times_in, times_items, times_attrs, times_mods, times_comment}
use Rattle.gl_plain.specs.Counts.{attr_positions, mod_positions, positions_of, positions_in, positions_items}
use Rattle.gl_plain.specs.Renew.{spot_pairs, last_of, is_stale, evaluate, reread, renew_attrs, renew_mods}
use Rattle.gl_plain.proofs.Moves.{hit_self}
use Rattle.gl_kept.specs.Around.{AllIn, with_made}
use Rattle.gl_kept.specs.Asked.{regions_of, regions_in, regions_items, some_stale, entered, asks, asks_in, asks_items}
use Rattle.gl_machine.specs.Code.{Listing, Code, still_code, put_code, element_code, branch_code, listed_code, unlisted_code, let_code, component_code, yield_code, ItemCodes, no_item_codes, item_code, items_of, Codes, no_codes, code_and, live_of, lives_of}
use Rattle.gl_machine.specs.Outcome.{Outcome, ok, deep, lost, on_ok}
use Rattle.gl_machine.specs.Nesting.{Nests, NestsIn, NestsItems}
use Rattle.gl_machine.specs.RenewCode.{Runs, kept, branch_with, unlisted_with, ItemDone, item_done, with_left, item_with, sync_one_code_as, sync_codes_as, fresh_codes, by_values, fresh_branch, fresh_other, fresh_item_as, renew_codes_as}
use Rattle.gl_guards.specs.Guarded.{any_stale, guard, if_ok, with_taken, given_as, idle_handles, stale_taken_as, guarded_code_as, guarded_codes_as, guarded_items_as, guarded_handles_as, renew_items_as, guarded_root_code_as}
use Rattle.gl_guards.specs.Questions.{region, after, OldItem, where_taken, synced_asks_as, code_asks_as, codes_asks_as, items_asks_as, old_items_as, root_asks_as}
use Rattle.gl_guards.specs.Settled.{IsGiven, Leaves, Ended, NotesApart, ListingApart, Owns, OwnsItems, OwnsIn, Settled, SettledItems, SettledIn, Room, MayPass, AtRoot}
use Rattle.gl_guards.proofs.Leaves.{ended_on, mods_left, given_more, all_left, reread_left, evaluate_left, attrs_left, left_then}
use Rattle.gl_machine.proofs.Following.{either}
use Rattle.gl_guards.proofs.Parts.{Elem, handle, elems, front, is_elem, taken_elem, both_handles, handles_taken, old_with, both_old, old_taken, times_elem, times_elems, times_elems_of, EachElem, Parted, parted, OneLeft, one_left, ElemLeft, given_left, sync_left, renewing, attrs_counted, mods_counted, code_left, codes_left}
use Rattle.gl_guards.proofs.Steps.{Step, codes_go, items_go, room_less, room_into, room_beside, step_beside}
use Rattle.gl_guards.proofs.Same.{SettledAt, SettledElem, ElemOwns, elems_settled, elems_go, given_settled, path_is, ElemSame, sync_same, idle, fresh_alone, guarding, entered_are, idle_are, region_same, code_same, codes_same, items_same}
use Rattle.gl_guards.proofs.Outcomes.{Holds, holds_on, holds_both, holds_then, ended_then, holds_fact, items_in, codes_in}

module _ (naming : Naming) (notes : NotesApart naming) (run : Runs) (st0 : State) (t_end : Source → Bool) (look1 : Id → Option Thing) (t1 : Source → Bool) (stays : Path → Bool) where
  -- What a reference read last is stale before the end only where it is so there, by what is looked at and touched at the end.
  abbrev pub Rises : ℕ → Type 0
  Rises r = (t : Source → Bool) → ((y : Source) → IsGiven naming st0 y → t_end y ≡ false → t y ≡ false) → last_of (look1 (ref r)) t1 ≡ false → last_of (st0.look (ref r)) t ≡ false

  abbrev pub AllRise : List ℕ → Type 0
  AllRise [] = Unit {0}
  AllRise (r ∷ rs) = Rises r × AllRise rs

  rise_left : (xs ys : List ℕ) → AllRise (xs ++ ys) → AllRise xs
  rise_left [] ys h = tt
  rise_left (x ∷ xs) ys h = (h.0, rise_left xs ys h.1)

  rise_right : (xs ys : List ℕ) → AllRise (xs ++ ys) → AllRise ys
  rise_right [] ys h = h
  rise_right (x ∷ xs) ys h = rise_right xs ys h.1

  abbrev pub StaysAll : List Path → Type 0
  StaysAll [] = Unit {0}
  StaysAll (q ∷ qs) = (stays q ≡ true) × StaysAll qs

  stays_left : (xs ys : List Path) → StaysAll (xs ++ ys) → StaysAll xs
  stays_left [] ys h = tt
  stays_left (x ∷ xs) ys h = (h.0, stays_left xs ys h.1)

  stays_right : (xs ys : List Path) → StaysAll (xs ++ ys) → StaysAll ys
  stays_right [] ys h = h
  stays_right (x ∷ xs) ys h = stays_right xs ys h.1

  -- a moment of the update, at which a part is as it was at the beginning
  pub record Moment (st : State) (count : Id → ℕ) : Type 0 where
    pub next : (q : Id) → st0.next q.kind ≤ st.next q.kind
    pub rows : (q : Id) → 0 < count q → st.look q ≡ st0.look q

  moment_less : (st : State) (a c : Id → ℕ) → ((q : Id) → 0 < a q → 0 < c q) → Moment st c → Moment st a
  moment_less st a c f m = record { next = m.next; rows = λ q w. m.rows q (f q w) }

  moment_then : (st st' : State) (around a c : Id → ℕ) → ((q : Id) → 0 < a q → 0 < c q) → Moment st c → Step naming st st' around a → Moment st' a
  moment_then st st' around a c f m s = record { next = λ q. let i = m.next q in let j = s.more q in omega (arith, i, j); rows = λ q w. s.rows q w ∙ m.rows q (f q w) }

  -- nothing is touched then that isn't touched at the end
  abbrev pub Under : State → Type 0
  Under st = (y : Source) → IsGiven naming st0 y → t_end y ≡ false → st.touched y ≡ false

  under_before : (st st' : State) (a c : Id → ℕ) → Moment st a → Leaves naming st st' c → Under st' → Under st
  under_before st st' a c m l u = λ y g e. l.still y (given_more naming st0 st m.next y g) (u y g e)

  -- what is stale then is stale at the end
  one_end : (st : State) (r : ℕ) → Rises r → st.look (ref r) ≡ st0.look (ref r) → Under st → is_stale st r ≡ true → last_of (look1 (ref r)) t1 ≡ true
  one_end st r rise row u e = by (last_of (look1 (ref r)) t1) refl where
    by : (b : Bool) → last_of (look1 (ref r)) t1 ≡ b → last_of (look1 (ref r)) t1 ≡ true
    by true f = f
    by false f = absurd (true≢false (sym e ∙ (ap (λ o. last_of o st.touched) row ∙ rise st.touched u f)))

  or_either : (a b c d : Bool) → (a ≡ true → c ≡ true) → (b ≡ true → d ≡ true) → (a || b) ≡ true → (c || d) ≡ true
  or_either true b c d f g e = ap (λ x. x || d) (f refl)
  or_either false b true d f g e = refl
  or_either false b false d f g e = g e

  abbrev Ends : List ℕ → Bool
  Ends rs = some_stale look1 t1 stays rs

  stale_end : (st : State) (count : Id → ℕ) (rs : List ℕ) → AllRise rs → AllIn count rs → Moment st count → Under st → any_stale st rs ≡ true → Ends rs ≡ true
  stale_end st count [] a w m u e = absurd (true≢false (sym e))
  stale_end st count (r ∷ rs) a w m u e =
      or_either (is_stale st r) (any_stale st rs) (last_of (look1 (ref r)) t1) (Ends rs) (one_end st r a.0 (m.rows (ref r) w.0) u) (stale_end st count rs a.1 w.1 m u) e

  region_le : (st : State) (count : Id → ℕ) (rs : List ℕ) (q : Path) (a b : ℕ) → AllRise rs → AllIn count rs → Moment st count → Under st → (any_stale st rs ≡ true → (stays q ≡ true) × (a ≤ b))
      → region st rs a ≤ 1 + entered look1 t1 stays q rs b
  region_le st count rs q a b ri w m u f = by (any_stale st rs) refl where
    by : (d : Bool) → any_stale st rs ≡ d → 1 + (if d then a else 0) ≤ 1 + entered look1 t1 stays q rs b
    by false e = omega arith
    by true e =
        let k = f e in
        let s : entered look1 t1 stays q rs b ≡ b = ap₂ (λ x y. if x && y then b else 0) k.0 (stale_end st count rs ri w m u e) in
        let le = k.1 in omega (arith, s, le)

  -- What comes of a part: nothing is touched then that isn't touched at the end, and its regions stay.
  abbrev pub CodeDone : Path → Code × State → Type 0
  CodeDone p r = Under r.1 × StaysAll (regions_of p (live_of r.0))

  abbrev BodyDone : Path → ℕ → Codes × State → Type 0
  BodyDone p i r = Under r.1 × StaysAll (regions_in p i (lives_of r.0))

  abbrev ItemsDone : Path → ItemCodes × State → Type 0
  ItemsDone p r = Under r.1 × StaysAll (regions_items p (items_of r.0))

  abbrev guarded_region : ℕ → Path → Codes → State → Outcome (Codes × State)
  guarded_region m q cs st = guard st (positions_in (lives_of cs)) cs (guarded_codes_as naming run m q 0 cs st)

  -- what an entered or passed region leaves
  region_left : (m : ℕ) (q : Path) (around : Id → ℕ) (cs : Codes) (st : State) → Room st around (λ i. times_in i (lives_of cs)) → OwnsIn naming run cs → SettledIn naming st around q 0 cs → NestsIn (lives_of cs) m
      → Ended (guarded_region m q cs st) (λ r. Leaves naming st r.1 (λ i. times_in i (lives_of cs)))
  region_left m q around cs st room o s d =
      subst (λ z. Ended z (λ r. Leaves naming st r.1 (λ i. times_in i (lives_of cs)))) (sym (region_same naming notes run any_stale fresh_alone m q around cs st s d (codes_same naming notes run any_stale fresh_alone true m q 0 around cs st room o s d)))
      (codes_left naming notes run m q 0 cs st o)

  -- the bound of a region, from that of what is in it
  region_bound : (m : ℕ) (q : Path) (around : Id → ℕ) (cs : Codes) (st : State) → Room st around (λ i. times_in i (lives_of cs)) → OwnsIn naming run cs → SettledIn naming st around q 0 cs → NestsIn (lives_of cs) m
      → Moment st (λ i. times_in i (lives_of cs)) → AllRise (positions_in (lives_of cs)) → stays q ≡ true → Holds (guarded_region m q cs st) (BodyDone q 0)
      → (Holds (guarded_codes_as naming run m q 0 cs st) (BodyDone q 0) → codes_asks_as naming run m q 0 cs st ≤ asks_in look1 t1 stays q 0 (lives_of cs))
      → region st (positions_in (lives_of cs)) (codes_asks_as naming run m q 0 cs st) ≤ 1 + entered look1 t1 stays q (positions_in (lives_of cs)) (asks_in look1 t1 stays q 0 (lives_of cs))
  region_bound m q around cs st room o s d mo ri sq h rec =
      let u : Under st =
      holds_fact (guarded_region m q cs st) (Under st)
      (holds_both (guarded_region m q cs st) (λ r. Leaves naming st r.1 (λ i. times_in i (lives_of cs))) (BodyDone q 0) (λ r. Under st) (region_left m q around cs st room o s d) h
      (λ r l k. under_before st r.1 (λ i. times_in i (lives_of cs)) (λ i. times_in i (lives_of cs)) mo l k.0)) in
      region_le st (λ i. times_in i (lives_of cs)) (positions_in (lives_of cs)) q (codes_asks_as naming run m q 0 cs st) (asks_in look1 t1 stays q 0 (lives_of cs)) ri (codes_in naming run cs o) mo u
      (λ e. (sq, rec (subst (λ z. Holds z (BodyDone q 0)) (ap (λ b. if b then guarded_codes_as naming run m q 0 cs st else ok (cs, st)) e) h)))

  -- Lists that were read again

  abbrev old_of : ℕ → Elem → OldItem
  old_of m = old_with (guarding naming notes run m) (λ cs q st. codes_asks_as naming run m q 0 cs st)

  old_are : (m : ℕ) (is : ItemCodes) → old_items_as naming run m is ≡ map (old_of m) (elems is)
  old_are m no_item_codes = refl
  old_are m (item_code z k cs is) = ap (λ hs. old_of m (record { spot = z; comment = k; codes = cs }) ∷ hs) (old_are m is)

  abbrev elem_path : Path → Elem → Path
  elem_path p h = item h.spot.key h.spot.occurrence ∷ p

  abbrev asks_at : Path → Elem → ℕ
  asks_at q h = 1 + entered look1 t1 stays q (positions_in (lives_of h.codes)) (asks_in look1 t1 stays q 0 (lives_of h.codes))

  abbrev all_asks : Path → List Elem → ℕ
  all_asks p [] = 0
  all_asks p (h ∷ hs) = asks_at (elem_path p h) h + all_asks p hs

  asks_are : (p : Path) (is : ItemCodes) → all_asks p (elems is) ≡ asks_items look1 t1 stays p (items_of is)
  asks_are p no_item_codes = refl
  asks_are p (item_code z k cs is) = ap (λ n. asks_at (item z.key z.occurrence ∷ p) (record { spot = z; comment = k; codes = cs }) + n) (asks_are p is)

  abbrev all_positions : List Elem → List ℕ
  all_positions [] = []
  all_positions (h ∷ hs) = positions_in (lives_of h.codes) ++ all_positions hs

  positions_are : (is : ItemCodes) → all_positions (elems is) ≡ positions_items (items_of is)
  positions_are no_item_codes = refl
  positions_are (item_code z k cs is) = ap (λ rs. positions_in (lives_of cs) ++ rs) (positions_are is)

  or_true : (a b : Bool) → b ≡ true → (a || b) ≡ true
  or_true true b e = refl
  or_true false b e = e

  ends_left : (xs ys : List ℕ) → Ends xs ≡ true → Ends (xs ++ ys) ≡ true
  ends_left xs ys e = list_any-append (λ r. last_of (look1 (ref r)) t1) xs ys ∙ ap (λ b. b || Ends ys) e

  ends_right : (xs ys : List ℕ) → Ends ys ≡ true → Ends (xs ++ ys) ≡ true
  ends_right xs ys e = list_any-append (λ r. last_of (look1 (ref r)) t1) xs ys ∙ or_true (Ends xs) (Ends ys) e

  -- the questions and the positions of the item of an entry, and of the others
  abbrev Shared : Path → List Elem → Option (Elem × List Elem) → Type 0
  Shared p hs None = Unit {0}
  Shared p hs (Some k) =
      (all_asks p hs ≡ asks_at (elem_path p k.0) k.0 + all_asks p k.1) × (Ends (positions_in (lives_of k.0.codes)) ≡ true → Ends (all_positions hs) ≡ true) × (Ends (all_positions k.1) ≡ true → Ends (all_positions hs) ≡ true)

  shared_by : (p : Path) (h : Elem) (hs : List Elem) (b : Bool) (o : Option (Elem × List Elem)) → Shared p hs o → Shared p (h ∷ hs) (if b then Some (h, hs) else front h o)
  shared_by p h hs true o k = (refl, ends_left (positions_in (lives_of h.codes)) (all_positions hs), ends_right (positions_in (lives_of h.codes)) (all_positions hs))
  shared_by p h hs false None k = tt
  shared_by p h hs false (Some o) k = (
    let e = k.0 in omega (arith, e),
    λ e. ends_right (positions_in (lives_of h.codes)) (all_positions hs) (k.1 e),
    λ e. both (Ends (positions_in (lives_of h.codes))) refl e,
  ) where
    both : (d : Bool) → Ends (positions_in (lives_of h.codes)) ≡ d → Ends (positions_in (lives_of h.codes) ++ all_positions o.1) ≡ true → Ends (positions_in (lives_of h.codes) ++ all_positions hs) ≡ true
    both true f e = ends_left (positions_in (lives_of h.codes)) (all_positions hs) f
    both false f e =
        ends_right (positions_in (lives_of h.codes)) (all_positions hs)
        (k.2 (sym (ap (λ b. b || Ends (all_positions o.1)) f) ∙ (sym (list_any-append (λ r. last_of (look1 (ref r)) t1) (positions_in (lives_of h.codes)) (all_positions o.1)) ∙ e)))

  shared : (p : Path) (x : Entry) (hs : List Elem) → Shared p hs (taken_elem x hs)
  shared p x [] = tt
  shared p x (h ∷ hs) = shared_by p h hs (is_elem x h) (taken_elem x hs) (shared p x hs)

  -- what is known of an old item
  pub record ItemBound (m : ℕ) (h : Elem) : Type 0 where
    pub same : ElemSame naming notes run (guarding naming notes run m) (renewing naming notes run m) h
    pub left : ElemLeft naming notes run (renewing naming notes run m) h
    pub owns : OwnsIn naming run h.codes
    pub nests : NestsIn (lives_of h.codes) m
    pub rises : AllRise (positions_in (lives_of h.codes))
    pub bound : (q : Path) (st : State) (around : Id → ℕ) → Room st around (λ i. times_in i (lives_of h.codes)) → SettledIn naming st around q 0 h.codes → Moment st (λ i. times_in i (lives_of h.codes)) → stays q ≡ true
        → Holds (guarded_region m q h.codes st) (BodyDone q 0)
        → region st (positions_in (lives_of h.codes)) (codes_asks_as naming run m q 0 h.codes st) ≤ asks_at q h

  all_same : (m : ℕ) (hs : List Elem) → EachElem (ItemBound m) hs → EachElem (ElemSame naming notes run (guarding naming notes run m) (renewing naming notes run m)) hs
  all_same m [] b = tt
  all_same m (h ∷ hs) b = (b.0.same, all_same m hs b.1)

  all_lefts : (m : ℕ) (hs : List Elem) → EachElem (ItemBound m) hs → EachElem (ElemLeft naming notes run (renewing naming notes run m)) hs
  all_lefts m [] b = tt
  all_lefts m (h ∷ hs) b = (b.0.left, all_lefts m hs b.1)

  all_own : (m : ℕ) (hs : List Elem) → EachElem (ItemBound m) hs → EachElem (ElemOwns naming notes run) hs
  all_own m [] b = tt
  all_own m (h ∷ hs) b = (b.0.owns, all_own m hs b.1)

  abbrev synced : ℕ → (Path → Entry → State → Outcome ItemDone) → Path → List Entry → List Elem → State → Outcome (ItemCodes × State)
  synced m one p xs hs st = sync_codes_as naming one p xs (map (handle (guarding naming notes run m)) hs) st

  synced_left : (m : ℕ) (one : Path → Entry → State → Outcome ItemDone) → OneLeft naming notes run one → (p : Path) (around : Id → ℕ) (xs : List Entry) (hs : List Elem) (st : State) → EachElem (ItemBound m) hs
      → Room st around (λ i. times_elems i hs) → EachElem (SettledElem naming notes run st around p) hs → Ended (synced m one p xs hs st) (λ r. Leaves naming st r.1 (λ i. times_elems i hs))
  synced_left m one ol p around xs hs st b room k =
      subst (λ z. Ended z (λ r. Leaves naming st r.1 (λ i. times_elems i hs)))
      (sym (sync_same naming notes run (guarding naming notes run m) (renewing naming notes run m) one ol p around xs hs st (all_same m hs b) (all_lefts m hs b) (all_own m hs b) room k))
      (sync_left naming notes run (renewing naming notes run m) one ol p xs hs st (all_lefts m hs b))

  -- What is known of the rest once an item was updated or appended, which counts a.
  record Rest (m : ℕ) (p : Path) (around : Id → ℕ) (hs : List Elem) (st : State) : Type 0 where
    bounds : EachElem (ItemBound m) hs
    room : Room st around (λ i. times_elems i hs)
    settled : EachElem (SettledElem naming notes run st around p) hs
    moment : Moment st (λ i. times_elems i hs)

  rest_after : (m : ℕ) (p : Path) (around a : Id → ℕ) (hs : List Elem) (st st' : State) → EachElem (ItemBound m) hs → Room st around (λ i. a i + times_elems i hs) → EachElem (SettledElem naming notes run st around p) hs
      → Moment st (λ i. times_elems i hs) → Leaves naming st st' a → Rest m p around hs st'
  rest_after m p around a hs st st' b room k mo l =
      let s = step_beside naming st st' around a (λ i. times_elems i hs) room l in
      record {
        bounds = b;
        room = room_beside naming st st' around a (λ i. times_elems i hs) room l;
        settled = elems_go naming notes run st st' around p hs s (all_own m hs b) k;
        moment = moment_then st st' around (λ i. times_elems i hs) (λ i. times_elems i hs) (λ q w. w) mo s;
      }

  -- the old item of an entry, once it has its value and index of now
  record Given (m : ℕ) (p : Path) (around : Id → ℕ) (x : Entry) (h : Elem) (st : State) : Type 0 where
    around2 : Id → ℕ
    room : Room (given_as naming (item x.key x.occurrence ∷ p) x (handle (guarding naming notes run m) h) st) around2 (λ i. times_in i (lives_of h.codes))
    settled : SettledIn naming (given_as naming (item x.key x.occurrence ∷ p) x (handle (guarding naming notes run m) h) st) around2 (item x.key x.occurrence ∷ p) 0 h.codes
    moment : Moment (given_as naming (item x.key x.occurrence ∷ p) x (handle (guarding naming notes run m) h) st) (λ i. times_in i (lives_of h.codes))
    left : Leaves naming st (given_as naming (item x.key x.occurrence ∷ p) x (handle (guarding naming notes run m) h) st) (λ i. occurs i (item_made h.spot))

  given_ready : (m : ℕ) (p : Path) (around : Id → ℕ) (x : Entry) (h : Elem) (st : State) → is_elem x h ≡ true → Room st around (λ i. times_elem i h) → OwnsIn naming run h.codes → SettledElem naming notes run st around p h
      → Moment st (λ i. times_elem i h) → Given m p around x h st
  given_ready m p around x h st e room o k mo =
      let q = item x.key x.occurrence ∷ p in
      let g = handle (guarding naming notes run m) h in
      let now = given_settled naming notes run q x g h.codes st around room o (subst (λ j. SettledAt naming notes run st around j h) (path_is naming notes run x h p e) k) in
      let l = given_left naming notes run q x g st (λ i. occurs i (item_made h.spot)) (λ i w. w) in
      let ro = room_less st around (λ i. occurs i (item_made h.spot) + times_in i (lives_of h.codes)) _ (λ i. omega arith) room in
      record {
        around2 = with_made (item_made h.spot) around;
        room = now.0;
        settled = now.1;
        moment = moment_then st (given_as naming q x g st) around (λ i. times_in i (lives_of h.codes)) (λ i. times_elem i h) (λ i w. omega (arith, w)) mo
            (step_beside naming st (given_as naming q x g st) around (λ i. occurs i (item_made h.spot)) (λ i. times_in i (lives_of h.codes)) ro l);
        left = l;
      }

  -- an item, and then the others
  abbrev Then' : ℕ → (Path → Entry → State → Outcome ItemDone) → Path → List Entry → List Elem → Outcome ItemDone → Outcome (ItemCodes × State)
  Then' m one p xs gs o = on_ok (on_ok o (with_left (map (handle (guarding naming notes run m)) gs))) (λ y. on_ok (sync_codes_as naming one p xs y.1 y.0.arm.state) (λ r. ok (item_with y.0 r)))

  -- of the others, from what comes of all
  rest_done : (m : ℕ) (one : Path → Entry → State → Outcome ItemDone) (p : Path) (xs : List Entry) (gs : List Elem) (d : ItemDone) → Holds (on_ok (synced m one p xs gs d.arm.state) (λ r. ok (item_with d r))) (ItemsDone p)
      → Holds (synced m one p xs gs d.arm.state) (λ r. ItemsDone p r × (stays (item d.spot.key d.spot.occurrence ∷ p) ≡ true) × StaysAll (regions_in (item d.spot.key d.spot.occurrence ∷ p) 0 (lives_of d.arm.codes)))
  rest_done m one p xs gs d h =
      let q = item d.spot.key d.spot.occurrence ∷ p in
      holds_then (synced m one p xs gs d.arm.state) (λ r. ItemsDone p (item_with d r)) _ (holds_on (synced m one p xs gs d.arm.state) (λ r. ok (item_with d r)) (ItemsDone p) h)
      (λ r k. ((k.0, stays_right (regions_in q 0 (lives_of d.arm.codes)) (regions_items p (items_of r.0)) k.1.1), k.1.0, stays_left (regions_in q 0 (lives_of d.arm.codes)) (regions_items p (items_of r.0)) k.1.1))

  -- of the item, and of the others
  go_done : (m : ℕ) (one : Path → Entry → State → Outcome ItemDone) → OneLeft naming notes run one → (p : Path) (around : Id → ℕ) (xs : List Entry) (h : Elem) (gs : List Elem) (o : Outcome (Codes × State)) (X : State → Type 0)
      → Ended o (λ r. Rest m p around gs r.1)
      → ((t : State) → Rest m p around gs t → Holds (synced m one p xs gs t) (ItemsDone p) → X t)
      → Holds (Then' m one p xs gs (on_ok o (λ r. ok (item_done h.spot (kept h.comment r))))) (ItemsDone p)
      → Holds o (λ r. BodyDone (elem_path p h) 0 r × (stays (elem_path p h) ≡ true) × X r.1)
  go_done m one ol p around xs h gs (ok r) X l step k =
      let d = rest_done m one p xs gs (item_done h.spot (kept h.comment r)) k in
      let q = elem_path p h in
      let left = synced_left m one ol p around xs gs r.1 l.bounds l.room l.settled in
      let u =
      holds_fact (synced m one p xs gs r.1) (Under r.1 × (stays q ≡ true) × StaysAll (regions_in q 0 (lives_of r.0)))
      (holds_both (synced m one p xs gs r.1) (λ z. Leaves naming r.1 z.1 (λ i. times_elems i gs)) (λ z. ItemsDone p z × (stays q ≡ true) × StaysAll (regions_in q 0 (lives_of r.0))) (λ z. Under r.1 × (stays q ≡ true) × StaysAll (regions_in q 0 (lives_of r.0))) left d
      (λ z w f. (under_before r.1 z.1 (λ i. times_elems i gs) (λ i. times_elems i gs) l.moment w f.0.0, f.1, f.2))) in
      ((u.0, u.2), u.1, step r.1 l (holds_then (synced m one p xs gs r.1) _ (ItemsDone p) d (λ z f. f.0)))
  go_done m one ol p around xs h gs deep X l step k = absurd k
  go_done m one ol p around xs h gs lost X l step k = absurd k

  after_le : {A : Type 0} (o : Outcome A) (f : A → ℕ) (n : ℕ) → Holds o (λ r. f r ≤ n) → after o f ≤ n
  after_le (ok r) f n h = h
  after_le deep f n h = absurd h
  after_le lost f n h = absurd h

  synced_le : (m : ℕ) (one : Path → Entry → State → Outcome ItemDone) → OneLeft naming notes run one → (p : Path) (around : Id → ℕ) (xs : List Entry) (hs : List Elem) (st : State) → Rest m p around hs st
      → Holds (synced m one p xs hs st) (ItemsDone p) → synced_asks_as naming one p xs (map (old_of m) hs) st ≤ all_asks p hs
  synced_le m one ol p around [] hs st b h = omega arith
  synced_le m one ol p around (x ∷ xs) hs st b h =
      let q = item x.key x.occurrence ∷ p in
      subst
      (λ o. where_taken o (λ k rest. let st2 = given_as naming q x k.handle st in region st2 (positions_in (lives_of k.handle.codes)) (k.asks q st2) + after (k.handle.go q st2) (λ r. synced_asks_as naming one p xs rest r.1))
      (after (one q x st) (λ d. synced_asks_as naming one p xs (map (old_of m) hs) d.arm.state)) ≤ all_asks p hs)
      (sym (old_taken (guarding naming notes run m) _ x hs))
      (by (taken_elem x hs) (parted x hs) (shared p x hs) (λ gs t. synced_le m one ol p around xs gs t)
      (subst (λ o. Holds (on_ok (sync_one_code_as naming one q x (map (handle (guarding naming notes run m)) hs) o st) (λ y. on_ok (sync_codes_as naming one p xs y.1 y.0.arm.state) (λ r. ok (item_with y.0 r)))) (ItemsDone p))
      (handles_taken (guarding naming notes run m) x hs) h)) where
        by : (o : Option (Elem × List Elem)) → Parted x hs o → Shared p hs o
            → ((gs : List Elem) (t : State) → Rest m p around gs t → Holds (synced m one p xs gs t) (ItemsDone p) → synced_asks_as naming one p xs (map (old_of m) gs) t ≤ all_asks p gs)
            → let q = item x.key x.occurrence ∷ p in
            Holds (on_ok (sync_one_code_as naming one q x (map (handle (guarding naming notes run m)) hs) (option_map (both_handles (guarding naming notes run m)) o) st) (λ y. on_ok (sync_codes_as naming one p xs y.1 y.0.arm.state) (λ r. ok (item_with y.0 r)))) (ItemsDone p)
            → where_taken (option_map (both_old (old_of m)) o)
            (λ k rest. let st2 = given_as naming q x k.handle st in region st2 (positions_in (lives_of k.handle.codes)) (k.asks q st2) + after (k.handle.go q st2) (λ r. synced_asks_as naming one p xs rest r.1))
            (after (one q x st) (λ d. synced_asks_as naming one p xs (map (old_of m) hs) d.arm.state)) ≤ all_asks p hs
        by None e f rec k =
            let q = item x.key x.occurrence ∷ p in
            new (one q x st) (ol q x st) k where
              new : (o : Outcome ItemDone) → Ended o (λ d. Leaves naming st d.arm.state (λ i. 0)) → Holds (Then' m one p xs hs o) (ItemsDone p) → after o (λ d. synced_asks_as naming one p xs (map (old_of m) hs) d.arm.state) ≤ all_asks p hs
              new (ok d) l w =
                  rec hs d.arm.state
                  (rest_after m p around (λ i. 0) hs st d.arm.state b.bounds (room_less st around (λ i. 0 + times_elems i hs) _ (λ i. omega arith) b.room) b.settled b.moment l)
                  (holds_then (synced m one p xs hs d.arm.state) _ (ItemsDone p) (rest_done m one p xs hs d w) (λ z v. v.0))
              new deep l w = absurd w
              new lost l w = absurd w
        by (Some y) e f rec k =
            let q = item x.key x.occurrence ∷ p in
            let bs = e.2 (ItemBound m) b.bounds in
            let ks = e.2 (SettledElem naming notes run st around p) b.settled in
            let ro : Room st around (λ i. times_elem i y.0 + times_elems i y.1) = room_less st around (λ i. times_elem i y.0 + times_elems i y.1) _ (λ i. let c = e.1 i in omega (arith, c)) b.room in
            let g = given_ready m p around x y.0 st e.0 (room_less st around (λ i. times_elem i y.0) _ (λ i. omega arith) ro) bs.0.owns ks.0 (moment_less st (λ i. times_elem i y.0) _ (λ i w. let c = e.1 i in omega (arith, c, w)) b.moment) in
            let st2 = given_as naming q x (handle (guarding naming notes run m) y.0) st in
            let o = guarded_region m q y.0.codes st2 in
            let left = region_left m q g.around2 y.0.codes st2 g.room bs.0.owns g.settled bs.0.nests in
            let rests : Ended o (λ r. Rest m p around y.1 r.1) =
            ended_then o (λ r. Leaves naming st2 r.1 (λ i. times_in i (lives_of y.0.codes))) (λ r. Rest m p around y.1 r.1) left
            (λ r l. rest_after m p around (λ i. times_elem i y.0) y.1 st r.1 bs.1 ro ks.1 (moment_less st (λ i. times_elems i y.1) _ (λ i w. let c = e.1 i in omega (arith, c, w)) b.moment)
            (left_then naming st st2 r.1 (λ i. occurs i (item_made y.0.spot)) (λ i. times_in i (lives_of y.0.codes)) (λ i. times_elem i y.0) (λ i z. omega (arith, z)) (λ i z. omega (arith, z)) g.left l)) in
            let d = go_done m one ol p around xs y.0 y.1 o (λ t. synced_asks_as naming one p xs (map (old_of m) y.1) t ≤ all_asks p y.1) rests (λ t r h'. rec y.1 t r h') k in
            let pe = path_is naming notes run x y.0 p e.0 in
            let sq : stays (elem_path p y.0) ≡ true = holds_fact o (stays (elem_path p y.0) ≡ true) (holds_then o _ (λ r. stays (elem_path p y.0) ≡ true) d (λ r v. v.1)) in
            let done : Holds o (BodyDone q 0) = subst (λ j. Holds o (BodyDone j 0)) pe (holds_then o _ (BodyDone (elem_path p y.0) 0) d (λ r v. v.0)) in
            let here = bs.0.bound q st2 g.around2 g.room g.settled g.moment (subst (λ j. stays j ≡ true) pe sq) done in
            let same_asks : asks_at q y.0 ≡ asks_at (elem_path p y.0) y.0 = ap (λ j. asks_at j y.0) (sym pe) in
            let more = after_le o (λ r. synced_asks_as naming one p xs (map (old_of m) y.1) r.1) (all_asks p y.1) (holds_then o _ (λ r. synced_asks_as naming one p xs (map (old_of m) y.1) r.1 ≤ all_asks p y.1) d (λ r v. v.2)) in
            let s = f.0 in omega (arith, here, same_asks, more, s)

  -- where one would be stale once it has its value and index of now, a position of the items is stale at the end
  stale_found : (m : ℕ) (one : Path → Entry → State → Outcome ItemDone) → OneLeft naming notes run one → (p : Path) (around : Id → ℕ) (xs : List Entry) (hs : List Elem) (st : State) → Rest m p around hs st
      → Holds (synced m one p xs hs st) (ItemsDone p) → stale_taken_as naming one p xs (map (handle (idle naming notes run)) hs) st ≡ true → Ends (all_positions hs) ≡ true
  stale_found m one ol p around [] hs st b h t = absurd (true≢false (sym t))
  stale_found m one ol p around (x ∷ xs) hs st b h t =
      let q = item x.key x.occurrence ∷ p in
      by (taken_elem x hs) (parted x hs) (shared p x hs) (λ gs t'. stale_found m one ol p around xs gs t')
      (subst (λ o. Holds (on_ok (sync_one_code_as naming one q x (map (handle (guarding naming notes run m)) hs) o st) (λ y. on_ok (sync_codes_as naming one p xs y.1 y.0.arm.state) (λ r. ok (item_with y.0 r)))) (ItemsDone p))
      (handles_taken (guarding naming notes run m) x hs) h)
      (ap (λ o. with_taken o (λ k rest. let st2 = given_as naming q x k st in any_stale st2 (positions_in (lives_of k.codes)) || stale_taken_as naming one p xs rest st2)
      (if_ok (one q x st) (λ d. stale_taken_as naming one p xs (map (handle (idle naming notes run)) hs) d.arm.state))) (sym (handles_taken (idle naming notes run) x hs)) ∙ t) where
        by : (o : Option (Elem × List Elem)) → Parted x hs o → Shared p hs o
            → ((gs : List Elem) (t' : State) → Rest m p around gs t' → Holds (synced m one p xs gs t') (ItemsDone p) → stale_taken_as naming one p xs (map (handle (idle naming notes run)) gs) t' ≡ true → Ends (all_positions gs) ≡ true)
            → let q = item x.key x.occurrence ∷ p in
            Holds (on_ok (sync_one_code_as naming one q x (map (handle (guarding naming notes run m)) hs) (option_map (both_handles (guarding naming notes run m)) o) st) (λ y. on_ok (sync_codes_as naming one p xs y.1 y.0.arm.state) (λ r. ok (item_with y.0 r)))) (ItemsDone p)
            → with_taken (option_map (both_handles (idle naming notes run)) o) (λ k rest. let st2 = given_as naming q x k st in any_stale st2 (positions_in (lives_of k.codes)) || stale_taken_as naming one p xs rest st2)
            (if_ok (one q x st) (λ d. stale_taken_as naming one p xs (map (handle (idle naming notes run)) hs) d.arm.state)) ≡ true
            → Ends (all_positions hs) ≡ true
        by None e f rec k s =
            let q = item x.key x.occurrence ∷ p in
            new (one q x st) (ol q x st) k s where
              new : (o : Outcome ItemDone) → Ended o (λ d. Leaves naming st d.arm.state (λ i. 0)) → Holds (Then' m one p xs hs o) (ItemsDone p)
                  → if_ok o (λ d. stale_taken_as naming one p xs (map (handle (idle naming notes run)) hs) d.arm.state) ≡ true → Ends (all_positions hs) ≡ true
              new (ok d) l w s' =
                  rec hs d.arm.state
                  (rest_after m p around (λ i. 0) hs st d.arm.state b.bounds (room_less st around (λ i. 0 + times_elems i hs) _ (λ i. omega arith) b.room) b.settled b.moment l)
                  (holds_then (synced m one p xs hs d.arm.state) _ (ItemsDone p) (rest_done m one p xs hs d w) (λ z v. v.0)) s'
              new deep l w s' = absurd w
              new lost l w s' = absurd w
        by (Some y) e f rec k s =
            let q = item x.key x.occurrence ∷ p in
            let bs = e.2 (ItemBound m) b.bounds in
            let ks = e.2 (SettledElem naming notes run st around p) b.settled in
            let ro : Room st around (λ i. times_elem i y.0 + times_elems i y.1) = room_less st around (λ i. times_elem i y.0 + times_elems i y.1) _ (λ i. let c = e.1 i in omega (arith, c)) b.room in
            let g = given_ready m p around x y.0 st e.0 (room_less st around (λ i. times_elem i y.0) _ (λ i. omega arith) ro) bs.0.owns ks.0 (moment_less st (λ i. times_elem i y.0) _ (λ i w. let c = e.1 i in omega (arith, c, w)) b.moment) in
            let st2 = given_as naming q x (handle (guarding naming notes run m) y.0) st in
            let o = guarded_region m q y.0.codes st2 in
            let ps = positions_in (lives_of y.0.codes) in
            let left = region_left m q g.around2 y.0.codes st2 g.room bs.0.owns g.settled bs.0.nests in
            let rest_at : (t' : State) → Leaves naming st2 t' (λ i. times_in i (lives_of y.0.codes)) → Rest m p around y.1 t' = λ t' l.
            rest_after m p around (λ i. times_elem i y.0) y.1 st t' bs.1 ro ks.1 (moment_less st (λ i. times_elems i y.1) _ (λ i w. let c = e.1 i in omega (arith, c, w)) b.moment)
            (left_then naming st st2 t' (λ i. occurs i (item_made y.0.spot)) (λ i. times_in i (lives_of y.0.codes)) (λ i. times_elem i y.0) (λ i z. omega (arith, z)) (λ i z. omega (arith, z)) g.left l) in
            let rests : Ended o (λ r. Rest m p around y.1 r.1) = ended_then o (λ r. Leaves naming st2 r.1 (λ i. times_in i (lives_of y.0.codes))) (λ r. Rest m p around y.1 r.1) left (λ r l. rest_at r.1 l) in
            let d = go_done m one ol p around xs y.0 y.1 o (λ t'. Unit {0}) rests (λ t' r h'. tt) k in
            let u : Under st2 =
            holds_fact o (Under st2)
            (holds_both o (λ r. Leaves naming st2 r.1 (λ i. times_in i (lives_of y.0.codes))) _ (λ r. Under st2) left d (λ r l v. under_before st2 r.1 (λ i. times_in i (lives_of y.0.codes)) (λ i. times_in i (lives_of y.0.codes)) g.moment l v.0.0)) in
            tests (any_stale st2 ps) refl
            (λ a. f.1 (stale_end st2 (λ i. times_in i (lives_of y.0.codes)) ps bs.0.rises (codes_in naming run y.0.codes bs.0.owns) g.moment u a))
            (λ a. f.2 (rec y.1 st2 (rest_at st2 (all_left naming st2 (λ i. times_in i (lives_of y.0.codes))))
            (holds_then (synced m one p xs y.1 st2) _ (ItemsDone p)
            (rest_done m one p xs y.1 (item_done y.0.spot (kept y.0.comment (y.0.codes, st2)))
            (subst (λ z. Holds (Then' m one p xs y.1 (on_ok z (λ r. ok (item_done y.0.spot (kept y.0.comment r))))) (ItemsDone p)) (ap (λ c. if c then guarded_codes_as naming run m q 0 y.0.codes st2 else ok (y.0.codes, st2)) a) k))
            (λ z v. v.0))
            (ap (λ c. c || stale_taken_as naming one p xs (map (handle (idle naming notes run)) y.1) st2) (sym a) ∙ s)))
          where
            tests : (c : Bool) → {c' : Bool} → c' ≡ c → (c' ≡ true → Ends (all_positions hs) ≡ true) → (c' ≡ false → Ends (all_positions hs) ≡ true) → Ends (all_positions hs) ≡ true
            tests true e' f' g' = f' e'
            tests false e' f' g' = g' e'

  -- The recorded program

  abbrev pub From0 : State → Type 0
  From0 st = (q : Id) → st0.next q.kind ≤ st.next q.kind

  under_next : (st st' : State) (c : Id → ℕ) → From0 st → Leaves naming st st' c → Under st' → Under st
  under_next st st' c n l u = λ y g e. l.still y (given_more naming st0 st n y g) (u y g e)

  from_next : (st st' : State) (c : Id → ℕ) → From0 st → Leaves naming st st' c → From0 st'
  from_next st st' c n l = λ q. let i = n q in let j = l.more q in omega (arith, i, j)

  items_left : (m : ℕ) (p : Path) (is : ItemCodes) (st : State) → OwnsItems naming run is → Ended (renew_items_as naming run m p is st) (λ r. Leaves naming st r.1 (λ q. times_items q (items_of is)))
  items_left m p no_item_codes st o = all_left naming st (λ q. 0)
  items_left m p (item_code z k cs is) st o =
      let ca : Id → ℕ = λ q. times_in q (lives_of cs) in
      let cb : Id → ℕ = λ q. times_items q (items_of is) in
      let c : Id → ℕ = λ q. times_items q (items_of (item_code z k cs is)) in
      let q = item z.key z.occurrence ∷ p in
      ended_on (renew_codes_as naming run m q 0 cs st) (λ r. on_ok (renew_items_as naming run m p is r.1) (λ y. ok (item_code z k r.0 y.0, y.1))) (λ r. Leaves naming st r.1 ca) (λ r. Leaves naming st r.1 c) (codes_left naming notes run m q 0 cs st o.0)
      (λ r l.
      ended_on (renew_items_as naming run m p is r.1) (λ y. ok (item_code z k r.0 y.0, y.1)) (λ y. Leaves naming r.1 y.1 cb) (λ y. Leaves naming st y.1 c) (items_left m p is r.1 o.1)
      (λ y w. left_then naming st r.1 y.1 ca cb c (λ i e. omega (arith, e)) (λ i e. omega (arith, e)) l w))

  -- one and then the other
  two_le : {A : Type 0} (o : Outcome A) (n a b : ℕ) (f : A → ℕ) → n ≤ a → Holds o (λ r. f r ≤ b) → n + after o f ≤ a + b
  two_le o n a b f h k = let i = after_le o f b k in omega (arith, h, i)

  region_in : (m : ℕ) (q : Path) (around : Id → ℕ) (cs : Codes) (st : State) → Room st around (λ i. times_in i (lives_of cs)) → OwnsIn naming run cs → SettledIn naming st around q 0 cs → NestsIn (lives_of cs) m
      → Moment st (λ i. times_in i (lives_of cs)) → AllRise (positions_in (lives_of cs)) → Holds (guarded_region m q cs st) (λ r. Under r.1 × (stays q ≡ true) × StaysAll (regions_in q 0 (lives_of r.0)))
      → (Holds (guarded_codes_as naming run m q 0 cs st) (BodyDone q 0) → codes_asks_as naming run m q 0 cs st ≤ asks_in look1 t1 stays q 0 (lives_of cs))
      → region st (positions_in (lives_of cs)) (codes_asks_as naming run m q 0 cs st) ≤ 1 + entered look1 t1 stays q (positions_in (lives_of cs)) (asks_in look1 t1 stays q 0 (lives_of cs))
  region_in m q around cs st room o s d mo ri h rec =
      region_bound m q around cs st room o s d mo ri (holds_fact (guarded_region m q cs st) (stays q ≡ true) (holds_then (guarded_region m q cs st) _ (λ r. stays q ≡ true) h (λ r v. v.1)))
      (holds_then (guarded_region m q cs st) _ (BodyDone q 0) h (λ r v. (v.0, v.2))) rec

  -- a list that was read again
  list_le : (m : ℕ) (p : Path) (around : Id → ℕ) (z : Listing) (x : Spot) (is : ItemCodes) (st : State) → OwnsItems naming run is → ListingApart naming run z → EachElem (ItemBound m) (elems is) → Room st around (λ q. times_items q (items_of is))
      → SettledItems naming st around (items ∷ p) is → Moment st (λ q. times_items q (items_of is)) → (vs : Values Path) → let one = fresh_item_as naming run z m in
      Holds
      (by_values vs
      (λ us.
      let xs = entries z.key 0 [] us in
      let olds = if stale_taken_as naming one (items ∷ p) xs (idle_handles is) st then guarded_handles_as naming run m is else idle_handles is in on_ok (sync_codes_as naming one (items ∷ p) xs olds st) (λ r. ok (listed_code z x r.0, r.1)))
      (fresh_other run z x p m (dropped_as naming (λ q. times_items q (items_of is)) st))) (CodeDone p)
      → by_values vs (λ us. let xs = entries z.key 0 [] us in 1 + (if stale_taken_as naming one (items ∷ p) xs (idle_handles is) st then synced_asks_as naming one (items ∷ p) xs (old_items_as naming run m is) st else 0)) 0
      ≤ 1 + entered look1 t1 stays (items ∷ p) (positions_items (items_of is)) (asks_items look1 t1 stays (items ∷ p) (items_of is))
  list_le m p around z x is st o la b room s mo no_values h = omega arith
  list_le m p around z x is st o la b room s mo (value v vs) h = by (stale_taken_as naming one (items ∷ p) xs (idle_handles is) st) refl h where
    one : Path → Entry → State → Outcome ItemDone
    one = fresh_item_as naming run z m

    xs : List Entry
    xs = entries z.key 0 [] (value v vs)

    rest : Rest m (items ∷ p) around (elems is) st
    rest = record {
      bounds = b;
      room = room_less st around (λ i. times_elems i (elems is)) _ (λ i. let e = times_elems_of i is in omega (arith, e)) room;
      settled = elems_settled naming notes run st around (items ∷ p) is s;
      moment = moment_less st (λ i. times_elems i (elems is)) _ (λ i w. let e = times_elems_of i is in omega (arith, e, w)) mo;
    }

    by : (c : Bool) → stale_taken_as naming (fresh_item_as naming run z m) (items ∷ p) (entries z.key 0 [] (value v vs)) (idle_handles is) st ≡ c
        → Holds (on_ok (sync_codes_as naming (fresh_item_as naming run z m) (items ∷ p) (entries z.key 0 [] (value v vs)) (if c then guarded_handles_as naming run m is else idle_handles is) st) (λ r. ok (listed_code z x r.0, r.1))) (CodeDone p)
        → 1 + (if c then synced_asks_as naming (fresh_item_as naming run z m) (items ∷ p) (entries z.key 0 [] (value v vs)) (old_items_as naming run m is) st else 0)
        ≤ 1 + entered look1 t1 stays (items ∷ p) (positions_items (items_of is)) (asks_items look1 t1 stays (items ∷ p) (items_of is))
    by false e k = omega arith
    by true e k =
        let o1 = synced m (fresh_item_as naming run z m) (items ∷ p) (entries z.key 0 [] (value v vs)) (elems is) st in
        let k1 : Holds o1 (λ r. CodeDone p (listed_code z x r.0, r.1)) =
        subst (λ hs. Holds (sync_codes_as naming (fresh_item_as naming run z m) (items ∷ p) (entries z.key 0 [] (value v vs)) hs st) (λ r. CodeDone p (listed_code z x r.0, r.1))) (entered_are naming notes run any_stale fresh_alone true m is)
        (holds_on (sync_codes_as naming (fresh_item_as naming run z m) (items ∷ p) (entries z.key 0 [] (value v vs)) (guarded_handles_as naming run m is) st) (λ r. ok (listed_code z x r.0, r.1)) (CodeDone p) k) in
        let done : Holds o1 (ItemsDone (items ∷ p)) = holds_then o1 _ (ItemsDone (items ∷ p)) k1 (λ r w. (w.0, w.1.1)) in
        let sq = holds_fact o1 (stays (items ∷ p) ≡ true) (holds_then o1 _ (λ r. stays (items ∷ p) ≡ true) k1 (λ r w. w.1.0)) in
        let ol = one_left naming notes run z m la in
        let found =
        stale_found m (fresh_item_as naming run z m) ol (items ∷ p) around (entries z.key 0 [] (value v vs)) (elems is) st rest done
        (ap (λ hs. stale_taken_as naming (fresh_item_as naming run z m) (items ∷ p) (entries z.key 0 [] (value v vs)) hs st) (sym (idle_are naming notes run is)) ∙ e) in
        let le = synced_le m (fresh_item_as naming run z m) ol (items ∷ p) around (entries z.key 0 [] (value v vs)) (elems is) st rest done in
        let olds = ap (λ hs. synced_asks_as naming (fresh_item_as naming run z m) (items ∷ p) (entries z.key 0 [] (value v vs)) hs st) (old_are m is) in
        let sum = asks_are (items ∷ p) is in
        let full : entered look1 t1 stays (items ∷ p) (positions_items (items_of is)) (asks_items look1 t1 stays (items ∷ p) (items_of is)) ≡ asks_items look1 t1 stays (items ∷ p) (items_of is) =
        ap₂ (λ a c. if a && c then asks_items look1 t1 stays (items ∷ p) (items_of is) else 0) sq (ap Ends (sym (positions_are is)) ∙ found) in omega (arith, le, olds, sum, full)

  else_le : (vs : Values Path) {A : Type 0} (F : Values Path → Outcome A) (o : Outcome A) (Q : A → Type 0) (a n : ℕ) → (Holds o Q → a ≤ 1 + n) → Holds (by_values vs F o) Q → by_values vs (λ us. 0) a ≤ 1 + n
  else_le no_values F o Q a n f h = f h
  else_le (value v vs) F o Q a n f h = omega arith

  cond_le : (b : Bool) {A : Type 0} (o o' : Outcome A) (Q : A → Type 0) (a n : ℕ) → (Holds o Q → a ≤ 1 + n) → Holds (cond b o o') Q → (if b then a else 0) ≤ 1 + n
  cond_le true o o' Q a n f h = f h
  cond_le false o o' Q a n f h = omega arith

  cond_else : (b : Bool) {A : Type 0} (o o' : Outcome A) (Q : A → Type 0) (a n : ℕ) → (Holds o' Q → a ≤ 1 + n) → Holds (cond b o o') Q → (if b then 0 else a) ≤ 1 + n
  cond_else false o o' Q a n f h = f h
  cond_else true o o' Q a n f h = omega arith

  mutual
    pub code_le : (m : ℕ) (p : Path) (around : Id → ℕ) (c : Code) (st : State) → Room st around (λ q. times q (live_of c)) → Owns naming run c → Settled naming st around p c → Nests (live_of c) m → Moment st (λ q. times q (live_of c))
        → AllRise (positions_of (live_of c)) → Holds (guarded_code_as naming run m p c st) (CodeDone p) → code_asks_as naming run m p c st ≤ asks look1 t1 stays p (live_of c)
    code_le m p around (still_code n) st room o s d mo ri h = omega arith
    code_le m p around (put_code n x) st room o s d mo ri h = omega arith
    code_le m p around (element_code n made xs zs cs) st room o s d mo ri h =
        let a : Id → ℕ = λ q. hit q (node n) + times_attrs q xs in
        let c : Id → ℕ = λ q. times_in q (lives_of cs) in
        let st1 = renew_attrs n xs st in
        let l = attrs_left naming n xs st a (let i = hit_self (node n) in omega (arith, i)) (attrs_counted xs a (λ q w. omega (arith, w)) o.0) in
        let ro = room_less st around (λ q. a q + c q) _ (λ q. omega arith) room in
        let room1 = room_beside naming st st1 around a c ro l in
        let step = step_beside naming st st1 around a c ro l in
        let s1 = codes_go naming run st st1 around p 0 cs step o.2 s in
        let mo1 = moment_then st st1 around c (λ q. times q (live_of (element_code n made xs zs cs))) (λ q w. omega (arith, w)) mo step in
        let g = guarded_codes_as naming run m p 0 cs st1 in
        let k = holds_on g (λ r. ok (element_code n made xs zs r.0, renew_mods zs r.1)) (CodeDone p) h in
        let left = subst (λ z. Ended z (λ r. Leaves naming st1 r.1 c)) (sym (codes_same naming notes run any_stale fresh_alone true m p 0 around cs st1 room1 o.2 s1 d)) (codes_left naming notes run m p 0 cs st1 o.2) in
        let call : Id → ℕ = λ q. times_mods q zs in
        let done : Holds g (BodyDone p 0) =
        holds_both g (λ r. Leaves naming st1 r.1 c) (λ r. CodeDone p (element_code n made xs zs r.0, renew_mods zs r.1)) (BodyDone p 0) left k
        (λ r w v. (under_next r.1 (renew_mods zs r.1) call (from_next st1 r.1 c mo1.next w) (mods_left naming zs r.1 call (mods_counted zs call (λ q u. u) o.1)) v.0, v.1)) in
        let le = codes_le m p 0 around cs st1 room1 o.2 s1 d mo1 (rise_left (positions_in (lives_of cs)) (mod_positions zs) (rise_right (attr_positions xs) (positions_in (lives_of cs) ++ mod_positions zs) ri)) done in omega (arith, le)
    code_le m p around (branch_code z x true k cs) st room o s d mo ri h =
        let a : Id → ℕ = λ q. occurs q x.made in
        let c : Id → ℕ = λ q. times_in q (lives_of cs) in
        let st1 = reread x.ref st in
        let l = reread_left naming x.ref st a o.0 in
        let ro = room_less st around (λ q. a q + c q) _ (λ q. omega arith) room in
        let room1 = room_beside naming st st1 around a c ro l in
        let step = step_beside naming st st1 around a c ro l in
        let s1 = codes_go naming run st st1 around (main ∷ p) 0 cs step o.2 s.1 in
        let mo1 = moment_then st st1 around c (λ q. times q (live_of (branch_code z x true k cs))) (λ q w. omega (arith, w)) mo step in
        let g = guarded_region m (main ∷ p) cs st1 in
        let le =
        cond_le (takes_first z.unless (first_value (spot_pairs st1 x.ref))) (on_ok g (λ r. ok (branch_with z x true (kept k r)))) (fresh_branch run z x false p m (dropped_as naming (λ q. times_in q (lives_of cs) + times_comment q k) st1)) (CodeDone p)
        (region st1 (positions_in (lives_of cs)) (codes_asks_as naming run m (main ∷ p) 0 cs st1)) (entered look1 t1 stays (main ∷ p) (positions_in (lives_of cs)) (asks_in look1 t1 stays (main ∷ p) 0 (lives_of cs)))
        (λ w. region_in m (main ∷ p) around cs st1 room1 o.2 s1 d mo1 ri.1 (holds_then g _ _ (holds_on g (λ r. ok (branch_with z x true (kept k r))) (CodeDone p) w) (λ r v. (v.0, v.1.0, v.1.1))) (λ v. codes_le m (main ∷ p) 0 around cs st1 room1 o.2 s1 d mo1 ri.1 v)) h in omega (arith, le)
    code_le m p around (branch_code z x false k cs) st room o s d mo ri h =
        let a : Id → ℕ = λ q. occurs q x.made in
        let c : Id → ℕ = λ q. times_in q (lives_of cs) in
        let st1 = reread x.ref st in
        let l = reread_left naming x.ref st a o.0 in
        let ro = room_less st around (λ q. a q + c q) _ (λ q. omega arith) room in
        let room1 = room_beside naming st st1 around a c ro l in
        let step = step_beside naming st st1 around a c ro l in
        let s1 = codes_go naming run st st1 around (otherwise ∷ p) 0 cs step o.2 s.1 in
        let mo1 = moment_then st st1 around c (λ q. times q (live_of (branch_code z x false k cs))) (λ q w. omega (arith, w)) mo step in
        let g = guarded_region m (otherwise ∷ p) cs st1 in
        let le =
        cond_else (takes_first z.unless (first_value (spot_pairs st1 x.ref))) (fresh_branch run z x true p m (dropped_as naming (λ q. times_in q (lives_of cs) + times_comment q k) st1)) (on_ok g (λ r. ok (branch_with z x false (kept k r)))) (CodeDone p)
        (region st1 (positions_in (lives_of cs)) (codes_asks_as naming run m (otherwise ∷ p) 0 cs st1)) (entered look1 t1 stays (otherwise ∷ p) (positions_in (lives_of cs)) (asks_in look1 t1 stays (otherwise ∷ p) 0 (lives_of cs)))
        (λ w. region_in m (otherwise ∷ p) around cs st1 room1 o.2 s1 d mo1 ri.1 (holds_then g _ _ (holds_on g (λ r. ok (branch_with z x false (kept k r))) (CodeDone p) w) (λ r v. (v.0, v.1.0, v.1.1))) (λ v. codes_le m (otherwise ∷ p) 0 around cs st1 room1 o.2 s1 d mo1 ri.1 v)) h in omega (arith, le)
    code_le m p around (listed_code z x is) st room o s d mo ri h =
        by (is_stale st x.ref) h (elem_bounds m is o.2 d ri.1)
        (λ t r k mo' w. items_le m (items ∷ p) around is t r o.2 k d mo' ri.1 w) where
          by : (b : Bool)
              → Holds
              (if b
              then (
              let st1 = evaluate x.ref st in
              let one = fresh_item_as naming run z m in
              by_values (values_listed (first_value (spot_pairs st1 x.ref)))
              (λ vs.
              let xs = entries z.key 0 [] vs in
              let olds = if stale_taken_as naming one (items ∷ p) xs (idle_handles is) st1 then guarded_handles_as naming run m is else idle_handles is in
              on_ok (sync_codes_as naming one (items ∷ p) xs olds st1) (λ r. ok (listed_code z x r.0, r.1)))
              (fresh_other run z x p m (dropped_as naming (λ q. times_items q (items_of is)) st1))
              )
              else on_ok (guard st (positions_items (items_of is)) is (guarded_items_as naming run m (items ∷ p) is st)) (λ r. ok (listed_code z x r.0, r.1))) (CodeDone p)
              → EachElem (ItemBound m) (elems is)
              → ((t : State) → Room t around (λ q. times_items q (items_of is)) → SettledItems naming t around (items ∷ p) is → Moment t (λ q. times_items q (items_of is)) → Holds (guarded_items_as naming run m (items ∷ p) is t) (ItemsDone (items ∷ p))
              → items_asks_as naming run m (items ∷ p) is t ≤ asks_items look1 t1 stays (items ∷ p) (items_of is))
              → (if b
              then (
              let st1 = evaluate x.ref st in
              let one = fresh_item_as naming run z m in
              1
              + by_values (values_listed (first_value (spot_pairs st1 x.ref)))
              (λ vs. let xs = entries z.key 0 [] vs in 1 + (if stale_taken_as naming one (items ∷ p) xs (idle_handles is) st1 then synced_asks_as naming one (items ∷ p) xs (old_items_as naming run m is) st1 else 0)) 0
              )
              else 1 + region st (positions_items (items_of is)) (items_asks_as naming run m (items ∷ p) is st))
              ≤ 1 + (1 + entered look1 t1 stays (items ∷ p) (positions_items (items_of is)) (asks_items look1 t1 stays (items ∷ p) (items_of is)))
          by true k b rec =
              let a : Id → ℕ = λ q. occurs q x.made in
              let c : Id → ℕ = λ q. times_items q (items_of is) in
              let st1 = evaluate x.ref st in
              let l = evaluate_left naming x.ref st a o.0 in
              let step = step_beside naming st st1 around a c room l in
              let s1 = items_go naming run st st1 around (items ∷ p) is step o.2 s.1 in
              let mo1 = moment_then st st1 around c (λ q. times q (live_of (listed_code z x is))) (λ q w. omega (arith, w)) mo step in
              let le = list_le m p around z x is st1 o.2 o.1 b (room_beside naming st st1 around a c room l) s1 mo1 (values_listed (first_value (spot_pairs st1 x.ref))) k in omega (arith, le)
          by false k b rec =
              let c : Id → ℕ = λ q. times_items q (items_of is) in
              let ri' = room_less st around c _ (λ q. omega arith) room in
              let mo' = moment_less st c _ (λ q w. omega (arith, w)) mo in
              let ps = positions_items (items_of is) in
              let go = guarded_items_as naming run m (items ∷ p) is st in
              let g = guard st ps is go in
              let w : Holds g (λ r. CodeDone p (listed_code z x r.0, r.1)) = holds_on g (λ r. ok (listed_code z x r.0, r.1)) (CodeDone p) k in
              let left : Ended g (λ r. Leaves naming st r.1 c) =
              either (any_stale st ps) (λ e. Ended (if e then go else ok (is, st)) (λ r. Leaves naming st r.1 c))
              (subst (λ y. Ended y (λ r. Leaves naming st r.1 c)) (sym (items_same naming notes run any_stale fresh_alone true m (items ∷ p) around is st ri' o.2 s.1 d)) (items_left m (items ∷ p) is st o.2)) (all_left naming st c) in
              let u : Under st = holds_fact g (Under st) (holds_both g (λ r. Leaves naming st r.1 c) _ (λ r. Under st) left w (λ r v f. under_before st r.1 c c mo' v f.0)) in
              let sq = holds_fact g (stays (items ∷ p) ≡ true) (holds_then g _ (λ r. stays (items ∷ p) ≡ true) w (λ r v. v.1.0)) in
              let done : Holds g (ItemsDone (items ∷ p)) = holds_then g _ (ItemsDone (items ∷ p)) w (λ r v. (v.0, v.1.1)) in
              let le =
              region_le st c ps (items ∷ p) (items_asks_as naming run m (items ∷ p) is st) (asks_items look1 t1 stays (items ∷ p) (items_of is)) ri.1 (items_in naming run is o.2) mo' u
              (λ e. (sq, rec st ri' s.1 mo' (subst (λ y. Holds y (ItemsDone (items ∷ p))) (ap (λ b'. if b' then go else ok (is, st)) e) done))) in omega (arith, le)
    code_le m p around (unlisted_code z x k cs) st room o s d mo ri h =
        let a : Id → ℕ = λ q. occurs q x.made in
        let c : Id → ℕ = λ q. times_in q (lives_of cs) in
        let st1 = reread x.ref st in
        let l = reread_left naming x.ref st a o.0 in
        let ro = room_less st around (λ q. a q + c q) _ (λ q. omega arith) room in
        let room1 = room_beside naming st st1 around a c ro l in
        let step = step_beside naming st st1 around a c ro l in
        let s1 = codes_go naming run st st1 around (otherwise ∷ p) 0 cs step o.2 s.1 in
        let mo1 = moment_then st st1 around c (λ q. times q (live_of (unlisted_code z x k cs))) (λ q w. omega (arith, w)) mo step in
        let g = guarded_region m (otherwise ∷ p) cs st1 in
        let le =
        else_le (values_listed (first_value (spot_pairs st1 x.ref)))
        (λ vs. on_ok (fresh_codes (fresh_item_as naming run z m) (items ∷ p) (entries z.key 0 [] vs) (dropped_as naming (λ q. times_in q (lives_of cs) + times_comment q k) st1)) (λ r. ok (listed_code z x r.0, r.1)))
        (on_ok g (λ r. ok (unlisted_with z x (kept k r)))) (CodeDone p)
        (region st1 (positions_in (lives_of cs)) (codes_asks_as naming run m (otherwise ∷ p) 0 cs st1)) (entered look1 t1 stays (otherwise ∷ p) (positions_in (lives_of cs)) (asks_in look1 t1 stays (otherwise ∷ p) 0 (lives_of cs)))
        (λ w. region_in m (otherwise ∷ p) around cs st1 room1 o.2 s1 d mo1 ri.1 (holds_then g _ _ (holds_on g (λ r. ok (unlisted_with z x (kept k r))) (CodeDone p) w) (λ r v. (v.0, v.1.0, v.1.1))) (λ v. codes_le m (otherwise ∷ p) 0 around cs st1 room1 o.2 s1 d mo1 ri.1 v)) h in omega (arith, le)
    code_le m p around (let_code made rs cs) st room o s d mo ri h =
        let g = guarded_codes_as naming run m (main ∷ p) 0 cs st in
        codes_le m (main ∷ p) 0 (with_made made around) cs st (room_into st around (λ q. times_in q (lives_of cs)) made s.0 room) o s.1 d (moment_less st (λ q. times_in q (lives_of cs)) _ (λ q w. omega (arith, w)) mo) ri
        (holds_then g _ (BodyDone (main ∷ p) 0) (holds_on g (λ r. ok (let_code made rs r.0, r.1)) (CodeDone p) h) (λ r v. v))
    code_le zero p around (component_code i made gm args k cs) st room o s d mo ri h = absurd h
    code_le (suc m) p around (component_code i made gm args k cs) st room o s d mo ri h =
        let g = guarded_region m i.path cs st in
        let inside = with_made made around in
        let room1 = room_into st around (λ q. times_in q (lives_of cs)) made s.0 room in
        let mo1 = moment_less st (λ q. times_in q (lives_of cs)) _ (λ q w. omega (arith, w)) mo in
        region_in m i.path inside cs st room1 o s.1 d mo1 ri (holds_then g _ _ (holds_on g (λ r. ok (component_code i made gm args k r.0, r.1)) (CodeDone p) h) (λ r v. (v.0, v.1.0, v.1.1)))
        (λ v. codes_le m i.path 0 inside cs st room1 o s.1 d mo1 ri v)
    code_le m p around (yield_code n made rs cs) st room o s d mo ri h =
        let g = guarded_codes_as naming run m (slot n ∷ p) 0 cs st in
        codes_le m (slot n ∷ p) 0 (with_made made around) cs st (room_into st around (λ q. times_in q (lives_of cs)) made s.0 room) o s.1 d (moment_less st (λ q. times_in q (lives_of cs)) _ (λ q w. omega (arith, w)) mo) ri
        (holds_then g _ (BodyDone (slot n ∷ p) 0) (holds_on g (λ r. ok (yield_code n made rs r.0, r.1)) (CodeDone p) h) (λ r v. v))

    pub codes_le : (m : ℕ) (p : Path) (i : ℕ) (around : Id → ℕ) (cs : Codes) (st : State) → Room st around (λ q. times_in q (lives_of cs)) → OwnsIn naming run cs → SettledIn naming st around p i cs → NestsIn (lives_of cs) m
        → Moment st (λ q. times_in q (lives_of cs)) → AllRise (positions_in (lives_of cs)) → Holds (guarded_codes_as naming run m p i cs st) (BodyDone p i) → codes_asks_as naming run m p i cs st ≤ asks_in look1 t1 stays p i (lives_of cs)
    codes_le m p i around no_codes st room o s d mo ri h = omega arith
    codes_le m p i around (code_and c cs) st room o s d mo ri h =
        let ca : Id → ℕ = λ q. times q (live_of c) in
        let cb : Id → ℕ = λ q. times_in q (lives_of cs) in
        let g = guarded_code_as naming run m (at i ∷ p) c st in
        let ra = room_less st around ca _ (λ q. omega arith) room in
        let left : Ended g (λ r. Leaves naming st r.1 ca) =
        subst (λ z. Ended z (λ r. Leaves naming st r.1 ca)) (sym (code_same naming notes run any_stale fresh_alone true m (at i ∷ p) around c st ra o.0 s.0 d.0)) (code_left naming notes run m (at i ∷ p) c st o.0) in
        let all =
        holds_both g (λ r. Leaves naming st r.1 ca) (λ r. Holds (on_ok (guarded_codes_as naming run m p (suc i) cs r.1) (λ z. ok (code_and r.0 z.0, z.1))) (BodyDone p i))
        (λ r. CodeDone (at i ∷ p) r × (codes_asks_as naming run m p (suc i) cs r.1 ≤ asks_in look1 t1 stays p (suc i) (lives_of cs))) left
        (holds_on g (λ r. on_ok (guarded_codes_as naming run m p (suc i) cs r.1) (λ z. ok (code_and r.0 z.0, z.1))) (BodyDone p i) h)
        (λ r l k.
        let g2 = guarded_codes_as naming run m p (suc i) cs r.1 in
        let step = step_beside naming st r.1 around ca cb room l in
        let room2 = room_beside naming st r.1 around ca cb room l in
        let s2 = codes_go naming run st r.1 around p (suc i) cs step o.1 s.1 in
        let mo2 = moment_then st r.1 around cb (λ q. times_in q (lives_of (code_and c cs))) (λ q w. omega (arith, w)) mo step in
        let rs = regions_of (at i ∷ p) (live_of r.0) in
        let w : Holds g2 (λ z. Under z.1 × StaysAll (rs ++ regions_in p (suc i) (lives_of z.0))) = holds_on g2 (λ z. ok (code_and r.0 z.0, z.1)) (BodyDone p i) k in
        let left2 = subst (λ z. Ended z (λ y. Leaves naming r.1 y.1 cb)) (sym (codes_same naming notes run any_stale fresh_alone true m p (suc i) around cs r.1 room2 o.1 s2 d.1)) (codes_left naming notes run m p (suc i) cs r.1 o.1) in
        let f = holds_fact g2 (CodeDone (at i ∷ p) r) (holds_both g2 (λ y. Leaves naming r.1 y.1 cb) _ (λ y. CodeDone (at i ∷ p) r) left2 w (λ y l2 v. (under_before r.1 y.1 cb cb mo2 l2 v.0, stays_left rs (regions_in p (suc i) (lives_of y.0)) v.1))) in (
          f,
          codes_le m p (suc i) around cs r.1 room2 o.1 s2 d.1 mo2 (rise_right (positions_of (live_of c)) (positions_in (lives_of cs)) ri)
              (holds_then g2 _ (BodyDone p (suc i)) w (λ y v. (v.0, stays_right rs (regions_in p (suc i) (lives_of y.0)) v.1))),
        )) in
        two_le g (code_asks_as naming run m (at i ∷ p) c st) (asks look1 t1 stays (at i ∷ p) (live_of c)) (asks_in look1 t1 stays p (suc i) (lives_of cs)) (λ r. codes_asks_as naming run m p (suc i) cs r.1)
        (code_le m (at i ∷ p) around c st ra o.0 s.0 d.0 (moment_less st ca _ (λ q w. omega (arith, w)) mo) (rise_left (positions_of (live_of c)) (positions_in (lives_of cs)) ri) (holds_then g _ (CodeDone (at i ∷ p)) all (λ r v. v.0)))
        (holds_then g _ (λ r. codes_asks_as naming run m p (suc i) cs r.1 ≤ asks_in look1 t1 stays p (suc i) (lives_of cs)) all (λ r v. v.1))

    items_le : (m : ℕ) (p : Path) (around : Id → ℕ) (is : ItemCodes) (st : State) → Room st around (λ q. times_items q (items_of is)) → OwnsItems naming run is → SettledItems naming st around p is → NestsItems (items_of is) m
        → Moment st (λ q. times_items q (items_of is)) → AllRise (positions_items (items_of is)) → Holds (guarded_items_as naming run m p is st) (ItemsDone p) → items_asks_as naming run m p is st ≤ asks_items look1 t1 stays p (items_of is)
    items_le m p around no_item_codes st room o s d mo ri h = omega arith
    items_le m p around (item_code z k cs is) st room o s d mo ri h =
        let q = item z.key z.occurrence ∷ p in
        let inside = with_made (item_made z) around in
        let ca : Id → ℕ = λ i. times_in i (lives_of cs) in
        let cb : Id → ℕ = λ i. times_items i (items_of is) in
        let ri1 = room_into st around ca (item_made z) s.0.0 (room_less st around (λ i. occurs i (item_made z) + ca i) _ (λ i. omega arith) room) in
        let ro = room_less st around (λ i. ca i + cb i) _ (λ i. omega arith) room in
        let mo1 = moment_less st ca _ (λ i w. omega (arith, w)) mo in
        let rise1 = rise_left (positions_in (lives_of cs)) (positions_items (items_of is)) ri in
        let g = guarded_region m q cs st in
        let left = region_left m q inside cs st ri1 o.0 s.0.3 d.0 in
        let all =
        holds_both g (λ r. Leaves naming st r.1 ca) (λ r. Holds (on_ok (guarded_items_as naming run m p is r.1) (λ y. ok (item_code z k r.0 y.0, y.1))) (ItemsDone p))
        (λ r. (Under r.1 × (stays q ≡ true) × StaysAll (regions_in q 0 (lives_of r.0))) × (items_asks_as naming run m p is r.1 ≤ asks_items look1 t1 stays p (items_of is))) left
        (holds_on g (λ r. on_ok (guarded_items_as naming run m p is r.1) (λ y. ok (item_code z k r.0 y.0, y.1))) (ItemsDone p) h)
        (λ r l w.
        let g2 = guarded_items_as naming run m p is r.1 in
        let step = step_beside naming st r.1 around ca cb ro l in
        let room2 = room_beside naming st r.1 around ca cb ro l in
        let s2 = items_go naming run st r.1 around p is step o.1 s.1 in
        let mo2 = moment_then st r.1 around cb (λ i. times_items i (items_of (item_code z k cs is))) (λ i u. omega (arith, u)) mo step in
        let rs = regions_in q 0 (lives_of r.0) in
        let v : Holds g2 (λ y. Under y.1 × ((stays q ≡ true) × StaysAll (rs ++ regions_items p (items_of y.0)))) = holds_on g2 (λ y. ok (item_code z k r.0 y.0, y.1)) (ItemsDone p) w in
        let left2 = subst (λ y. Ended y (λ e. Leaves naming r.1 e.1 cb)) (sym (items_same naming notes run any_stale fresh_alone true m p around is r.1 room2 o.1 s2 d.1)) (items_left m p is r.1 o.1) in
        let f =
        holds_fact g2 (Under r.1 × (stays q ≡ true) × StaysAll rs)
        (holds_both g2 (λ y. Leaves naming r.1 y.1 cb) _ (λ y. Under r.1 × (stays q ≡ true) × StaysAll rs) left2 v (λ y l2 u. (under_before r.1 y.1 cb cb mo2 l2 u.0, u.1.0, stays_left rs (regions_items p (items_of y.0)) u.1.1))) in (
          f,
          items_le m p around is r.1 room2 o.1 s2 d.1 mo2 (rise_right (positions_in (lives_of cs)) (positions_items (items_of is)) ri)
              (holds_then g2 _ (ItemsDone p) v (λ y u. (u.0, stays_right rs (regions_items p (items_of y.0)) u.1.1))),
        )) in
        two_le g (region st (positions_in (lives_of cs)) (codes_asks_as naming run m q 0 cs st)) (1 + entered look1 t1 stays q (positions_in (lives_of cs)) (asks_in look1 t1 stays q 0 (lives_of cs)))
        (asks_items look1 t1 stays p (items_of is)) (λ r. items_asks_as naming run m p is r.1)
        (region_in m q inside cs st ri1 o.0 s.0.3 d.0 mo1 rise1 (holds_then g _ _ all (λ r v. v.0)) (λ v. codes_le m q 0 inside cs st ri1 o.0 s.0.3 d.0 mo1 rise1 v))
        (holds_then g _ (λ r. items_asks_as naming run m p is r.1 ≤ asks_items look1 t1 stays p (items_of is)) all (λ r v. v.1))

    elem_bounds : (m : ℕ) (is : ItemCodes) → OwnsItems naming run is → NestsItems (items_of is) m → AllRise (positions_items (items_of is)) → EachElem (ItemBound m) (elems is)
    elem_bounds m no_item_codes o d ri = tt
    elem_bounds m (item_code z k cs is) o d ri =
        let rise1 = rise_left (positions_in (lives_of cs)) (positions_items (items_of is)) ri in (
          record {
            same = λ q st around room s. region_same naming notes run any_stale fresh_alone m q around cs st s d.0 (codes_same naming notes run any_stale fresh_alone true m q 0 around cs st room o.0 s d.0);
            left = λ q st. codes_left naming notes run m q 0 cs st o.0;
            owns = o.0;
            nests = d.0;
            rises = rise1;
            bound = λ q st around room s mo sq h. region_bound m q around cs st room o.0 s d.0 mo rise1 sq h (λ v. codes_le m q 0 around cs st room o.0 s d.0 mo rise1 v);
          },
          elem_bounds m is o.1 d.1 (rise_right (positions_in (lives_of cs)) (positions_items (items_of is)) ri),
        )

  -- the whole page
  pub root_le : (m : ℕ) (k : Code) → MayPass naming run st0 (λ q. 0) m [] k → AtRoot k → AllRise (positions_of (live_of k)) → Holds (guarded_root_code_as naming m run k st0) (CodeDone []) → root_asks_as naming m run k st0 ≤ asks look1 t1 stays [] (live_of k)
  root_le zero k may r ri h = absurd h
  root_le (suc m) (component_code i made gm args k cs) may r ri h =
      let g = guarded_region m [] cs st0 in
      let inside = with_made made (λ q. 0) in
      let s = subst (λ q. SettledIn naming st0 inside q 0 cs) r may.settled.1 in
      let room1 = room_into st0 (λ q. 0) (λ q. times_in q (lives_of cs)) made may.settled.0 may.room in
      let mo : Moment st0 (λ q. times_in q (lives_of cs)) = record { next = λ q. omega arith; rows = λ q w. refl } in
      subst (λ q. region st0 (positions_in (lives_of cs)) (codes_asks_as naming run m [] 0 cs st0) ≤ 1 + entered look1 t1 stays q (positions_in (lives_of cs)) (asks_in look1 t1 stays q 0 (lives_of cs))) (sym r)
      (region_in m [] inside cs st0 room1 may.owns s may.nests mo ri
      (holds_then g _ _ (holds_on g (λ y. ok (component_code i made gm args k y.0, y.1)) (CodeDone []) h)
      (λ y v. (v.0, subst (λ q. stays q ≡ true) r v.1.0, subst (λ q. StaysAll (regions_in q 0 (lives_of y.0))) r v.1.1))) (λ v. codes_le m [] 0 inside cs st0 room1 may.owns s may.nests mo ri v))
  root_le (suc m) (still_code n) may r ri h = absurd h
  root_le (suc m) (put_code n s) may r ri h = absurd h
  root_le (suc m) (element_code n made xs zs cs) may r ri h = absurd h
  root_le (suc m) (branch_code z s u k cs) may r ri h = absurd h
  root_le (suc m) (listed_code z s is) may r ri h = absurd h
  root_le (suc m) (unlisted_code z s k cs) may r ri h = absurd h
  root_le (suc m) (let_code made rs cs) may r ri h = absurd h
  root_le (suc m) (yield_code n made rs cs) may r ri h = absurd h
