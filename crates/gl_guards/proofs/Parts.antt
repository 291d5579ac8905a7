-- What the update of a part leaves.
use Rattle.std.proofs.Common.{◌≡◌, ℕ, zero, suc, ◌+◌, ◌<◌, List, [], ◌∷◌, map, Bool, true, false, cond, Option, Some, None, option_map, refl, sym, ◌∙◌, ap, subst, arith}
use Rattle.std.specs.Prelude.{if◌then◌else◌, nat_eq, ◌&&◌}
use Rattle.gl_value.specs.Value.{Values, no_values, value, count_value, same}
use Rattle.gl_meaning.specs.Path.{at, main, otherwise, items, item, slot, Path, no_owners}
use Rattle.gl_meaning.specs.Eval.{takes_first}
use Rattle.gl_meaning.specs.Render.{Entry, entries, values_listed}
use Rattle.gl_plain.specs.Ids.{a_node, Id, ref, node, modifier_id, hit, occurs}
use Rattle.gl_plain.specs.State.{State}
use Rattle.gl_plain.specs.Naming.{Naming, made_source, dropped_as}
use Rattle.gl_plain.specs.Binding.{Spot, first_value}
use Rattle.gl_plain.specs.Live.{AttrSpot, ModSpot, ItemSpot, item_made, times, times_in, times_items, times_attrs, times_mods, times_comment}
use Rattle.gl_plain.specs.Renew.{spot_pairs, reread, renew_attrs, renew_mods, give}
use Rattle.gl_plain.proofs.Moves.{hit_self}
use Rattle.gl_machine.specs.Code.{Choice, Listing, Code, still_code, put_code, element_code, branch_code, listed_code, unlisted_code, let_code, component_code, yield_code, ItemCodes, no_item_codes, item_code, items_of, Codes, no_codes, code_and, live_of, lives_of}
use Rattle.gl_machine.specs.Outcome.{Outcome, ok, on_ok}
use Rattle.gl_machine.specs.Sight.{with_locals}
use Rattle.gl_machine.specs.RenewCode.{Runs, start, commented, kept, branch_with, unlisted_with, item_start_as, ItemDone, item_done, CodeHandle, with_code_front, taken_code, with_left, item_with, times_code_handles, renew_item_code_as, sync_one_code_as, sync_codes_as, fresh_codes, by_values, fresh_branch, fresh_other, fresh_item_as, renew_code_as, renew_codes_as, code_handles_as}
use Rattle.gl_machine.proofs.Following.{either}
use Rattle.gl_guards.specs.Guarded.{given_as}
use Rattle.gl_guards.specs.Questions.{OldItem, taken_item, with_first}
use Rattle.gl_guards.specs.Settled.{Leaves, Ended, NotesApart, OwnAttrs, OwnMods, ChoiceApart, ListingApart, Owns, OwnsItems, OwnsIn}
use Rattle.gl_guards.proofs.Leaves.{ended_on, Within, all_left, left_more, left_then, itself, nothing, reread_left, text_left, CountsAttrs, CountsMods, attrs_left, mods_left, give_left, dropped_left, source_left, commented_left}

-- Old items, with what is to be done to them

pub record Elem : Type 0 where
  pub spot : ItemSpot
  pub comment : Option ℕ
  pub codes : Codes

abbrev pub Goes : Type 0
Goes = Codes → Path → State → Outcome (Codes × State)

abbrev pub handle : Goes → Elem → CodeHandle
handle go h = record { spot = h.spot; comment = h.comment; codes = h.codes; go = go h.codes }

abbrev pub elems : ItemCodes → List Elem
elems no_item_codes = []
elems (item_code z k cs is) = record { spot = z; comment = k; codes = cs } ∷ elems is

abbrev pub is_elem : Entry → Elem → Bool
is_elem x h = same no_owners x.key h.spot.key && nat_eq x.occurrence h.spot.occurrence

abbrev pub front : Elem → Option (Elem × List Elem) → Option (Elem × List Elem)
front h None = None
front h (Some p) = Some (p.0, h ∷ p.1)

abbrev pub taken_elem : Entry → List Elem → Option (Elem × List Elem)
taken_elem x [] = None
taken_elem x (h ∷ hs) = if is_elem x h then Some (h, hs) else front h (taken_elem x hs)

abbrev pub both_handles : Goes → Elem × List Elem → CodeHandle × List CodeHandle
both_handles go p = (handle go p.0, map (handle go) p.1)

handle_front : (go : Goes) (h : Elem) (o : Option (Elem × List Elem)) → with_code_front (handle go h) (option_map (both_handles go) o) ≡ option_map (both_handles go) (front h o)
handle_front go h None = refl
handle_front go h (Some p) = refl

pub handles_taken : (go : Goes) (x : Entry) (hs : List Elem) → taken_code x (map (handle go) hs) ≡ option_map (both_handles go) (taken_elem x hs)
handles_taken go x [] = refl
handles_taken go x (h ∷ hs) =
    either (is_elem x h)
    (λ t. cond t (Some (handle go h, map (handle go) hs)) (with_code_front (handle go h) (taken_code x (map (handle go) hs))) ≡ option_map (both_handles go) (cond t (Some (h, hs)) (front h (taken_elem x hs))))
    refl (ap (with_code_front (handle go h)) (handles_taken go x hs) ∙ handle_front go h (taken_elem x hs))

-- with what is asked in them
abbrev pub Asks : Type 0
Asks = Codes → Path → State → ℕ

abbrev pub old_with : Goes → Asks → Elem → OldItem
old_with go asks h = record { handle = handle go h; asks = asks h.codes }

abbrev pub both_old : (Elem → OldItem) → Elem × List Elem → OldItem × List OldItem
both_old f y = (f y.0, map f y.1)

old_front : (f : Elem → OldItem) (h : Elem) (o : Option (Elem × List Elem)) → with_first (f h) (option_map (both_old f) o) ≡ option_map (both_old f) (front h o)
old_front f h None = refl
old_front f h (Some y) = refl

pub old_taken : (go : Goes) (asks : Asks) (x : Entry) (hs : List Elem) → taken_item x (map (old_with go asks) hs) ≡ option_map (both_old (old_with go asks)) (taken_elem x hs)
old_taken go asks x [] = refl
old_taken go asks x (h ∷ hs) =
    let f = old_with go asks in
    either (is_elem x h) (λ t. cond t (Some (f h, map f hs)) (with_first (f h) (taken_item x (map f hs))) ≡ option_map (both_old f) (cond t (Some (h, hs)) (front h (taken_elem x hs)))) refl
    (ap (with_first (f h)) (old_taken go asks x hs) ∙ old_front f h (taken_elem x hs))

abbrev pub times_elem : Id → Elem → ℕ
times_elem q h = occurs q (item_made h.spot) + (times_in q (lives_of h.codes) + times_comment q h.comment)

abbrev pub times_elems : Id → List Elem → ℕ
times_elems q [] = 0
times_elems q (h ∷ hs) = times_elem q h + times_elems q hs

pub times_handles : (go : Goes) (q : Id) (hs : List Elem) → times_code_handles q (map (handle go) hs) ≡ times_elems q hs
times_handles go q [] = refl
times_handles go q (h ∷ hs) = ap (λ n. times_elem q h + n) (times_handles go q hs)

pub times_elems_of : (q : Id) (is : ItemCodes) → times_elems q (elems is) ≡ times_items q (items_of is)
times_elems_of q no_item_codes = refl
times_elems_of q (item_code z k cs is) = ap (λ n. (occurs q (item_made z) + (times_in q (lives_of cs) + times_comment q k)) + n) (times_elems_of q is)

-- a predicate on each
abbrev pub EachElem : (Elem → Type 0) → List Elem → Type 0
EachElem P [] = Unit {0}
EachElem P (h ∷ hs) = P h × EachElem P hs

-- the one of an entry, and the others
abbrev pub Parted : Entry → List Elem → Option (Elem × List Elem) → Type 1
Parted x hs None = Unit {1}
Parted x hs (Some k) = (is_elem x k.0 ≡ true) × ((q : Id) → times_elems q hs ≡ times_elem q k.0 + times_elems q k.1) × ((P : Elem → Type 0) → EachElem P hs → P k.0 × EachElem P k.1)

parted_by : (x : Entry) (h : Elem) (hs : List Elem) (b : Bool) (o : Option (Elem × List Elem)) → is_elem x h ≡ b → Parted x hs o → Parted x (h ∷ hs) (if b then Some (h, hs) else front h o)
parted_by x h hs true o e k = (e, (λ q. refl), (λ P a. a))
parted_by x h hs false None e k = tt
parted_by x h hs false (Some o) e k = (k.0, (λ q. let i = k.1 q in omega (arith, i)), (λ P a. let r = k.2 P a.1 in (r.0, (a.0, r.1))))

pub parted : (x : Entry) (hs : List Elem) → Parted x hs (taken_elem x hs)
parted x [] = tt
parted x (h ∷ hs) = parted_by x h hs (is_elem x h) (taken_elem x hs) refl (parted x hs)

-- Counts

pub attrs_counted : (xs : List AttrSpot) (c : Id → ℕ) → ((q : Id) → 0 < times_attrs q xs → 0 < c q) → OwnAttrs xs → CountsAttrs c xs
attrs_counted [] c f h = tt
attrs_counted (a ∷ xs) c f h = (f (ref a.spot.ref) (let i = h.0 in omega (arith, i)), attrs_counted xs c (λ q w. f q (omega (arith, w))) h.1)

pub mods_counted : (zs : List ModSpot) (c : Id → ℕ) → ((q : Id) → 0 < times_mods q zs → 0 < c q) → OwnMods zs → CountsMods c zs
mods_counted [] c f h = tt
mods_counted (z ∷ zs) c f h = (
  f (modifier_id z.id) (let i = hit_self (modifier_id z.id) in omega (arith, i)),
  f (ref z.spot.ref) (let i = h.0 in omega (arith, i)),
  mods_counted zs c (λ q w. f q (omega (arith, w))) h.1,
)

module _ (naming : Naming) (notes : NotesApart naming) (run : Runs) where
  abbrev pub Left : {A : Type 0} → Outcome (A × State) → State → (Id → ℕ) → Type 0
  Left o st c = Ended o (λ r. Leaves naming st r.1 c)

  -- What is appended

  pub branch_left : (z : Choice) (s : Spot) (u : Bool) (p : Path) (m : ℕ) (count c : Id → ℕ) (st : State) → ChoiceApart naming run z → Within count c → Left (fresh_branch run z s u p m (dropped_as naming count st)) st c
  branch_left z s u p m count c st h w =
      let st1 = dropped_as naming count st in
      let d = left_more naming st st1 count c w (dropped_left naming notes count st) in
      either u
      (λ b. Left (on_ok (run (start z.sight (if b then z.first else z.second) ((if b then main else otherwise) ∷ p) m) st1) (λ r. ok (branch_with z s u (commented r)))) st c)
      (ended_on (run (start z.sight z.first (main ∷ p) m) st1) (λ r. ok (branch_with z s u (commented r))) (λ r. Leaves naming st1 r.1 (λ q. 0)) (λ r. Leaves naming st r.1 c) (h.0 (main ∷ p) m st1)
      (λ r l. commented_left naming st c r (left_then naming st st1 r.1 c (λ q. 0) c (itself c) (nothing c) d l)))
      (ended_on (run (start z.sight z.second (otherwise ∷ p) m) st1) (λ r. ok (branch_with z s u (commented r))) (λ r. Leaves naming st1 r.1 (λ q. 0)) (λ r. Leaves naming st r.1 c) (h.1 (otherwise ∷ p) m st1)
      (λ r l. commented_left naming st c r (left_then naming st st1 r.1 c (λ q. 0) c (itself c) (nothing c) d l)))

  pub other_left : (z : Listing) (s : Spot) (p : Path) (m : ℕ) (count c : Id → ℕ) (st : State) → ListingApart naming run z → Within count c → Left (fresh_other run z s p m (dropped_as naming count st)) st c
  other_left z s p m count c st h w =
      let st1 = dropped_as naming count st in
      let d = left_more naming st st1 count c w (dropped_left naming notes count st) in
      ended_on (run (start z.sight z.other (otherwise ∷ p) m) st1) (λ r. ok (unlisted_with z s (commented r))) (λ r. Leaves naming st1 r.1 (λ q. 0)) (λ r. Leaves naming st r.1 c) (h.1 (otherwise ∷ p) m st1)
      (λ r l. commented_left naming st c r (left_then naming st st1 r.1 c (λ q. 0) c (itself c) (nothing c) d l))

  abbrev pub OneLeft : (Path → Entry → State → Outcome ItemDone) → Type 0
  OneLeft one = (q : Path) (x : Entry) (st : State) → Ended (one q x st) (λ d. Leaves naming st d.arm.state (λ q. 0))

  pub one_left : (z : Listing) (m : ℕ) → ListingApart naming run z → OneLeft (fresh_item_as naming run z m)
  one_left z m h q x st =
      let b = item_start_as naming z q x st in
      let v = st.next Rattle.gl_plain.specs.Ids.a_ref in
      let st1 = made_source naming (naming.value_source v q) x.value st in
      let i = st1.next Rattle.gl_plain.specs.Ids.a_ref in
      let none : Id → ℕ = λ q. 0 in
      let s = left_then naming st st1 b.state none none none (itself none) (itself none) (source_left naming notes (naming.value_source v q) x.value st) (source_left naming notes (naming.index_source i q) (count_value x.index) st1) in
      ended_on (run (start (with_locals b.locals z.sight) z.body q m) b.state) (λ r. ok (item_done b.spot (commented r))) (λ r. Leaves naming b.state r.1 none) (λ d. Leaves naming st d.arm.state none) (h.0 v i q m b.state)
      (λ r l. commented_left naming st none r (left_then naming st b.state r.1 none none none (itself none) (itself none) s l))

  pub entries_left : (one : Path → Entry → State → Outcome ItemDone) → OneLeft one → (p : Path) (xs : List Entry) (st : State) → Left (fresh_codes one p xs st) st (λ q. 0)
  entries_left one h p [] st = all_left naming st (λ q. 0)
  entries_left one h p (x ∷ xs) st =
      let none : Id → ℕ = λ q. 0 in
      ended_on (one (item x.key x.occurrence ∷ p) x st) (λ g. on_ok (fresh_codes one p xs g.arm.state) (λ r. ok (item_with g r))) (λ d. Leaves naming st d.arm.state none) (λ r. Leaves naming st r.1 none) (h (item x.key x.occurrence ∷ p) x st)
      (λ g l.
      ended_on (fresh_codes one p xs g.arm.state) (λ r. ok (item_with g r)) (λ r. Leaves naming g.arm.state r.1 none) (λ r. Leaves naming st r.1 none) (entries_left one h p xs g.arm.state)
      (λ r k. left_then naming st g.arm.state r.1 none none none (itself none) (itself none) l k))

  -- Items that were there

  abbrev pub ElemLeft : Goes → Elem → Type 0
  ElemLeft go h = (q : Path) (st : State) → Left (go h.codes q st) st (λ i. times_in i (lives_of h.codes))

  pub given_left : (q : Path) (x : Entry) (h : CodeHandle) (st : State) (c : Id → ℕ) → ((i : Id) → 0 < occurs i (item_made h.spot) → 0 < c i) → Leaves naming st (given_as naming q x h st) c
  given_left q x h st c f =
      let st1 = give h.spot.value (naming.value_source h.spot.value q) x.value st in
      left_then naming st st1 (given_as naming q x h st) c c c (itself c) (itself c)
      (give_left naming h.spot.value (naming.value_source h.spot.value q) x.value st c (f (ref h.spot.value) (let i = hit_self (ref h.spot.value) in omega (arith, i))))
      (give_left naming h.spot.index (naming.index_source h.spot.index q) (count_value x.index) st1 c (f (ref h.spot.index) (let i = hit_self (ref h.spot.index) in omega (arith, i))))

  abbrev pub elem_count : Elem → Id → ℕ
  elem_count h q = times_elem q h

  pub item_left : (go : Goes) (q : Path) (x : Entry) (h : Elem) (st : State) → ElemLeft go h → Ended (renew_item_code_as naming q x (handle go h) st) (λ d. Leaves naming st d.arm.state (elem_count h))
  item_left go q x h st l =
      let st2 = given_as naming q x (handle go h) st in
      let c = elem_count h in
      ended_on (go h.codes q st2) (λ r. ok (item_done h.spot (kept h.comment r))) (λ r. Leaves naming st2 r.1 (λ i. times_in i (lives_of h.codes))) (λ d. Leaves naming st d.arm.state c) (l q st2)
      (λ r k. left_then naming st st2 r.1 c (λ i. times_in i (lives_of h.codes)) c (itself c) (λ i z. omega (arith, z)) (given_left q x (handle go h) st c (λ i w. omega (arith, w))) k)

  pub sync_left : (go : Goes) (one : Path → Entry → State → Outcome ItemDone) → OneLeft one → (p : Path) (xs : List Entry) (hs : List Elem) (st : State) → EachElem (ElemLeft go) hs
      → Left (sync_codes_as naming one p xs (map (handle go) hs) st) st (λ q. times_elems q hs)
  sync_left go one h p [] hs st ls =
      left_more naming st (dropped_as naming (λ q. times_code_handles q (map (handle go) hs)) st) (λ q. times_code_handles q (map (handle go) hs)) (λ q. times_elems q hs) (λ q z. times_handles go q hs ∙ z)
      (dropped_left naming notes (λ q. times_code_handles q (map (handle go) hs)) st)
  sync_left go one h p (x ∷ xs) hs st ls =
      subst
      (λ o. Left (on_ok (sync_one_code_as naming one (item x.key x.occurrence ∷ p) x (map (handle go) hs) o st) (λ g. on_ok (sync_codes_as naming one p xs g.1 g.0.arm.state) (λ r. ok (item_with g.0 r)))) st (λ q. times_elems q hs))
      (sym (handles_taken go x hs)) (by (taken_elem x hs) (parted x hs) (λ gs t. sync_left go one h p xs gs t)) where
        rest : (gs : List Elem) (d : ItemDone) → ((t : State) → EachElem (ElemLeft go) gs → Left (sync_codes_as naming one p xs (map (handle go) gs) t) t (λ q. times_elems q gs))
            → (c : Id → ℕ) → Within (λ q. times_elems q gs) c → EachElem (ElemLeft go) gs → Leaves naming st d.arm.state c
            → Left (on_ok (sync_codes_as naming one p xs (map (handle go) gs) d.arm.state) (λ r. ok (item_with d r))) st c
        rest gs d rec c w ks l =
            ended_on (sync_codes_as naming one p xs (map (handle go) gs) d.arm.state) (λ r. ok (item_with d r)) (λ r. Leaves naming d.arm.state r.1 (λ q. times_elems q gs)) (λ r. Leaves naming st r.1 c) (rec d.arm.state ks)
            (λ r k. left_then naming st d.arm.state r.1 c (λ q. times_elems q gs) c (itself c) w l k)

        by : (o : Option (Elem × List Elem)) → Parted x hs o
            → ((gs : List Elem) (t : State) → EachElem (ElemLeft go) gs → Left (sync_codes_as naming one p xs (map (handle go) gs) t) t (λ q. times_elems q gs))
            → Left
            (on_ok (sync_one_code_as naming one (item x.key x.occurrence ∷ p) x (map (handle go) hs) (option_map (both_handles go) o) st) (λ g. on_ok (sync_codes_as naming one p xs g.1 g.0.arm.state) (λ r. ok (item_with g.0 r)))) st
            (λ q. times_elems q hs)
        by None k rec =
            let c : Id → ℕ = λ q. times_elems q hs in
            by_one (one (item x.key x.occurrence ∷ p) x st) (h (item x.key x.occurrence ∷ p) x st) where
              by_one : (o : Outcome ItemDone) → Ended o (λ d. Leaves naming st d.arm.state (λ q. 0))
                  → Left (on_ok (on_ok o (with_left (map (handle go) hs))) (λ g. on_ok (sync_codes_as naming one p xs g.1 g.0.arm.state) (λ r. ok (item_with g.0 r)))) st (λ q. times_elems q hs)
              by_one (ok d) l = rest hs d (rec hs) (λ q. times_elems q hs) (itself (λ q. times_elems q hs)) ls (left_more naming st d.arm.state (λ q. 0) (λ q. times_elems q hs) (nothing (λ q. times_elems q hs)) l)
              by_one Rattle.gl_machine.specs.Outcome.deep l = tt
              by_one Rattle.gl_machine.specs.Outcome.lost l = tt
        by (Some k) e rec = by_one (renew_item_code_as naming (item x.key x.occurrence ∷ p) x (handle go k.0) st) (item_left go (item x.key x.occurrence ∷ p) x k.0 st (e.2 (ElemLeft go) ls).0) where
          by_one : (o : Outcome ItemDone) → Ended o (λ d. Leaves naming st d.arm.state (elem_count k.0))
              → Left (on_ok (on_ok o (with_left (map (handle go) k.1))) (λ g. on_ok (sync_codes_as naming one p xs g.1 g.0.arm.state) (λ r. ok (item_with g.0 r)))) st (λ q. times_elems q hs)
          by_one (ok d) l =
              rest k.1 d (rec k.1) (λ q. times_elems q hs) (λ q z. let i = e.1 q in omega (arith, i, z)) (e.2 (ElemLeft go) ls).1
              (left_more naming st d.arm.state (elem_count k.0) (λ q. times_elems q hs) (λ q z. let i = e.1 q in omega (arith, i, z)) l)
          by_one Rattle.gl_machine.specs.Outcome.deep l = tt
          by_one Rattle.gl_machine.specs.Outcome.lost l = tt

  -- The recorded program

  abbrev pub renewing : ℕ → Goes
  renewing m cs q st = renew_codes_as naming run m q 0 cs st

  pub handles_are : (m : ℕ) (is : ItemCodes) → code_handles_as naming run m is ≡ map (handle (renewing m)) (elems is)
  handles_are m no_item_codes = refl
  handles_are m (item_code z k cs is) = ap (λ hs. handle (renewing m) (record { spot = z; comment = k; codes = cs }) ∷ hs) (handles_are m is)

  pub choice_left : {A : Type 0} (vs : Values Path) (F : Values Path → Outcome (A × State)) (g : Outcome (A × State)) (st : State) (c : Id → ℕ) → ((us : Values Path) → Left (F us) st c) → Left g st c → Left (by_values vs F g) st c
  choice_left no_values F g st c h k = k
  choice_left (value v vs) F g st c h k = h (value v vs)

  pub within_left : {A B : Type 0} (o : Outcome (A × State)) (f : A → B) (st : State) (a c : Id → ℕ) → Within a c → Left o st a → Left (on_ok o (λ r. ok (f r.0, r.1))) st c
  within_left o f st a c w h = ended_on o (λ r. ok (f r.0, r.1)) (λ r. Leaves naming st r.1 a) (λ r. Leaves naming st r.1 c) h (λ r l. left_more naming st r.1 a c w l)

  pub after_left : {A : Type 0} (o : Outcome (A × State)) (st st1 : State) (c : Id → ℕ) → Leaves naming st st1 c → Left o st1 c → Left o st c
  after_left (ok r) st st1 c l h = left_then naming st st1 r.1 c c c (itself c) (itself c) l h
  after_left Rattle.gl_machine.specs.Outcome.deep st st1 c l h = tt
  after_left Rattle.gl_machine.specs.Outcome.lost st st1 c l h = tt

  mutual
    pub code_left : (m : ℕ) (p : Path) (c : Code) (st : State) → Owns naming run c → Left (renew_code_as naming run m p c st) st (λ q. times q (live_of c))
    code_left m p (still_code n) st h = all_left naming st (λ q. times q (live_of (still_code n)))
    code_left m p (put_code n s) st h =
        text_left naming n s.ref st (λ q. times q (live_of (put_code n s))) (let i = hit_self (node n) in omega (arith, i)) (omega (arith, h))
    code_left m p (element_code n made xs zs cs) st h =
        let c : Id → ℕ = λ q. times q (live_of (element_code n made xs zs cs)) in
        let st1 = renew_attrs n xs st in
        let a = attrs_left naming n xs st c (let i = hit_self (node n) in omega (arith, i)) (attrs_counted xs c (λ q w. omega (arith, w)) h.0) in
        ended_on (renew_codes_as naming run m p 0 cs st1) (λ r. ok (element_code n made xs zs r.0, renew_mods zs r.1)) (λ r. Leaves naming st1 r.1 (λ q. times_in q (lives_of cs))) (λ r. Leaves naming st r.1 c) (codes_left m p 0 cs st1 h.2)
        (λ r l.
        left_then naming st r.1 (renew_mods zs r.1) c c c (itself c) (itself c) (left_then naming st st1 r.1 c (λ q. times_in q (lives_of cs)) c (itself c) (λ q z. omega (arith, z)) a l)
        (mods_left naming zs r.1 c (mods_counted zs c (λ q w. omega (arith, w)) h.1)))
    code_left m p (branch_code z s true k cs) st h =
        let c : Id → ℕ = λ q. occurs q s.made + (times_in q (lives_of cs) + times_comment q k) in
        let cr : Id → ℕ = λ q. times_in q (lives_of cs) + times_comment q k in
        let st1 = reread s.ref st in
        after_left (cond (takes_first z.unless (first_value (spot_pairs st1 s.ref))) (on_ok (renew_codes_as naming run m (main ∷ p) 0 cs st1) (λ r. ok (branch_with z s true (kept k r)))) (fresh_branch run z s false p m (dropped_as naming cr st1))) st st1 c
        (reread_left naming s.ref st c (let i = h.0 in omega (arith, i)))
        (either (takes_first z.unless (first_value (spot_pairs st1 s.ref)))
        (λ b. Left (cond b (on_ok (renew_codes_as naming run m (main ∷ p) 0 cs st1) (λ r. ok (branch_with z s true (kept k r)))) (fresh_branch run z s false p m (dropped_as naming cr st1))) st1 c)
        (within_left (renew_codes_as naming run m (main ∷ p) 0 cs st1) (branch_code z s true k) st1 (λ q. times_in q (lives_of cs)) c (λ q w. omega (arith, w)) (codes_left m (main ∷ p) 0 cs st1 h.2))
        (branch_left z s false p m cr c st1 h.1 (λ q w. omega (arith, w))))
    code_left m p (branch_code z s false k cs) st h =
        let c : Id → ℕ = λ q. occurs q s.made + (times_in q (lives_of cs) + times_comment q k) in
        let cr : Id → ℕ = λ q. times_in q (lives_of cs) + times_comment q k in
        let st1 = reread s.ref st in
        after_left (cond (takes_first z.unless (first_value (spot_pairs st1 s.ref))) (fresh_branch run z s true p m (dropped_as naming cr st1)) (on_ok (renew_codes_as naming run m (otherwise ∷ p) 0 cs st1) (λ r. ok (branch_with z s false (kept k r))))) st st1 c
        (reread_left naming s.ref st c (let i = h.0 in omega (arith, i)))
        (either (takes_first z.unless (first_value (spot_pairs st1 s.ref)))
        (λ b. Left (cond b (fresh_branch run z s true p m (dropped_as naming cr st1)) (on_ok (renew_codes_as naming run m (otherwise ∷ p) 0 cs st1) (λ r. ok (branch_with z s false (kept k r))))) st1 c)
        (branch_left z s true p m cr c st1 h.1 (λ q w. omega (arith, w)))
        (within_left (renew_codes_as naming run m (otherwise ∷ p) 0 cs st1) (branch_code z s false k) st1 (λ q. times_in q (lives_of cs)) c (λ q w. omega (arith, w)) (codes_left m (otherwise ∷ p) 0 cs st1 h.2)))
    code_left m p (listed_code z s is) st h =
        let c : Id → ℕ = λ q. occurs q s.made + times_items q (items_of is) in
        let ci : Id → ℕ = λ q. times_items q (items_of is) in
        let st1 = reread s.ref st in
        let one = fresh_item_as naming run z m in
        let F : Values Path → Outcome (Code × State) = λ vs. on_ok (sync_codes_as naming one (items ∷ p) (entries z.key 0 [] vs) (code_handles_as naming run m is) st1) (λ r. ok (listed_code z s r.0, r.1)) in
        let g = fresh_other run z s p m (dropped_as naming ci st1) in
        after_left (by_values (values_listed (first_value (spot_pairs st1 s.ref))) F g) st st1 c (reread_left naming s.ref st c (let i = h.0 in omega (arith, i)))
        (choice_left (values_listed (first_value (spot_pairs st1 s.ref))) F g st1 c
        (λ vs.
        within_left (sync_codes_as naming one (items ∷ p) (entries z.key 0 [] vs) (code_handles_as naming run m is) st1) (listed_code z s) st1 (λ q. times_elems q (elems is)) c (λ q w. let i = times_elems_of q is in omega (arith, i, w))
        (subst (λ hs. Left (sync_codes_as naming one (items ∷ p) (entries z.key 0 [] vs) hs st1) st1 (λ q. times_elems q (elems is))) (sym (handles_are m is))
        (sync_left (renewing m) one (one_left z m h.1) (items ∷ p) (entries z.key 0 [] vs) (elems is) st1 (elems_left m is h.2))))
        (other_left z s p m ci c st1 h.1 (λ q w. omega (arith, w))))
    code_left m p (unlisted_code z s k cs) st h =
        let c : Id → ℕ = λ q. occurs q s.made + (times_in q (lives_of cs) + times_comment q k) in
        let cr : Id → ℕ = λ q. times_in q (lives_of cs) + times_comment q k in
        let st1 = reread s.ref st in
        let one = fresh_item_as naming run z m in
        let F : Values Path → Outcome (Code × State) = λ vs. on_ok (fresh_codes one (items ∷ p) (entries z.key 0 [] vs) (dropped_as naming cr st1)) (λ r. ok (listed_code z s r.0, r.1)) in
        let g = on_ok (renew_codes_as naming run m (otherwise ∷ p) 0 cs st1) (λ r. ok (unlisted_with z s (kept k r))) in
        after_left (by_values (values_listed (first_value (spot_pairs st1 s.ref))) F g) st st1 c (reread_left naming s.ref st c (let i = h.0 in omega (arith, i)))
        (choice_left (values_listed (first_value (spot_pairs st1 s.ref))) F g st1 c
        (λ vs.
        after_left (F vs) st1 (dropped_as naming cr st1) c (left_more naming st1 (dropped_as naming cr st1) cr c (λ q w. omega (arith, w)) (dropped_left naming notes cr st1))
        (within_left (fresh_codes one (items ∷ p) (entries z.key 0 [] vs) (dropped_as naming cr st1)) (listed_code z s) (dropped_as naming cr st1) (λ q. 0) c (nothing c)
        (entries_left one (one_left z m h.1) (items ∷ p) (entries z.key 0 [] vs) (dropped_as naming cr st1))))
        (within_left (renew_codes_as naming run m (otherwise ∷ p) 0 cs st1) (unlisted_code z s k) st1 (λ q. times_in q (lives_of cs)) c (λ q w. omega (arith, w)) (codes_left m (otherwise ∷ p) 0 cs st1 h.2)))
    code_left m p (let_code made rs cs) st h =
        within_left (renew_codes_as naming run m (main ∷ p) 0 cs st) (let_code made rs) st (λ q. times_in q (lives_of cs)) (λ q. occurs q made + times_in q (lives_of cs)) (λ q w. omega (arith, w)) (codes_left m (main ∷ p) 0 cs st h)
    code_left zero p (component_code i made gm args k cs) st h = tt
    code_left (suc m) p (component_code i made gm args k cs) st h =
        within_left (renew_codes_as naming run m i.path 0 cs st) (component_code i made gm args k) st (λ q. times_in q (lives_of cs)) (λ q. occurs q made + times_in q (lives_of cs)) (λ q w. omega (arith, w)) (codes_left m i.path 0 cs st h)
    code_left m p (yield_code n made rs cs) st h =
        within_left (renew_codes_as naming run m (slot n ∷ p) 0 cs st) (yield_code n made rs) st (λ q. times_in q (lives_of cs)) (λ q. occurs q made + times_in q (lives_of cs)) (λ q w. omega (arith, w)) (codes_left m (slot n ∷ p) 0 cs st h)

    pub codes_left : (m : ℕ) (p : Path) (i : ℕ) (cs : Codes) (st : State) → OwnsIn naming run cs → Left (renew_codes_as naming run m p i cs st) st (λ q. times_in q (lives_of cs))
    codes_left m p i no_codes st h = all_left naming st (λ q. 0)
    codes_left m p i (code_and c cs) st h =
        let ca : Id → ℕ = λ q. times q (live_of c) in
        let cb : Id → ℕ = λ q. times_in q (lives_of cs) in
        let both : Id → ℕ = λ q. ca q + cb q in
        ended_on (renew_code_as naming run m (at i ∷ p) c st) (λ r. on_ok (renew_codes_as naming run m p (suc i) cs r.1) (λ z. ok (code_and r.0 z.0, z.1))) (λ r. Leaves naming st r.1 ca) (λ r. Leaves naming st r.1 both) (code_left m (at i ∷ p) c st h.0)
        (λ r l.
        ended_on (renew_codes_as naming run m p (suc i) cs r.1) (λ z. ok (code_and r.0 z.0, z.1)) (λ z. Leaves naming r.1 z.1 cb) (λ z. Leaves naming st z.1 both) (codes_left m p (suc i) cs r.1 h.1)
        (λ z k. left_then naming st r.1 z.1 ca cb both (λ q w. omega (arith, w)) (λ q w. omega (arith, w)) l k))

    pub elems_left : (m : ℕ) (is : ItemCodes) → OwnsItems naming run is → EachElem (ElemLeft (renewing m)) (elems is)
    elems_left m no_item_codes h = tt
    elems_left m (item_code z k cs is) h = ((λ q st. codes_left m q 0 cs st h.0), elems_left m is h.1)
