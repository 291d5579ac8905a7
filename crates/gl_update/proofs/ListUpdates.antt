-- An `each` that is read again.
use Rattle.std.proofs.Common.{◌≡◌, ℕ, ◌+◌, Bool, true, false, List, [], ◌∷◌, map, Option, refl, sym, ◌∙◌, ap, ap₂, rules}
use Rattle.std.specs.Prelude.{if◌then◌else◌}
use Rattle.std.specs.declared.vec.Vec.{Vec}
use Rattle.std.specs.declared.alloc.Global.{Global}
use Rattle.gl_arena.specs.Id.{Id}
use Rattle.gl_base.specs.Texts.{Text}
use Rattle.gl_value.specs.Value.{Values, no_values, value}
use Rattle.gl_meaning.specs.Path.{otherwise, items, Path}
use Rattle.gl_meaning.specs.Render.{Entry as PlainEntry, entries, values_listed}
use Rattle.gl_meaning.specs.Scope.{Source}
use Rattle.gl_opc.specs.declared.app.App.{App}
use Rattle.gl_plain.specs.Binding.{Spot, first_value}
use Rattle.gl_plain.specs.Ids.{Id as Name}
use Rattle.gl_plain.specs.Live.{times_in, times_comment, times_items}
use Rattle.gl_plain.specs.Naming.{by_number, dropped_as}
use Rattle.gl_plain.specs.Renew.{spot_pairs, is_stale, evaluate, reread}
use Rattle.gl_plain.specs.State.{State}
use Rattle.gl_machine.specs.Code as c
use Rattle.gl_machine.specs.Code.{Listing as PlainListing, Code as PlainCode, Codes as PlainCodes, ItemCodes, listed_code, unlisted_code, lives_of, items_of}
use Rattle.gl_machine.specs.Outcome.{Outcome, ok, on_ok}
use Rattle.gl_machine.specs.RenewCode.{Start, start, Runs, by_values, commented, kept, unlisted_with, fresh_item_as, fresh_codes, fresh_other, sync_codes_as}
use Rattle.gl_guards.specs.Along.{along_code_as, along_body_as, along_handles_as}
use Rattle.gl_vm.specs.View.{Tables, state_of, Agrees}
use Rattle.gl_vm.specs.Steps.{Does}
use Rattle.gl_vm.specs.declared.vm.Vm.{Vm}
use Rattle.gl_code.specs.Cells.{CellList}
use Rattle.gl_code.specs.Comments.{Commented}
use Rattle.gl_code.specs.CodeView.{seen_code, seen_codes, seen_listing, seen_spot, seen_item_code, stamp_of, all_items}
use Rattle.gl_code.specs.declared.code.Code.{the_lemmas}
use Rattle.gl_code.specs.declared.code.Codes.{Codes}
use Rattle.gl_code.specs.declared.code.ItemCode.{ItemCode}
use Rattle.gl_code.specs.declared.code.Code.TheVariants.{Listed, Unlisted}
use Rattle.gl_code.specs.declared.fault.VmFault.{VmFault}
use Rattle.gl_code.specs.Renewing.{Renewal, Renews, RenewFails}
use Rattle.gl_update.specs.ListItems.{Item, FreshItems, ListsFresh, ListsNone, StaysNone, Syncs, Relists, GoesAlong}
use Rattle.gl_update.proofs.Branching.{renews_commented}
use Rattle.gl_update.proofs.ItemJoins.{handles_are}
use Rattle.gl_update.proofs.Onward.{renews_agreed, fails_agreed}
use Rattle.gl_update.proofs.Renewing.{renews_same, renews_then, renews_in, does_renews, fails_same, fails_first, fails_in, does_fails}

module _ (n : Tables) where
  pub listed_is : (listing spot : _) (xs : Vec ItemCode Global) → seen_code n (Listed listing spot xs) ≡ c.listed_code (seen_listing n listing) (seen_spot spot) (all_items (map (seen_item_code n) xs.items))
  listed_is listing spot xs = search (rules, the_lemmas)

  pub unlisted_is : (listing spot comment : _) (body : Codes) → seen_code n (Unlisted listing spot comment body) ≡ c.unlisted_code (seen_listing n listing) (seen_spot spot) (stamp_of comment) (seen_codes n body)
  unlisted_is listing spot comment body = search (rules, the_lemmas)

-- A list has items just where it has entries.
pub no_items : {A : Type 0} (k : Text) (vs : Values Path) (f : Values Path → A) (a : A) → entries k 0 [] vs ≡ [] → by_values vs f a ≡ a
no_items k no_values f a e = refl
no_items k (value v vs) f a e = absurd (cc)

pub some_items : {A : Type 0} (k : Text) (vs : Values Path) (f : Values Path → A) (a : A) → (entries k 0 [] vs ≡ [] → ⊥) → by_values vs f a ≡ f vs
some_items k no_values f a e = absurd (e refl)
some_items k (value v vs) f a e = refl

module _ (a : App) (cells : CellList) (z : Tables → PlainListing) (key : Text) (keyed : (n : Tables) → (z n).key ≡ key) (s : Spot) (left : ℕ) (p : Path) where
  -- The items are those that the position gives.
  abbrev pub Gives : List PlainEntry → Vm → Type 0
  Gives es vm = (n : Tables) (u : Source → Bool) → es ≡ entries key 0 [] (values_listed (first_value (spot_pairs (state_of n vm u) s.ref)))

  pub gives_at : (es : List PlainEntry) (vm : Vm) → Gives es vm → (n : Tables) (u : Source → Bool) → entries (z n).key 0 [] (values_listed (first_value (spot_pairs (state_of n vm u) s.ref))) ≡ es
  gives_at es vm g n u = ap (λ k. entries k 0 [] (values_listed (first_value (spot_pairs (state_of n vm u) s.ref)))) (keyed n) ∙ sym (g n u)

  -- Without items

  module _ (k : Option ℕ) (cs : Tables → PlainCodes) where
    abbrev pub Unlisting : Renewal PlainCode
    Unlisting = λ n run. along_code_as by_number run left p (unlisted_code (z n) s k (cs n))

    abbrev pub gone : Tables → Name → ℕ
    gone n q = times_in q (lives_of (cs n)) + times_comment q k

    abbrev unlisting : Renewal PlainCode
    unlisting = λ n run st.
        by_values (values_listed (first_value (spot_pairs st s.ref)))
        (λ vs. on_ok (fresh_codes (fresh_item_as by_number run (z n) left) (items ∷ p) (entries (z n).key 0 [] vs) (dropped_as by_number (gone n) st)) (λ r. ok (listed_code (z n) s r.0, r.1)))
        (on_ok (along_body_as by_number run left (otherwise ∷ p) (cs n) st) (λ r. ok (unlisted_with (z n) s (kept k r))))

    stays_is : (vm : Vm) → Gives [] vm → (n : Tables) (run : Runs) (u : Source → Bool) → StaysNone z s left p k cs n run (state_of n vm u) ≡ unlisting n run (state_of n vm u)
    stays_is vm g n run u =
        let st : State = state_of n vm u in
        sym (no_items (z n).key (values_listed (first_value (spot_pairs st s.ref)))
        (λ vs. on_ok (fresh_codes (fresh_item_as by_number run (z n) left) (items ∷ p) (entries (z n).key 0 [] vs) (dropped_as by_number (gone n) st)) (λ r. ok (listed_code (z n) s r.0, r.1)))
        (StaysNone z s left p k cs n run st) (gives_at [] vm g n u))

    lists_is : (es : List PlainEntry) (vm : Vm) → (es ≡ [] → ⊥) → Gives es vm → (n : Tables) (run : Runs) (u : Source → Bool) → ListsFresh z s left p es gone n run (state_of n vm u) ≡ unlisting n run (state_of n vm u)
    lists_is es vm some g n run u =
        let st : State = state_of n vm u in
        ap (λ xs. ListsFresh z s left p xs gone n run st) (sym (gives_at es vm g n u))
        ∙ sym (some_items (z n).key (values_listed (first_value (spot_pairs st s.ref)))
        (λ vs. on_ok (fresh_codes (fresh_item_as by_number run (z n) left) (items ∷ p) (entries (z n).key 0 [] vs) (dropped_as by_number (gone n) st)) (λ r. ok (listed_code (z n) s r.0, r.1)))
        (StaysNone z s left p k cs n run st) (λ none. some (sym (gives_at es vm g n u) ∙ none)))

    -- nothing comes: the body is walked along
    pub unlisted_stays : (old mid new : Vm) (ds : Tables → PlainCodes) → Does (λ n. reread s.ref) old mid → Gives [] mid → Renews a cells (λ n run. along_body_as by_number run left (otherwise ∷ p) (cs n)) mid ds new
        → Renews a cells Unlisting old (λ n. unlisted_code (z n) s k (ds n)) new
    unlisted_stays old mid new ds d g r =
        does_renews a cells (λ n. reread s.ref) unlisting (λ n. unlisted_code (z n) s k (ds n)) old mid new d
        (renews_same a cells (StaysNone z s left p k cs) unlisting (λ n. unlisted_code (z n) s k (ds n)) mid new (stays_is mid g)
        (renews_in a cells (λ n run. along_body_as by_number run left (otherwise ∷ p) (cs n)) (λ n x. unlisted_code (z n) s k x) ds mid new r))

    pub unlisted_stays_fails : (old mid : Vm) (h : VmFault) → Does (λ n. reread s.ref) old mid → Gives [] mid → RenewFails {A = PlainCodes} a cells (λ n run. along_body_as by_number run left (otherwise ∷ p) (cs n)) mid h
        → RenewFails {A = PlainCode} a cells Unlisting old h
    unlisted_stays_fails old mid h d g r =
        does_fails a cells (λ n. reread s.ref) unlisting old mid h d
        (fails_same a cells (StaysNone z s left p k cs) unlisting mid h (stays_is mid g)
        (fails_in a cells (λ n run. along_body_as by_number run left (otherwise ∷ p) (cs n)) (λ n x. unlisted_code (z n) s k x) (λ n st. st) mid h r))

    -- items come
    pub unlisted_lists : (es : List PlainEntry) (old mid new : Vm) (x : Tables → PlainCode) → (es ≡ [] → ⊥) → Does (λ n. reread s.ref) old mid → Gives es mid → Renews a cells (ListsFresh z s left p es gone) mid x new → Renews a cells Unlisting old x new
    unlisted_lists es old mid new x some d g r =
        does_renews a cells (λ n. reread s.ref) unlisting x old mid new d (renews_same a cells (ListsFresh z s left p es gone) unlisting x mid new (lists_is es mid some g) r)

    pub unlisted_lists_fails : (es : List PlainEntry) (old mid : Vm) (h : VmFault) → (es ≡ [] → ⊥) → Does (λ n. reread s.ref) old mid → Gives es mid → RenewFails {A = PlainCode} a cells (ListsFresh z s left p es gone) mid h
        → RenewFails {A = PlainCode} a cells Unlisting old h
    unlisted_lists_fails es old mid h some d g r =
        does_fails a cells (λ n. reread s.ref) unlisting old mid h d (fails_same a cells (ListsFresh z s left p es gone) unlisting mid h (lists_is es mid some g) r)

  -- With items

  module _ (xs : Tables → List Item) where
    abbrev pub Relisting : Renewal PlainCode
    Relisting = Relists z s left p xs

    abbrev pub ended : Tables → Name → ℕ
    ended n q = times_items q (items_of (all_items (xs n)))

    abbrev listing : Renewal PlainCode
    listing = λ n run st.
        by_values (values_listed (first_value (spot_pairs st s.ref)))
        (λ vs. on_ok (sync_codes_as by_number (fresh_item_as by_number run (z n) left) (items ∷ p) (entries (z n).key 0 [] vs) (along_handles_as by_number run left (all_items (xs n))) st) (λ r. ok (listed_code (z n) s r.0, r.1)))
        (fresh_other run (z n) s p left (dropped_as by_number (ended n) st))

    abbrev synced : Tables → Runs → State → Values Path → Outcome (PlainCode × State)
    synced n run st vs = on_ok (sync_codes_as by_number (fresh_item_as by_number run (z n) left) (items ∷ p) (entries (z n).key 0 [] vs) (along_handles_as by_number run left (all_items (xs n))) st) (λ r. ok (listed_code (z n) s r.0, r.1))

    none_is : (vm : Vm) → Gives [] vm → (n : Tables) (run : Runs) (u : Source → Bool) → ListsNone z s left p ended n run (state_of n vm u) ≡ listing n run (state_of n vm u)
    none_is vm g n run u =
        let st : State = state_of n vm u in
        sym (no_items (z n).key (values_listed (first_value (spot_pairs st s.ref))) (synced n run st) (ListsNone z s left p ended n run st) (gives_at [] vm g n u))

    synced_is : (es : List PlainEntry) (vm : Vm) → (es ≡ [] → ⊥) → Gives es vm → (n : Tables) (run : Runs) (u : Source → Bool) → Syncs z s left p es xs n run (state_of n vm u) ≡ listing n run (state_of n vm u)
    synced_is es vm some g n run u =
        let st : State = state_of n vm u in
        ap₂ (λ fs hs. on_ok (sync_codes_as by_number (fresh_item_as by_number run (z n) left) (items ∷ p) fs hs st) (λ r. ok (listed_code (z n) s r.0, r.1))) (sym (gives_at es vm g n u)) (sym (handles_are run left (xs n)))
        ∙ sym (some_items (z n).key (values_listed (first_value (spot_pairs st s.ref))) (synced n run st) (ListsNone z s left p ended n run st) (λ none. some (sym (gives_at es vm g n u) ∙ none)))

    -- no items are there any more
    pub listed_ends : (old mid new : Vm) (x : Tables → PlainCode) → Does (λ n. reread s.ref) old mid → Gives [] mid → Renews a cells (ListsNone z s left p ended) mid x new → Renews a cells Relisting old x new
    listed_ends old mid new x d g r = does_renews a cells (λ n. reread s.ref) listing x old mid new d (renews_same a cells (ListsNone z s left p ended) listing x mid new (none_is mid g) r)

    pub listed_ends_fails : (old mid : Vm) (h : VmFault) → Does (λ n. reread s.ref) old mid → Gives [] mid → RenewFails {A = PlainCode} a cells (ListsNone z s left p ended) mid h → RenewFails {A = PlainCode} a cells Relisting old h
    listed_ends_fails old mid h d g r = does_fails a cells (λ n. reread s.ref) listing old mid h d (fails_same a cells (ListsNone z s left p ended) listing mid h (none_is mid g) r)

    -- the items become others
    pub listed_syncs : (es : List PlainEntry) (old mid new : Vm) (x : Tables → PlainCode) → (es ≡ [] → ⊥) → Does (λ n. reread s.ref) old mid → Gives es mid → Renews a cells (Syncs z s left p es xs) mid x new → Renews a cells Relisting old x new
    listed_syncs es old mid new x some d g r = does_renews a cells (λ n. reread s.ref) listing x old mid new d (renews_same a cells (Syncs z s left p es xs) listing x mid new (synced_is es mid some g) r)

    pub listed_syncs_fails : (es : List PlainEntry) (old mid : Vm) (h : VmFault) → (es ≡ [] → ⊥) → Does (λ n. reread s.ref) old mid → Gives es mid → RenewFails {A = PlainCode} a cells (Syncs z s left p es xs) mid h → RenewFails {A = PlainCode} a cells Relisting old h
    listed_syncs_fails es old mid h some d g r = does_fails a cells (λ n. reread s.ref) listing old mid h d (fails_same a cells (Syncs z s left p es xs) listing mid h (synced_is es mid some g) r)

    -- A list whose position is stale is read again; the items of another one are gone along.

    abbrev pub Updating : Renewal PlainCode
    Updating = λ n run. along_code_as by_number run left p (listed_code (z n) s (all_items (xs n)))

    abbrev pub IsStale : Bool → Vm → Type 0
    IsStale b vm = (n : Tables) (u : Source → Bool) → Agrees u vm → is_stale (state_of n vm u) s.ref ≡ b

    read_is : (vm : Vm) → IsStale true vm → (n : Tables) (run : Runs) (u : Source → Bool) → Agrees u vm → Relists z s left p xs n run (state_of n vm u) ≡ Updating n run (state_of n vm u)
    read_is vm h n run u agrees =
        let st : State = state_of n vm u in
        ap (λ b. listing n run (if b then evaluate s.ref st else st)) (h n u agrees)
        ∙ sym (ap (λ b. if b then listing n run (evaluate s.ref st) else GoesAlong z s left p xs n run st) (h n u agrees))

    along_is : (vm : Vm) → IsStale false vm → (n : Tables) (run : Runs) (u : Source → Bool) → Agrees u vm → GoesAlong z s left p xs n run (state_of n vm u) ≡ Updating n run (state_of n vm u)
    along_is vm h n run u agrees =
        let st : State = state_of n vm u in sym (ap (λ b. if b then listing n run (evaluate s.ref st) else GoesAlong z s left p xs n run st) (h n u agrees))

    pub listed_reads : (old mid new : Vm) (x : Tables → PlainCode) → IsStale true old → Does (λ n st. st) old mid → Renews a cells (Relists z s left p xs) mid x new → Renews a cells Updating old x new
    listed_reads old mid new x h d r = renews_agreed a cells (Relists z s left p xs) Updating x old new (read_is old h) (does_renews a cells (λ n st. st) (Relists z s left p xs) x old mid new d r)

    pub listed_reads_fails : (old mid : Vm) (f : VmFault) → IsStale true old → Does (λ n st. st) old mid → RenewFails {A = PlainCode} a cells (Relists z s left p xs) mid f → RenewFails {A = PlainCode} a cells Updating old f
    listed_reads_fails old mid f h d r = fails_agreed a cells (Relists z s left p xs) Updating old f (read_is old h) (does_fails a cells (λ n st. st) (Relists z s left p xs) old mid f d r)

    pub listed_goes : (old mid new : Vm) (x : Tables → PlainCode) → IsStale false old → Does (λ n st. st) old mid → Renews a cells (GoesAlong z s left p xs) mid x new → Renews a cells Updating old x new
    listed_goes old mid new x h d r = renews_agreed a cells (GoesAlong z s left p xs) Updating x old new (along_is old h) (does_renews a cells (λ n st. st) (GoesAlong z s left p xs) x old mid new d r)

    pub listed_goes_fails : (old mid : Vm) (f : VmFault) → IsStale false old → Does (λ n st. st) old mid → RenewFails {A = PlainCode} a cells (GoesAlong z s left p xs) mid f → RenewFails {A = PlainCode} a cells Updating old f
    listed_goes_fails old mid f h d r = fails_agreed a cells (GoesAlong z s left p xs) Updating old f (along_is old h) (does_fails a cells (λ n st. st) (GoesAlong z s left p xs) old mid f d r)

  -- In the place of what stood there

  pub lists_fresh : (es : List PlainEntry) (gone : Tables → Name → ℕ) (old mid new : Vm) (is : Tables → ItemCodes) → Does (λ n. dropped_as by_number (gone n)) old mid → Renews a cells (FreshItems z left (items ∷ p) es) mid is new
      → Renews a cells (ListsFresh z s left p es gone) old (λ n. listed_code (z n) s (is n)) new
  lists_fresh es gone old mid new is d r =
      does_renews a cells (λ n. dropped_as by_number (gone n)) (λ n run st. on_ok (FreshItems z left (items ∷ p) es n run st) (λ r. ok (listed_code (z n) s r.0, r.1))) (λ n. listed_code (z n) s (is n)) old mid new d
      (renews_in a cells (FreshItems z left (items ∷ p) es) (λ n x. listed_code (z n) s x) is mid new r)

  pub lists_fresh_fails : (es : List PlainEntry) (gone : Tables → Name → ℕ) (old mid : Vm) (h : VmFault) → Does (λ n. dropped_as by_number (gone n)) old mid → RenewFails {A = ItemCodes} a cells (FreshItems z left (items ∷ p) es) mid h
      → RenewFails {A = PlainCode} a cells (ListsFresh z s left p es gone) old h
  lists_fresh_fails es gone old mid h d r =
      does_fails a cells (λ n. dropped_as by_number (gone n)) (λ n run st. on_ok (FreshItems z left (items ∷ p) es n run st) (λ r. ok (listed_code (z n) s r.0, r.1))) old mid h d
      (fails_in a cells (FreshItems z left (items ∷ p) es) (λ n x. listed_code (z n) s x) (λ n st. st) mid h r)

  abbrev Other : Renewal PlainCodes
  Other = λ n run. run (start (z n).sight (z n).other (otherwise ∷ p) left)

  abbrev answered : Tables → PlainCodes → Runs → State → Outcome (PlainCode × State)
  answered n v run st = ok (unlisted_with (z n) s (commented (v, st)))

  other_is : (mid : Vm) (from : Tables → Start) → ((n : Tables) → from n ≡ start (z n).sight (z n).other (otherwise ∷ p) left) → (n : Tables) (run : Runs) (u : Source → Bool) → run (from n) (state_of n mid u) ≡ Other n run (state_of n mid u)
  other_is mid from e n run u = ap (λ (x : Start). run x (state_of n mid u)) (e n)

  pub lists_none : (gone : Tables → Name → ℕ) (old mid v new : Vm) (from : Tables → Start) (ds : Tables → PlainCodes) (k : Option Id) → Does (λ n. dropped_as by_number (gone n)) old mid
      → ((n : Tables) → from n ≡ start (z n).sight (z n).other (otherwise ∷ p) left) → Renews a cells (λ n run. run (from n)) mid ds v
      → ((n : Tables) (u : Source → Bool) → Agrees u v → Commented n (ds n, state_of n v u) new k)
      → Renews a cells (ListsNone z s left p gone) old (λ n. unlisted_code (z n) s (stamp_of k) (ds n)) new
  lists_none gone old mid v new from ds k d e r g =
      does_renews a cells (λ n. dropped_as by_number (gone n)) (λ n run st. fresh_other run (z n) s p left st) (λ n. unlisted_code (z n) s (stamp_of k) (ds n)) old mid new d
      (renews_then a cells Other answered ds (λ n. unlisted_code (z n) s (stamp_of k) (ds n)) mid v new (renews_same a cells (λ n run. run (from n)) Other ds mid v (other_is mid from e) r)
      (renews_commented a cells (λ n o x. unlisted_code (z n) s o x) ds v new k g))

  pub lists_none_fails : (gone : Tables → Name → ℕ) (old mid : Vm) (from : Tables → Start) (h : VmFault) → Does (λ n. dropped_as by_number (gone n)) old mid
      → ((n : Tables) → from n ≡ start (z n).sight (z n).other (otherwise ∷ p) left) → RenewFails {A = PlainCodes} a cells (λ n run. run (from n)) mid h → RenewFails {A = PlainCode} a cells (ListsNone z s left p gone) old h
  lists_none_fails gone old mid from h d e r =
      does_fails a cells (λ n. dropped_as by_number (gone n)) (λ n run st. fresh_other run (z n) s p left st) old mid h d
      (fails_first a cells Other answered mid h (fails_same a cells (λ n run. run (from n)) Other mid h (other_is mid from e) r))
