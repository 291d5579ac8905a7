-- Questions of an `each`.
use Rattle.std.proofs.Common.{◌≡◌, ℕ, ◌+◌, Bool, true, false, List, [], ◌∷◌, Option, refl, sym, ◌∙◌, ap, arith}
use Rattle.std.specs.Prelude.{if◌then◌else◌}
use Rattle.gl_base.specs.Texts.{Text}
use Rattle.gl_meaning.specs.Path.{otherwise, items, Path}
use Rattle.gl_meaning.specs.Render.{Entry as PlainEntry, entries, values_listed}
use Rattle.gl_opc.specs.declared.app.App.{App}
use Rattle.gl_plain.specs.Binding.{Spot, first_value}
use Rattle.gl_plain.specs.Naming.{by_number}
use Rattle.gl_plain.specs.Renew.{spot_pairs, is_stale, evaluate, reread}
use Rattle.gl_plain.specs.State.{State}
use Rattle.gl_machine.specs.Code.{Listing as PlainListing, Codes as PlainCodes, listed_code, unlisted_code}
use Rattle.gl_machine.specs.RenewCode.{Runs, by_values, fresh_item_as}
use Rattle.gl_guards.specs.AlongAsks.{stay_count, stay_asks_as, together, along_asks_as, along_olds_as}
use Rattle.gl_guards.specs.Questions.{OldItem}
use Rattle.gl_vm.specs.Steps.{Does}
use Rattle.gl_vm.specs.View.{Tables, state_of}
use Rattle.gl_vm.specs.declared.vm.Vm.{Vm}
use Rattle.gl_code.specs.Cells.{CellList}
use Rattle.gl_code.specs.CodeView.{seen_code, all_items}
use Rattle.gl_code.specs.declared.code.Code.{Code}
use Rattle.gl_update.specs.ListItems.{Item}
use Rattle.gl_update.specs.Questions.{Count, Asks, AsksBody, AsksCode, AsksList, AsksListed, AsksRelist, AsksSync, AsksUnlisted, old_item, old_items}
use Rattle.gl_update.proofs.Asking.{asks_agreed, asks_same, asks_just, asks_first, does_asks}
use Rattle.gl_update.proofs.ListUpdates.{no_items, some_items, Gives, gives_at, IsStale}

-- the old items of a list, as they stand
olds_are : (run : Runs) (m : ℕ) (xs : List Item) → along_olds_as by_number run m (all_items xs) ≡ old_items run m xs
olds_are run m [] = refl
olds_are run m (x ∷ xs) = ap (λ os. old_item run m x ∷ os) (olds_are run m xs)

module _ (a : App) (cells : CellList) (z : Tables → PlainListing) (key : Text) (keyed : (n : Tables) → (z n).key ≡ key) (s : Spot) (left : ℕ) (p : Path) where
  -- Without items

  module _ (k : Option ℕ) (cs : Tables → PlainCodes) where
    -- once its position was read
    abbrev unlisted : Count
    unlisted = λ n run st. by_values (values_listed (first_value (spot_pairs st s.ref))) (λ vs. 0) (AsksBody left (otherwise ∷ p) cs n run st)

    -- nothing comes: the body is walked along
    pub unlisted_asks : (old mid : Vm) (b c : ℕ) → Does (λ n. reread s.ref) old mid → Gives a cells z key keyed s left p [] mid → Asks a cells (AsksBody left (otherwise ∷ p) cs) mid b c → Asks a cells (AsksUnlisted s left p cs) old b c
    unlisted_asks old mid b c d g r =
        does_asks a cells (λ n. reread s.ref) unlisted old mid b c d
        (asks_same a cells (AsksBody left (otherwise ∷ p) cs) unlisted mid b c
        (λ n run u. let st : State = state_of n mid u in
        sym (no_items (z n).key (values_listed (first_value (spot_pairs st s.ref))) (λ vs. 0) (AsksBody left (otherwise ∷ p) cs n run st) (gives_at a cells z key keyed s left p [] mid g n u))) r)

    -- items come
    pub unlisted_asks_none : (es : List PlainEntry) (old mid : Vm) (b : ℕ) → (es ≡ [] → ⊥) → Does (λ n. reread s.ref) old mid → Gives a cells z key keyed s left p es mid → Asks a cells (AsksUnlisted s left p cs) old b b
    unlisted_asks_none es old mid b some d g =
        does_asks a cells (λ n. reread s.ref) unlisted old mid b b d
        (asks_same a cells (λ n run st. 0) unlisted mid b b
        (λ n run u. let st : State = state_of n mid u in
        sym (some_items (z n).key (values_listed (first_value (spot_pairs st s.ref))) (λ vs. 0) (AsksBody left (otherwise ∷ p) cs n run st) (λ none. some (sym (gives_at a cells z key keyed s left p es mid g n u) ∙ none))))
        (asks_just a cells 0 mid b b (omega arith)))

    -- its position was asked first
    pub unlisted_code_asks : (x : Code) (old : Vm) (b m c : ℕ) → ((n : Tables) → seen_code n x ≡ unlisted_code (z n) s k (cs n)) → m ≡ b + 1 → Asks a cells (AsksUnlisted s left p cs) old m c → Asks a cells (AsksCode left p (λ n. seen_code n x)) old b c
    unlisted_code_asks x old b m c e first r =
        asks_same a cells (λ n run st. 1 + AsksUnlisted s left p cs n run st) (AsksCode left p (λ n. seen_code n x)) old b c (λ n run u. ap (λ w. along_asks_as by_number run left p w (state_of n old u)) (sym (e n)))
        (asks_first a cells 1 (AsksUnlisted s left p cs) old b m c first r)

  -- With items

  module _ (xs : Tables → List Item) where
    -- once its position was read
    abbrev relisted : Count
    relisted = λ n run st. by_values (values_listed (first_value (spot_pairs st s.ref))) (λ vs. AsksSync z left (items ∷ p) (entries (z n).key 0 [] vs) xs n run st) 0

    -- no items are there any more
    pub relist_asks_none : (old mid : Vm) (b : ℕ) → Does (λ n. reread s.ref) old mid → Gives a cells z key keyed s left p [] mid → Asks a cells (AsksRelist z s left p xs) old b b
    relist_asks_none old mid b d g =
        does_asks a cells (λ n. reread s.ref) relisted old mid b b d
        (asks_same a cells (λ n run st. 0) relisted mid b b
        (λ n run u. let st : State = state_of n mid u in
        sym (no_items (z n).key (values_listed (first_value (spot_pairs st s.ref))) (λ vs. AsksSync z left (items ∷ p) (entries (z n).key 0 [] vs) xs n run st) 0 (gives_at a cells z key keyed s left p [] mid g n u)))
        (asks_just a cells 0 mid b b (omega arith)))

    -- the items become others
    pub relist_asks : (es : List PlainEntry) (old mid : Vm) (b c : ℕ) → (es ≡ [] → ⊥) → Does (λ n. reread s.ref) old mid → Gives a cells z key keyed s left p es mid → Asks a cells (AsksSync z left (items ∷ p) es xs) mid b c
        → Asks a cells (AsksRelist z s left p xs) old b c
    relist_asks es old mid b c some d g r =
        does_asks a cells (λ n. reread s.ref) relisted old mid b c d
        (asks_same a cells (AsksSync z left (items ∷ p) es xs) relisted mid b c
        (λ n run u. let st : State = state_of n mid u in
        ap (λ fs. AsksSync z left (items ∷ p) fs xs n run st) (sym (gives_at a cells z key keyed s left p es mid g n u))
        ∙ sym (some_items (z n).key (values_listed (first_value (spot_pairs st s.ref))) (λ vs. AsksSync z left (items ∷ p) (entries (z n).key 0 [] vs) xs n run st) 0 (λ none. some (sym (gives_at a cells z key keyed s left p es mid g n u) ∙ none)))) r)

    -- A list whose position is stale is read again; the items of another one are gone along.

    either_is : (st : State) (n : Tables) (run : Runs) (d e : Bool) → d ≡ e → (if e then AsksRelist z s left p xs n run st else AsksList left (items ∷ p) xs n run st) ≡ (if d then AsksRelist z s left p xs n run st else AsksList left (items ∷ p) xs n run st)
    either_is st n run d e is = sym (ap (λ y. if y then AsksRelist z s left p xs n run st else AsksList left (items ∷ p) xs n run st) is)

    pub listed_asks : (old mid : Vm) (b c : ℕ) → IsStale a cells z key keyed s left p xs true old → Does (λ n st. st) old mid → Asks a cells (AsksRelist z s left p xs) mid b c → Asks a cells (AsksListed z s left p xs) old b c
    listed_asks old mid b c h d r =
        asks_agreed a cells (AsksRelist z s left p xs) (AsksListed z s left p xs) old b c (λ n run u agrees. either_is (state_of n old u) n run (is_stale (state_of n old u) s.ref) true (h n u agrees))
        (does_asks a cells (λ n st. st) (AsksRelist z s left p xs) old mid b c d r)

    pub listed_asks_along : (old mid : Vm) (b c : ℕ) → IsStale a cells z key keyed s left p xs false old → Does (λ n st. st) old mid → Asks a cells (AsksList left (items ∷ p) xs) mid b c → Asks a cells (AsksListed z s left p xs) old b c
    listed_asks_along old mid b c h d r =
        asks_agreed a cells (AsksList left (items ∷ p) xs) (AsksListed z s left p xs) old b c (λ n run u agrees. either_is (state_of n old u) n run (is_stale (state_of n old u) s.ref) false (h n u agrees))
        (does_asks a cells (λ n st. st) (AsksList left (items ∷ p) xs) old mid b c d r)

    -- what is asked of these old items, once its position was read
    abbrev synced : Tables → Runs → List OldItem → State → ℕ
    synced n run os st =
        by_values (values_listed (first_value (spot_pairs st s.ref)))
        (λ vs. let fs = entries (z n).key 0 [] vs in together (stay_count fs os) (stay_asks_as by_number (fresh_item_as by_number run (z n) left) (items ∷ p) fs os st)) 0

    one_more : (n : Tables) (run : Runs) (st : State) (d : Bool) → 1 + (if d then synced n run (old_items run left (xs n)) (if d then evaluate s.ref st else st) else AsksList left (items ∷ p) xs n run st)
        ≡ (if d then 1 + synced n run (along_olds_as by_number run left (all_items (xs n))) (evaluate s.ref st) else 1 + AsksList left (items ∷ p) xs n run st)
    one_more n run st true = ap (λ os. 1 + synced n run os (evaluate s.ref st)) (sym (olds_are run left (xs n)))
    one_more n run st false = refl

    -- its position was asked first
    pub listed_code_asks : (x : Code) (old : Vm) (b m c : ℕ) → ((n : Tables) → seen_code n x ≡ listed_code (z n) s (all_items (xs n))) → m ≡ b + 1 → Asks a cells (AsksListed z s left p xs) old m c → Asks a cells (AsksCode left p (λ n. seen_code n x)) old b c
    listed_code_asks x old b m c e first r =
        asks_same a cells (λ n run st. 1 + AsksListed z s left p xs n run st) (AsksCode left p (λ n. seen_code n x)) old b c
        (λ n run u. one_more n run (state_of n old u) (is_stale (state_of n old u) s.ref) ∙ ap (λ w. along_asks_as by_number run left p w (state_of n old u)) (sym (e n)))
        (asks_first a cells 1 (AsksListed z s left p xs) old b m c first r)
