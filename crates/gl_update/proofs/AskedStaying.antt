-- Questions of the items of a list whose keys stay.
use Rattle.std.proofs.Common.{◌≡◌, ◌≤◌, ◌<◌, ℕ, suc, ◌+◌, List, [], ◌∷◌, map, drop, length, get_or, Some, refl, sym, ◌∙◌, ap, subst, arith}
use Rattle.std.proofs.lemmas.List.{drop_all, length-map}
use Rattle.gl_base.proofs.Lists.{drop_item}
use Rattle.gl_base.specs.Texts.{Text}
use Rattle.gl_value.specs.Value.{Value as PlainValue}
use Rattle.gl_meaning.specs.Path.{item, Path}
use Rattle.gl_meaning.specs.Render.{Entry}
use Rattle.gl_opc.specs.declared.app.App.{App}
use Rattle.gl_plain.specs.Naming.{by_number}
use Rattle.gl_plain.specs.State.{State}
use Rattle.gl_machine.specs.RenewCode.{Runs}
use Rattle.gl_guards.specs.AlongAsks.{stay_count, along_asks_body}
use Rattle.gl_guards.specs.Guarded.{given_as}
use Rattle.gl_each.specs.Key.{entry_key, entry_keys}
use Rattle.gl_vm.specs.Steps.{Does}
use Rattle.gl_vm.specs.View.{Tables, state_of}
use Rattle.gl_vm.specs.declared.vm.Vm.{Vm}
use Rattle.gl_code.specs.Cells.{CellList}
use Rattle.gl_code.specs.CodeView.{seen_codes, seen_item_spot, seen_listing, stamp_of, seen_item_code}
use Rattle.gl_code.specs.Renewing.{Renews}
use Rattle.gl_code.specs.declared.code.ItemCode.{ItemCode}
use Rattle.gl_code.specs.declared.code.Listing.{Listing}
use Rattle.gl_update.specs.ListItems.{Item, handle, AlongItem}
use Rattle.gl_update.specs.OldItems.{code_key}
use Rattle.gl_update.specs.Questions.{Asks, AsksKept, AsksStaying, old_items}
use Rattle.gl_update.specs.Read.{entries_now}
use Rattle.gl_update.proofs.AskedItems.{AsksItem}
use Rattle.gl_update.proofs.AskedSync.{AsksOf, sync_asked, sync_asks_of, sync_all_asked, stays_more}
use Rattle.gl_update.proofs.Asking.{asks_same, does_asks, AsksOn}
use Rattle.gl_update.proofs.OldKeys.{there_all}
use Rattle.gl_update.proofs.StayingItems.{GivesAt, place, takes_first, key_path, stay_renews}
use Rattle.gl_update.proofs.SyncItems.{item_is, given_of}

-- all of them stay
pub all_stay : (es : List Entry) (xs : List ItemCode) → entry_keys es ≡ map code_key xs → (n : Tables) (run : Runs) (m : ℕ) → stay_count es (old_items run m (map (seen_item_code n) xs)) ≡ length xs
all_stay [] [] keys n run m = refl
all_stay [] (x ∷ xs) keys n run m = absurd (cc)
all_stay (e ∷ es) [] keys n run m = absurd (cc)
all_stay (e ∷ es) (x ∷ xs) keys n run m =
    let both : entry_key e ∷ entry_keys es ≡ code_key x ∷ map code_key xs = keys in
    let first : entry_key e ≡ code_key x = cc in
    let rest : entry_keys es ≡ map code_key xs = cc in
    let one = stays_more e (e ∷ es) es (map Some (x ∷ xs)) (map Some xs) (Some x) refl (takes_first e x xs first) n run m in
    let more : 1 + length xs ≡ suc (length xs) = omega arith in
    ap (λ ys. stay_count (e ∷ es) (old_items run m (map (seen_item_code n) ys))) (sym (there_all (x ∷ xs)))
    ∙ (one ∙ (ap (λ k. 1 + k) (ap (λ ys. stay_count es (old_items run m (map (seen_item_code n) ys))) (there_all xs) ∙ all_stay es xs rest n run m) ∙ more))

-- An item is given the value and the index of an entry.

module _ (a : App) (cells : CellList) (left : ℕ) (base : Path) (e : Entry) (x : ItemCode) (vm mid : Vm) (same : entry_key e ≡ code_key x) (d : Does (given_of x.spot e) vm mid) where
  stay_asks : (m c : ℕ) → Asks a cells (AsksItem a cells left base x) mid m c → Asks a cells (AsksKept left (item e.key e.occurrence ∷ base) e (λ n. seen_item_code n x)) vm m c
  stay_asks m c r =
      let q : Path = item e.key e.occurrence ∷ base in
      asks_same a cells (λ n run st. AsksItem a cells left base x n run (given_of x.spot e n st)) (AsksKept left q e (λ n. seen_item_code n x)) vm m c
      (λ n run u.
      let st : State = state_of n vm u in
      let y : Item = (seen_item_spot x.spot, (stamp_of x.comment, seen_codes n x.body)) in
      let g : State = given_of x.spot e n st in
      ap (λ (w : Item). along_asks_body by_number run left (item w.0.key w.0.occurrence ∷ base) w.1.1 g) (item_is n x)
      ∙ (ap (λ w. along_asks_body by_number run left w (seen_codes n x.body) g) (sym (key_path e x base same))
      ∙ ap (λ (w : Item). along_asks_body by_number run left q w.1.1 (given_as by_number q e (handle run left w) st)) (sym (item_is n x))))
      (does_asks a cells (given_of x.spot e) (AsksItem a cells left base x) vm mid m c d r)

-- The loop

module _ (a : App) (cells : CellList) (left : ℕ) (base : Path) where
  -- whatever the list is: those from the place on are asked yet
  abbrev pub AsksStays : List (PlainValue ℕ) → List ItemCode → Vm → ℕ → ℕ → Vm → ℕ → Type 0
  AsksStays vs olds vm0 b0 i vm b =
      (k : Text) → entry_keys (entries_now k vs) ≡ map code_key olds
      → (z : Listing) → AsksOn a cells (AsksOf a cells left z base (entries_now k vs) (map Some olds)) vm0 b0 (AsksOf a cells left z base (drop i (entries_now k vs)) (map Some (drop i olds))) vm b

  pub stays_asked : (vs : List (PlainValue ℕ)) (olds : List ItemCode) (vm : Vm) (b : ℕ) → AsksStays vs olds vm b 0 vm b
  stays_asked vs olds vm b = λ k keys z. sync_asked a cells left z base (entries_now k vs) (map Some olds) vm b

  pub stays_ask : (vs : List (PlainValue ℕ)) (olds held : List ItemCode) (vm0 vm mid new : Vm) (b0 b m i : ℕ) (x y : ItemCode) → i < length held → length held ≡ length olds → x ≡ get_or olds i x
      → AsksStays vs olds vm0 b0 i vm b → GivesAt vs i x.spot vm mid → Asks a cells (AsksItem a cells left base x) mid b m → Renews a cells (AlongItem left base (λ n. seen_item_code n x)) mid (λ n. seen_item_code n y) new
      → AsksStays vs olds vm0 b0 (i + 1) new m
  stays_ask vs olds held vm0 vm mid new b0 b m i x y lt long at w gives q r = λ k keys z.
      let es = entries_now k vs in
      let all = AsksOf a cells left z base es (map Some olds) in
      let more : drop i olds ≡ x ∷ drop (i + 1) olds = drop_item olds i x (omega (arith, lt, long)) at in
      let p = place a cells left base vs olds i x vm mid (omega (arith, lt, long)) more gives k keys in
      sync_asks_of a cells left z base all (drop i es) (drop (i + 1) es) p.e y (item p.e.key p.e.occurrence ∷ base) (map Some (x ∷ drop (i + 1) olds)) (map Some (drop (i + 1) olds)) (Some x)
      vm0 vm new b0 b m p.is refl (takes_first p.e x (drop (i + 1) olds) p.key)
      (subst (λ xs. AsksOn a cells all vm0 b0 (AsksOf a cells left z base (drop i es) (map Some xs)) vm b) more (w k keys z))
      (stay_asks a cells left base p.e x vm mid p.key p.given b m q) (stay_renews a cells left base p.e x vm mid p.key p.given y new r)

  pub stays_all_asked : (vs : List (PlainValue ℕ)) (olds held : List ItemCode) (vm0 vm : Vm) (b0 b i : ℕ) → length held ≤ i → length held ≡ length olds → AsksStays vs olds vm0 b0 i vm b
      → (k : Text) → entry_keys (entries_now k vs) ≡ map code_key olds → (z : Listing) → Asks a cells (AsksStaying (λ n. seen_listing n z) left base (entries_now k vs) (λ n. map (seen_item_code n) olds)) vm0 b0 b
  stays_all_asked vs olds held vm0 vm b0 b i le long w = λ k keys z.
      let es = entries_now k vs in
      let count : length es ≡ length olds = sym (length-map es entry_key) ∙ (ap length keys ∙ length-map olds code_key) in
      let none : drop i es ≡ [] = drop_all i es (omega (arith, le, long, count)) in
      subst (λ xs. Asks a cells (AsksStaying (λ n. seen_listing n z) left base es (λ n. map (seen_item_code n) xs)) vm0 b0 b) (there_all olds)
      (sync_all_asked a cells left z base (AsksOf a cells left z base es (map Some olds)) (drop i es) (map Some (drop i olds)) vm0 vm b0 b none (w k keys z))
