-- The items of a list whose keys stay, one after another.
use Rattle.std.proofs.Common.{Bool, ◌≡◌, ◌≤◌, ◌<◌, ℕ, zero, suc, ◌+◌, List, [], ◌∷◌, map, take, drop, set, length, get_or, slice_get, Some, None, refl, sym, ◌∙◌, ap, ap₂, subst, arith}
use Rattle.std.proofs.lemmas.List.{drop_all, length-map, take_all, take_more_set}
use Rattle.gl_base.proofs.Lists.{drop_item}
use Rattle.gl_base.specs.Texts.{Text}
use Rattle.gl_value.specs.Value.{Value as PlainValue, plain, values_of, count_value, key_of}
use Rattle.gl_value.specs.Owners.{values_with}
use Rattle.gl_value.specs.View.{view}
use Rattle.gl_ast.specs.Template.{Plain}
use Rattle.gl_ast.specs.ExprCode.{unowned, unowned-owned}
use Rattle.gl_meaning.specs.Path.{item, Path}
use Rattle.gl_meaning.specs.Render.{Entry, occurrences, entries}
use Rattle.gl_meaning.specs.Scope.{Source}
use Rattle.gl_opc.specs.declared.app.App.{App}
use Rattle.gl_plain.specs.Live.{times_items}
use Rattle.gl_plain.specs.Naming.{by_number, dropped_as}
use Rattle.gl_plain.specs.Renew.{give}
use Rattle.gl_plain.specs.State.{State}
use Rattle.gl_machine.specs.Code.{ItemCodes, items_of}
use Rattle.gl_machine.specs.Outcome.{ok, on_ok}
use Rattle.gl_machine.specs.RenewCode.{Runs, renew_item_code_as}
use Rattle.gl_guards.specs.Along.{along_body_as}
use Rattle.gl_each.specs.Key.{Key, entry_key, entry_keys}
use Rattle.gl_vm.specs.Labels.{label, labelled, owner_path}
use Rattle.gl_vm.specs.Steps.{Does}
use Rattle.gl_vm.specs.View.{Tables, state_of}
use Rattle.gl_vm.specs.declared.vm.Vm.{Vm}
use Rattle.gl_code.specs.Cells.{CellList}
use Rattle.gl_code.specs.CodeView.{seen_codes, seen_item_spot, stamp_of, seen_item_code, all_items}
use Rattle.gl_code.specs.declared.code.ItemCode.{ItemCode}
use Rattle.gl_code.specs.declared.code.ItemSpot.{ItemSpot}
use Rattle.gl_code.specs.declared.code.Listing.{Listing}
use Rattle.gl_code.specs.declared.fault.VmFault.{VmFault}
use Rattle.gl_update.specs.ListItems.{Item, one_item, handle, there, AlongItem, KeptItem}
use Rattle.gl_update.specs.OldItems.{code_key}
use Rattle.gl_update.specs.Read.{entries_now}
use Rattle.gl_code.specs.Renewing.{Renews, RenewFails}
use Rattle.gl_update.proofs.ItemJoins.{item_renewed}
use Rattle.gl_update.proofs.OldKeys.{there_all}
use Rattle.gl_update.proofs.Onward.{Onward}
use Rattle.gl_update.proofs.Places.{taken_first}
use Rattle.gl_update.proofs.Renewing.{renews_same, does_renews, fails_same, does_fails}
use Rattle.gl_update.proofs.SyncItems.{AllOf, LeftOf, TakesOld, key_is, item_is, given_of, sync_begin_of, sync_next_of, sync_fails_of, sync_end_of}

-- Places of lists

-- what stands at a place
at_place : {A : Type 0} (xs : List A) (i : ℕ) → i < length xs → (x : A) × (slice_get xs i ≡ Some x) × (drop i xs ≡ x ∷ drop (i + 1) xs)
at_place [] i lt = absurd (omega (arith, lt))
at_place (x ∷ xs) zero lt = (x, refl, refl)
at_place (x ∷ xs) (suc i) lt =
    let r = at_place xs i (omega (arith, lt)) in
    let n : suc (i + 1) ≡ suc i + 1 = omega arith in (r.0, r.1, r.2 ∙ ap (λ m. r.0 ∷ drop m (x ∷ xs)) n)

same_head : {A : Type 0} (x y : A) (xs ys : List A) → x ∷ xs ≡ y ∷ ys → x ≡ y
same_head x y xs ys e = cc

keys_at : (es : List Entry) (xs : List ItemCode) (i : ℕ) (e : Entry) (x : ItemCode) → entry_keys es ≡ map code_key xs → slice_get es i ≡ Some e → slice_get xs i ≡ Some x → entry_key e ≡ code_key x
keys_at [] xs i e x k f g = let no : None ≡ Some e = f in absurd (cc)
keys_at (d ∷ es) [] i e x k f g = let no : None ≡ Some x = g in absurd (cc)
keys_at (d ∷ es) (y ∷ xs) zero e x k f g =
    let one : Some d ≡ Some e = f in
    let two : Some y ≡ Some x = g in
    let same : entry_key d ≡ code_key y = same_head (entry_key d) (code_key y) (entry_keys es) (map code_key xs) k in
    let a : d ≡ e = cc in
    let b : y ≡ x = cc in ap entry_key (sym a) ∙ (same ∙ ap code_key b)
keys_at (d ∷ es) (y ∷ xs) (suc i) e x k f g = let rest : entry_keys es ≡ map code_key xs = (let both : entry_key d ∷ entry_keys es ≡ code_key y ∷ map code_key xs = k in cc) in keys_at es xs i e x rest f g

-- Entries of values

entry_count : (k : Text) (j : ℕ) (before : List Plain) (vs : List (PlainValue ℕ)) → length (entries k j before (values_with owner_path (values_of vs))) ≡ length vs
entry_count k j before [] = refl
entry_count k j before (v ∷ vs) = ap suc (entry_count k (suc j) (key_of k j (labelled v) ∷ before) vs)

-- the entry at a place has the value there, and the index
entry_of : (k : Text) (j : ℕ) (before : List Plain) (vs : List (PlainValue ℕ)) (i : ℕ) (e : Entry) (v : PlainValue ℕ) → slice_get (entries k j before (values_with owner_path (values_of vs))) i ≡ Some e → slice_get vs i ≡ Some v
    → (e.value ≡ labelled v) × (e.index ≡ j + i)
entry_of k j before [] i e v f g = let no : None ≡ Some v = g in absurd (cc)
entry_of k j before (w ∷ vs) zero e v f g =
    let one : Some w ≡ Some v = g in
    let same : w ≡ v = cc in
    let d : Entry = record { key = key_of k j (labelled w); occurrence = occurrences (key_of k j (labelled w)) before; value = labelled w; index = j } in
    let two : Some d ≡ Some e = f in
    let is : d ≡ e = cc in (ap (λ (x : Entry). x.value) (sym is) ∙ ap labelled same, (let n : e.index ≡ j = ap (λ (x : Entry). x.index) (sym is) in omega (arith, n)))
entry_of k j before (w ∷ vs) (suc i) e v f g =
    let r = entry_of k (suc j) (key_of k j (labelled w) ∷ before) vs i e v f g in (r.0, (let n = r.1 in omega (arith, n)))

-- no entries are of no values
pub none_now : (k : Text) (vs : List (PlainValue ℕ)) → entries_now k vs ≡ [] → vs ≡ []
none_now k [] e = refl
none_now k (v ∷ vs) e =
    let d : Entry = record { key = key_of k 0 (labelled v); occurrence = occurrences (key_of k 0 (labelled v)) []; value = labelled v; index = 0 } in
    let no : d ∷ entries k 1 (key_of k 0 (labelled v) ∷ []) (values_with owner_path (values_of vs)) ≡ [] = e in absurd (cc)

-- the first of the old items is taken
pub takes_first : (e : Entry) (x : ItemCode) (xs : List ItemCode) → entry_key e ≡ code_key x → TakesOld e (map Some (x ∷ xs)) (map Some xs) (Some x)
takes_first e x xs same = λ n run m. taken_first run m e (seen_item_code n x) (map (seen_item_code n) (there (map Some xs))) (same ∙ sym (key_is n x))

-- the path of an item with the entry's key
pub key_path : (e : Entry) (x : ItemCode) (base : Path) → entry_key e ≡ code_key x → item e.key e.occurrence ∷ base ≡ item (plain (view x.spot.key)) x.spot.occurrence ∷ base
key_path e x base same =
    let key : e.key ≡ plain (view x.spot.key) = sym (unowned-owned e.key) ∙ (ap (λ (k : Key). unowned k.0) same ∙ unowned-owned (plain (view x.spot.key))) in
    let occurrence : e.occurrence ≡ x.spot.occurrence = ap (λ (k : Key). k.1) same in
    ap₂ (λ p n. item p n ∷ base) key occurrence

-- An item is given the value and the index of an entry, and walked along.

module _ (a : App) (cells : CellList) (left : ℕ) (base : Path) (e : Entry) (x : ItemCode) (vm mid : Vm) (same : entry_key e ≡ code_key x) (d : Does (given_of x.spot e) vm mid) where
  abbrev at_entry : Path
  at_entry = item e.key e.occurrence ∷ base

  stay_is : (n : Tables) (run : Runs) (u : Source → Bool) → AlongItem left base (λ m. seen_item_code m x) n run (given_of x.spot e n (state_of n vm u)) ≡ KeptItem left at_entry e (λ m. seen_item_code m x) n run (state_of n vm u)
  stay_is n run u =
      let st : State = state_of n vm u in
      let g : State = given_of x.spot e n st in
      let y : Item = (seen_item_spot x.spot, (stamp_of x.comment, seen_codes n x.body)) in
      ap (λ (w : Item). on_ok (along_body_as by_number run left (item w.0.key w.0.occurrence ∷ base) w.1.1 g) (λ r. ok ((w.0, (w.1.0, r.0)), r.1))) (item_is n x)
      ∙ (ap (λ w. on_ok (along_body_as by_number run left w (seen_codes n x.body) g) (λ r. ok ((seen_item_spot x.spot, (stamp_of x.comment, r.0)), r.1))) (sym (key_path e x base same))
      ∙ (sym (item_renewed run left at_entry e y st) ∙ ap (λ w. one_item (renew_item_code_as by_number at_entry e (handle run left w) st)) (sym (item_is n x))))

  pub stay_renews : (y : ItemCode) (new : Vm) → Renews a cells (AlongItem left base (λ n. seen_item_code n x)) mid (λ n. seen_item_code n y) new → Renews a cells (KeptItem left at_entry e (λ n. seen_item_code n x)) vm (λ n. seen_item_code n y) new
  stay_renews y new r =
      renews_same a cells (λ n run st. AlongItem left base (λ m. seen_item_code m x) n run (given_of x.spot e n st)) (KeptItem left at_entry e (λ n. seen_item_code n x)) (λ n. seen_item_code n y) vm new stay_is
      (does_renews a cells (given_of x.spot e) (AlongItem left base (λ n. seen_item_code n x)) (λ n. seen_item_code n y) vm mid new d r)

  stay_fails : (h : VmFault) → RenewFails {A = Item} a cells (AlongItem left base (λ n. seen_item_code n x)) mid h → RenewFails {A = Item} a cells (KeptItem left at_entry e (λ n. seen_item_code n x)) vm h
  stay_fails h r =
      fails_same a cells (λ n run st. AlongItem left base (λ m. seen_item_code m x) n run (given_of x.spot e n st)) (KeptItem left at_entry e (λ n. seen_item_code n x)) vm h stay_is
      (does_fails a cells (given_of x.spot e) (AlongItem left base (λ n. seen_item_code n x)) vm mid h d r)

-- The loop

-- what is given at a place
abbrev pub GivesAt : List (PlainValue ℕ) → ℕ → ItemSpot → Vm → Vm → Type 0
GivesAt vs index sp old new =
    (v : PlainValue ℕ) → slice_get vs index ≡ Some v → Does (λ n st. give sp.index.1 (label sp.index.1) (labelled (count_value index)) (give sp.value.1 (label sp.value.1) (labelled v) st)) old new

module _ (a : App) (cells : CellList) (left : ℕ) (base : Path) where
  -- whatever the list is: of the items those before the place are done
  abbrev pub Stays : List (PlainValue ℕ) → List ItemCode → Vm → List ItemCode → ℕ → Vm → Type 0
  Stays vs olds vm0 held i vm =
      (k : Text) → entry_keys (entries_now k vs) ≡ map code_key olds
      → (z : Listing) → Onward a cells (AllOf a cells left z base (entries_now k vs) olds) vm0 (LeftOf a cells left z base (take i held) (drop i (entries_now k vs)) (there (map Some (drop i olds)))) vm

  pub stays_begin : (vs : List (PlainValue ℕ)) (olds held : List ItemCode) (vm : Vm) → Stays vs olds vm held 0 vm
  stays_begin vs olds held vm = λ k keys z.
      let es = entries_now k vs in
      subst (λ xs. Onward a cells (AllOf a cells left z base es olds) vm (LeftOf a cells left z base [] es xs) vm) (sym (there_all olds)) (sync_begin_of a cells left z base es olds [] vm refl)

  -- what is known of a place
  pub record Place (vs : List (PlainValue ℕ)) (olds : List ItemCode) (i : ℕ) (x : ItemCode) (k : Text) (vm mid : Vm) : Type 0 where
    pub e : Entry
    pub is : drop i (entries_now k vs) ≡ e ∷ drop (i + 1) (entries_now k vs)
    pub key : entry_key e ≡ code_key x
    pub given : Does (given_of x.spot e) vm mid

  pub place : (vs : List (PlainValue ℕ)) (olds : List ItemCode) (i : ℕ) (x : ItemCode) (vm mid : Vm) → i < length olds → drop i olds ≡ x ∷ drop (i + 1) olds → GivesAt vs i x.spot vm mid → (k : Text) → entry_keys (entries_now k vs) ≡ map code_key olds
      → Place vs olds i x k vm mid
  place vs olds i x vm mid lt at gives k keys =
      let es = entries_now k vs in
      let long : length es ≡ length olds = sym (length-map es entry_key) ∙ (ap length keys ∙ length-map olds code_key) in
      let more : length es ≡ length vs = entry_count k 0 [] vs in
      let p = at_place es i (omega (arith, lt, long)) in
      let q = at_place vs i (omega (arith, lt, long, more)) in
      let o = at_place olds i lt in
      let x-is : o.0 ≡ x = same_head o.0 x (drop (i + 1) olds) (drop (i + 1) olds) (sym o.2 ∙ at) in
      let r = entry_of k 0 [] vs i p.0 q.0 p.1 q.1 in
      let index : p.0.index ≡ i = (let n = r.1 in omega (arith, n)) in
      record {
        e = p.0;
        is = p.2;
        key = keys_at es olds i p.0 x keys p.1 (o.1 ∙ ap Some x-is);
        given = subst (λ m. Does (λ n st. give x.spot.index.1 (label x.spot.index.1) (labelled (count_value m)) (give x.spot.value.1 (label x.spot.value.1) p.0.value st)) vm mid) (sym index)
            (subst (λ v. Does (λ n st. give x.spot.index.1 (label x.spot.index.1) (labelled (count_value i)) (give x.spot.value.1 (label x.spot.value.1) v st)) vm mid) (sym r.0) (gives q.0 q.1));
      }

  pub stays_next : (vs : List (PlainValue ℕ)) (olds held : List ItemCode) (vm0 vm mid new : Vm) (i : ℕ) (x y : ItemCode) → i < length held → length held ≡ length olds → x ≡ get_or olds i x
      → Stays vs olds vm0 held i vm → GivesAt vs i x.spot vm mid → Renews a cells (AlongItem left base (λ n. seen_item_code n x)) mid (λ n. seen_item_code n y) new
      → Stays vs olds vm0 (set held i y) (i + 1) new
  stays_next vs olds held vm0 vm mid new i x y lt long at w gives r = λ k keys z.
      let es = entries_now k vs in
      let more : drop i olds ≡ x ∷ drop (i + 1) olds = drop_item olds i x (omega (arith, lt, long)) at in
      let p = place vs olds i x vm mid (omega (arith, lt, long)) more gives k keys in
      sync_next_of a cells left z base (AllOf a cells left z base es olds) (take i held) (take (i + 1) (set held i y)) (drop i es) (drop (i + 1) es) p.e y (item p.e.key p.e.occurrence ∷ base) (map Some (x ∷ drop (i + 1) olds)) (map Some (drop (i + 1) olds)) (Some x)
      vm0 vm new p.is refl (takes_first p.e x (drop (i + 1) olds) p.key) (take_more_set held i y lt)
      (subst (λ xs. Onward a cells (AllOf a cells left z base es olds) vm0 (LeftOf a cells left z base (take i held) (drop i es) (there (map Some xs))) vm) more (w k keys z)) (stay_renews a cells left base p.e x vm mid p.key p.given y new r)

  pub stays_fails : (vs : List (PlainValue ℕ)) (olds held : List ItemCode) (vm0 vm mid : Vm) (i : ℕ) (x : ItemCode) (f : VmFault) → i < length held → length held ≡ length olds → x ≡ get_or olds i x
      → Stays vs olds vm0 held i vm → GivesAt vs i x.spot vm mid → RenewFails {A = Item} a cells (AlongItem left base (λ n. seen_item_code n x)) mid f
      → (k : Text) → entry_keys (entries_now k vs) ≡ map code_key olds → (z : Listing) → RenewFails {A = ItemCodes} a cells (AllOf a cells left z base (entries_now k vs) olds) vm0 f
  stays_fails vs olds held vm0 vm mid i x f lt long at w gives r = λ k keys z.
      let es = entries_now k vs in
      let more : drop i olds ≡ x ∷ drop (i + 1) olds = drop_item olds i x (omega (arith, lt, long)) at in
      let p = place vs olds i x vm mid (omega (arith, lt, long)) more gives k keys in
      sync_fails_of a cells left z base (AllOf a cells left z base es olds) (take i held) (drop i es) (drop (i + 1) es) p.e (item p.e.key p.e.occurrence ∷ base) (map Some (x ∷ drop (i + 1) olds)) (map Some (drop (i + 1) olds)) (Some x)
      vm0 vm f p.is refl (takes_first p.e x (drop (i + 1) olds) p.key)
      (subst (λ xs. Onward a cells (AllOf a cells left z base es olds) vm0 (LeftOf a cells left z base (take i held) (drop i es) (there (map Some xs))) vm) more (w k keys z)) (stay_fails a cells left base p.e x vm mid p.key p.given f r)

  pub stays_end : (vs : List (PlainValue ℕ)) (olds held news : List ItemCode) (vm0 vm new : Vm) (i : ℕ) → length held ≤ i → length held ≡ length olds → held ≡ news → Stays vs olds vm0 held i vm
      → Does (λ n. dropped_as by_number (λ q. times_items q (items_of (all_items [])))) vm new
      → (k : Text) → entry_keys (entries_now k vs) ≡ map code_key olds → (z : Listing) → Renews a cells (AllOf a cells left z base (entries_now k vs) olds) vm0 (λ n. all_items (map (seen_item_code n) news)) new
  stays_end vs olds held news vm0 vm new i le long is w d = λ k keys z.
      let es = entries_now k vs in
      let over : drop i olds ≡ [] = drop_all i olds (omega (arith, le, long)) in
      let count : length es ≡ length olds = sym (length-map es entry_key) ∙ (ap length keys ∙ length-map olds code_key) in
      let none : drop i es ≡ [] = drop_all i es (omega (arith, le, long, count)) in
      sync_end_of a cells left z base (AllOf a cells left z base es olds) news [] (drop i es) (map Some (drop i olds)) vm0 vm new none (sym (ap (λ xs. there (map Some xs)) over))
      (subst (λ ys. Onward a cells (AllOf a cells left z base es olds) vm0 (LeftOf a cells left z base ys (drop i es) (there (map Some (drop i olds)))) vm) (take_all i held le ∙ is) (w k keys z)) d
