-- Questions that are counted as the updating program is walked along.
use Rattle.std.proofs.Common.{◌≡◌, ◌≢◌, ◌≤◌, ◌<◌, ℕ, suc, ◌+◌, Bool, true, false, List, [], ◌∷◌, map, drop, set, length, nat_eq, get_or, Option, None, refl, sym, ◌∙◌, ap, ap₂, subst, add-one, arith}
use Rattle.std.specs.Prelude.{if◌then◌else◌}
use Rattle.std.proofs.lemmas.List.{drop_all, drop-set-lt, length-map}
use Rattle.gl_base.proofs.Lists.{drop_item}
use Rattle.gl_meaning.specs.Eval.{takes_first}
use Rattle.gl_meaning.specs.Path.{at, main, otherwise, Path}
use Rattle.gl_meaning.specs.Scope.{Source}
use Rattle.gl_meaning.specs.View.{manifest_view}
use Rattle.gl_opc.specs.declared.app.App.{App}
use Rattle.gl_plain.specs.Binding.{Spot, first_value}
use Rattle.gl_plain.specs.Ids as p
use Rattle.gl_plain.specs.Live as l
use Rattle.gl_plain.specs.Naming.{by_number}
use Rattle.gl_plain.specs.Renew.{spot_pairs, reread, renew_attrs}
use Rattle.gl_plain.specs.State.{Names, Inst}
use Rattle.gl_machine.specs.Code.{Choice, Code as PlainCode, Codes as PlainCodes, branch_code, component_code, element_code}
use Rattle.gl_machine.specs.RenewCode.{Runs}
use Rattle.gl_guards.specs.Along.{along_code_as}
use Rattle.gl_guards.specs.AlongAsks.{gone_along, along_asks_as, along_asks_in, along_asks_page, along_asks_root}
use Rattle.gl_vm.specs.View.{Tables, state_of}
use Rattle.gl_vm.specs.Steps.{Does}
use Rattle.gl_vm.specs.declared.vm.Vm.{Vm}
use Rattle.gl_code.specs.View.{refs_made, seen_owner}
use Rattle.gl_code.specs.CodeView.{seen_code, seen_codes, component_seen}
use Rattle.gl_code.specs.Cells.{CellList}
use Rattle.gl_code.specs.Tables.{tables_of}
use Rattle.gl_code.specs.declared.code.Code.{Code}
use Rattle.gl_code.specs.declared.code.Codes.{Codes}
use Rattle.gl_code.specs.declared.sight.Owner.{Owner}
use Rattle.gl_code.specs.Renewing.{Renewal, Renews}
use Rattle.gl_update.specs.Idle.{AsksAlone}
use Rattle.gl_update.specs.Questions.{Count, Asks, AsksIn, AsksBody, AsksCode, closed}
use Rattle.gl_update.proofs.Asking.{asks_same, asks_just, asks_first, does_asks, asks_region, asks_passed, AsksOn, ason_begin, ason_next, ason_end}
use Rattle.gl_update.proofs.Branching.{side_of}
use Rattle.gl_update.proofs.Walking.{One, seen_all, all_is}

module _ (a : App) (cells : CellList) where
  -- what is so for the manifest's names is so
  pub asks_at : (f : Tables → Count) (old : Vm) (b c : ℕ) → ((m : Tables) → Asks a cells (f m) old b c) → Asks a cells (λ n. f n n) old b c
  asks_at f old b c r ts rise u agrees = r (tables_of (manifest_view a.manifest)) ts rise u agrees

  -- A region is entered: its own question is counted, a mark is set, and what is asked in it is counted after the question whether it is entered.
  pub asks_entered : {A : Type 0} (flow : Renewal A) (g : Count) (x : Tables → A) (old mid new : Vm) (b m0 m c k l : ℕ) → m0 ≡ b + 1 → k ≡ m0 → l ≡ length old.refs.evaluated → c ≡ closed k m (nat_eq (length new.refs.evaluated) l)
      → Does (λ n st. st) old mid → Renews a cells flow old x new → Asks a cells g mid m0 m → Asks a cells (λ n run st. gone_along st (flow n run st) (g n run st)) old b c
  asks_entered flow g x old mid new b m0 m c k l first e d over still r h =
      asks_region a cells flow g x old new b m0 m c first r (does_asks a cells (λ n st. st) g old mid m0 m still h) (over ∙ ap₂ (λ i j. closed i m (nat_eq (length new.refs.evaluated) j)) e d)

  -- A region is passed over: its own question is counted, and nothing was evaluated.
  pub asks_over : {A : Type 0} (flow : Renewal A) (g : Count) (x : Tables → A) (old new : Vm) (b c : ℕ) → c ≡ b + 1 → AsksAlone old new → Renews a cells flow old x new → Asks a cells (λ n run st. gone_along st (flow n run st) (g n run st)) old b c
  asks_over flow g x old new b c one alone r = asks_passed a cells flow g x old new b c one r (ap (λ (vm : Vm). length vm.refs.evaluated) alone)

-- Two lists are counted, one after the other.
pub both_counted : {A B C D : Type 0} (f : A → C) (g : B → D) (xs : List A) (zs : List B) (i j b m c : ℕ) → i ≡ length xs → j ≡ length zs → m ≡ b + i → c ≡ m + j → c ≡ b + (length (map f xs) + length (map g zs))
both_counted f g xs zs i j b m c e d first second =
    let is = length-map xs f in
    let js = length-map zs g in
    omega (arith, e, d, first, second, is, js)

module _ (a : App) (cells : CellList) (left : ℕ) (q : Path) where
  -- of a statement by what it is
  pub arm_asks : (x : Code) (k : Tables → PlainCode) (old : Vm) (b c : ℕ) → ((n : Tables) → seen_code n x ≡ k n) → Asks a cells (AsksCode left q k) old b c → Asks a cells (AsksCode left q (λ n. seen_code n x)) old b c
  arm_asks x k old b c e r = asks_same a cells (AsksCode left q k) (AsksCode left q (λ n. seen_code n x)) old b c (λ n run u. ap (λ z. along_asks_as by_number run left q z (state_of n old u)) (sym (e n))) r

  -- An element: its attributes and its modifiers are counted, and then what is in it.
  pub element_asks : (node : ℕ) (made : List p.Id) (xs : List l.AttrSpot) (zs : List l.ModSpot) (x : Codes) (old mid : Vm) (b m c : ℕ) → m ≡ b + (length xs + length zs) → Does (λ n. renew_attrs node xs) old mid
      → Asks a cells (AsksIn left q (λ n. seen_codes n x)) mid m c → Asks a cells (AsksCode left q (λ n. element_code node made xs zs (seen_codes n x))) old b c
  element_asks node made xs zs x old mid b m c e d h =
      asks_first a cells (length xs + length zs) (λ n run st. along_asks_in by_number run left q 0 (seen_codes n x) (renew_attrs node xs st)) old b m c e (does_asks a cells (λ n. renew_attrs node xs) (AsksIn left q (λ n. seen_codes n x)) old mid m c d h)

  -- A component: its path is the instance's, and one level less is left.
  pub component_asks : (i : Inst) (made gm : List p.Id) (args : Names) (k : Option ℕ) (m : ℕ) → left ≡ suc m → (w : Path) → i.path ≡ w → (x : Codes) (old : Vm) (b c : ℕ) → Asks a cells (AsksBody m w (λ n. seen_codes n x)) old b c
      → Asks a cells (AsksCode left q (λ n. component_code i made gm args k (seen_codes n x))) old b c
  component_asks i made gm args k m e w d x old b c h =
      subst (λ j. Asks a cells (AsksCode j q (λ n. component_code i made gm args k (seen_codes n x))) old b c) (sym e) (subst (λ z. Asks a cells (AsksBody m z (λ n. seen_codes n x)) old b c) (sym d) h)

-- A branch of which the condition is evaluated again.
module _ (a : App) (cells : CellList) (left : ℕ) (p : Path) (z : Tables → Choice) (s : Spot) (k : Option ℕ) (cs : Tables → PlainCodes) where
  abbrev Branch : Bool → Count
  Branch b = AsksCode left p (λ n. branch_code (z n) s b k (cs n))

  -- what is asked with the condition evaluated
  abbrev Decided : Bool → Count
  Decided true = λ n run st. if takes_first (z n).unless (first_value (spot_pairs st s.ref)) then AsksBody left (main ∷ p) cs n run st else 0
  Decided false = λ n run st. if takes_first (z n).unless (first_value (spot_pairs st s.ref)) then 0 else AsksBody left (otherwise ∷ p) cs n run st

  abbrev Shows : Bool → Vm → Type 0
  Shows b vm = (n : Tables) (u : Source → Bool) → takes_first (z n).unless (first_value (spot_pairs (state_of n vm u) s.ref)) ≡ b

  as_decided : (b : Bool) (old mid : Vm) (b0 m c : ℕ) → m ≡ b0 + 1 → Does (λ n. reread s.ref) old mid → Asks a cells (Decided b) mid m c → Asks a cells (Branch b) old b0 c
  as_decided true old mid b0 m c e d h = asks_first a cells 1 (λ n run st. Decided true n run (reread s.ref st)) old b0 m c e (does_asks a cells (λ n. reread s.ref) (Decided true) old mid m c d h)
  as_decided false old mid b0 m c e d h = asks_first a cells 1 (λ n run st. Decided false n run (reread s.ref st)) old b0 m c e (does_asks a cells (λ n. reread s.ref) (Decided false) old mid m c d h)

  decided_kept : (b : Bool) (vm : Vm) → Shows b vm → (n : Tables) (run : Runs) (u : Source → Bool) → AsksBody left (side_of b p) cs n run (state_of n vm u) ≡ Decided b n run (state_of n vm u)
  decided_kept true vm e n run u = ap (λ t. if t then AsksBody left (main ∷ p) cs n run (state_of n vm u) else 0) (sym (e n u))
  decided_kept false vm e n run u = ap (λ t. if t then 0 else AsksBody left (otherwise ∷ p) cs n run (state_of n vm u)) (sym (e n u))

  decided_other : (b d : Bool) (vm : Vm) → b ≢ d → Shows b vm → (n : Tables) (run : Runs) (u : Source → Bool) → 0 ≡ Decided d n run (state_of n vm u)
  decided_other true true vm ne e n run u = absurd (ne refl)
  decided_other false false vm ne e n run u = absurd (ne refl)
  decided_other true false vm ne e n run u = ap (λ t. if t then 0 else AsksBody left (otherwise ∷ p) cs n run (state_of n vm u)) (sym (e n u))
  decided_other false true vm ne e n run u = ap (λ t. if t then AsksBody left (main ∷ p) cs n run (state_of n vm u) else 0) (sym (e n u))

  -- the same side shows
  pub branch_asks : (b : Bool) (old mid : Vm) (b0 m c : ℕ) → m ≡ b0 + 1 → Does (λ n. reread s.ref) old mid → Shows b mid → Asks a cells (AsksBody left (side_of b p) cs) mid m c → Asks a cells (Branch b) old b0 c
  branch_asks b old mid b0 m c e d f h = as_decided b old mid b0 m c e d (asks_same a cells (AsksBody left (side_of b p) cs) (Decided b) mid m c (decided_kept b mid f) h)

  -- the other one does, in which nothing is asked
  pub flip_asks : (b was : Bool) (old mid : Vm) (b0 m : ℕ) → m ≡ b0 + 1 → b ≢ was → Does (λ n. reread s.ref) old mid → Shows b mid → Asks a cells (Branch was) old b0 m
  flip_asks b was old mid b0 m e ne d f = as_decided was old mid b0 m m e d (asks_same a cells (λ n run st. 0) (Decided was) mid m m (decided_other b was mid ne f) (asks_just a cells 0 mid m m (omega arith)))

-- The statements of a body, one after another.
module _ (a : App) (cells : CellList) (left : ℕ) (p : Path) where
  -- of those from a place on
  abbrev AsksFrom : ℕ → List Code → Count
  AsksFrom i xs = λ n run. along_asks_in by_number run left p i (seen_all xs n)

  abbrev Whole : Codes → Count
  Whole all = AsksIn left p (λ n. seen_codes n all)

  -- Whatever is asked from a place on, the whole asks with what was asked before.
  abbrev pub AsksWalk : Codes → Vm → ℕ → List Code → ℕ → Vm → ℕ → Type 0
  AsksWalk all vm0 b0 items i vm b = AsksOn a cells (Whole all) vm0 b0 (AsksFrom i (drop i items)) vm b

  pub asks_begin : (all : Codes) (items : List Code) (vm : Vm) (b : ℕ) → items ≡ all.list.items → AsksWalk all vm b items 0 vm b
  asks_begin all items vm b e = ason_begin a cells (Whole all) (AsksFrom 0 items) vm b (λ n run u. ap (λ cs. along_asks_in by_number run left p 0 cs (state_of n vm u)) (all_is all items e n))

  pub asks_next : (items : List Code) (i : ℕ) (x y : Code) → i < length items → x ≡ get_or items i x → (w : Path) → w ≡ at i ∷ p → (all : Codes) (vm0 vm mid : Vm) (b0 b m : ℕ) → AsksWalk all vm0 b0 items i vm b
      → Asks a cells (AsksCode left w (λ n. seen_code n x)) vm b m → Renews a cells (One a cells left p w x) vm (λ n. seen_code n y) mid → AsksWalk all vm0 b0 (set items i y) (i + 1) mid m
  asks_next items i x y lt is w here all vm0 vm mid b0 b m walk h r =
      let more : List Code = drop (i + 1) items in
      let one : Asks a cells (AsksCode left (at i ∷ p) (λ n. seen_code n x)) vm b m = subst (λ v. Asks a cells (AsksCode left v (λ n. seen_code n x)) vm b m) here h in
      let renews : Renews a cells (λ n run. along_code_as by_number run left (at i ∷ p) (seen_code n x)) vm (λ n. seen_code n y) mid =
      subst (λ v. Renews a cells (One a cells left p v x) vm (λ n. seen_code n y) mid) here r in
      let next : AsksOn a cells (Whole all) vm0 b0 (AsksFrom (suc i) more) mid m =
      ason_next a cells (Whole all) (AsksFrom i (drop i items)) (AsksCode left (at i ∷ p) (λ n. seen_code n x)) (λ n run. along_code_as by_number run left (at i ∷ p) (seen_code n x)) (λ n v run st. along_asks_in by_number run left p (suc i) (seen_all more n) st) (λ n. seen_code n y)
      vm0 vm mid b0 b m (λ n run u. ap (λ xs. along_asks_in by_number run left p i (seen_all xs n) (state_of n vm u)) (sym (drop_item items i x lt is))) walk one renews in
      subst (λ xs. AsksOn a cells (Whole all) vm0 b0 (AsksFrom (i + 1) xs) mid m) (sym (drop-set-lt (i + 1) items i y (omega arith))) (subst (λ j. AsksOn a cells (Whole all) vm0 b0 (AsksFrom j more) mid m) (sym (add-one i)) next)

  pub asks_end : (all : Codes) (vm0 vm : Vm) (b0 b : ℕ) (items : List Code) (i : ℕ) → length items ≤ i → AsksWalk all vm0 b0 items i vm b → Asks a cells (Whole all) vm0 b0 b
  asks_end all vm0 vm b0 b items i le walk =
      ason_end a cells (Whole all) (AsksFrom i (drop i items)) vm0 vm b0 b (λ n run u. ap (λ xs. along_asks_in by_number run left p i (seen_all xs n) (state_of n vm u)) (drop_all i items le)) walk

-- The page: its root is a component of which nothing is passed.
module _ (a : App) (cells : CellList) (limit m : ℕ) (e : limit ≡ suc m) (o : Owner) where
  abbrev Page : Path → Codes → Count
  Page w x = λ n run. along_asks_page by_number run m w (seen_codes n x)

  abbrev root : Tables → PlainCodes → PlainCode
  root n cs = component_seen (seen_owner n o) [] (refs_made o.cells) [] None cs

  root_at : (x : Code) (b : Codes) (old : Vm) → ((n : Tables) → seen_code n x ≡ root n (seen_codes n b)) → (n : Tables) (run : Runs) (u : Source → Bool)
      → Page [] b n run (state_of n old u) ≡ along_asks_root by_number limit run (seen_code n x) (state_of n old u)
  root_at x b old is n run u = sym (ap (λ j. along_asks_root by_number j run (seen_code n x) (state_of n old u)) e ∙ ap (λ z. along_asks_root by_number (suc m) run z (state_of n old u)) (is n))

  pub page_asks : (x : Code) (b : Codes) (w : Path) (old : Vm) (b0 c : ℕ) → w ≡ [] → b0 ≡ 0 → ((n : Tables) → seen_code n x ≡ root n (seen_codes n b)) → Asks a cells (Page w b) old b0 c
      → Asks a cells (λ n run. along_asks_root by_number limit run (seen_code n x)) old 0 c
  page_asks x b w old b0 c top none is h =
      asks_same a cells (Page [] b) (λ n run. along_asks_root by_number limit run (seen_code n x)) old 0 c (root_at x b old is) (subst (λ k. Asks a cells (Page [] b) old k c) none (subst (λ v. Asks a cells (Page v b) old b0 c) top h))
