-- Right names exist: the numbers of a tree that was appended by numbers are new, and what they stand for differs.
use Rattle.std.proofs.Common.{◌≡◌, ℕ, List, [], ◌∷◌, Bool, true, false, Some, refl, sym, ap, ◌∙◌, subst, arith, inl, inr}
use Rattle.std.specs.Prelude.{◌&&◌, if◌then◌else◌, not, unwrap_or}
use Rattle.std.specs.Bool.{Decides}
use Rattle.std.specs.Str.{bytes_eq}
use Rattle.gl_base.specs.Texts.{Text}
use Rattle.gl_base.specs.Names.{named}
use Rattle.gl_value.specs.Value.{undefined, plain, count_value}
use Rattle.gl_value.specs.Owners.{with_owners}
use Rattle.gl_ast.specs.Template.{Plain}
use Rattle.gl_meaning.specs.App.{App}
use Rattle.gl_meaning.specs.Path.{at, Path, V, path_eq}
use Rattle.gl_meaning.specs.Scope.{Source, cell, item_value, item_index}
use Rattle.gl_meaning.specs.Eval.{Store, class_at, held_at, cell_value}
use Rattle.gl_meaning.specs.Known.{Among}
use Rattle.gl_meaning.specs.Laws.{NoRepeat, source_path}
use Rattle.gl_meaning.specs.Order.{names_of}
use Rattle.gl_meaning.specs.Render.{Entry, draw, fits}
use Rattle.gl_plain.specs.Ids.{a_ref, an_instance, ref}
use Rattle.gl_plain.specs.State.{Names, Inst, instance_row, State, make, source_eq}
use Rattle.gl_plain.specs.Naming.{by_number, made_source}
use Rattle.gl_plain.specs.Live.{Live, is_deep}
use Rattle.gl_plain.specs.Drawn.{drawn_app}
use Rattle.gl_plain.specs.Machine.{StandsFor}
use Rattle.gl_plain.specs.Grow.{item_spot_as, grow_cells_as, grow_app_as}
use Rattle.gl_plain.proofs.Roots.{appended_stands, standing_shows, deep_is_deep}
use Rattle.gl_plain.proofs.Syncs.{path-Decides}
use Rattle.gl_naming.specs.Renamed.{state_with, StoresAgree, Right}
use Rattle.gl_naming.specs.Numbered.{number}
use Rattle.gl_naming.specs.Laws.{IsOneToOne}
use Rattle.gl_naming.specs.Exist.{FieldsDiffer, store_with, NamesExist, GrownStands, FirstStands}
use Rattle.gl_naming.proofs.Grown.{grown_renamed}
use Rattle.gl_naming.proofs.Bound.{plain_on}
use Rattle.gl_naming.proofs.Later.{params_later, spot_later, cells_later}
use Rattle.gl_naming.proofs.Steps.{source_same, source_itself}
use Rattle.gl_naming.proofs.Swaps.{Once, Takes, numbers, values, renamed, renamed_once, renamed_takes}
use Rattle.gl_naming.proofs.Ties.{ties, own_tie, no_tie, owner_key, cell_ties, cells_tie, item_tie, right}
use Rattle.gl_naming.proofs.Sits.{Sits, Placed, Differ, differ_of}
use Rattle.gl_naming.proofs.Sitting.{fields_differ, app_sits}
use Rattle.gl_naming.proofs.Rising.{Rises, rises_differ, app_goes}

pub source-Decides : (x y : Source) → Decides (source_eq x y) (x ≡ y)
source-Decides x y = (source_same x y, λ e. subst (λ z. source_eq x z ≡ true) e (source_itself x))

-- Keys

abbrev first_number : Path → ℕ
first_number (at n ∷ p) = n
first_number _ = 0

pub owner_once : Once owner_key
owner_once n m e = ap first_number e

pub number_once : Once number
number_once n m e = ap (λ x. first_number (source_path x)) e

-- What stands for an instance and an item

abbrev pub of_owner : Path → Path
of_owner p = p

abbrev field_of : Source → Text
field_of (cell p x) = x
field_of _ = []

pub cells_placed : (app : App) (p : Path) (cs : Names) → Placed app source_path (λ j. j ≡ p) (cell_ties p cs)
cells_placed app p [] = tt
cells_placed app p (c ∷ cs) = (refl, cells_placed app p cs)

-- a cell of another name isn't among these
other_cell : (p : Path) (x : Text) (cs : Names) → (Among x (names_of cs) → ⊥) → Among (cell p x) (values (cell_ties p cs)) → ⊥
other_cell p x [] h m = m
other_cell p x (c ∷ cs) h (inl e) = h (inl (ap field_of e))
other_cell p x (c ∷ cs) h (inr m) = other_cell p x cs (λ n. h (inr n)) m

cells_differ : (app : App) (p : Path) (cs : Names) → NoRepeat (names_of cs) → Differ app source_path (cell_ties p cs)
cells_differ app p [] h = tt
cells_differ app p (c ∷ cs) h = (other_cell p c.0 cs h.0, cells_differ app p cs h.1)

value_or_index : (p q : Path) → item_value p ≡ item_index q → ⊥
value_or_index p q e = cc

pub items_differ : (q : Path) → NoRepeat (item_value q ∷ (item_index q ∷ []))
items_differ q = ((λ m. elim m [ inl e ↦ value_or_index q q e | inr n ↦ n ]), ((λ m. m), tt))

module _ (app : App) (differ : FieldsDiffer app) where
  pub class_cells_differ : (i : Inst) → names_of i.cells ≡ names_of (class_at app i.path).fields → Differ app source_path (cells_tie i)
  class_cells_differ i h = cells_differ app i.path i.cells (subst NoRepeat (sym h) (fields_differ app differ i.path))

  pub owners_differ : (p : Path) (l : Live) → Sits app p l → NoRepeat (values (ties own_tie no_tie p l))
  owners_differ p l s = differ_of app of_owner own_tie no_tie (λ i. (refl, tt)) (λ q z. tt) (λ i h. ((λ m. m), tt)) (λ q z. tt) p l s

  pub sources_differ : (p : Path) (l : Live) → Sits app p l → NoRepeat (values (ties cells_tie item_tie p l))
  sources_differ p l s =
      differ_of app source_path cells_tie item_tie (λ i. cells_placed app i.path i.cells) (λ q z. (refl, (refl, tt))) class_cells_differ (λ q z. items_differ q) p l s

-- Their numbers

module _ (app : App) (σ : Store) where
  pub own_goes : (q : Path) (fs : List (Text × Plain)) (st : State) → let c = grow_cells_as by_number app σ q fs st in
      let i : Inst = record { id = c.state.next an_instance; path = q; cells = c.names } in
      Rises (st.next an_instance) (numbers (own_tie i)) ((make an_instance (instance_row i) c.state).next an_instance)
  own_goes q fs st = let h = (cells_later app σ q fs st).more (record { kind = an_instance; num = 0 }) in (h, omega arith)

  pub cells_rise : (q : Path) (fs : List (Text × Plain)) (st : State) → let c = grow_cells_as by_number app σ q fs st in Rises (st.next a_ref) (numbers (cell_ties q c.names)) (c.state.next a_ref)
  cells_rise q [] st = omega arith
  cells_rise q (x ∷ fs) st = (omega arith, cells_rise q fs (made_source by_number (number (st.next a_ref)) (cell_value app σ q x.0) st))

  pub items_rise : (ns : List Text) (q : Path) (x : Entry) (st : State) → let s = item_spot_as by_number ns q x st in Rises (st.next a_ref) (numbers (item_tie q s.0)) (s.1.next a_ref)
  items_rise ns q x st =
      let st1 = made_source by_number (number (st.next a_ref)) x.value st in
      let st2 = made_source by_number (number (st1.next a_ref)) (count_value x.index) st1 in
      let h = (params_later ns (st.next a_ref ∷ st1.next a_ref ∷ []) st2).more (ref 0) in (omega arith, (omega arith, h))

  pub owner_rises : (st : State) → let r = grow_app_as by_number app σ st in Rises (st.next an_instance) (numbers (ties own_tie no_tie [] r.0)) (r.1.next an_instance)
  owner_rises st = app_goes an_instance own_tie no_tie (λ ns q x st'. (spot_later ns q x st').more (record { kind = an_instance; num = 0 })) app σ own_goes st

  pub source_rises : (st : State) → let r = grow_app_as by_number app σ st in Rises (st.next a_ref) (numbers (ties cells_tie item_tie [] r.0)) (r.1.next a_ref)
  source_rises st = app_goes a_ref cells_tie item_tie items_rise app σ cells_rise st

  pub owner_numbers : (st : State) → NoRepeat (numbers (ties own_tie no_tie [] (grow_app_as by_number app σ st).0))
  owner_numbers st = let r = grow_app_as by_number app σ st in rises_differ (st.next an_instance) (r.1.next an_instance) (numbers (ties own_tie no_tie [] r.0)) (owner_rises st)

  pub source_numbers : (st : State) → NoRepeat (numbers (ties cells_tie item_tie [] (grow_app_as by_number app σ st).0))
  source_numbers st = let r = grow_app_as by_number app σ st in rises_differ (st.next a_ref) (r.1.next a_ref) (numbers (ties cells_tie item_tie [] r.0)) (source_rises st)

-- Names

module _ (app : App) (differ : FieldsDiffer app) (σ : Store) (st : State) where
  abbrev tree : Live
  tree = (grow_app_as by_number app σ st).0

  abbrev pub owner_name : Path → Path
  owner_name = renamed path_eq path-Decides owner_key (λ p. p) (ties own_tie no_tie [] tree)

  abbrev pub source_name : Source → Source
  source_name = renamed source_eq source-Decides number (λ x. x) (ties cells_tie item_tie [] tree)

  pub owner_name_once : Once owner_name
  owner_name_once = renamed_once path_eq path-Decides owner_key (λ p. p) (λ x y e. e) (ties own_tie no_tie [] tree)

  source_name_once : Once source_name
  source_name_once = renamed_once source_eq source-Decides number (λ x. x) (λ x y e. e) (ties cells_tie item_tie [] tree)

  pub owner_name_takes : Takes owner_key owner_name (ties own_tie no_tie [] tree)
  owner_name_takes =
      renamed_takes path_eq path-Decides owner_key (λ p. p) (λ x y e. e) owner_once (ties own_tie no_tie [] tree) (owner_numbers app σ st) (owners_differ app differ [] tree (app_sits by_number app σ st))

  pub source_name_takes : Takes number source_name (ties cells_tie item_tie [] tree)
  source_name_takes =
      renamed_takes source_eq source-Decides number (λ x. x) (λ x y e. e) number_once (ties cells_tie item_tie [] tree) (source_numbers app σ st) (sources_differ app differ [] tree (app_sits by_number app σ st))

  pub names_right : Right owner_name source_name [] tree
  names_right = right owner_name source_name [] tree owner_name_takes source_name_takes

pub names_exist : NamesExist
names_exist app differ σ st =
    (owner_name app differ σ st, source_name app differ σ st, owner_name_once app differ σ st, source_name_once app differ σ st, names_right app differ σ st)

-- What stands with them

held_on : (f : Path → Path) (q : Path) (x : Text) (d : V) (σ : Store) → unwrap_or (held_at q x (store_with f σ)) (with_owners f d) ≡ with_owners f (unwrap_or (held_at q x σ) d)
held_on f q x d [] = refl
held_on f q x d (h ∷ hs) = by (path_eq q h.instance && bytes_eq x h.field) (held_on f q x d hs) where
  by : (b : Bool) → unwrap_or (held_at q x (store_with f hs)) (with_owners f d) ≡ with_owners f (unwrap_or (held_at q x hs) d)
      → unwrap_or (if b then Some (with_owners f h.value) else held_at q x (store_with f hs)) (with_owners f d) ≡ with_owners f (unwrap_or (if b then Some h.value else held_at q x hs) d)
  by true e = refl
  by false e = e

-- the initial values have no owners
pub stores_agree : (f : Path → Path) (g : Source → Source) (app : App) (σ : Store) → StoresAgree f g app σ (store_with f σ)
stores_agree f g app σ q x =
    let v = unwrap_or (named x (class_at app q).fields) undefined in
    ap (unwrap_or (held_at q x (store_with f σ))) (sym (plain_on f v)) ∙ held_on f q x (plain v) σ

-- With names that are right, what is appended by numbers stands.
module _ (f : Path → Path) (g : Source → Source) (once : IsOneToOne f) (app : App) (σ τ : Store) (agree : StoresAgree f g app σ τ) (st : State) where
  abbrev by_numbers : Live × State
  by_numbers = grow_app_as by_number app σ st

  abbrev now : (Source → Bool) → State
  now touched = state_with f g touched by_numbers.1

  pub grown_stands_for : Right f g [] by_numbers.0 → (touched : Source → Bool) → StandsFor app τ τ (now touched) by_numbers.0
  grown_stands_for fits touched =
      subst (λ r. StandsFor app τ τ r.1 r.0) (grown_renamed f g touched once app σ τ agree st fits) (appended_stands app τ (state_with f g touched st))

  abbrev pub StandsAndShows : Type 0
  StandsAndShows =
      (touched : Source → Bool) → StandsFor app τ τ (now touched) by_numbers.0 × (drawn_app app (now touched).look by_numbers.0 ≡ draw app τ) × (fits (draw app τ) ≡ not (is_deep by_numbers.0))

  pub stands_and_shows : Right f g [] by_numbers.0 → StandsAndShows
  stands_and_shows is touched =
      let s = grown_stands_for is touched in (s, standing_shows app τ (now touched) by_numbers.0 s, deep_is_deep app τ (now touched) by_numbers.0 s)

pub grown_stands : GrownStands
grown_stands app differ σ st =
    let n = names_exist app differ σ st in
    (n.0, n.1, n.2, n.3, n.4, stands_and_shows n.0 n.1 n.2 app σ (store_with n.0 σ) (stores_agree n.0 n.1 app σ) st n.4)

pub first_stands : FirstStands
first_stands app differ st = grown_stands app differ [] st
