-- A machine that stands, stands with other names too, where they leave the tree's own.
use Rattle.std.proofs.Common.{◌≡◌, ℕ, zero, suc, List, [], ◌∷◌, ◌++◌, map, Bool, true, false, Option, Some, None, refl, sym, ap, ap₂, ◌∙◌, subst}
use Rattle.std.specs.Prelude.{if◌then◌else◌, nat_lt}
use Rattle.gl_base.specs.Texts.{Text}
use Rattle.gl_value.specs.Value.{Values, no_values, value, count_value}
use Rattle.gl_value.specs.Owners.{with_owners, values_with}
use Rattle.gl_ast.specs.Template as t
use Rattle.gl_ast.specs.Template.{Exprs, AttrValue, Part}
use Rattle.gl_meaning.specs.App.{App}
use Rattle.gl_meaning.specs.Path.{at, main, otherwise, items, item, into, slot, Path, V}
use Rattle.gl_meaning.specs.Scope.{Source, cell, Pair, absent, sources_of, NamedPairs, Scope, scope, passed, passed_of, bind}
use Rattle.gl_meaning.specs.Eval.{Store, class_at, cell_value, values_in, eval_all, eval_named, eval_given}
use Rattle.gl_meaning.specs.Parts.{WrittenModifier, taken_pairs}
use Rattle.gl_meaning.specs.Render.{Entry, entries, entry_pairs, values_listed, Block, block_named}
use Rattle.gl_labels.specs.Laws.{names_with}
use Rattle.gl_plain.specs.Ids.{Id, ref}
use Rattle.gl_plain.specs.State.{any_of, source_form, all_form, Names, names_by, Inst, MScope, mscope, MPassed, mnothing, mpassed, scope_by, passed_by, passed_in, mslots, mwriter, writer, named_as, with_names, row, modifier_row, Thing, thing_pair}
use Rattle.gl_plain.specs.Binding.{Spot, first_value}
use Rattle.gl_plain.specs.Live
use Rattle.gl_plain.specs.Live.{AttrSpot, ModSpot, ItemSpot, item_names, Live, Items, Lives}
use Rattle.gl_plain.specs.Renew.{spot_ids}
use Rattle.gl_plain.specs.Stands.{below, Obeys, CellsAt, CellsIn, CellsPassed, Gives, SpottedIn, Spotted, exprs_by, one_expr, attrs_by, mods_by, head_of, tail_of, pairs_for, modifier_pairs, WhereValues, WhereBlock, AttrsStand, ModsStand, CommentStands, CellsStand, ItemStands, Stands, StandIn, ItemsStand, ListStands, ElseStands, BlockStands}
use Rattle.gl_plain.specs.Machine.{RootStands}
use Rattle.gl_naming.specs.Renamed.{pair_with, there_with, state_with, entry_with, StoresAgree}
use Rattle.gl_naming.specs.Moved.{Undoes, PlaceStill, ItemStill, Still, StillItems, StillIn, StandsMoved}
use Rattle.gl_naming.specs.Exist.{store_with}
use Rattle.gl_naming.proofs.Pairs.{map_map, names_to, named_values, values_to, sources_to, ids_same, thing_to}
use Rattle.gl_naming.proofs.Bound.{any_map}
use Rattle.gl_naming.proofs.Tagged.{first_on}
use Rattle.gl_naming.proofs.Grown.{listed_on, entries_on}
use Rattle.gl_naming.proofs.Exist.{stores_agree}
use Rattle.gl_naming.proofs.Undone.{undone, pair_back, renamed_apart, free_agrees, look_twice}
use Rattle.gl_naming.proofs.Evals.{scope_with, passed_with, ScopeStill, PassedStill, ScopeIs, is_still, scope_is, bind_to, eval_all_to, eval_named_to, eval_given_to, locals_are, writer_is}
use Rattle.gl_naming.proofs.Written.{AllBy, by_modifier, taken_pairs_to, modifier_pairs_to, ModsMove, mods_move, tail_moves, mod_pairs_to, mods_are}

module _ (h back : Path → Path) (k undo : Source → Source) (eh : Undoes back h) (ek : Undoes undo k) (app : App) where
  abbrev to : Pair → Pair
  to p = pair_with h k p

  abbrev from : Pair → Pair
  from p = pair_with back undo p

  abbrev onto : (Id → Option Thing) → Id → Option Thing
  onto look q = there_with h k (look q)

  once : (o p : Path) → h o ≡ h p → o ≡ p
  once = renamed_apart h back k undo eh ek

  -- Scopes of the machine

  abbrev mutual
    pub MStill : MScope → Type 0
    MStill (mscope i a l w) = PlaceStill app h k i.path × MPassedStill w

    pub MPassedStill : MPassed → Type 0
    MPassedStill mnothing = Unit {0}
    MPassedStill (mpassed b ps bs s) = MStill s

  names_still : (more : Names) (ms : MScope) → MStill ms → MStill (with_names more ms)
  names_still more (mscope i a l w) s = s

  writer_still : PlaceStill app h k [] → (ms : MScope) → MStill ms → MStill (mwriter (passed_in ms))
  writer_still root (mscope i a l mnothing) s = (root, tt)
  writer_still root (mscope i a l (mpassed b ps bs v)) s = s.1

  names_map : (F : ℕ → Pair) (ns : Names) → names_by (λ r. to (F r)) ns ≡ names_to h k (names_by F ns)
  names_map F ns = sym (map_map (λ n. (n.0, F n.1)) (λ n. (n.0, to n.1)) ns)

  mutual
    scope_map : (F : ℕ → Pair) (ms : MScope) → scope_by (λ r. to (F r)) ms ≡ scope_with h k (scope_by F ms)
    scope_map F (mscope i a l w) = λ j. scope i.path (names_map F a j) (names_map F l j) (passed_map F w j)

    passed_map : (F : ℕ → Pair) (w : MPassed) → passed_by (λ r. to (F r)) w ≡ passed_with h k (passed_by F w)
    passed_map F mnothing = refl
    passed_map F (mpassed b ps bs s) = ap (passed ps bs) (scope_map F s)

  mutual
    scope_still : (F : ℕ → Pair) (ms : MScope) → MStill ms → ScopeStill h k app (scope_by F ms)
    scope_still F (mscope i a l w) s = (s.0, passed_still F w s.1)

    passed_still : (F : ℕ → Pair) (w : MPassed) → MPassedStill w → PassedStill h k app (passed_by F w)
    passed_still F mnothing s = tt
    passed_still F (mpassed b ps bs v) s = scope_still F v s

  -- What references give

  -- what E says with other names, where G renames what it says
  abbrev Moves : {A : Type 0} → (A → A) → (Store → (ℕ → Pair) → A) → Type 0
  Moves act E = (σ τ : Store) → StoresAgree h k app σ τ → (F : ℕ → Pair) → E τ (λ r. to (F r)) ≡ act (E σ F)

  cell_back : (ρ : Store) (F : ℕ → Pair) (i : Inst) → PlaceStill app h k i.path → CellsAt app ρ F i → CellsAt app (store_with back ρ) (λ r. from (F r)) i
  cell_back ρ F i still c x e =
      ap from (c x e) ∙ ap₂ (λ v y. record { value = v; sources = y ∷ [] }) (sym (stores_agree back undo app ρ i.path x)) (sym (ap undo (still.1 x e)) ∙ ek.0 (cell i.path x))

  mutual
    cells_back : (ρ : Store) (F : ℕ → Pair) (ms : MScope) → MStill ms → CellsIn app ρ F ms → CellsIn app (store_with back ρ) (λ r. from (F r)) ms
    cells_back ρ F (mscope i a l w) s c = (cell_back ρ F i s.0 c.0, passed_back ρ F w s.1 c.1)

    passed_back : (ρ : Store) (F : ℕ → Pair) (w : MPassed) → MPassedStill w → CellsPassed app ρ F w → CellsPassed app (store_with back ρ) (λ r. from (F r)) w
    passed_back ρ F mnothing s c = tt
    passed_back ρ F (mpassed b ps bs v) s c = cells_back ρ F v s c

  module _ (look : Id → Option Thing) where
    below_back : (F : ℕ → Pair) (q r : ℕ) → below q F r ≡ to (below q (λ i. from (F i)) r)
    below_back F q r = by (nat_lt r q) where
      by : (b : Bool) → (if b then F r else absent) ≡ to (if b then from (F r) else absent)
      by true = sym (pair_back h back k undo eh ek (F r))
      by false = refl

    obeys_back : (made : List Id) (F : ℕ → Pair) → Obeys (onto look) made F → Obeys look made (λ r. from (F r))
    obeys_back made F o q w =
        let G : ℕ → Pair = below q (λ i. from (F i)) in
        ap from (o q w ∙ (ap (λ (H : ℕ → Pair). thing_pair H (there_with h k (look (ref q)))) (λ j r. below_back F q r j) ∙ thing_to h k once G (look (ref q))))
        ∙ pair_back back h undo k (eh.1, eh.0) (ek.1, ek.0) (thing_pair G (look (ref q)))

    gives_move : {A : Type 0} (act : A → A) (G : (ℕ → Pair) → A) (E : Store → (ℕ → Pair) → A) → ((F : ℕ → Pair) → G (λ r. to (F r)) ≡ act (G F)) → Moves act E
        → (made : List Id) (ms : MScope) → MStill ms → Gives app look made ms G E → Gives app (onto look) made ms G E
    gives_move act G E g e made ms still give F ρ o c =
        let F' : ℕ → Pair = λ r. from (F r) in
        let ρ' = store_with back ρ in
        let same : (λ r. to (F' r)) ≡ F = (λ j r. pair_back h back k undo eh ek (F r) j) in
        sym (ap G same)
        ∙ (g F' ∙ (ap act (give F' ρ' (obeys_back made F o) (cells_back ρ F ms still c))
        ∙ (sym (e ρ' ρ (λ q x. sym (undone h back k undo eh ek (cell_value app ρ q x)) ∙ ap (with_owners h) (sym (stores_agree back undo app ρ q x))) F') ∙ ap (E ρ) same)))

    -- Positions

    spot_moves : (ms : MScope) → MStill ms → (more : List Id) (z : Spot) (E : Store → (ℕ → Pair) → List Pair) (ps : List Pair) → map to ps ≡ ps → Moves (map to) E
        → SpottedIn app look ms more z E ps → SpottedIn app (onto look) ms more z E ps
    spot_moves ms still more z E ps same e g =
        let t = look (ref z.ref) in
        let last : ◌≡◌ {A = (Source → Bool) → Bool} (λ u. any_of (sources_of ps) (λ y. u (k y))) (any_of (sources_of ps)) =
        ((λ j u. sym (any_map k (sources_of ps) u) j) ∙ ap any_of (sym (sources_to h k ps) ∙ ap sources_of same)) in
        record {
          own = g.own;
          is = (
            ap (there_with h k) g.is.0 ∙ ap₂ (λ ids u. Some (row (record { form = all_form ids; last = u }))) (sym (ids_same h k t)) last,
            subst (λ ids. Gives app (onto look) (more ++ z.made) ms (λ f. map f ids) E) (sym (ids_same h k t))
                (gives_move (map to) (λ f. map f (spot_ids t)) E (λ F. sym (map_map F to (spot_ids t))) e (more ++ z.made) ms still g.is.1),
          );
        }

    exprs_move : (ms : MScope) → MStill ms → (es : Exprs) → Moves (map to) (exprs_by app ms es)
    exprs_move ms still es σ τ agree F = ap (λ s. eval_all app τ s es) (scope_map F ms) ∙ eval_all_to h k once app σ τ agree (scope_by F ms) (scope_still F ms still) es

    bind_moves : (ms : MScope) → MStill ms → (ns : List Text) (es : Exprs) → Moves (names_to h k) (λ ρ f. bind ns (exprs_by app ms es ρ f))
    bind_moves ms still ns es σ τ agree F = ap (bind ns) (exprs_move ms still es σ τ agree F) ∙ bind_to h k ns (exprs_by app ms es σ F)

    given_moves : (ms : MScope) → MStill ms → (gs : List (Text × AttrValue)) → Moves (names_to h k) (λ ρ f. eval_given app ρ (scope_by f ms) gs)
    given_moves ms still gs σ τ agree F = ap (λ s. eval_given app τ s gs) (scope_map F ms) ∙ eval_given_to h k once app σ τ agree (scope_by F ms) (scope_still F ms still) gs

    names_give : (names : Names) (E : Store → (ℕ → Pair) → NamedPairs) → Moves (names_to h k) E → (made : List Id) (ms : MScope) → MStill ms
        → Gives app look made ms (λ f. names_by f names) E → Gives app (onto look) made ms (λ f. names_by f names) E
    names_give names E e made ms still g = gives_move (names_to h k) (λ f. names_by f names) E (λ F. names_map F names) e made ms still g

    -- What is shown is the rendering over σ, and the cells hold τ.
    module _ (σ τ : Store) (rendered : StoresAgree h k app σ σ) (held : StoresAgree h k app τ τ) (root : PlaceStill app h k []) where
      all_are : (s : Scope) → ScopeIs h k app s → (es : Exprs) → map to (eval_all app σ s es) ≡ eval_all app σ s es
      all_are s is es = sym (eval_all_to h k once app σ σ rendered s (is_still h k app s is) es) ∙ ap (λ u. eval_all app σ u es) (scope_is h k app s is)

      bound_are : (s : Scope) → ScopeIs h k app s → (ns : List Text) (es : Exprs) → names_to h k (bind ns (eval_all app σ s es)) ≡ bind ns (eval_all app σ s es)
      bound_are s is ns es = sym (bind_to h k ns (eval_all app σ s es)) ∙ ap (bind ns) (all_are s is es)

      given_are : (s : Scope) → ScopeIs h k app s → (gs : List (Text × AttrValue)) → names_to h k (eval_given app σ s gs) ≡ eval_given app σ s gs
      given_are s is gs = sym (eval_given_to h k once app σ σ rendered s (is_still h k app s is) gs) ∙ ap (λ u. eval_given app σ u gs) (scope_is h k app s is)

      first_is : (s : Scope) → ScopeIs h k app s → (es : Exprs) → values_with h (values_listed (first_value (eval_all app σ s es))) ≡ values_listed (first_value (eval_all app σ s es))
      first_is s is es =
          sym (listed_on h (first_value (eval_all app σ s es))) ∙ ap values_listed (sym (first_on h k (eval_all app σ s es)) ∙ ap first_value (all_are s is es))

      expr_spot : (s : Scope) → ScopeIs h k app s → (ms : MScope) → MStill ms → (es : Exprs) (z : Spot)
          → Spotted app look ms z (exprs_by app ms es) (eval_all app σ s es) → Spotted app (onto look) ms z (exprs_by app ms es) (eval_all app σ s es)
      expr_spot s is ms still es z g = spot_moves ms still [] z (exprs_by app ms es) (eval_all app σ s es) (all_are s is es) (exprs_move ms still es) g

      comment_moves : (o : Option ℕ) (ls : Lives) → CommentStands app σ τ look o ls → CommentStands app σ τ (onto look) o ls
      comment_moves None ls g = g
      comment_moves (Some n) ls g = (g.0, ap (there_with h k) g.1)

      cells_move : (i : Inst) (made : List Id) → PlaceStill app h k i.path → CellsStand app σ τ look i made → CellsStand app σ τ (onto look) i made
      cells_move i made still c = λ x e. let g = c x e in
          (g.0, ap (there_with h k) g.1 ∙ ap₂ (λ y v. Some (row (record { form = source_form y v; last = any_of [] }))) (still.1 x e) (sym (held i.path x)))

      attrs_move : (made : List Id) (s : Scope) → ScopeIs h k app s → (ms : MScope) → MStill ms → (ps : List Part) (ns : List Text) (xs : List AttrSpot)
          → AttrsStand app σ τ look made s ms (attrs_by ps) ns xs → AttrsStand app σ τ (onto look) made s ms (attrs_by ps) ns xs
      attrs_move made s is ms still ps [] [] g = tt
      attrs_move made s is ms still ps (n ∷ ns) (a ∷ xs) g = (
        g.0,
        spot_moves ms still made a.spot (λ ρ f. taken_pairs app ρ (attrs_by ps (scope_by f ms)) n) (taken_pairs app σ (attrs_by ps s) n)
            (sym (taken_pairs_to h k once app σ σ rendered ps s (is_still h k app s is) n) ∙ ap (λ u. taken_pairs app σ (attrs_by ps u) n) (scope_is h k app s is))
            (λ σ' τ' agree F. ap (λ u. taken_pairs app τ' (attrs_by ps u) n) (scope_map F ms) ∙ taken_pairs_to h k once app σ' τ' agree ps (scope_by F ms) (scope_still F ms still) n) g.1,
        attrs_move made s is ms still ps ns xs g.2,
      )
      attrs_move made s is ms still ps _ _ g = absurd g

      -- a modifier that was written in a scope which is as it was
      args_are : (w : WrittenModifier Scope) → ScopeIs h k app w.by → map (with_owners h) (values_in (eval_all app σ w.by w.args)) ≡ values_in (eval_all app σ w.by w.args)
      args_are w is = sym (values_to h k (eval_all app σ w.by w.args)) ∙ ap values_in (all_are w.by is w.args)

      named_are : (w : WrittenModifier Scope) → ScopeIs h k app w.by → names_with h (map (λ x. (x.0, x.1.value)) (eval_named app σ w.by w.names)) ≡ map (λ x. (x.0, x.1.value)) (eval_named app σ w.by w.names)
      named_are w is =
          sym (named_values h k (eval_named app σ w.by w.names))
          ∙ ap (map (λ x. (x.0, x.1.value))) (sym (eval_named_to h k once app σ σ rendered w.by (is_still h k app w.by is) w.names) ∙ ap (λ u. eval_named app σ u w.names) (scope_is h k app w.by is))

      mod_is : (w : WrittenModifier Scope) → ScopeIs h k app w.by → map to (modifier_pairs app σ w) ≡ modifier_pairs app σ w
      mod_is w is =
          sym (modifier_pairs_to h k once app σ σ rendered w (is_still h k app w.by is))
          ∙ ap (λ u. modifier_pairs app σ (record { name = w.name; args = w.args; names = w.names; by = u })) (scope_is h k app w.by is)

      mods_stand : (made : List Id) (n : ℕ) (s : Scope) (ms : MScope) → MStill ms → (ws : Scope → List (WrittenModifier Scope)) → ModsMove h k app ws → (i : ℕ) (ds : List (WrittenModifier Scope)) → AllBy by_modifier (ScopeIs h k app) ds
          → (zs : List ModSpot) → ModsStand app σ τ look made n s ms ws i ds zs → ModsStand app σ τ (onto look) made n s ms ws i ds zs
      mods_stand made n s ms still ws m i [] is [] g = tt
      mods_stand made n s ms still ws m i (w ∷ ds) is (z ∷ zs) g = (
        ap (there_with h k) g.0 ∙ ap₂ (λ us ns. Some (modifier_row (record { on_node = n; place = i; name = w.name; args = us; names = ns }))) (args_are w is.0) (named_are w is.0),
        g.1,
        g.2,
        spot_moves ms still made z.spot (λ ρ f. pairs_for app ρ (head_of (ws (scope_by f ms)))) (modifier_pairs app σ w) (mod_is w is.0)
            (λ σ' τ' agree F. ap (λ u. pairs_for app τ' (head_of (ws u))) (scope_map F ms) ∙ mod_pairs_to h k once app σ' τ' agree ws m (scope_by F ms) (scope_still F ms still)) g.3,
        mods_stand made n s ms still (λ s'. tail_of (ws s')) (tail_moves h k app ws m) (suc i) ds is.1 zs g.4,
      )
      mods_stand made n s ms still ws m i _ is _ g = absurd g

      -- Items

      abbrev EntriesAre : List Entry → Type 0
      EntriesAre [] = Unit {0}
      EntriesAre (x ∷ xs) = (with_owners h x.value ≡ x.value) × EntriesAre xs

      entries_are : (xs : List Entry) → map (entry_with h k) xs ≡ xs → EntriesAre xs
      entries_are [] e = tt
      entries_are (x ∷ xs) e = (ap (λ ys. first ys) e, entries_are xs (ap rest e)) where
        first : List Entry → V
        first [] = x.value
        first (y ∷ ys) = y.value

        rest : List Entry → List Entry
        rest [] = []
        rest (y ∷ ys) = ys

      list_are : (key : Text) (us : Values Path) → values_with h us ≡ us → EntriesAre (entries key 0 [] us)
      list_are key us e = entries_are (entries key 0 [] us) (sym (entries_on h k key 0 [] us) ∙ ap (entries key 0 []) e)

      item_scope : (q : Path) (x : Entry) → ItemStill app h k q → with_owners h x.value ≡ x.value → (ns : List Text) → names_to h k (bind ns (entry_pairs q x)) ≡ bind ns (entry_pairs q x)
      item_scope q x still e ns =
          sym (bind_to h k ns (entry_pairs q x))
          ∙ ap (bind ns) (λ j. record { value = e j; sources = still.0 j ∷ [] } ∷ record { value = count_value x.index; sources = still.1 j ∷ [] } ∷ [])

      item_moves : (q : Path) (ms : MScope) → MStill ms → (ns : List Text) (x : Entry) (z : ItemSpot) → ItemStill app h k q → with_owners h x.value ≡ x.value
          → ItemStands app σ τ look q ms ns x z → ItemStands app σ τ (onto look) q ms ns x z
      item_moves q ms still ns x z own e g = (
        g.0,
        g.1,
        ap (there_with h k) g.2 ∙ ap₂ (λ y v. Some (row (record { form = source_form y v; last = any_of [] }))) own.0 e,
        ap (there_with h k) g.3 ∙ ap (λ y. Some (row (record { form = source_form y (count_value x.index); last = any_of [] }))) own.1,
        names_give (item_names ns z) (λ ρ f. bind ns (f z.value ∷ f z.index ∷ [])) (λ σ' τ' agree F. bind_to h k ns (F z.value ∷ F z.index ∷ [])) z.more ms still g.4,
      )

      where_values : (vs : Values Path) → values_with h vs ≡ vs → (P P' : Values Path → Type 0) (Q Q' : Type 0) → ((us : Values Path) → values_with h us ≡ us → P us → P' us) → (Q → Q') → WhereValues vs P Q → WhereValues vs P' Q'
      where_values no_values e P P' Q Q' f g w = g w
      where_values (value v vs) e P P' Q Q' f g w = f (value v vs) e w

      where_block : (o : Option Block) (P P' : Block → Type 0) (Q : Type 0) → ((c : Block) → P c → P' c) → WhereBlock o P Q → WhereBlock o P' Q
      where_block None P P' Q f g = g
      where_block (Some c) P P' Q f g = f c g

      -- The induction

      mutual
        moves : (m b : ℕ) (s : Scope) → ScopeIs h k app s → (ms : MScope) → MStill ms → (p : Path) (x : t.Stmt) (l : Live) → Still app h k p l
            → Stands app σ τ look m b s ms p x l → Stands app σ τ (onto look) m b s ms p x l
        moves m b s is ms still p (t.text_stmt z) (Live.still n) y g = ap (there_with h k) g
        moves m b s is ms still p (t.comment_stmt z) (Live.still n) y g = ap (there_with h k) g
        moves m b s is ms still p (t.put e) (Live.put_live n z) y g = (ap (there_with h k) g.0, expr_spot s is ms still (one_expr e) z g.1)
        moves m b s is ms still p (t.element tag ps c) (Live.element_live n made xs zs ls) y g = (
          ap (there_with h k) g.0,
          attrs_move made s is ms still ps _ xs g.1,
          mods_stand made n s ms still (mods_by ps) (mods_move h k app ps) 0 (mods_by ps s) (mods_are h k app ps s is) zs g.2,
          moves_in m b s is ms still p 0 c ls y g.3,
        )
        moves m b s is ms still p (t.if_stmt e u c d) (Live.branch_live z true o ls) y g =
            (expr_spot s is ms still (one_expr e) z g.0, g.1, comment_moves o ls g.2, moves_in m b s is ms still (main ∷ p) 0 c ls y g.3)
        moves m b s is ms still p (t.if_stmt e u c d) (Live.branch_live z false o ls) y g =
            (expr_spot s is ms still (one_expr e) z g.0, g.1, comment_moves o ls g.2, moves_in m b s is ms still (otherwise ∷ p) 0 d ls y g.3)
        moves m b s is ms still p (t.each e key ns c d) (Live.listed z us) y g = (
          expr_spot s is ms still (one_expr e) z g.0,
          where_values _ (first_is s is (one_expr e)) (ListStands app σ τ look m b s ms p key ns c us) (ListStands app σ τ (onto look) m b s ms p key ns c us) ⊥ ⊥
              (λ vs e' w. moves_items m b s is ms still (items ∷ p) ns c (entries key 0 [] vs) us (list_are key vs e') y w) (λ w. w) g.1,
        )
        moves m b s is ms still p (t.each e key ns c d) (Live.unlisted z o ls) y g = (
          expr_spot s is ms still (one_expr e) z g.0,
          where_values _ (first_is s is (one_expr e)) (λ vs. ⊥) (λ vs. ⊥) (ElseStands app σ τ look m b s ms p d o ls) (ElseStands app σ τ (onto look) m b s ms p d o ls)
              (λ vs e' w. w) (λ w. (comment_moves o ls w.0, moves_in m b s is ms still (otherwise ∷ p) 0 d ls y w.1)) g.1,
        )
        moves m b s is ms still p (t.let_stmt es ns c) (Live.let_live made rs ls) y g = (
          names_give (named_as ns rs) (λ ρ f. bind ns (exprs_by app ms es ρ f)) (bind_moves ms still ns es) made ms still g.0,
          g.1,
          g.2,
          moves_in m _ _ (locals_are h k app (bind ns (eval_all app σ s es)) s (bound_are s is ns es) is) _ (names_still (named_as ns rs) ms still) (main ∷ p) 0 c ls y g.3,
        )
        moves (suc m) b s is ms still p (t.component_stmt c ps given bs) (Live.component_live i made gm args (Some n) ls) y g =
            let own = subst (PlaceStill app h k) g.2 y.0 in (
              (g.0.0, ap (there_with h k) g.0.1),
              (g.1.0, ap (there_with h k) g.1.1),
              g.2,
              (g.3.0, g.3.1, names_give args (λ ρ f. eval_given app ρ (scope_by f ms) given) (given_moves ms still given) gm ms still g.3.2),
              cells_move i made y.0 g.4,
              g.5,
              g.6,
              moves_in m _ _ (own, given_are s is given, refl, is) (mscope i args [] (mpassed n ps bs ms)) (y.0, still) (into c ∷ p) 0 (class_at app (into c ∷ p)).template ls (subst (λ j. StillIn app h k j 0 ls) g.2 y.1) g.7,
            )
        moves zero b s is ms still p (t.component_stmt c ps given bs) (Live.deep_live q) y g = g
        moves m b s is ms still p (t.yield es n) (Live.yield_live name made rs ls) y g = (
          g.0,
          where_block (block_named n (mslots (passed_in ms))) (BlockStands app σ τ look m b s ms p es n made rs ls) (BlockStands app σ τ (onto look) m b s ms p es n made rs ls) (ls ≡ Live.no_lives)
              (λ c w. (
                names_give (named_as c.params rs) (λ ρ f. bind c.params (exprs_by app ms es ρ f)) (bind_moves ms still c.params es) made ms still w.0,
                w.1,
                w.2,
                moves_in m _ _ (locals_are h k app (bind c.params (eval_all app σ s es)) (writer (passed_of s)) (bound_are s is c.params es) (writer_is h k app root s is))
                    _ (names_still (named_as c.params rs) (mwriter (passed_in ms)) (writer_still root ms still)) (slot n ∷ p) 0 c.body ls (subst (λ j. StillIn app h k (slot j ∷ p) 0 ls) g.0 y) w.3,
              )) g.1,
        )
        moves m b s is ms still p _ _ y g = absurd g

        moves_in : (m b : ℕ) (s : Scope) → ScopeIs h k app s → (ms : MScope) → MStill ms → (p : Path) (i : ℕ) (c : t.Body) (ls : Lives) → StillIn app h k p i ls
            → StandIn app σ τ look m b s ms p i c ls → StandIn app σ τ (onto look) m b s ms p i c ls
        moves_in m b s is ms still p i t.end Live.no_lives y g = tt
        moves_in m b s is ms still p i (t.stmt x c) (Live.live_and l ls) y g = (moves m b s is ms still (at i ∷ p) x l y.0 g.0, moves_in m b s is ms still p (suc i) c ls y.1 g.1)
        moves_in m b s is ms still p i _ _ y g = absurd g

        moves_items : (m b : ℕ) (s : Scope) → ScopeIs h k app s → (ms : MScope) → MStill ms → (p : Path) (ns : List Text) (c : t.Body) (xs : List Entry) (us : Items) → EntriesAre xs → StillItems app h k p us
            → ItemsStand app σ τ look m b s ms p ns c xs us → ItemsStand app σ τ (onto look) m b s ms p ns c xs us
        moves_items m b s is ms still p ns c [] Live.no_items e y g = tt
        moves_items m b s is ms still p ns c (x ∷ xs) (Live.item_live z o ls us) e y g =
            let q = item x.key x.occurrence ∷ p in
            let same : item z.key z.occurrence ∷ p ≡ q = ap₂ (λ a n. item a n ∷ p) g.0.0 g.0.1 in
            let own = subst (ItemStill app h k) same y.0 in (
              item_moves q ms still ns x z own e.0 g.0,
              g.1,
              g.2,
              comment_moves o ls g.3,
              moves_in m _ _ (locals_are h k app (bind ns (entry_pairs q x)) s (item_scope q x own e.0 ns) is) _ (names_still (item_names ns z) ms still) q 0 c ls (subst (λ j. StillIn app h k j 0 ls) same y.1) g.4,
              moves_items m b s is ms still p ns c xs us e.1 y.2 g.5,
            )
        moves_items m b s is ms still p ns c _ _ e y g = absurd g

  root_moves : (σ τ : Store) → StoresAgree h k app σ σ → StoresAgree h k app τ τ → (look : Id → Option Thing) (m : ℕ) (l : Live) → Still app h k [] l → RootStands app σ τ look m l → RootStands app σ τ (onto look) m l
  root_moves σ τ rendered held look (suc m) (Live.component_live i made gm args None ls) y g =
      let own = subst (PlaceStill app h k) g.1 y.0 in (
        (g.0.0, ap (there_with h k) g.0.1),
        g.1,
        g.2,
        cells_move look σ τ rendered held own i made y.0 g.3,
        g.4,
        moves_in look σ τ rendered held own m _ _ (own, refl, refl, tt) (mscope i args [] mnothing) (y.0, tt) [] 0 (class_at app []).template ls (subst (λ j. StillIn app h k j 0 ls) g.1 y.1) g.5,
      )
  root_moves σ τ rendered held look zero (Live.deep_live q) y g = g
  root_moves σ τ rendered held look _ _ y g = absurd g

pub stands_moved : StandsMoved
stands_moved h back k undo eh ek app σ τ plain held f g touched st l still s = record {
  owned = record { once = s.owned.once; old = s.owned.old };
  stands = subst (λ look. RootStands app σ τ look app.limit l) (look_twice h f k g st.look)
      (root_moves h back k undo eh ek app σ τ (free_agrees h k app σ plain) (free_agrees h k app τ held) (state_with f g touched st).look app.limit l still s.stands);
}
