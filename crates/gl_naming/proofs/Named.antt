-- Names from turn to turn: what is new gets its names by swaps, which leave those of what was there.
use Rattle.std.proofs.Common.{◌≡◌, ◌<◌, ℕ, List, [], ◌∷◌, Bool, true, false, true≢false, None, refl, sym, ap, ◌∙◌, subst, arith, inl, inr, ◌⊎◌}
use Rattle.std.specs.Bool.{Decides}
use Rattle.gl_meaning.specs.App.{App}
use Rattle.gl_meaning.specs.Path.{Path, path_eq}
use Rattle.gl_meaning.specs.Scope.{Source, cell}
use Rattle.gl_base.specs.Texts.{Text}
use Rattle.gl_base.specs.Names.{named}
use Rattle.gl_value.specs.Value.{undefined, plain}
use Rattle.std.specs.Prelude.{if◌then◌else◌, unwrap_or, ◌||◌, Some}
use Rattle.gl_meaning.specs.Eval.{Store, class_at, held_at, cell_value}
use Rattle.gl_meaning.specs.Known.{Among}
use Rattle.gl_meaning.specs.Laws.{HoldsNoAction, Within, source_path}
use Rattle.gl_plain.specs.Ids.{a_ref, an_instance}
use Rattle.gl_plain.specs.State.{any_of, source_form, row, mnothing, State, source_eq, touch}
use Rattle.gl_plain.specs.Naming.{by_number}
use Rattle.gl_plain.specs.Live.{Live, times}
use Rattle.gl_plain.specs.Grow.{grow_app_as}
use Rattle.gl_plain.specs.Renew.{renew_app, renew_app_as}
use Rattle.gl_plain.specs.Machine.{StandsFor, OnlyTouched}
use Rattle.gl_plain.proofs.Roots.{updated_stands, laid_stands, rows_stay_lower}
use Rattle.gl_plain.specs.Reads.{RowsReadLower}
use Rattle.gl_plain.proofs.Syncs.{path-Decides}
use Rattle.gl_naming.specs.Renamed.{there_with, state_with, run_with}
use Rattle.gl_naming.specs.Numbered.{number, Unlisted}
use Rattle.gl_naming.specs.Laws.{TouchedAlike}
use Rattle.gl_naming.proofs.Low.{Whole}
use Rattle.gl_naming.proofs.Grown.{grown_renamed}
use Rattle.gl_naming.proofs.Steps.{touch_im, whole_put}
use Rattle.gl_naming.specs.Exist.{FieldsDiffer}
use Rattle.gl_naming.specs.Ties.{numbers, Takes, AllBelow, owners_in, sources_in}
use Rattle.gl_naming.specs.Named as spec
use Rattle.gl_naming.specs.Named.{OwnTouched, GrownNamed, BegunNamed, LaidNamed, StoodNamed, TouchRenamed, SetGiven, SetNamed, UpdatedNamed}
use Rattle.gl_naming.proofs.Swaps.{Once, renamed_once, renamed_takes, moved, moved_back, moved_undone, back_undone, moved_leaves, takes_at, takes_all}
use Rattle.gl_naming.proofs.Ties.{owner_key, own_tie, no_tie, cells_tie, item_tie, right}
use Rattle.gl_naming.specs.Sits.{Sits}
use Rattle.gl_naming.proofs.Sitting.{app_sits}
use Rattle.gl_naming.proofs.Rising.{rises_above, rises_below, rises_least, rises_differ}
use Rattle.gl_naming.proofs.News.{Turned}
use Rattle.gl_naming.proofs.Turned.{LiveTurned, root_turned}
use Rattle.gl_naming.proofs.Later.{spot_later, components_later}
use Rattle.gl_naming.proofs.Exist.{source-Decides, of_owner, owner_once, number_once, cells_placed, class_cells_differ, items_differ, own_goes, cells_rise, items_rise, owner_rises, source_rises, owner_name, source_name, owner_name_once, owner_name_takes, source_name_takes, names_right, grown_stands_for}
use Rattle.gl_naming.proofs.Undone.{free_on, free_agrees, rows_with, rows_without}
use Rattle.gl_naming.proofs.Moved.{stands_moved}
use Rattle.gl_naming.proofs.SetCells.{set_stands}
use Rattle.gl_naming.proofs.Stilled.{stilled}
use Rattle.gl_naming.proofs.Renewed.{updated_whole}

-- Numbers

number_among : {A : Type 0} (x : ℕ × A) (xs : List (ℕ × A)) → Among x xs → Among x.0 (numbers xs)
number_among x [] m = m
number_among x (y ∷ xs) (inl e) = inl (ap (λ (z : ℕ × _). z.0) e)
number_among x (y ∷ xs) (inr m) = inr (number_among x xs m)

below_at : {A : Type 0} (n i : ℕ) (xs : List (ℕ × A)) → AllBelow n xs → Among i (numbers xs) → i < n
below_at n i [] b m = absurd m
below_at n i (x ∷ xs) b (inl e) = let k = b.0 in omega (arith, k, e)
below_at n i (x ∷ xs) b (inr m) = below_at n i xs b.1 m

below_all : {A : Type 0} (n : ℕ) (xs : List (ℕ × A)) → ((x : ℕ × A) → Among x xs → x.0 < n) → AllBelow n xs
below_all n [] f = tt
below_all n (x ∷ xs) f = (f x (inl refl), below_all n xs (λ y m. f y (inr m)))

-- Of one kind: f is right for the old names, and with the swaps it is right for those of now.
module _ (app : App) {A : Type 0} (eq : A → A → Bool) (law : (x y : A) → Decides (eq x y) (x ≡ y)) (key : ℕ → A) (f : A → A) (key_once : Once key) (once : Once f) (place : A → Path) (P : Path → Type 0)
    (olds now : List (ℕ × A)) (n m : ℕ) (turned : Turned app place P olds now n m) (low : AllBelow n olds) (takes : Takes key f olds) where
  abbrev its_key : ℕ → A
  its_key i = f (key i)

  its_once : Once its_key
  its_once i j e = key_once i j (once (key i) (key j) e)

  abbrev swaps : A → A
  swaps x = moved eq law its_key turned.news x

  new_takes : Takes its_key swaps turned.news
  new_takes = renamed_takes eq law its_key (λ y. y) (λ x y e. e) its_once turned.news (rises_differ n m (numbers turned.news) turned.rises) turned.differ

  old_takes : Takes its_key swaps olds
  old_takes =
      moved_leaves eq law its_key its_once turned.news olds (λ i a b. let u = rises_above n m i (numbers turned.news) turned.rises a in let v = below_at n i olds low b in omega (arith, u, v)) turned.fresh takes

  olds_taken : (x : ℕ × A) → Among x olds → swaps (f (key x.0)) ≡ x.1
  olds_taken x a = takes_at its_key swaps olds old_takes x a

  now_takes : Takes key (λ x. swaps (f x)) now
  now_takes = takes_all key (λ x. swaps (f x)) now (λ x w. elim (turned.known x w) [ inl a ↦ olds_taken x a | inr b ↦ takes_at its_key swaps turned.news new_takes x b ])

  olds_left : (x : ℕ × A) → Among x olds → swaps x.1 ≡ x.1
  olds_left x a = sym (ap swaps (takes_at key f olds takes x a)) ∙ olds_taken x a

  now_low : AllBelow m now
  now_low =
      let le = rises_least n m (numbers turned.news) turned.rises in
      below_all m now (λ x w. elim (turned.known x w) [
        | inl a ↦ let u = below_at n x.0 olds low (number_among x olds a) in omega (arith, u, le)
        | inr b ↦ rises_below n m x.0 (numbers turned.news) turned.rises (number_among x turned.news b)
      ])

  its_names_once : Once (λ x. swaps (f x))
  its_names_once x y e = once x y (renamed_once eq law its_key (λ z. z) (λ u v d. d) turned.news (f x) (f y) e)

-- whatever is touched
any_touched : (app : App) (σ τ : Store) (f : Path → Path) (g : Source → Source) (t u : Source → Bool) (st : State) (l : Live) → StandsFor app σ τ (state_with f g t st) l → StandsFor app σ τ (state_with f g u st) l
any_touched app σ τ f g t u st l s = record { owned = record { once = s.owned.once; old = s.owned.old }; stands = s.stands }

module _ (app : App) (differ : FieldsDiffer app) (τ : Store) where
  owners_turned : (σ : Store) (f : Path → Path) (g : Source → Source) (st : State) (l : Live) → StandsFor app σ τ (state_with f g st.touched st) l → Sits app [] l
      → LiveTurned app τ an_instance of_owner own_tie no_tie (λ i. (refl, tt)) (λ q z. tt) (λ i h. ((λ m. m), tt)) (λ q z. tt)
      (λ ns q x st'. (spot_later ns q x st').more (record { kind = an_instance; num = 0 })) (own_goes app τ) [] (owners_in l) st (renew_app_as by_number app τ l st)
  owners_turned σ f g st l s sits =
      root_turned app τ an_instance of_owner own_tie no_tie (λ i. (refl, tt)) (λ q z. tt) (λ i h. ((λ m. m), tt)) (λ q z. tt)
      (λ ns q x st'. (spot_later ns q x st').more (record { kind = an_instance; num = 0 })) (own_goes app τ) (state_with f g st.touched st).look σ τ app.limit l st s.stands sits

  sources_turned : (σ : Store) (f : Path → Path) (g : Source → Source) (st : State) (l : Live) → StandsFor app σ τ (state_with f g st.touched st) l → Sits app [] l
      → LiveTurned app τ a_ref source_path cells_tie item_tie (λ i. cells_placed app i.path i.cells) (λ q z. (refl, (refl, tt))) (class_cells_differ app differ) (λ q z. items_differ q)
      (items_rise app τ) (cells_rise app τ) [] (sources_in l) st (renew_app_as by_number app τ l st)
  sources_turned σ f g st l s sits =
      root_turned app τ a_ref source_path cells_tie item_tie (λ i. cells_placed app i.path i.cells) (λ q z. (refl, (refl, tt))) (class_cells_differ app differ) (λ q z. items_differ q)
      (items_rise app τ) (cells_rise app τ) (state_with f g st.touched st).look σ τ app.limit l st s.stands sits

-- One update

module _ (app : App) (differ : FieldsDiffer app) (σ τ : Store) (plain : HoldsNoAction σ) (held : HoldsNoAction τ) (st : State) (l : Live) (n : spec.Named app σ τ st l) (g : spec.Given app st l)
    (free : Unlisted (λ q. times q l) st) (only : OwnTouched app σ τ st l) where
  abbrev after : Live × State
  after = renew_app_as by_number app τ l st

  owner_news : Turned app of_owner (λ j. Within [] j) (owners_in l) (owners_in after.0) (st.next an_instance) (after.1.next an_instance)
  owner_news = (owners_turned app differ τ σ n.owner n.source st l (n.stands st.touched) g.sits).turned

  source_news : Turned app source_path (λ j. Within [] j) (sources_in l) (sources_in after.0) (st.next a_ref) (after.1.next a_ref)
  source_news = (sources_turned app differ τ σ n.owner n.source st l (n.stands st.touched) g.sits).turned

  source_once : Once n.source
  source_once x y e = sym (n.undoes x) ∙ (ap n.back e ∙ n.undoes y)

  -- the renaming of owners and of sources, and back
  abbrev owner_key2 : ℕ → Path
  owner_key2 i = n.owner (owner_key i)

  abbrev source_key2 : ℕ → Source
  source_key2 i = n.source (number i)

  abbrev h : Path → Path
  h x = moved path_eq path-Decides owner_key2 owner_news.news x

  abbrev k : Source → Source
  k x = moved source_eq source-Decides source_key2 source_news.news x

  abbrev h_back : Path → Path
  h_back x = moved_back path_eq path-Decides owner_key2 owner_news.news x

  abbrev k_back : Source → Source
  k_back x = moved_back source_eq source-Decides source_key2 source_news.news x

  abbrev owner_now : Path → Path
  owner_now x = h (n.owner x)

  abbrev source_now : Source → Source
  source_now x = k (n.source x)

  abbrev back_now : Source → Source
  back_now y = n.back (k_back y)

  undoes_now : (x : Source) → back_now (source_now x) ≡ x
  undoes_now x = ap n.back (moved_undone source_eq source-Decides source_key2 source_news.news (n.source x)) ∙ n.undoes x

  owner_takes : Takes owner_key owner_now (owners_in after.0)
  owner_takes = now_takes app path_eq path-Decides owner_key n.owner owner_once n.once of_owner (λ j. Within [] j) (owners_in l) (owners_in after.0) (st.next an_instance) (after.1.next an_instance) owner_news g.owners n.owners

  source_takes : Takes number source_now (sources_in after.0)
  source_takes = now_takes app source_eq source-Decides number n.source number_once source_once source_path (λ j. Within [] j) (sources_in l) (sources_in after.0) (st.next a_ref) (after.1.next a_ref) source_news g.sources n.sources

  owner_now_once : Once owner_now
  owner_now_once = its_names_once app path_eq path-Decides owner_key n.owner owner_once n.once of_owner (λ j. Within [] j) (owners_in l) (owners_in after.0) (st.next an_instance) (after.1.next an_instance) owner_news g.owners n.owners

  source_now_once : Once source_now
  source_now_once x y e = sym (undoes_now x) ∙ (ap back_now e ∙ undoes_now y)

  abbrev hot : Source → Bool
  hot y = st.touched (back_now y)

  -- with these names it stood before
  stood : StandsFor app σ τ (state_with owner_now source_now hot st) l
  stood =
      stands_moved h h_back k k_back
      (moved_undone path_eq path-Decides owner_key2 owner_news.news, back_undone path_eq path-Decides owner_key2 owner_news.news)
      (moved_undone source_eq source-Decides source_key2 source_news.news, back_undone source_eq source-Decides source_key2 source_news.news)
      app σ τ plain held n.owner n.source hot st l
      (stilled app h k [] l g.sits
      (olds_left app path_eq path-Decides owner_key n.owner owner_once n.once of_owner (λ j. Within [] j) (owners_in l) (owners_in after.0) (st.next an_instance) (after.1.next an_instance) owner_news g.owners n.owners)
      (olds_left app source_eq source-Decides number n.source number_once source_once source_path (λ j. Within [] j) (sources_in l) (sources_in after.0) (st.next a_ref) (after.1.next a_ref) source_news g.sources n.sources))
      (n.stands hot)

  only_hot : OnlyTouched app σ τ (state_with owner_now source_now hot st)
  only_hot i x e = elim (only i x) [
    | inl same ↦ same
    | inr w ↦ let named : source_now (number w.0) ≡ cell i x =
        olds_taken app source_eq source-Decides number n.source number_once source_once source_path (λ j. Within [] j) (sources_in l) (sources_in after.0) (st.next a_ref) (after.1.next a_ref) source_news g.sources n.sources (w.0, cell i x) w.1 in
        absurd (true≢false (sym w.2 ∙ (ap st.touched (sym (undoes_now (number w.0))) ∙ (ap hot named ∙ e))))
  ]

  abbrev by_paths : Live × State
  by_paths = renew_app app τ l (state_with owner_now source_now hot st)

  whole_turn : (by_paths ≡ run_with owner_now source_now by_paths.1.touched after) × TouchedAlike source_now (st.next a_ref) by_paths.1.touched after.1.touched × Whole after.1
  whole_turn =
      updated_whole owner_now source_now hot owner_now_once source_now_once app τ τ (free_agrees owner_now source_now app τ held) σ τ st l stood g.rows (λ i lt. ap st.touched (undoes_now (number i))) free
      (right owner_now source_now [] after.0 owner_takes source_takes)

  same_turn : by_paths ≡ run_with owner_now source_now by_paths.1.touched after
  same_turn = whole_turn.0

  -- references are numbered again
  rows_now : RowsReadLower after.1.look
  rows_now =
      rows_without owner_now owner_now source_now source_now after.1.look
      (subst (λ (y : Live × State). RowsReadLower y.1.look) same_turn (rows_stay_lower.3 app σ τ (state_with owner_now source_now hot st) l stood only_hot (rows_with owner_now owner_now source_now source_now st.look g.rows.0)))

  pub update : spec.Turned app σ τ st l
  update = record {
    now = record {
      owner = owner_now;
      source = source_now;
      back = back_now;
      once = owner_now_once;
      undoes = undoes_now;
      owners = owner_takes;
      sources = source_takes;
      stands = λ touched.
          any_touched app τ τ owner_now source_now by_paths.1.touched touched after.1 after.0
          (subst (λ (y : Live × State). StandsFor app τ τ y.1 y.0) same_turn (updated_stands app σ τ (state_with owner_now source_now hot st) l stood only_hot));
    };
    given = record {
      sits = (owners_turned app differ τ σ n.owner n.source st l (n.stands st.touched) g.sits).sits;
      rows = (rows_now, whole_turn.2);
      owners = now_low app path_eq path-Decides owner_key n.owner owner_once n.once of_owner (λ j. Within [] j) (owners_in l) (owners_in after.0) (st.next an_instance) (after.1.next an_instance) owner_news g.owners n.owners;
      sources = now_low app source_eq source-Decides number n.source number_once source_once source_path (λ j. Within [] j) (sources_in l) (sources_in after.0) (st.next a_ref) (after.1.next a_ref) source_news g.sources n.sources;
    };
    stood = stood;
    only = only_hot;
    is = same_turn;
  }

pub updated_named : UpdatedNamed
updated_named app differ σ τ plain held st l n g free only = update app differ σ τ plain held st l n g free only

-- What is appended, the beginning of a turn, and sets

pub grown_named : GrownNamed
grown_named app differ σ plain st rows =
    let r = grow_app_as by_number app σ st in
    let f = owner_name app differ σ st in
    let g = source_name app differ σ st in (
      record {
        owner = f;
        source = g;
        back = moved_back source_eq source-Decides number (sources_in r.0);
        once = owner_name_once app differ σ st;
        undoes = moved_undone source_eq source-Decides number (sources_in r.0);
        owners = owner_name_takes app differ σ st;
        sources = source_name_takes app differ σ st;
        stands = grown_stands_for f g (owner_name_once app differ σ st) app σ σ (free_agrees f g app σ plain) st (names_right app differ σ st);
      },
      record {
        sits = app_sits by_number app σ st;
        rows = (
          rows_without f f g g r.1.look
              (subst (λ (y : Live × State). RowsReadLower y.1.look) (grown_renamed f g st.touched (owner_name_once app differ σ st) app σ σ (free_agrees f g app σ plain) st (names_right app differ σ st))
              (rows_stay_lower.2 app σ (state_with f g st.touched st) (rows_with f f g g st.look rows.0))),
          (components_later app.limit app σ [] [] [] None mnothing st).own rows.1,
        );
        owners = below_all (r.1.next an_instance) (owners_in r.0) (λ x m. rises_below (st.next an_instance) (r.1.next an_instance) x.0 (numbers (owners_in r.0)) (owner_rises app σ st) (number_among x (owners_in r.0) m));
        sources = below_all (r.1.next a_ref) (sources_in r.0) (λ x m. rises_below (st.next a_ref) (r.1.next a_ref) x.0 (numbers (sources_in r.0)) (source_rises app σ st) (number_among x (sources_in r.0) m));
      },
    )

pub begun_named : BegunNamed
begun_named app σ τ st l = (
  λ n. record {
    owner = n.owner;
    source = n.source;
    back = n.back;
    once = n.once;
    undoes = n.undoes;
    owners = n.owners;
    sources = n.sources;
    stands = λ touched. let s = n.stands touched in record { owned = record { once = s.owned.once; old = s.owned.old }; stands = s.stands };
  },
  λ g. record { sits = g.sits; rows = g.rows; owners = g.owners; sources = g.sources },
)

pub laid_named : LaidNamed
laid_named app σ τ τ' st st' l n same next cells = record {
  owner = n.owner;
  source = n.source;
  back = n.back;
  once = n.once;
  undoes = n.undoes;
  owners = n.owners;
  sources = n.sources;
  stands = λ touched.
      laid_stands app σ τ τ' (state_with n.owner n.source touched st) (state_with n.owner n.source touched st') l (n.stands touched)
      (λ q w. ap (there_with n.owner n.source) (same q w)) next cells;
}

pub stood_named : StoodNamed
stood_named app σ τ σ' τ' st st' l n touched s = record {
  owner = n.owner;
  source = n.source;
  back = n.back;
  once = n.once;
  undoes = n.undoes;
  owners = n.owners;
  sources = n.sources;
  stands = λ u. any_touched app σ' τ' n.owner n.source touched u st' l s;
}

pub touch_renamed : TouchRenamed
touch_renamed f g touched once apart r y v named free st =
    sym (ap (λ u. touch r y u (state_with f g touched st)) (sym (free_on f v free)) ∙ touch_im f g once apart (st.next a_ref) touched r (number r) y v st named)

pub set_given : SetGiven
set_given app σ τ st l r i x v m = (
  λ g. record {
    sits = g.sits;
    rows = (
      rows_stay_lower.1 st r (number r) v g.rows.0,
      whole_put (λ p. p) (λ y. y) (λ o p e. e) (λ y z e. e) (st.next a_ref) st r (row (record { form = source_form (number r) v; last = any_of [] }))
          ((refl, below_at (st.next a_ref) r (sources_in l) g.sources (number_among (r, cell i x) (sources_in l) m)), λ t u e. refl) g.rows.1,
    );
    owners = g.owners;
    sources = g.sources;
  },
  λ own j y. by j y (own j y) (source_eq (cell j y) (cell i x)) refl,
) where
  or_right : (a b : Bool) → b ≡ true → (a || b) ≡ true
  or_right true b d = refl
  or_right false b d = d

  by : (j : Path) (y : Text) → (cell_value app σ j y ≡ cell_value app τ j y) ⊎ ((n : ℕ) × Among (n, cell j y) (sources_in l) × (st.touched (number n) ≡ true)) → (b : Bool) → source_eq (cell j y) (cell i x) ≡ b
      → (cell_value app σ j y ≡ cell_value app (record { instance = i; field = x; value = v } ∷ τ) j y) ⊎ ((n : ℕ) × Among (n, cell j y) (sources_in l) × ((source_eq (number n) (number r) || st.touched (number n)) ≡ true))
  by j y w true e = inr (r, subst (λ z. Among (r, z) (sources_in l)) (sym ((source-Decides (cell j y) (cell i x)).0 e)) m, ap (λ b. b || st.touched (number r)) ((source-Decides (number r) (number r)).1 refl))
  by j y (inl same) false e = inl (same ∙ ap (λ b. unwrap_or (if b then Some v else held_at j y τ) (plain (unwrap_or (named y (class_at app j).fields) undefined))) (sym e))
  by j y (inr w) false e = inr (w.0, w.1, or_right (source_eq (number w.0) (number r)) (st.touched (number w.0)) w.2)

pub set_named : SetNamed
set_named app differ σ τ st l g r i x v m free n = record {
  owner = n.owner;
  source = n.source;
  back = n.back;
  once = n.once;
  undoes = n.undoes;
  owners = n.owners;
  sources = n.sources;
  stands = λ touched.
      set_stands n.owner n.source (λ y z e. sym (n.undoes y) ∙ (ap n.back e ∙ n.undoes z)) app differ σ τ st r i x v (free_on n.owner v free)
      (takes_at number n.source (sources_in l) n.sources (r, cell i x) m) g.rows.1 touched touched l (n.stands touched) g.sits m;
}
