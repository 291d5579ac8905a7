-- The turns of a machine by numbers.
use Rattle.std.proofs.Common.{◌≡◌, ℕ, suc, ◌+◌, List, [], ◌∷◌, ◌++◌, map, Bool, true, false, true≢false, Option, Some, None, refl, sym, ap, ◌∙◌, subst, arith, inl, inr, ◌⊎◌}
use Rattle.std.specs.Prelude.{filter, filter_map, length, if◌then◌else◌, not, ◌||◌}
use Rattle.std.specs.List.{list_any}
use Rattle.gl_meaning.specs.App.{App, Event}
use Rattle.gl_meaning.specs.Path.{Path, path_eq, has_path}
use Rattle.gl_meaning.specs.Scope.{Source, cell}
use Rattle.gl_meaning.specs.Eval.{Held, Store}
use Rattle.gl_meaning.specs.Known.{Among}
use Rattle.gl_meaning.specs.Laws.{HoldsNoAction, Reached}
use Rattle.gl_meaning.specs.Render.{Forest, no_pieces, draw, fits}
use Rattle.gl_meaning.specs.Changes.{Position, positions, Numbers, number, nodes, settle, Sets, stale}
use Rattle.gl_meaning.specs.Print.{modifier_paths}
use Rattle.gl_meaning.specs.Actions.{lay}
use Rattle.gl_meaning.specs.Work.{work}
use Rattle.gl_meaning.specs.Session as session
use Rattle.gl_meaning.specs.Session.{Turn, first_state, applied, step}
use Rattle.gl_meaning.proofs.Pieces.{none_some}
use Rattle.gl_meaning.proofs.Sessions.{state_is_settled, state_holds_no_action}
use Rattle.gl_plain.specs.Ids.{a_ref, a_node, Kind}
use Rattle.gl_plain.specs.State.{State}
use Rattle.gl_plain.specs.Live.{Live, is_deep, times}
use Rattle.gl_plain.specs.Turns.{begin}
use Rattle.gl_plain.specs.Naming.{by_number}
use Rattle.gl_plain.specs.Grow.{grow_app, grow_app_as}
use Rattle.gl_plain.specs.Renew.{renew_app, renew_app_as}
use Rattle.gl_plain.specs.Machine.{StandsFor, OnlyTouched}
use Rattle.gl_plain.proofs.Roots.{appended_stands, standing_shows, deep_is_deep, rows_stay_lower}
use Rattle.gl_plain.proofs.CountGrows.{appended_evaluates}
use Rattle.gl_naming.specs.Exist.{FieldsDiffer}
use Rattle.gl_naming.specs.Laws.{AreApart, TouchedAlike}
use Rattle.gl_naming.specs.Numbered.{number as number_of, IsNumbered, NoneCounted, Unlisted}
use Rattle.gl_naming.specs.Renamed.{state_with, run_with}
use Rattle.gl_naming.specs.Ties.{values, owners_in}
use Rattle.gl_naming.specs.Named as named
use Rattle.gl_naming.specs.Named.{Named, Given}
use Rattle.gl_naming.proofs.Ties.{right}
use Rattle.gl_naming.proofs.Undone.{free_agrees}
use Rattle.gl_naming.proofs.Grown.{grown_renamed}
use Rattle.gl_naming.proofs.Renewed.{updated_renamed}
use Rattle.gl_naming.proofs.Named.{grown_named, updated_named}
use Rattle.gl_naming.proofs.Initial.{new_initial}
use Rattle.gl_naming.proofs.Instances.{settled_own}
use Rattle.gl_turns.specs.Places.{position_in, modifier_in, places}
use Rattle.gl_turns.specs.Numbers.{numbers_of}
use Rattle.gl_turns.specs.Evaluated.{is_named, TouchedBy}
use Rattle.gl_turns.proofs.Listed.{positions_listed}
use Rattle.gl_turns.proofs.Numbered.{tree_agrees, appended_numbers, updated_numbers, updated_made_count, next_count}
use Rattle.gl_turns.proofs.Evaluated.{evaluated_count, count_kept, count_read, length_mapped}
use Rattle.gl_turns.proofs.Resettled.{settled_stands}
use Rattle.gl_turns.proofs.Setting.{sets_are_laid}
use Rattle.gl_turns.proofs.Logged.{installs_new, updates_stale}
use Rattle.gl_turns.proofs.TurnLogs.{first_log}
use Rattle.gl_turns.proofs.Turning.{turn_after, step_is, rendered}
use Rattle.gl_kept.specs.Kept.{Kept}
use Rattle.gl_kept.proofs.Roots.{appended_keeps, updated_keeps}
use Rattle.gl_follows.proofs.Keeping.{kept_with, kept_without, sets_keep_by}
use Rattle.gl_follows.specs.Sets.{set_all_by, AreThere}
use Rattle.gl_follows.specs.Turns.{rooted, FollowsBy, TurnBy, StepsBy}
use Rattle.gl_follows.specs.Laws.{SetBy, PathsBy, FirstBy, NextBy, NextPaths}
use Rattle.gl_follows.proofs.Plain.{laid_plain, sets_plain}
use Rattle.gl_follows.proofs.Setting.{or_false, AllTold, all_told, source_apart, sets_next, sets_evaluated, sets_installs, sets_updates, sets_touched, sets_owners, sets_by}

-- A turn

not_true : (b : Bool) → not b ≡ true → b ≡ false
not_true false e = refl
not_true true e = absurd (true≢false (sym e))

not_false : (b : Bool) → not b ≡ false → b ≡ true
not_false true e = refl
not_false false e = absurd (true≢false e)

some_taken : {A : Type 0} (b : Bool) (x y : A) → (if b then Some x else None) ≡ Some y → b ≡ true
some_taken true x y e = refl
some_taken false x y e = absurd (none_some y e)

none_taken : {A : Type 0} (b : Bool) (x : A) → (if b then Some x else None) ≡ None → b ≡ false
none_taken false x e = refl
none_taken true x e = absurd (none_some x (sym e))

-- What a machine did in a turn, from where it stands for the store with the sets.
module _ (app : App) (s : session.State) (e : Option Event) (st : State) (l : Live) where
  abbrev given_sets : Sets
  given_sets = (applied app s e).sets

  abbrev laid_store : Store
  laid_store = lay (applied app s e).sets s.store

  abbrev drawn_now : Forest
  drawn_now = draw app (lay (applied app s e).sets s.store)

  module _ (n : Named app laid_store laid_store st l) (given : Given app st l) (numbers : numbers_of st l ≡ number s.numbers drawn_now) (evaluated : length st.evaluated ≡ (work s.rendering drawn_now given_sets).evaluated)
      (made : st.next a_node ≡ s.numbers.next + (work s.rendering drawn_now given_sets).made)
      (installs : st.installs ≡ map (λ z. z.1) (filter (λ z. not (has_path z.0 (modifier_paths s.rendering))) (filter_map modifier_in (places [] l))))
      (updates : st.updates ≡ map (λ z. z.1) (filter (λ z. stale s.rendering drawn_now given_sets z.0) (filter_map modifier_in (places [] l))))
      (kept : is_deep l ≡ false → Kept app st l) where
    abbrev none : Source → Bool
    none x = false

    deep : fits drawn_now ≡ not (is_deep l)
    deep = deep_is_deep app laid_store (state_with n.owner n.source none st) l (n.stands none)

    after : is_deep l ≡ false → FollowsBy app (turn_after app s e).state st l
    after shallow = record {
      named = record {
        owner = n.owner;
        source = n.source;
        back = n.back;
        once = n.once;
        undoes = n.undoes;
        owners = n.owners;
        sources = n.sources;
        stands = λ t. settled_stands app laid_store (state_with n.owner n.source t st) l (n.stands t);
      };
      given = given;
      rendering = standing_shows app laid_store (state_with n.owner n.source none st) l (n.stands none);
      numbers = numbers;
      kept = kept shallow;
    }

    pub steps : StepsBy app s e st l
    steps = record {
      turned = λ t h. subst (λ (u : Turn). TurnBy app s e u st l) (step_is app s e t h)
          (record {
            follows = after (not_true (is_deep l) (sym deep ∙ some_taken (fits drawn_now) (turn_after app s e) t h));
            shallow = not_true (is_deep l) (sym deep ∙ some_taken (fits drawn_now) (turn_after app s e) t h);
            evaluated = evaluated;
            made = made;
            installs = installs;
            updates = updates;
          });
      stopped = λ h. not_false (is_deep l) (sym deep ∙ none_taken (fits drawn_now) (turn_after app s e) h);
    }

-- The first turn

all_pass : {A : Type 0} (xs : List A) → filter (λ x. true) xs ≡ xs
all_pass [] = refl
all_pass (x ∷ xs) = ap (λ ys. x ∷ ys) (all_pass xs)

none_pass : {A : Type 0} (xs : List A) → filter (λ x. false) xs ≡ []
none_pass [] = refl
none_pass (x ∷ xs) = none_pass xs

-- where nothing was there before, each position is new
all_new : (qs : List Position) (f : Forest) (sets : Sets) → length qs ≡ length (filter (λ q. not (list_any (λ (o : Position). path_eq q.path o.path) []) || stale no_pieces f sets q.path) qs)
all_new [] f sets = refl
all_new (q ∷ qs) f sets = ap suc (all_new qs f sets)

first_evaluated : (app : App) (st : State) → st.evaluated ≡ [] → length (grow_app app [] st).1.evaluated ≡ (work no_pieces (draw app []) []).evaluated
first_evaluated app st empty =
    let r = grow_app app [] st in
    let s = appended_stands app [] st in
    let f = draw app [] in
    let a = ap length (appended_evaluates app [] st ∙ ap (λ xs. xs ++ Rattle.gl_plain.specs.Counts.positions_of r.0) empty) in
    let b = ap length (sym (positions_listed [] r.0)) in
    let d = length_mapped (λ (q : Path × ℕ). q.1) (filter_map position_in (places [] r.0)) in
    let e = count_kept r.1.look (λ p. true) (filter_map position_in (places [] r.0)) in
    let e' = ap length (all_pass (filter_map position_in (places [] r.0))) in
    let g = (tree_agrees app [] [] r.1 r.0 s).0.positions (λ p k. 1) in
    let i = count_read (λ p. true) (positions f) in
    let i' = ap length (all_pass (positions f)) in
    let j = all_new (positions f) f [] in omega (arith, a, b, d, e, e', g, i, i', j)

rooted_rows : IsNumbered 0 rooted.look
rooted_rows = (rows_stay_lower.0, λ r. tt)

pub first_by : FirstBy
first_by app differ =
    let y = grown_named app differ [] tt rooted rooted_rows in
    let n = y.0 in
    let r = grow_app_as by_number app [] rooted in
    let f = n.owner in
    let g = n.source in
    let t : Source → Bool = λ x. false in
    let x = state_with f g t rooted in
    let same : grow_app app [] x ≡ run_with f g t r = grown_renamed f g t n.once app [] [] (free_agrees f g app [] tt) rooted (right f g [] r.0 n.owners n.sources) in
    let ns : numbers_of r.1 r.0 ≡ number first_state.numbers (draw app []) = subst (λ (z : Live × State). numbers_of z.1 z.0 ≡ number first_state.numbers (draw app [])) same (appended_numbers app [] x) in
    let count : length r.1.evaluated ≡ (work no_pieces (draw app []) []).evaluated = ap (λ (z : Live × State). length z.1.evaluated) (sym same) ∙ first_evaluated app x refl in
    let logs = subst (λ (z : Live × State). (z.1.installs ≡ map (λ z. z.1) (filter_map modifier_in (places [] z.0))) × (z.1.updates ≡ [])) same (first_log app [] x) in
    let ms = filter_map modifier_in (places [] r.0) in
    steps app first_state None r.1 r.0 n y.1 ns count
    (ap (λ (z : Numbers). z.next) ns ∙ next_count [] [] refl 1 (nodes (draw app [])))
    (logs.0 ∙ ap (map (λ z. z.1)) (sym (all_pass ms)))
    (logs.1 ∙ ap (map (λ z. z.1)) (sym (none_pass ms)))
    (λ shallow. kept_without f g t app r.1 r.0 (subst (λ (z : Live × State). is_deep z.0 ≡ false → Kept app z.1 z.0) same (appended_keeps app [] x (λ q. refl)) shallow))

-- The next turn

among_laid : (sets : Sets) (σ : Store) (h : Held) → Among h (lay sets σ) → Among h sets ⊎ Among h σ
among_laid [] σ h m = inr m
among_laid (k ∷ ks) σ h m = elim (among_laid ks (k ∷ σ) h m) [
  | inl a ↦ inl (inr a)
  | inr b ↦ elim b [ inl e ↦ inl (inl e) | inr c ↦ inr c ]
]

module _ (app : App) (differ : FieldsDiffer app) (s : session.State) (e : Event) (reached : Reached app s) (st : State) (l : Live) (fo : FollowsBy app s st l) (there : AreThere app l (applied app s (Some e)).sets) where
  abbrev σ : Store
  σ = s.store

  abbrev sets : Sets
  sets = (applied app s (Some e)).sets

  abbrev τ : Store
  τ = lay (applied app s (Some e)).sets s.store

  abbrev st' : State
  st' = set_all_by app l (applied app s (Some e)).sets (begin st)

  abbrev a : Live × State
  a = renew_app_as by_number app (lay (applied app s (Some e)).sets s.store) l (set_all_by app l (applied app s (Some e)).sets (begin st))

  abbrev no_source : Source → Bool
  no_source x = false

  plain : HoldsNoAction σ
  plain = state_holds_no_action app s reached

  held : HoldsNoAction τ
  held = laid_plain sets σ (sets_plain app s e) plain

  here : StandsFor app σ σ (state_with fo.named.owner fo.named.source no_source st) l
  here = fo.named.stands no_source

  laid : StandsFor app σ τ (Rattle.gl_turns.specs.Sets.set_all app l sets (begin (state_with fo.named.owner fo.named.source no_source st))) l
      × OnlyTouched app σ τ (Rattle.gl_turns.specs.Sets.set_all app l sets (begin (state_with fo.named.owner fo.named.source no_source st)))
      × TouchedBy sets (Rattle.gl_turns.specs.Sets.set_all app l sets (begin (state_with fo.named.owner fo.named.source no_source st)))
  laid = sets_are_laid app σ sets (state_with fo.named.owner fo.named.source no_source st) l here

  first_told : AllTold app fo.named.source (st.next a_ref) l sets
  first_told =
      all_told app σ σ fo.named.owner fo.named.source no_source (begin st) l (record { owned = record { once = here.owned.once; old = here.owned.old }; stands = here.stands })
      (record { sits = fo.given.sits; rows = fo.given.rows; owners = fo.given.owners; sources = fo.given.sources }) sets there

  set : SetBy app σ sets st l
  set = sets_by app σ sets st l fo.named fo.given (sets_plain app s e) there

  next_same : st'.next ≡ st.next
  next_same = sets_next app fo.named.source (st.next a_ref) l sets first_told (begin st)

  no_evaluated : st'.evaluated ≡ []
  no_evaluated = sets_evaluated app fo.named.source (st.next a_ref) l sets first_told (begin st)

  no_installs : st'.installs ≡ []
  no_installs = sets_installs app fo.named.source (st.next a_ref) l sets first_told (begin st)

  no_updates : st'.updates ≡ []
  no_updates = sets_updates app fo.named.source (st.next a_ref) l sets first_told (begin st)

  unlisted : Unlisted (λ q. times q l) st'
  unlisted = (subst (λ ms. NoneCounted (λ q. times q l) ms) (sym no_installs) tt, subst (λ ms. NoneCounted (λ q. times q l) ms) (sym no_updates) tt)

  turn : named.Turned app σ τ st' l
  turn = updated_named app differ σ τ plain held st' l set.named set.given unlisted set.own

  abbrev f : Path → Path
  f = turn.now.owner

  abbrev g : Source → Source
  g = turn.now.source

  apart : AreApart g
  apart = source_apart app τ τ a.1 a.0 turn.now

  told_now : AllTold app g (st'.next a_ref) l sets
  told_now = all_told app σ τ f g (λ y. st'.touched (turn.now.back y)) st' l turn.stood set.given sets there

  -- by paths, where just the sets are touched
  abbrev y0 : State
  y0 = state_with f g (is_named sets) st'

  stood : StandsFor app σ τ y0 l
  stood = record { owned = record { once = turn.stood.owned.once; old = turn.stood.owned.old }; stands = turn.stood.stands }

  only : OnlyTouched app σ τ y0
  only i x k = laid.1 i x (laid.2 (cell i x) ∙ k)

  by : TouchedBy sets y0
  by x = refl

  warm : TouchedAlike g (st'.next a_ref) (is_named sets) st'.touched
  warm k lt = sym (sets_touched app g (st'.next a_ref) l apart sets told_now (begin st) k ∙ or_false (is_named sets (g (number_of k))))

  abbrev z : Live × State
  z = renew_app app τ l y0

  same : z ≡ run_with f g z.1.touched a
  same =
      (updated_renamed f g (is_named sets) turn.now.once apart app τ τ (free_agrees f g app τ held) σ τ st' l stood set.given.rows warm unlisted
      (right f g [] a.0 turn.now.owners turn.now.sources)).0

  old : draw app σ ≡ s.rendering
  old = rendered app s reached

  numbers_now : numbers_of a.1 a.0 ≡ number s.numbers (draw app τ)
  numbers_now =
      subst (λ (x : Live × State). numbers_of x.1 x.0 ≡ number (numbers_of y0 l) (draw app τ)) same (updated_numbers app σ τ y0 l stood only)
      ∙ ap (λ (ns : Numbers). number ns (draw app τ)) (ap (λ (k : Kind → ℕ). record { of = (numbers_of st l).of; next = k a_node }) next_same ∙ fo.numbers)

  evaluated_now : length a.1.evaluated ≡ (work s.rendering (draw app τ) sets).evaluated
  evaluated_now =
      let i = ap (λ (x : Live × State). length x.1.evaluated) same in
      let c = evaluated_count app σ τ sets y0 l stood only by plain in
      let n = ap length no_evaluated in
      let w = ap (λ k. (work k (draw app τ) sets).evaluated) old in omega (arith, i, c, n, w)

  made_now : a.1.next a_node ≡ s.numbers.next + (work s.rendering (draw app τ) sets).made
  made_now =
      let i = ap (λ (x : Live × State). x.1.next a_node) same in
      let c = updated_made_count app σ τ sets y0 l stood only in
      let n = ap (λ (k : Kind → ℕ). k a_node) next_same in
      let m = ap (λ (ns : Numbers). ns.next) fo.numbers in
      let w = ap (λ k. (work k (draw app τ) sets).made) old in omega (arith, i, c, n, m, w)

  abbrev mods : List (Path × ℕ)
  mods = filter_map modifier_in (places [] a.0)

  installs_now : a.1.installs ≡ map (λ z. z.1) (filter (λ z. not (has_path z.0 (modifier_paths s.rendering))) mods)
  installs_now =
      subst (λ (x : Live × State). x.1.installs ≡ y0.installs ++ map (λ z. z.1) (filter (λ z. not (has_path z.0 (modifier_paths (draw app σ)))) (filter_map modifier_in (places [] x.0)))) same
      (installs_new app σ τ sets y0 l stood only by plain)
      ∙ (ap (λ xs. xs ++ map (λ z. z.1) (filter (λ z. not (has_path z.0 (modifier_paths (draw app σ)))) mods)) no_installs ∙ ap (λ k. map (λ z. z.1) (filter (λ z. not (has_path z.0 (modifier_paths k))) mods)) old)

  updates_now : a.1.updates ≡ map (λ z. z.1) (filter (λ z. stale s.rendering (draw app τ) sets z.0) mods)
  updates_now =
      subst (λ (x : Live × State). x.1.updates ≡ y0.updates ++ map (λ z. z.1) (filter (λ z. stale (draw app σ) (draw app τ) sets z.0) (filter_map modifier_in (places [] x.0)))) same
      (updates_stale app σ τ sets y0 l stood only by plain)
      ∙ (ap (λ xs. xs ++ map (λ z. z.1) (filter (λ z. stale (draw app σ) (draw app τ) sets z.0) mods)) no_updates ∙ ap (λ k. map (λ z. z.1) (filter (λ z. stale k (draw app τ) sets z.0) mods)) old)

  kept_now : is_deep a.0 ≡ false → Kept app a.1 a.0
  kept_now shallow =
      let laid' = sets_keep_by app σ σ fo.named.owner fo.named.source no_source sets st l here fo.kept in
      let done = updated_keeps app σ τ y0 l stood (kept_with f g (is_named sets) app st' l laid') in
      kept_without f g z.1.touched app a.1 a.0 (subst (λ (x : Live × State). is_deep x.0 ≡ false → Kept app x.1 x.0) same done shallow)

  -- the cells of the store are those of the tree's instances
  own_cell : (h : Held) → Among h σ → Among h.instance (values (owners_in l))
  own_cell h m = settled_own app σ st l fo.named h (subst (Among h) (sym (state_is_settled app s reached) ∙ ap (settle app σ) (sym old)) m)

  all_own : (h : Held) → Among h τ → Among h.instance (values (owners_in l))
  all_own h m = elim (among_laid sets σ h m) [ inl i ↦ sets_owners app g (st'.next a_ref) l sets told_now h i | inr j ↦ own_cell h j ]

  initial : renew_app_as by_number app [] l st' ≡ a
  initial = new_initial app σ τ st' l set.named set.given τ all_own

  pub steps_next : let r = renew_app_as by_number app [] l (set_all_by app l (applied app s (Some e)).sets (begin st)) in StepsBy app s (Some e) r.1 r.0
  steps_next =
      subst (λ (x : Live × State). StepsBy app s (Some e) x.1 x.0) (sym initial)
      (steps app s (Some e) a.1 a.0 turn.now turn.given numbers_now evaluated_now made_now installs_now updates_now kept_now)

  pub paths_next : PathsBy app σ sets st' l (renew_app_as by_number app [] l st')
  paths_next = subst (λ (x : Live × State). PathsBy app σ sets st' l x) (sym initial) (record { now = turn.now; stood = stood; only = only; is = same })

pub next_by : NextBy
next_by app differ s e reached st l fo there = steps_next app differ s e reached st l fo there

pub next_paths : NextPaths
next_paths app differ s e reached st l fo there = paths_next app differ s e reached st l fo there
