-- In each turn of a session an update that passes over what is fresh asks at most as much as the turn says.
use Rattle.std.proofs.Common.{◌≡◌, ℕ, ◌≤◌, List, [], ◌∷◌, Bool, true, false, ◌||◌, Some, refl, sym, ◌∙◌, ap, subst, arith, inl, inr, ◌⊎◌}
use Rattle.gl_meaning.specs.App.{App, Event}
use Rattle.gl_meaning.specs.Path.{Path, has_path, path_eq}
use Rattle.gl_meaning.specs.Scope.{Source}
use Rattle.gl_meaning.specs.Eval.{Held, Store}
use Rattle.gl_meaning.specs.Known.{Among}
use Rattle.gl_meaning.specs.Laws.{HoldsNoAction, Reached}
use Rattle.gl_meaning.specs.Render.{draw}
use Rattle.gl_meaning.specs.Changes.{settle, Sets}
use Rattle.gl_meaning.specs.Actions.{lay}
use Rattle.gl_meaning.specs.Work.{asked}
use Rattle.gl_meaning.specs.Session as session
use Rattle.gl_meaning.specs.Session.{Turn, applied, step}
use Rattle.gl_meaning.proofs.Sessions.{state_is_settled, state_holds_no_action}
use Rattle.gl_plain.specs.Ids.{a_ref, Id}
use Rattle.gl_plain.specs.State.{State}
use Rattle.gl_plain.specs.Naming.{by_number}
use Rattle.gl_plain.specs.Live.{Live, times}
use Rattle.gl_plain.specs.Turns.{begin}
use Rattle.gl_plain.specs.Counts.{positions_of}
use Rattle.gl_plain.specs.Renew.{last_of, renew_app, renew_app_as}
use Rattle.gl_plain.specs.Machine.{StandsFor}
use Rattle.gl_plain.proofs.Syncs.{path-Decides}
use Rattle.gl_kept.specs.Asked.{regions_of, asks}
use Rattle.gl_kept.proofs.Questions.{asked_at_most}
use Rattle.gl_naming.specs.Laws.{AreApart, TouchedAlike}
use Rattle.gl_naming.specs.Numbered.{number, NoneCounted, Unlisted}
use Rattle.gl_naming.specs.Renamed.{state_with}
use Rattle.gl_naming.specs.Exist.{FieldsDiffer}
use Rattle.gl_naming.specs.Ties.{values, owners_in}
use Rattle.gl_naming.proofs.Ties.{right}
use Rattle.gl_naming.proofs.Undone.{free_agrees}
use Rattle.gl_naming.proofs.Renewed.{updated_renamed}
use Rattle.gl_naming.proofs.Initial.{new_initial}
use Rattle.gl_naming.proofs.Instances.{settled_own}
use Rattle.gl_turns.specs.Evaluated.{is_named}
use Rattle.gl_turns.proofs.Turning.{step_is, rendered}
use Rattle.gl_machine.specs.Code.{live_of}
use Rattle.gl_machine.specs.Outcome.{ok}
use Rattle.gl_machine.specs.Root.{PlacedRoot}
use Rattle.gl_machine.specs.Step.{run_for_as}
use Rattle.gl_machine.specs.Placed.{Follows}
use Rattle.gl_machine.proofs.Pages.{page_is_renewed}
use Rattle.gl_follows.specs.Sets.{set_all_by, AreThere, put_all}
use Rattle.gl_follows.specs.Turns.{FollowsBy}
use Rattle.gl_follows.specs.Laws.{SetBy, PathsBy}
use Rattle.gl_follows.proofs.Plain.{laid_plain, sets_plain}
use Rattle.gl_follows.proofs.Owners.{puts_by}
use Rattle.gl_follows.proofs.Setting.{or_false, AllTold, all_told, source_apart, sets_installs, sets_updates, sets_touched, sets_owners, sets_by}
use Rattle.gl_follows.proofs.Turning.{next_paths}
use Rattle.gl_guards.specs.Guarded.{guarded_root_code_as}
use Rattle.gl_guards.specs.Questions.{root_asks_as}
use Rattle.gl_guards.specs.Laws.{TurnAsks, PutsAsk}
use Rattle.gl_guards.proofs.Told.{rises_named, ends_named}
use Rattle.gl_guards.proofs.Rising.{Each, page_told}
use Rattle.gl_guards.proofs.Outcomes.{Holds}
use Rattle.gl_guards.proofs.Asks.{Rises, AllRise, StaysAll, CodeDone, root_le}
use Rattle.gl_guards.proofs.Joined.{namings_apart}
use Rattle.gl_guards.proofs.Pages.{turn_may_pass, turn_is_renew}

among_laid : (sets : Sets) (σ : Store) (h : Held) → Among h (lay sets σ) → Among h sets ⊎ Among h σ
among_laid [] σ h m = inr m
among_laid (k ∷ ks) σ h m = by (among_laid ks (k ∷ σ) h m) where
  by : Among h ks ⊎ Among h (k ∷ σ) → Among h (k ∷ ks) ⊎ Among h σ
  by (inl a) = inl (inr a)
  by (inr (inl e)) = inl (inl e)
  by (inr (inr c)) = inr c

module _ (app : App) (differ : FieldsDiffer app) (s : session.State) (e : Event) (reached : Reached app s) (st : State) (l : Live) (fo : FollowsBy app s st l) (there : AreThere app l (applied app s (Some e)).sets) where
  abbrev σ : Store
  σ = s.store

  abbrev sets : Sets
  sets = (applied app s (Some e)).sets

  abbrev τ : Store
  τ = lay (applied app s (Some e)).sets s.store

  abbrev now : State
  now = set_all_by app l (applied app s (Some e)).sets (begin st)

  abbrev r : Live × State
  r = renew_app_as by_number app [] l (set_all_by app l (applied app s (Some e)).sets (begin st))

  abbrev a : Live × State
  a = renew_app_as by_number app (lay (applied app s (Some e)).sets s.store) l (set_all_by app l (applied app s (Some e)).sets (begin st))

  plain : HoldsNoAction σ
  plain = state_holds_no_action app s reached

  held : HoldsNoAction τ
  held = laid_plain sets σ (sets_plain app s e) plain

  abbrev no_source : Source → Bool
  no_source x = false

  here : StandsFor app σ σ (state_with fo.named.owner fo.named.source no_source st) l
  here = fo.named.stands no_source

  set : SetBy app σ sets st l
  set = sets_by app σ sets st l fo.named fo.given (sets_plain app s e) there

  p : PathsBy app σ sets now l r
  p = next_paths app differ s e reached st l fo there

  first_told : AllTold app fo.named.source (st.next a_ref) l sets
  first_told =
      all_told app σ σ fo.named.owner fo.named.source no_source (begin st) l (record { owned = record { once = here.owned.once; old = here.owned.old }; stands = here.stands })
      (record { sits = fo.given.sits; rows = fo.given.rows; owners = fo.given.owners; sources = fo.given.sources }) sets there

  unlisted : Unlisted (λ q. times q l) now
  unlisted = (
    subst (λ ms. NoneCounted (λ q. times q l) ms) (sym (sets_installs app fo.named.source (st.next a_ref) l sets first_told (begin st))) tt,
    subst (λ ms. NoneCounted (λ q. times q l) ms) (sym (sets_updates app fo.named.source (st.next a_ref) l sets first_told (begin st))) tt,
  )

  abbrev f : Path → Path
  f = p.now.owner

  abbrev g : Source → Source
  g = p.now.source

  apart : AreApart g
  apart = source_apart app τ τ r.1 r.0 p.now

  told_now : AllTold app g (now.next a_ref) l sets
  told_now = all_told app σ τ f g (is_named sets) now l p.stood set.given sets there

  warm : TouchedAlike g (now.next a_ref) (is_named sets) now.touched
  warm k lt = sym (sets_touched app g (now.next a_ref) l apart sets told_now (begin st) k ∙ or_false (is_named sets (g (number k))))

  own_cell : (h : Held) → Among h σ → Among h.instance (values (owners_in l))
  own_cell h m = settled_own app σ st l fo.named h (subst (Among h) (sym (state_is_settled app s reached) ∙ ap (settle app σ) (sym (rendered app s reached))) m)

  all_own : (h : Held) → Among h τ → Among h.instance (values (owners_in l))
  all_own h m = by (among_laid sets σ h m) where
    by : Among h sets ⊎ Among h σ → Among h.instance (values (owners_in l))
    by (inl i) = sets_owners app g (now.next a_ref) l sets told_now h i
    by (inr j) = own_cell h j

  initial : r ≡ a
  initial = new_initial app σ τ now l set.named set.given τ all_own

  abbrev y0 : State
  y0 = state_with p.now.owner p.now.source (is_named sets) now

  abbrev z : Live × State
  z = renew_app app τ l (state_with p.now.owner p.now.source (is_named sets) now)

  alike : TouchedAlike g (now.next a_ref) z.1.touched r.1.touched
  alike =
      subst (λ (x : Live × State). TouchedAlike g (now.next a_ref) z.1.touched x.1.touched) (sym initial)
      (updated_renamed f g (is_named sets) p.now.once apart app τ τ (free_agrees f g app τ held) σ τ now l p.stood set.given.rows warm unlisted
      (right f g [] a.0 (subst (λ (x : Live × State). Rattle.gl_naming.specs.Ties.Takes Rattle.gl_naming.specs.Ties.owner_key f (owners_in x.0)) initial p.now.owners)
      (subst (λ (x : Live × State). Rattle.gl_naming.specs.Ties.Takes number g (Rattle.gl_naming.specs.Ties.sources_in x.0)) initial p.now.sources))).1

  by_paths : asks y0.look z.1.touched (λ q. has_path q (regions_of [] z.0)) [] l ≤ asked (draw app σ) (draw app τ) sets
  by_paths = asked_at_most app σ τ sets y0 l p.stood p.only (λ x. refl)

  rises : (stays : Path → Bool) (run : Rattle.gl_machine.specs.RenewCode.Runs) → AllRise by_number namings_apart.1 run now r.1.touched y0.look z.1.touched stays (positions_of l)
  rises stays run = all (positions_of l) (page_told app σ τ y0 K told app.limit l p.stood.stands) where
    K : ℕ → Type 0
    K i = Rises by_number namings_apart.1 run now r.1.touched y0.look z.1.touched stays i

    told : (i : ℕ) (xs : List Source) → last_of (y0.look (Rattle.gl_plain.specs.Ids.ref i)) ≡ Rattle.gl_plain.specs.State.any_of xs → K i
    told i xs is = λ u h k.
        rises_named f g p.now.back p.now.once p.now.undoes (is_named sets) now warm set.given.rows.1 i xs is u r.1.touched h
        (sym (ends_named f g p.now.back p.now.once p.now.undoes (is_named sets) now warm set.given.rows.1 i z.1.touched r.1.touched alike) ∙ k)

    all : (is : List ℕ) → Each K is → AllRise by_number namings_apart.1 run now r.1.touched y0.look z.1.touched stays is
    all [] h = tt
    all (i ∷ is) h = (h.0, all is h.1)

  -- each path of a list is in it
  has_all : (stays : Path → Bool) (run : Rattle.gl_machine.specs.RenewCode.Runs) (qs : List Path) → ((q : Path) → Among q qs → stays q ≡ true) → StaysAll by_number namings_apart.1 run now r.1.touched y0.look z.1.touched stays qs
  has_all stays run [] h = tt
  has_all stays run (q ∷ qs) h = (h q (inl refl), has_all stays run qs (λ j m. h j (inr m)))

  has_it : (q : Path) (qs : List Path) → Among q qs → has_path q qs ≡ true
  has_it q [] m = absurd m
  has_it q (j ∷ qs) (inl e) = ap (λ b. b || has_path q qs) ((path-Decides q j).1 e)
  has_it q (j ∷ qs) (inr m) = or_true (path_eq q j) (has_path q qs) (has_it q qs m) where
    or_true : (x y : Bool) → y ≡ true → (x || y) ≡ true
    or_true true y e = refl
    or_true false y e = e

pub turn_asks : TurnAsks
turn_asks env lowered differ s e t reached h k st placed follows there n x is =
    let app = env.app in
    let l = live_of k in
    let sets' = (applied app s (Some e)).sets in
    let run = run_for_as by_number env [] n in
    let now' = now app differ s e reached st l follows there in
    let r' = r app differ s e reached st l follows there in
    let z' = z app differ s e reached st l follows there in
    let y' = y0 app differ s e reached st l follows there in
    let p' = p app differ s e reached st l follows there in
    let may = turn_may_pass env lowered differ s e reached k st placed follows there n in
    let same = turn_is_renew env lowered differ s e reached k st placed follows there n in
    let page = page_is_renewed by_number env [] lowered n k now' placed in
    let came : (live_of x.0, x.1) ≡ r' = (subst (λ o. Follows (PlacedRoot env) live_of Rattle.gl_plain.specs.Live.is_deep o r') (sym same ∙ is) page).0 in
    let tree : live_of x.0 ≡ z'.0 = ap (λ (y : Live × State). y.0) came ∙ ap (λ (y : Live × State). y.0) (sym p'.is) in
    let stays : Path → Bool = λ q. has_path q (regions_of [] z'.0) in
    let done : Holds (guarded_root_code_as by_number app.limit run k now') (CodeDone by_number namings_apart.1 run now' r'.1.touched y'.look z'.1.touched stays []) =
    subst (λ o. Holds o (CodeDone by_number namings_apart.1 run now' r'.1.touched y'.look z'.1.touched stays [])) (sym is) (
      λ y g u. ap (λ (w : Live × State). w.1.touched y) came ∙ u,
      has_all app differ s e reached st l follows there stays run (regions_of [] (live_of x.0)) (λ q m. has_it app differ s e reached st l follows there q (regions_of [] z'.0) (subst (λ w. Among q (regions_of [] w)) tree m)),
    ) in
    let le = root_le by_number namings_apart.1 run now' r'.1.touched y'.look z'.1.touched stays app.limit k may.0 may.1 (rises app differ s e reached st l follows there stays run) done in
    let bound = by_paths app differ s e reached st l follows there in
    let turn : t.asked ≡ asked (draw app s.store) (draw app (lay sets' s.store)) sets' =
    ap (λ (w : Turn). w.asked) (sym (step_is app s (Some e) t h)) ∙ ap (λ w. asked w (draw app (lay sets' s.store)) sets') (sym (rendered app s reached)) in omega (arith, le, bound, turn)

pub puts_ask : PutsAsk
puts_ask env lowered differ s e t reached h k st placed follows xs own same n x =
    let l = live_of k in
    let y = puts_by env.app s st l follows xs own in
    let there : AreThere env.app l (applied env.app s (Some e)).sets = subst (AreThere env.app l) (sym same) y.0 in
    let put : set_all_by env.app l (applied env.app s (Some e)).sets (begin st) ≡ put_all xs (begin st) = ap (λ hs. set_all_by env.app l hs (begin st)) same ∙ y.1 in
    subst (λ now. guarded_root_code_as by_number env.app.limit (run_for_as by_number env [] n) k now ≡ ok x → root_asks_as by_number env.app.limit (run_for_as by_number env [] n) k now ≤ t.asked) put
    (turn_asks env lowered differ s e t reached h k st placed follows there n x)
