-- The turn of an event.
use Rattle.std.proofs.Common.{◌≡◌, ◌≤◌, ℕ, zero, suc, ◌+◌, max, List, [], map, Some, None, refl, sym, ap, ◌∙◌, subst, le_refl, arith}
use Rattle.gl_ast.specs.Template.{Body}
use Rattle.gl_meaning.specs.App as m
use Rattle.gl_meaning.specs.Order.{NamesRise}
use Rattle.gl_meaning.specs.Session as session
use Rattle.gl_meaning.specs.Session.{applied, step}
use Rattle.gl_meaning.specs.View.{manifest_view}
use Rattle.gl_opc.specs.IsApp.{IsAppWith}
use Rattle.gl_opc.specs.declared.app.App.{App}
use Rattle.gl_plain.specs.Ids.{instance_id}
use Rattle.gl_plain.specs.State.{Names, Inst, instance_row, State}
use Rattle.gl_plain.specs.Naming.{by_number}
use Rattle.gl_plain.specs.Turns.{begin}
use Rattle.gl_naming.specs.Exist.{FieldsDiffer}
use Rattle.gl_machine.specs.Code as c
use Rattle.gl_machine.specs.Code.{Code as PlainCode, live_of}
use Rattle.gl_machine.specs.Laws.{AllLowered}
use Rattle.gl_machine.specs.Root.{renew_root_code_as}
use Rattle.gl_machine.specs.Outcome.{Outcome, ok, lost}
use Rattle.gl_machine.specs.RenewCode.{Runs}
use Rattle.gl_machine.specs.Step.{run_for_as}
use Rattle.gl_vm.specs.View.{state_of}
use Rattle.gl_vm.specs.Steps.{Follows}
use Rattle.gl_vm.specs.declared.vm.Vm.{Vm}
use Rattle.gl_kept.specs.Between.{moved_between}
use Rattle.gl_follows.specs.Sets.{put_all, held_of, AreOwn}
use Rattle.gl_guards.specs.Along.{along_root_code_as}
use Rattle.gl_guards.specs.AlongAsks.{along_asks_root}
use Rattle.gl_guards.proofs.AlongLess.{puts_ask_along}
use Rattle.gl_guards.proofs.Pages.{puts_go_along}
use Rattle.gl_code.specs.CodeView.{seen_code}
use Rattle.gl_code.specs.Tables.{env_of, tables_of}
use Rattle.gl_code.specs.declared.page.Page.{Page}
use Rattle.gl_actions.specs.Found.{instance_in}
use Rattle.gl_actions.specs.Sets as acts
use Rattle.gl_actions.specs.World.{sets_in}
use Rattle.gl_actions.specs.Own.{AreOwnSets}
use Rattle.gl_fires.specs.Worlds.{world_of, puts_of}
use Rattle.gl_fires.proofs.Own.{sets_are_own}
use Rattle.gl_fires.proofs.Standing.{instance_is}
use Rattle.gl_standing.specs.Standing.{StandsIn}
use Rattle.gl_texts.specs.Lines.{destroyed_lines}
use Rattle.gl_code.specs.Renewing.{Renews, RenewsDeep}
use Rattle.gl_update.specs.Questions.{Asks}
use Rattle.gl_session.specs.Laying.{GivensFor, touch_of, touch_all}
use Rattle.gl_session.specs.declared.laying.Given.{Given}
use Rattle.gl_session.proofs.Laid.{laid_in}
use Rattle.gl_session.proofs.Words.{Made, ended_lines, next_ends, next_made, next_fails}

-- an instance of the program is kept
row_of : (a : App) (templates : List Body) (page : Page) (s : session.State) (x : StandsIn a templates page s) (k : ℕ) (i : Inst) (args : Names)
    → instance_in k (live_of (seen_code (tables_of (manifest_view a.manifest)) page.code)) ≡ Some (i, args)
    → (state_of (tables_of (manifest_view a.manifest)) page.vm x.touched).look (instance_id k) ≡ Some (instance_row i)
row_of a templates page s x k i args e =
    let y = instance_is a templates page s x k i args e in
    subst (λ q. (state_of (tables_of (manifest_view a.manifest)) page.vm x.touched).look (instance_id q) ≡ Some (instance_row i)) y.id y.kept

-- an update that ends well asked the page
page_asked : (m : ℕ) (run : Runs) (k : PlainCode) (st : State) (x : PlainCode × State) → along_root_code_as by_number m run k st ≡ ok x → 1 ≤ along_asks_root by_number m run k st
page_asked zero run k st x e = let no : lost ≡ ok x = e in absurd (cc)
page_asked (suc m) run (c.component_code i made gm args b cs) st x e = omega arith
page_asked (suc m) run (c.still_code n) st x e = let no : lost ≡ ok x = e in absurd (cc)
page_asked (suc m) run (c.put_code n z) st x e = let no : lost ≡ ok x = e in absurd (cc)
page_asked (suc m) run (c.element_code n made xs zs cs) st x e = let no : lost ≡ ok x = e in absurd (cc)
page_asked (suc m) run (c.branch_code z y u b cs) st x e = let no : lost ≡ ok x = e in absurd (cc)
page_asked (suc m) run (c.listed_code z y is) st x e = let no : lost ≡ ok x = e in absurd (cc)
page_asked (suc m) run (c.unlisted_code z y b cs) st x e = let no : lost ≡ ok x = e in absurd (cc)
page_asked (suc m) run (c.let_code made rs cs) st x e = let no : lost ≡ ok x = e in absurd (cc)
page_asked (suc m) run (c.yield_code n made rs cs) st x e = let no : lost ≡ ok x = e in absurd (cc)

module _ (a : App) (templates : List Body) (rises : NamesRise (manifest_view a.manifest)) (lowered : IsAppWith (manifest_view a.manifest) templates a.programs)
    (differ : FieldsDiffer (env_of a templates).app) (page : Page) (s : session.State) (x : StandsIn a templates page s)
    (e : m.Event) (sets : List acts.Set) (givens : List Given) (same : sets_in (world_of a templates page s x) sets ≡ (applied (env_of a templates).app s (Some e)).sets)
    (owned : AreOwnSets a page sets) (found : GivensFor (world_of a templates page s x) page sets givens) where
  -- the state in which the update begins
  abbrev pub laid : State
  laid = touch_all (map touch_of givens) (begin (state_of (tables_of (manifest_view a.manifest)) page.vm x.touched))

  is_lowered : AllLowered (env_of a templates)
  is_lowered = (templates, refl, lowered)

  laid_is : laid ≡ put_all (puts_of (world_of a templates page s x) sets) (begin (state_of (tables_of (manifest_view a.manifest)) page.vm x.touched))
  laid_is = sym (laid_in (world_of a templates page s x) page sets givens found (begin (state_of (tables_of (manifest_view a.manifest)) page.vm x.touched)) (row_of a templates page s x))

  own : AreOwn (env_of a templates).app x.follows.named.owner (live_of (seen_code (tables_of (manifest_view a.manifest)) page.code)) (puts_of (world_of a templates page s x) sets)
  own = (sets_are_own a templates page s x sets owned).0

  held : (applied (env_of a templates).app s (Some e)).sets ≡ map (held_of x.follows.named.owner) (puts_of (world_of a templates page s x) sets)
  held = sym same ∙ sym (sets_are_own a templates page s x sets owned).1

  -- what the update answers over the state in which it begins
  abbrev Answers : ℕ → Outcome (PlainCode × State)
  Answers k = along_root_code_as by_number (env_of a templates).app.limit (run_for_as by_number (env_of a templates) [] k) (seen_code (tables_of (manifest_view a.manifest)) page.code) laid

  -- that goes along lists that weren't touched, and does what the update does that reads all lists
  goes_along : (k : ℕ)
      → Answers k
      ≡ renew_root_code_as by_number (env_of a templates).app.limit (run_for_as by_number (env_of a templates) [] k) (seen_code (tables_of (manifest_view a.manifest)) page.code)
      (put_all (puts_of (world_of a templates page s x) sets) (begin (state_of (tables_of (manifest_view a.manifest)) page.vm x.touched)))
  goes_along k =
      ap (along_root_code_as by_number (env_of a templates).app.limit (run_for_as by_number (env_of a templates) [] k) (seen_code (tables_of (manifest_view a.manifest)) page.code)) laid_is
      ∙ puts_go_along (env_of a templates) is_lowered differ s e x.reached (seen_code (tables_of (manifest_view a.manifest)) page.code) (state_of (tables_of (manifest_view a.manifest)) page.vm x.touched) x.placed x.follows
      (puts_of (world_of a templates page s x) sets) own held k

  made : (k : ℕ) (r : PlainCode × State) → Answers k ≡ ok r
      → Made (env_of a templates) s (Some e) (ended_lines (env_of a templates).app (state_of (tables_of (manifest_view a.manifest)) page.vm x.touched) (live_of (seen_code (tables_of (manifest_view a.manifest)) page.code)) (live_of r.0)) (moved_between (live_of (seen_code (tables_of (manifest_view a.manifest)) page.code)) (live_of r.0)) r.0 r.1
  made k r is =
      next_made (env_of a templates) is_lowered differ s e x.reached (seen_code (tables_of (manifest_view a.manifest)) page.code) (state_of (tables_of (manifest_view a.manifest)) page.vm x.touched)
      x.placed x.follows (puts_of (world_of a templates page s x) sets) own held k r
      (sym (goes_along k) ∙ is)

  ends : (k : ℕ) (r : PlainCode × State) → Answers k ≡ ok r
      → ended_lines (env_of a templates).app (state_of (tables_of (manifest_view a.manifest)) page.vm x.touched) (live_of (seen_code (tables_of (manifest_view a.manifest)) page.code)) (live_of r.0)
      ≡ destroyed_lines (env_of a templates).app (state_of (tables_of (manifest_view a.manifest)) page.vm x.touched) (live_of (seen_code (tables_of (manifest_view a.manifest)) page.code)) r.1
  ends k r is =
      next_ends (env_of a templates) is_lowered differ s e x.reached (seen_code (tables_of (manifest_view a.manifest)) page.code) (state_of (tables_of (manifest_view a.manifest)) page.vm x.touched)
      x.placed x.follows (puts_of (world_of a templates page s x) sets) own held k r
      (sym (goes_along k) ∙ is)

  module _ (mid : Vm) (begun : Follows (tables_of (manifest_view a.manifest)) laid mid) where
    -- the update after which the page stands in the next state
    pub renewed : (page' : Page) → Renews a [] (λ n run. along_root_code_as by_number a.manifest.limit run (seen_code n page.code)) mid (λ n. seen_code n page'.code) page'.vm
        → (r : State) × Follows (tables_of (manifest_view a.manifest)) r page'.vm
        × Made (env_of a templates) s (Some e) (ended_lines (env_of a templates).app (state_of (tables_of (manifest_view a.manifest)) page.vm x.touched) (live_of (seen_code (tables_of (manifest_view a.manifest)) page.code)) (live_of (seen_code (tables_of (manifest_view a.manifest)) page'.code)))
        (moved_between (live_of (seen_code (tables_of (manifest_view a.manifest)) page.code)) (live_of (seen_code (tables_of (manifest_view a.manifest)) page'.code)))
        (seen_code (tables_of (manifest_view a.manifest)) page'.code) r
        × (ended_lines (env_of a templates).app (state_of (tables_of (manifest_view a.manifest)) page.vm x.touched) (live_of (seen_code (tables_of (manifest_view a.manifest)) page.code)) (live_of (seen_code (tables_of (manifest_view a.manifest)) page'.code))
        ≡ destroyed_lines (env_of a templates).app (state_of (tables_of (manifest_view a.manifest)) page.vm x.touched) (live_of (seen_code (tables_of (manifest_view a.manifest)) page.code)) r)
    renewed page' h =
        let r = h templates rises laid.touched begun.agrees in
        let is : Answers r.steps ≡ ok (seen_code (tables_of (manifest_view a.manifest)) page'.code, r.state) =
        ap (along_root_code_as by_number (env_of a templates).app.limit (run_for_as by_number (env_of a templates) [] r.steps) (seen_code (tables_of (manifest_view a.manifest)) page.code)) (sym begun.state) ∙ r.is r.steps (le_refl r.steps) in (
          r.state,
          r.follows,
          made r.steps (seen_code (tables_of (manifest_view a.manifest)) page'.code, r.state) is,
          ends r.steps (seen_code (tables_of (manifest_view a.manifest)) page'.code, r.state) is,
        )

    -- it asked at most as much as the turn may ask
    pub asks_less : (page' : Page) → Renews a [] (λ n run. along_root_code_as by_number a.manifest.limit run (seen_code n page.code)) mid (λ n. seen_code n page'.code) page'.vm
        → (count : ℕ) → Asks a [] (λ n run. along_asks_root by_number a.manifest.limit run (seen_code n page.code)) mid 0 count
        → (t : session.Turn) → step (env_of a templates).app s (Some e) ≡ Some t → (1 ≤ count) × (count ≤ t.asked)
    asks_less page' h count q t made' =
        let n = tables_of (manifest_view a.manifest) in
        let r = h templates rises laid.touched begun.agrees in
        let y = q templates rises laid.touched begun.agrees in
        let k = max r.steps y.steps in
        let run = run_for_as by_number (env_of a templates) [] k in
        let root = seen_code n page.code in
        let now = put_all (puts_of (world_of a templates page s x) sets) (begin (state_of n page.vm x.touched)) in
        let same' : state_of n mid laid.touched ≡ now = begun.state ∙ laid_is in
        let is : along_root_code_as by_number (env_of a templates).app.limit run root now ≡ ok (seen_code n page'.code, r.state) =
        ap (along_root_code_as by_number (env_of a templates).app.limit run root) (sym same') ∙ r.is k (omega arith) in
        let less = puts_ask_along (env_of a templates) is_lowered differ s e t x.reached made' root (state_of n page.vm x.touched) x.placed x.follows (puts_of (world_of a templates page s x) sets) own held k (seen_code n page'.code, r.state) is in
        let counted : count ≡ 0 + along_asks_root by_number (env_of a templates).app.limit run root now = y.is k (omega arith) ∙ ap (λ st. 0 + along_asks_root by_number (env_of a templates).app.limit run root st) same' in
        let one = page_asked (env_of a templates).app.limit run root now (seen_code n page'.code, r.state) is in (omega (arith, one, counted), omega (arith, less, counted))

    pub too_deep : RenewsDeep {A = PlainCode} a [] (λ n run. along_root_code_as by_number a.manifest.limit run (seen_code n page.code)) mid → step (env_of a templates).app s (Some e) ≡ None
    too_deep h =
        let r = h templates rises laid.touched begun.agrees in
        next_fails (env_of a templates) is_lowered differ s e x.reached (seen_code (tables_of (manifest_view a.manifest)) page.code) (state_of (tables_of (manifest_view a.manifest)) page.vm x.touched)
        x.placed x.follows (puts_of (world_of a templates page s x) sets) own held r.0
        (sym (goes_along r.0) ∙ (ap (along_root_code_as by_number (env_of a templates).app.limit (run_for_as by_number (env_of a templates) [] r.0) (seen_code (tables_of (manifest_view a.manifest)) page.code)) (sym begun.state) ∙ r.1 r.0 (le_refl r.0)))
