-- The turns of a page, from what its calls answer.
use Rattle.std.proofs.Common.{◌≡◌, ℕ, ◌-◌, List, [], map, Option, Some, None, refl, sym, ap, ◌∙◌, subst}
use Rattle.gl_base.specs.Texts.{Text}
use Rattle.gl_ast.specs.Template.{Body}
use Rattle.gl_meaning.specs.App as m
use Rattle.gl_meaning.specs.Changes.{Numbers}
use Rattle.gl_meaning.specs.Laws.{started, stepped}
use Rattle.gl_meaning.specs.Order.{NamesRise}
use Rattle.gl_meaning.specs.Print.{head_line, missing_lines}
use Rattle.gl_meaning.specs.Session as session
use Rattle.gl_meaning.specs.Session.{first_state, applied, step}
use Rattle.gl_meaning.specs.View.{manifest_view}
use Rattle.gl_opc.specs.IsApp.{IsAppWith}
use Rattle.gl_opc.specs.declared.app.App.{App}
use Rattle.gl_nodes.specs.Flat.{IsFlat}
use Rattle.gl_mods.specs.Mods.{IsSound}
use Rattle.gl_plain.specs.State.{State}
use Rattle.gl_plain.specs.Turns.{begin}
use Rattle.gl_plain.specs.Naming.{by_number}
use Rattle.gl_naming.specs.Exist.{FieldsDiffer}
use Rattle.gl_naming.proofs.Rules.{entries_differ}
use Rattle.gl_machine.specs.Code.{Code as PlainCode, live_of}
use Rattle.gl_guards.specs.Along.{along_root_code_as}
use Rattle.gl_guards.specs.AlongAsks.{along_asks_root}
use Rattle.gl_guards.specs.Once.{KeysOnce}
use Rattle.gl_guards.proofs.Once.{keys_are_once}
use Rattle.gl_machine.specs.Shape.{nest}
use Rattle.gl_vm.specs.View.{Tables, state_of}
use Rattle.gl_vm.specs.Steps.{Follows, Does}
use Rattle.gl_vm.specs.declared.vm.Vm.{Vm}
use Rattle.gl_code.specs.CodeView.{seen_code}
use Rattle.gl_code.specs.Hung.{nest_of}
use Rattle.gl_append.specs.Page.{Appends, AppendFails}
use Rattle.gl_code.specs.Tables.{env_of, tables_of}
use Rattle.gl_code.specs.declared.fault.VmFault.{VmFault}
use Rattle.gl_code.specs.declared.fault.VmFault.TheVariants as fault
use Rattle.gl_code.specs.declared.page.Page.{Page}
use Rattle.gl_kept.specs.Between.{moved_between}
use Rattle.gl_code.specs.Renewing.{Renews, RenewsDeep, RenewFails}
use Rattle.gl_update.specs.Questions.{Asks}
use Rattle.gl_actions.specs.Sets as acts
use Rattle.gl_actions.specs.Own.{AreOwnSets}
use Rattle.gl_actions.specs.World.{sets_in}
use Rattle.gl_fires.specs.Worlds.{world_of}
use Rattle.gl_gone.specs.Logs.{Logs}
use Rattle.gl_gone.specs.View.{Lists}
use Rattle.gl_gone.specs.declared.endings.Ending.{Ending}
use Rattle.gl_standing.specs.Standing.{StandsIn}
use Rattle.gl_texts.specs.Lines.{destroyed_lines}
use Rattle.gl_session.specs.Laying.{GivensFor, touch_of, touch_all}
use Rattle.gl_session.specs.declared.laying.Given.{Given}
use Rattle.gl_session.specs.Standing.{Goes, TurnFails, TurnAsks, app_with}
use Rattle.gl_session.specs.Telling.{committed}
use Rattle.gl_session.specs.declared.turn.Turn.{Turn}
use Rattle.gl_session.proofs.Next.{laid, renewed, asks_less, too_deep}
use Rattle.gl_session.proofs.Pages.{Did, written, goes}
use Rattle.gl_session.proofs.Words.{ended_lines, first_made, first_fails}

-- no class of the application repeats a field
pub fields_differ : (a : App) (templates : List Body) → NamesRise (manifest_view a.manifest) → FieldsDiffer (env_of a templates).app
fields_differ a templates r = entries_differ (manifest_view a.manifest).classes templates r.each

-- The first turn

-- the page that is appended stands in the state after it, once its log is written
pub first_goes : (a : App) (templates : List Body) (page : Page) → NamesRise (manifest_view a.manifest) → IsAppWith (manifest_view a.manifest) templates a.programs → Appends a [] page.vm page.code
    → ((n : Tables) → nest_of page.vm.tree.forest ≡ nest (live_of (seen_code n page.code))) → IsFlat page.vm.tree → IsSound page.vm.mods
    → (state : State) (made : Turn) → made.text ≡ written a templates page first_state None [] state (head_line 0 None) [] → Did page 1 0 made.work → Goes a templates first_state None (record page { vm = committed page.vm }) made
first_goes a templates page rises lowered appends nested flat sound state made w d =
    let x = appends templates rises in
    let y = first_made (env_of a templates) (templates, refl, lowered) (fields_differ a templates rises) x.steps x.root x.numbered (seen_code (tables_of (manifest_view a.manifest)) page.code, x.state) x.is in
    goes a templates page first_state None [] x.state 0 y x.follows (nested (tables_of (manifest_view a.manifest))) flat sound (started y.is) (head_line 0 None) [] made refl refl w d

pub first_is_deep : (a : App) (templates : List Body) → NamesRise (manifest_view a.manifest) → IsAppWith (manifest_view a.manifest) templates a.programs → AppendFails a [] fault.NestingLimit
    → step (app_with a templates) first_state None ≡ None
first_is_deep a templates rises lowered h =
    let x = h templates rises in first_fails (env_of a templates) (templates, refl, lowered) (fields_differ a templates rises) x.steps x.root x.numbered x.is

-- The turn of an event

module _ (a : App) (templates : List Body) (rises : NamesRise (manifest_view a.manifest)) (lowered : IsAppWith (manifest_view a.manifest) templates a.programs) (page : Page) (s : session.State)
    (x : StandsIn a templates page s) (e : m.Event) (sets : List acts.Set) (givens : List Given) (same : sets_in (world_of a templates page s x) sets ≡ (applied (env_of a templates).app s (Some e)).sets)
    (owned : AreOwnSets a page sets) (found : GivensFor (world_of a templates page s x) page sets givens) (mid : Vm)
    (did : Does (λ n st. touch_all (map touch_of givens) (begin st)) page.vm mid) where
  differ : FieldsDiffer (env_of a templates).app
  differ = fields_differ a templates rises

  begun : Follows (tables_of (manifest_view a.manifest)) (laid a templates rises lowered (fields_differ a templates rises) page s x e sets givens same owned found) mid
  begun = did (tables_of (manifest_view a.manifest)) x.touched x.agrees

  -- the page that is updated stands in the state after it, once its log is written
  pub next_goes : (page' : Page) → Renews a [] (λ n run. along_root_code_as by_number a.manifest.limit run (seen_code n page.code)) mid (λ n. seen_code n page'.code) page'.vm
      → nest_of page'.vm.tree.forest ≡ nest (live_of (seen_code (tables_of (manifest_view a.manifest)) page'.code)) → IsFlat page'.vm.tree → IsSound page'.vm.mods
      → (before : List Ending) → Lists page before → (d : Text) → Logs a before page' d
      → (state : State) (turn : ℕ) (missing : List ℕ) (made : Turn) → turn ≡ s.turn → missing ≡ (applied (env_of a templates).app s (Some e)).missing
      → made.text ≡ written a templates page' s (Some e) d state (head_line turn (Some e)) (missing_lines missing)
      → (count : ℕ) → ((n : Tables) → KeysOnce (live_of (seen_code n page.code)) → count ≡ moved_between (live_of (seen_code n page.code)) (live_of (seen_code n page'.code)))
      → Did page' page.vm.tree.nodes.made count made.work → Goes a templates s (Some e) (record page' { vm = committed page'.vm }) made
  next_goes page' h nested flat sound before old d logs state turn missing made t q w count moves did' =
      let r = renewed a templates rises lowered (fields_differ a templates rises) page s x e sets givens same owned found mid begun page' h in
      let l' = live_of (seen_code (tables_of (manifest_view a.manifest)) page'.code) in
      let told : d ≡ ended_lines (env_of a templates).app (state_of (tables_of (manifest_view a.manifest)) page.vm x.touched) (live_of (seen_code (tables_of (manifest_view a.manifest)) page.code)) l' =
      logs page old templates x.touched r.0.touched (r.3 ∙ ap (destroyed_lines (env_of a templates).app (state_of (tables_of (manifest_view a.manifest)) page.vm x.touched) (live_of (seen_code (tables_of (manifest_view a.manifest)) page.code))) (sym r.1.state)) in
      let first : page.vm.tree.nodes.made ≡ s.numbers.next = ap (λ (ns : Numbers). ns.next) x.follows.numbers in
      let once = keys_are_once (env_of a templates).app s (state_of (tables_of (manifest_view a.manifest)) page.vm x.touched) (live_of (seen_code (tables_of (manifest_view a.manifest)) page.code)) x.follows in
      goes a templates page' s (Some e) (ended_lines (env_of a templates).app (state_of (tables_of (manifest_view a.manifest)) page.vm x.touched) (live_of (seen_code (tables_of (manifest_view a.manifest)) page.code)) l')
      r.0 (moved_between (live_of (seen_code (tables_of (manifest_view a.manifest)) page.code)) l') r.2 r.1 nested flat sound (stepped e x.reached r.2.is) (head_line turn (Some e)) (missing_lines missing) made
      (ap (λ k. head_line k (Some e)) t) (ap missing_lines q) (w ∙ ap (λ z. written a templates page' s (Some e) z r.0 (head_line turn (Some e)) (missing_lines missing)) told)
      (record { evaluated = did'.evaluated; made = did'.made ∙ ap (λ k. page'.vm.tree.nodes.made - k) first; moved = did'.moved ∙ moves (tables_of (manifest_view a.manifest)) once })

  -- it asked at most as much as the turn may ask
  pub next_asks : (page' : Page) → Renews a [] (λ n run. along_root_code_as by_number a.manifest.limit run (seen_code n page.code)) mid (λ n. seen_code n page'.code) page'.vm
      → (count : ℕ) → Asks a [] (λ n run. along_asks_root by_number a.manifest.limit run (seen_code n page.code)) mid 0 count → TurnAsks a templates s e count
  next_asks page' h count q = λ t is. asks_less a templates rises lowered (fields_differ a templates rises) page s x e sets givens same owned found mid begun page' h count q t is

  pub next_is_deep : RenewsDeep {A = PlainCode} a [] (λ n run. along_root_code_as by_number a.manifest.limit run (seen_code n page.code)) mid → step (app_with a templates) s (Some e) ≡ None
  next_is_deep h = too_deep a templates rises lowered (fields_differ a templates rises) page s x e sets givens same owned found mid begun h

  pub next_fault : (f : VmFault) → RenewFails {A = PlainCode} a [] (λ n run. along_root_code_as by_number a.manifest.limit run (seen_code n page.code)) mid f → TurnFails a templates s (Some e) f
  next_fault fault.NestingLimit h = next_is_deep h
  next_fault fault.Memory h = tt

-- Faults

pub first_fault : (a : App) (templates : List Body) → NamesRise (manifest_view a.manifest) → IsAppWith (manifest_view a.manifest) templates a.programs → (f : VmFault) → AppendFails a [] f → TurnFails a templates first_state None f
first_fault a templates rises lowered fault.NestingLimit h = first_is_deep a templates rises lowered h
first_fault a templates rises lowered fault.Memory h = tt

-- a page with the same parts
pub goes_as : (a : App) (templates : List Body) (s : session.State) (e : Option m.Event) (new page : Page) (made : Turn) → new.vm ≡ committed page.vm → new.code ≡ page.code → Goes a templates s e (record page { vm = committed page.vm }) made → Goes a templates s e new made
goes_as a templates s e new page made v c g =
    let same : new ≡ record page { vm = committed page.vm } = λ i. record { vm = v i; code = c i } in
    subst (λ p. Goes a templates s e p made) (sym same) g
