-- How many nodes and instances stand in a page.
use Rattle.std.proofs.Common.{◌≡◌, ℕ, List, [], false, length, sym, ap, ◌∙◌}
use Rattle.std.specs.Prelude.{filter_map}
use Rattle.std.proofs.lemmas.List.{length-map}
use Rattle.gl_ast.specs.Template.{Body}
use Rattle.gl_meaning.specs.Changes.{nodes, instances}
use Rattle.gl_meaning.specs.Path.{Path}
use Rattle.gl_meaning.specs.Session as session
use Rattle.gl_meaning.specs.View.{manifest_view}
use Rattle.gl_opc.specs.declared.app.App.{App}
use Rattle.gl_plain.specs.Live.{Live}
use Rattle.gl_plain.specs.State.{Inst, State}
use Rattle.gl_plain.specs.Machine.{StandsFor}
use Rattle.gl_turns.specs.Places.{node_in, instance_in, places}
use Rattle.gl_turns.proofs.Numbered.{tree_agrees}
use Rattle.gl_turns.proofs.Turning.{rendered}
use Rattle.gl_machine.specs.Code.{live_of}
use Rattle.gl_vm.specs.View.{state_of}
use Rattle.gl_code.specs.CodeView.{seen_code}
use Rattle.gl_code.specs.Tables.{env_of, tables_of}
use Rattle.gl_code.specs.declared.page.Page.{Page}
use Rattle.gl_naming.specs.Renamed.{state_with}
use Rattle.gl_standing.specs.Standing.{StandsIn}

module _ (a : App) (templates : List Body) (page : Page) (s : session.State) (x : StandsIn a templates page s) where
  abbrev pub program : Live
  program = live_of (seen_code (tables_of (manifest_view a.manifest)) page.code)

  -- the state with the names of paths, which stands
  abbrev named : State
  named = state_with x.follows.named.owner x.follows.named.source (λ q. false) (state_of (tables_of (manifest_view a.manifest)) page.vm x.touched)

  stands : StandsFor (env_of a templates).app s.store s.store named program
  stands = x.follows.named.stands (λ q. false)

  -- as many nodes as the rendering has
  pub nodes_are : length (filter_map node_in (places [] program)) ≡ length (nodes s.rendering)
  nodes_are =
      sym (length-map (filter_map node_in (places [] program)) (λ (z : Path × ℕ). z.0))
      ∙ (ap length (tree_agrees (env_of a templates).app s.store s.store named program stands).0.nodes ∙ ap (λ r. length (nodes r)) (rendered (env_of a templates).app s x.reached))

  -- and as many instances
  pub instances_are : length (filter_map instance_in (places [] program)) ≡ length (instances s.rendering)
  instances_are =
      sym (length-map (filter_map instance_in (places [] program)) (λ (z : Path × Inst). z.0))
      ∙ (ap length (tree_agrees (env_of a templates).app s.store s.store named program stands).0.instances ∙ ap (λ r. length (instances r)) (rendered (env_of a templates).app s x.reached))
