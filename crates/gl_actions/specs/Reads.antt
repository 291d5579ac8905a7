-- When a machine has what the actions of a turn read.
use Rattle.std.specs.Prelude.{◌≡◌, ℕ, ◌==◌, List, map, flat_map, Bool, false, Some, codes}
use Rattle.std.specs.List.{list_any}
use Rattle.std.specs.Str.{bytes_eq}
use Rattle.gl_meaning.specs.Path.{Path, V}
use Rattle.gl_meaning.specs.Eval.{values_in}
use Rattle.gl_meaning.specs.Parts.{Modifier}
use Rattle.gl_meaning.specs.Render.{Forest}
use Rattle.gl_meaning.specs.Changes.{pieces, modifiers_on}
use Rattle.gl_meaning.specs.Actions.{at_node}
use Rattle.gl_meaning.specs.Manifest.{Manifest}
use Rattle.gl_meaning.specs.View.{manifest_view}
use Rattle.gl_mods.specs.Mods as m
use Rattle.gl_opc.specs.declared.app.App.{App}
use Rattle.gl_plain.specs.State.{Names, Inst}
use Rattle.gl_machine.specs.Code.{live_of}
use Rattle.gl_vm.specs.View.{Tables}
use Rattle.gl_code.specs.CodeView.{seen_code}
use Rattle.gl_code.specs.declared.page.Page.{Page}
use Rattle.gl_actions.specs.World.{World, tables_in, value_in}
use Rattle.gl_actions.specs.Frames.{InstanceRead}
use Rattle.gl_actions.specs.Found.{instance_in}
use Rattle.gl_actions.specs.Heard.{spots_in, mods_of}

-- The machine has what the rendering has, in all that actions read: the app is of its manifest, and each instance of the updating program
-- is as it stands in the rendering.
pub record Reads (a : App) (page : Page) (w : World) : Type 0 where
  pub manifest : w.manifest ≡ manifest_view a.manifest
  pub instances : (k : ℕ) (i : Inst) (args : Names) → instance_in k (live_of (seen_code (tables_in w) page.code)) ≡ Some (i, args) → InstanceRead w page.vm i args

-- whether a modifier is `on`, with the values of its positional arguments
abbrev pub shown_modifier : Modifier → Bool × List V
shown_modifier x = (bytes_eq x.name (codes "on"), values_in x.args)

abbrev pub kept_modifier : World → m.Installed → Bool × List V
kept_modifier w x = (x.name == m.on_number, map (value_in w) x.args)

-- the modifiers of the nodes with a number
abbrev pub mods_at : Tables → Page → ℕ → List m.Installed
mods_at n page k = mods_of page.vm.mods (spots_in k (live_of (seen_code n page.code)))

-- the modifiers of the nodes at some paths
abbrev pub modifiers_at : Forest → List Path → List Modifier
modifiers_at f ps = flat_map (λ p. flat_map modifiers_on (at_node p (pieces f))) ps

-- no modifier of the manifest is `on`, which there is besides
abbrev pub OnlyOn : Manifest → Type 0
OnlyOn m = list_any (λ t. bytes_eq t (codes "on")) m.modifiers ≡ false

-- The nodes with a number are those at the paths, in what may listen: where the manifest has no `on` of its own, their modifiers in order are
-- those in the rendering, each `on` where that is, with the same values.
abbrev pub Listens : World → Page → ℕ → List Path → Type 0
Listens w page k ps = OnlyOn w.manifest → map (kept_modifier w) (mods_at (tables_in w) page k) ≡ map shown_modifier (modifiers_at w.forest ps)
