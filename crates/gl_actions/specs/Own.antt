-- What actions set: fields of instances of the page, to plain forms.
use Rattle.std.specs.Prelude.{◌≡◌, ◌<◌, List, [], ◌∷◌, length, ℕ, Some}
use Rattle.gl_value.specs.Value.{Value, plain}
use Rattle.gl_meaning.specs.Manifest.{ClassEntry}
use Rattle.gl_meaning.specs.View.{class_view, manifest_view, path_view}
use Rattle.gl_opc.specs.declared.app.App.{App}
use Rattle.gl_plain.specs.State.{Names, Inst}
use Rattle.gl_plain.specs.Live.{Live}
use Rattle.gl_machine.specs.Code.{live_of}
use Rattle.gl_vm.specs.View.{Tables, name_stamps}
use Rattle.gl_code.specs.Tables.{tables_of}
use Rattle.gl_code.specs.View.{seen_owner}
use Rattle.gl_code.specs.CodeView.{seen_code}
use Rattle.gl_code.specs.declared.page.Page.{Page}
use Rattle.gl_actions.specs.Sets as s
use Rattle.gl_actions.specs.Found.{instance_in}
use Rattle.gl_actions.specs.Classes.{IsClassOf}
use Rattle.gl_actions.specs.declared.frame.Frame.{Frame}

-- the names of the application
abbrev pub names_in : App → Tables
names_in a = tables_of (manifest_view a.manifest)

-- what was rendered
abbrev pub shown_in : App → Page → Live
shown_in a page = live_of (seen_code (names_in a) page.code)

-- The instance that is seen stands in the page, and is of this class.
pub record IsOnPage (a : App) (page : Page) (f : Frame) : Type 0 where
  pub stands : instance_in f.owner.now.id.1 (shown_in a page) ≡ Some (seen_owner (names_in a) f.owner.now, name_stamps f.args.now)
  pub class : IsClassOf (manifest_view a.manifest) (path_view f.owner.now.path) (class_view f.class.now)

-- A set is of an instance that stands in the page, of a field of its class, and to a plain form.
pub record IsOwnSet (a : App) (page : Page) (x : s.Set) : Type 0 where
  pub inst : Inst
  pub args : Names
  pub stands : instance_in x.owner.1 (shown_in a page) ≡ Some (inst, args)
  pub class : ClassEntry
  pub is : IsClassOf (manifest_view a.manifest) inst.path class
  pub field : x.field < length class.fields
  pub given : Value ℕ
  pub plainly : x.to ≡ plain given

abbrev pub AreOwnSets : App → Page → List s.Set → Type 0
AreOwnSets a page [] = Unit {0}
AreOwnSets a page (x ∷ xs) = IsOwnSet a page x × AreOwnSets a page xs

-- Where the sets so far are so, they are so with those that are added.
abbrev pub AddsOwn : App → Page → List s.Set → List s.Set → Type 0
AddsOwn a page old new = AreOwnSets a page old → AreOwnSets a page new
