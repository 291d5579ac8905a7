-- What the files of an application and of its script stand for, as a relation on files and what is loaded. `laws::loaded_as_said` says that
-- loading gives just this.
use Rattle.std.specs.Prelude.{◌≡◌, ◌≤◌, ℕ, List, [], ◌∷◌, Some, None, length}
use Rattle.gl_base.specs.Texts.{Text, bytes_of}
use Rattle.gl_ast.specs.Grammar.{Spells}
use Rattle.gl_ast.specs.Template.{Body}
use Rattle.gl_outside.specs.Shelf.{Entry, file_of}
use Rattle.gl_cycles.specs.Through.{cycle_of}
use Rattle.gl_parse.specs.Place.{IsTemplatePlace}
use Rattle.gl_manifest.specs.Holds as manifest
use Rattle.gl_meaning.specs.App.{Event}
use Rattle.gl_meaning.specs.Known.{first_unknown}
use Rattle.gl_meaning.specs.Manifest.{ClassEntry, Manifest, app_of}
use Rattle.gl_script.specs.ScriptIs as script
use Rattle.gl_load.specs.Load.{most, Parts, Whole, root_fields}

-- the file of a name is there with these bytes, and isn't too long
abbrev pub HasFile : List Entry → Text → List ℕ → Type 0
HasFile files name bytes = (file_of files (bytes_of name) ≡ Some bytes) × (length bytes ≤ most)

-- the file's bytes are JSON of the form of a manifest, and the manifest is the one of that JSON
abbrev pub IsManifestFile : List Entry → Text → Manifest → Type 0
IsManifestFile files name m = (bytes : List ℕ) × HasFile files name bytes × manifest.Holds bytes m

-- the file's bytes spell the template
abbrev pub IsTemplateFile : List Entry → Text → Body → Type 0
IsTemplateFile files name tree = (bytes : List ℕ) × HasFile files name bytes × Spells bytes tree

-- the file's bytes spell no template, and the place is the one at which they leave the grammar
abbrev pub LeavesGrammar : List Entry → Text → ℕ → Type 0
LeavesGrammar files name place = (bytes : List ℕ) × HasFile files name bytes × ((tree : Body) → Spells bytes tree → ⊥) × IsTemplatePlace bytes place

-- for each class the template of its file
abbrev pub AreTemplates : List Entry → List ClassEntry → List Body → Type 0
AreTemplates files [] [] = Unit {0}
AreTemplates files (c ∷ cs) (t ∷ ts) = IsTemplateFile files c.file t × AreTemplates files cs ts
AreTemplates files _ _ = ⊥

-- An application: its manifest, the template of each class, every name known, and no getter that reaches itself.
pub record IsLoaded (files : List Entry) (name : Text) (parts : Parts) : Type 0 where
  pub manifest : IsManifestFile files name parts.manifest
  pub templates : AreTemplates files parts.manifest.classes parts.templates
  pub known : first_unknown (app_of parts.manifest parts.templates) ≡ None
  pub no_cycle : cycle_of parts.manifest.classes ≡ None

-- the file's bytes are JSON of these events, and each field that is set is the root's
abbrev pub IsScriptFile : List Entry → Text → Parts → List Event → Type 0
IsScriptFile files name parts events = (bytes : List ℕ) × HasFile files name bytes × script.Holds (root_fields parts.manifest) bytes events

-- An application with its script.
pub record IsLoadedWith (files : List Entry) (name script : Text) (whole : Whole) : Type 0 where
  pub parts : IsLoaded files name whole.parts
  pub events : IsScriptFile files script whole.parts whole.events
