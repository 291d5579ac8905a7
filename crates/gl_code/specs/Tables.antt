-- What an application gives to the machine over words: its meaning with its programs, and the names that ids stand for.
use Rattle.std.specs.Prelude.{List, ◌∷◌, [], slice_get, unwrap_or, codes}
use Rattle.gl_ast.specs.Template.{Body}
use Rattle.gl_meaning.specs.Manifest.{app_of, Manifest}
use Rattle.gl_meaning.specs.Order.{names_of}
use Rattle.gl_meaning.specs.View.{manifest_view}
use Rattle.gl_opc.specs.declared.app.App.{App}
use Rattle.gl_machine.specs.Env.{Env, class_or}
use Rattle.gl_vm.specs.View.{Tables}

-- the application with its programs, and some templates
abbrev pub env_of : App → List Body → Env
env_of a templates = record { app = app_of (manifest_view a.manifest) templates; manifest = manifest_view a.manifest; programs = a.programs }

-- the fields of the class with a number, in order, and the modifier with a number: `on` is before the manifest's own
abbrev pub tables_of : Manifest → Tables
tables_of m = record {
  fields = λ c. names_of (class_or (slice_get m.classes c)).fields;
  modifier = λ k. unwrap_or (slice_get (codes "on" ∷ m.modifiers) k) [];
}
