-- The manifest of the worked programs, and what computes on words that are written out.
use Rattle.std.specs.Prelude.{[], ◌∷◌, false, codes, ⊤}
use Rattle.gl_value.specs.Value.{null, boolean}
use Rattle.gl_ast.specs.Template.{literal}
use Rattle.gl_names.specs.Helpers.{helper_rows}
use Rattle.gl_ops.specs.Finding.{op_of}
use Rattle.gl_ops.specs.Words.{decoded}
use Rattle.gl_meaning.specs.Manifest.{Manifest, ClassEntry}

unfoldable pub on_literals : ⊤
unfolding decoded op_of helper_rows
on_literals = tt

-- a class with two fields, a getter and an action
abbrev pub app : ClassEntry
app = record {
  name = codes "App";
  file = codes "app.hbs";
  fields = (codes "on", boolean false) ∷ (codes "rows", null) ∷ [];
  getters = (codes "some", literal null) ∷ [];
  actions = (codes "pick", record { params = []; steps = [] }) ∷ [];
  teardown = false;
}

abbrev pub row : ClassEntry
row = record { name = codes "Row"; file = codes "row.hbs"; fields = []; getters = []; actions = []; teardown = false }

abbrev pub manifest : Manifest
manifest = record { root = codes "App"; limit = 16; modifiers = codes "tip" ∷ []; classes = app ∷ row ∷ [] }
