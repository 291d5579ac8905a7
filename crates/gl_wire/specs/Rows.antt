-- The JSON that the values of an array stand for.
use Rattle.std.specs.Prelude.{List, map}
use Rattle.serde_json.specs.Data.{Data}
use Rattle.serde_json.specs.View.{view}
use Rattle.gl_wire.specs.declared.row.Row.{Row}

abbrev pub shown : Row → List Data
shown r = map view r.list.items
