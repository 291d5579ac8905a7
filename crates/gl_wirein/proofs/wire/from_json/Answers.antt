use Rattle.serde_json.specs.View.{view}
use Rattle.gl_wire.specs.View.{wire_view}
use Rattle.gl_wirein.proofs.Wires.{told_by}
use Rattle.gl_wirein.proofs.wire.from_json.Goals as goal

pub returns-clause-told : goal.returns-clause-told
returns-clause-told c = told_by wire_view (view c.args.json.now) c.found.result c.found.ensures
