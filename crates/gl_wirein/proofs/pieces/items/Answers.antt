use Rattle.std.proofs.Common.{Some, map, ap, ◌∙◌}
use Rattle.serde_json.specs.View.{view, items_view}
use Rattle.gl_wirein.proofs.Texts.{array_listed, data_of-items_of}
use Rattle.gl_wirein.proofs.pieces.items.Goals as goal

pub returns-in-Some : goal.returns-in-Some
returns-in-Some c =
    rw c.as_slice.ensures.value
    (array_listed (view c.args.json.now) (items_view c.in-Some.list.now.items) c.in-Some.ensures ∙ ap Some (data_of-items_of (map view c.in-Some.list.now.items)))
