use Rattle.std.proofs.Common.{◌≡◌, drop, map}
use Rattle.serde_json.specs.View.{items_view}
use Rattle.gl_meaning.specs.Walk.{read_items}
use Rattle.gl_shape.proofs.Walks.{after_found}
use Rattle.gl_shape.proofs.walk.read_items.Given as goal

abbrev pub invariant-loop-place : goal.invariant-loop-place
invariant-loop-place g l = after_found (map g.R.ItemReader.seen l.list.items) (read_items (g.R.ItemReader.reads l.reader) l.place (items_view (drop l.place l.items))) ≡ read_items (g.R.ItemReader.reads l.reader) 0 (items_view l.items)
