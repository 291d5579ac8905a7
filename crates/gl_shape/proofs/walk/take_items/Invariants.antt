use Rattle.std.proofs.Common.{◌≡◌, length, map, reverse}
use Rattle.serde_json.specs.View.{items_view}
use Rattle.gl_meaning.specs.Walk.{read_items}
use Rattle.gl_shape.proofs.Walks.{after_found}
use Rattle.gl_shape.proofs.walk.take_items.Given as goal

abbrev pub invariant-loop-value : goal.invariant-loop-value
invariant-loop-value g l = after_found (map g.R.ItemReader.seen l.list.items) (read_items (g.R.ItemReader.reads l.reader) (length l.list.items) (items_view (reverse l.waiting.items))) ≡ read_items (g.R.ItemReader.reads l.reader) 0 (items_view l.fn.items.items)

abbrev pub decreases-loop-value : goal.decreases-loop-value
decreases-loop-value g l = length l.waiting.items
