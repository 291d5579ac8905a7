use Rattle.std.proofs.Common.{◌≡◌, ◌++◌, map, drop}
use Rattle.gl_each.specs.View.{seen_keys}
use Rattle.gl_update.specs.OldItems.{plain_key}
use Rattle.gl_update.proofs.old_items.plain_keys.Given as goal

abbrev pub invariant-loop-item : goal.invariant-loop-item
invariant-loop-item l = seen_keys l.list.items ++ map plain_key (drop l.item-index l.items) ≡ map plain_key l.items
