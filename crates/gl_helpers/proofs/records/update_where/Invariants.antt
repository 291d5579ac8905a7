use Rattle.std.proofs.Common.{◌≡◌, ◌++◌, drop, map}
use Rattle.gl_value.specs.Proper.{Keeps, KeepAll}
use Rattle.gl_value.specs.Value.{values_of}
use Rattle.gl_value.specs.View.{view, seen_items}
use Rattle.gl_helpers.specs.Records.{changed}
use Rattle.gl_helpers.proofs.records.update_where.Given as goal

-- what is made so far, and what is left to make, are the whole
abbrev pub invariant-loop-item : goal.invariant-loop-item
invariant-loop-item l = record {
  whole : l.list ++ map (changed l.update.name.now (view l.update.is.now) l.update.key.now (view l.update.value.now)) (seen_items (drop l.item-index l.items)) ≡ map (changed l.update.name.now (view l.update.is.now) l.update.key.now (view l.update.value.now)) (seen_items l.items);
  keeps : KeepAll (values_of (seen_items l.items)) → Keeps (view l.update.value.now) → KeepAll (values_of l.list) × KeepAll (values_of (seen_items (drop l.item-index l.items)));
}
