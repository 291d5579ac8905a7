use Rattle.std.proofs.Common.{◌≡◌, ◌++◌, drop}
use Rattle.serde_json.specs.View.{items_view, members_view}
use Rattle.gl_value.specs.Json.{items_fit, members_fit, items_of, members_of}
use Rattle.gl_value.specs.Proper.{KeepAll}
use Rattle.gl_value.specs.Value.{values_of}
use Rattle.gl_value.proofs.Keeping.{KeepValues}
use Rattle.gl_value.proofs.json.+whole.Given as goal

-- what is read so far, and what is left, are the whole
abbrev pub invariant-list_of-loop-item : goal.invariant-list_of-loop-item
invariant-list_of-loop-item l = record {
  fit : items_fit l.most (items_view l.items.items) ≡ items_fit l.most (items_view (drop l.item-index l.item-items));
  whole : l.list ++ items_of (items_view (drop l.item-index l.item-items)) ≡ items_of (items_view l.items.items);
  keeps : KeepAll (values_of (l.list));
}

abbrev pub invariant-record_of-loop-name : goal.invariant-record_of-loop-name
invariant-record_of-loop-name l =
    (goal.iterator-record_of-loop-name).can_next l.name-iterator × (goal.iterator-record_of-loop-name).is_finite l.name-iterator
    × record {
      fit : members_fit l.most (members_view l.members.entries) ≡ members_fit l.most (members_view l.name-iterator);
      whole : l.record ++ members_of (members_view l.name-iterator) ≡ members_of (members_view l.members.entries);
      keeps : KeepValues (l.record);
    }
