use Rattle.std.proofs.Common.{◌≡◌, ◌++◌, drop, flat_map}
use Rattle.std.specs.Prelude.{◌||◌}
use Rattle.std.specs.List.{list_any}
use Rattle.gl_value.specs.Value.{text_of}
use Rattle.gl_value.specs.View.{seen_items}
use Rattle.gl_actions.proofs.Joined.{is_there}
use Rattle.gl_actions.proofs.plainly.joined.Given as goal

abbrev pub invariant-loop-value : goal.invariant-loop-value
invariant-loop-value l = record {
  text : l.text ++ flat_map text_of (seen_items (drop l.value-index l.values)) ≡ flat_map text_of (seen_items l.values);
  some : (l.some || list_any is_there (seen_items (drop l.value-index l.values))) ≡ list_any is_there (seen_items l.values);
}
