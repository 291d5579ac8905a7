use Rattle.std.proofs.Common.{◌≡◌, ℕ, take}
use Rattle.std.specs.Prelude.{unwrap_or}
use Rattle.indexmap.specs.IndexMap.{get}
use Rattle.gl_value.specs.Value.{Value}
use Rattle.gl_each.specs.Key.{same_key}
use Rattle.gl_each.specs.Counted.{times, counts, key_values}
use Rattle.gl_each.specs.View.{seen_keys}
use Rattle.gl_each.proofs.keying.occurrences.Given as goal

abbrev pub invariant-loop-key : goal.invariant-loop-key
invariant-loop-key l = record {
  counted : l.list.items ≡ counts (key_values (seen_keys (take l.key-index l.keys)));
  held : (v : Value ℕ) → unwrap_or (get same_key l.seen (v, 0)) 0 ≡ times v (key_values (seen_keys (take l.key-index l.keys)));
}
