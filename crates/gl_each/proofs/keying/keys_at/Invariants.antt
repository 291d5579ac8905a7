use Rattle.std.proofs.Common.{◌≡◌, take, map}
use Rattle.std.specs.Str.{chars}
use Rattle.gl_value.specs.View.{seen_items}
use Rattle.gl_each.specs.Counted.{item_keys, first_keys, key_values}
use Rattle.gl_each.specs.Hashed.{value_hash}
use Rattle.gl_each.specs.View.{seen_keys}
use Rattle.gl_each.proofs.keying.keys_at.Given as goal

abbrev pub invariant-loop-index : goal.invariant-loop-index
invariant-loop-index l = record {
  made : seen_keys l.list.items ≡ first_keys (item_keys (chars l.key) 0 (seen_items (take l.index l.items)));
  hashed : l.hashes.items ≡ map value_hash (key_values (seen_keys l.list.items));
}
