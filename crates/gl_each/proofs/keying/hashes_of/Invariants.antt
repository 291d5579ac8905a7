use Rattle.std.proofs.Common.{◌≡◌, ◌++◌, map, drop}
use Rattle.gl_each.specs.Counted.{key_values}
use Rattle.gl_each.specs.Hashed.{value_hash}
use Rattle.gl_each.specs.View.{seen_keys}
use Rattle.gl_each.proofs.keying.hashes_of.Given as goal

abbrev pub invariant-loop-key : goal.invariant-loop-key
invariant-loop-key l = l.hashes.items ++ map value_hash (key_values (seen_keys (drop l.key-index l.keys))) ≡ map value_hash (key_values (seen_keys l.keys))
