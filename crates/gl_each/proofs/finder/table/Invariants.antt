use Rattle.std.proofs.Common.{◌≡◌, take}
use Rattle.gl_each.specs.View.{seen_keys}
use Rattle.gl_each.proofs.finder.table.Given as goal

abbrev pub invariant-loop-key : goal.invariant-loop-key
invariant-loop-key l = l.places.keys ≡ seen_keys (take l.key-index l.old)
