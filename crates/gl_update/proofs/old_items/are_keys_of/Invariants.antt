use Rattle.std.proofs.Common.{◌≡◌, map, drop}
use Rattle.gl_each.specs.View.{seen_keys}
use Rattle.gl_update.specs.OldItems.{raw_key}
use Rattle.gl_update.proofs.old_items.are_keys_of.Given as goal

-- where what is left agrees, all does
abbrev pub invariant-loop-place : goal.invariant-loop-place
invariant-loop-place l = seen_keys (drop l.place l.keys) ≡ map raw_key (drop l.place l.items) → seen_keys l.keys ≡ map raw_key l.items
