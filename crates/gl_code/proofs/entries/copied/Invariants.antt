use Rattle.std.proofs.Common.{◌≡◌, take}
use Rattle.gl_each.specs.View.{seen_keys}
use Rattle.gl_code.proofs.entries.copied.Given as goal

-- what is copied so far is a copy of the first keys
abbrev pub invariant-loop-key : goal.invariant-loop-key
invariant-loop-key l = seen_keys l.list.items ≡ seen_keys (take l.key-index l.keys)
