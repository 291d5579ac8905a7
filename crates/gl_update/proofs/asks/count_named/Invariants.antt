use Rattle.std.proofs.Common.{◌≡◌, ◌+◌, ◌≤◌, drop}
use Rattle.gl_vm.specs.Steps.{times_named}
use Rattle.gl_update.proofs.asks.count_named.Given as goal

abbrev pub invariant-loop-attr : goal.invariant-loop-attr
invariant-loop-attr l = record {
  counts : l.count + times_named l.name (drop l.attr-index l.attrs) ≡ times_named l.name l.attrs;
  most : l.count ≤ l.attr-index;
}
