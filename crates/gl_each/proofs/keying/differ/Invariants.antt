use Rattle.std.proofs.Common.{◌≡◌, ℕ, [], take}
use Rattle.std.specs.Prelude.{nat_eq}
use Rattle.std.specs.List.{list_any}
use Rattle.std.specs.HashSet.{contains}
use Rattle.gl_each.specs.Counted.{AreNew}
use Rattle.gl_each.proofs.keying.differ.Given as goal

abbrev pub invariant-loop-number : goal.invariant-loop-number
invariant-loop-number l = record {
  new : AreNew [] (take l.number-index l.numbers);
  held : (n : ℕ) → contains nat_eq l.seen n ≡ list_any (nat_eq n) (take l.number-index l.numbers);
}
