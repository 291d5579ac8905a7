use Rattle.std.proofs.Common.{◌≡◌, ◌∙◌, ℕ, sym, get_or}
use Rattle.std.specs.Prelude.{nat_eq}
use Rattle.std.specs.HashSet.{contains}
use Rattle.gl_each.proofs.Keyings.{new_more, seen_more, was_new}
use Rattle.gl_each.proofs.Plans.{get_or-within}
use Rattle.gl_each.proofs.keying.differ.Goals as goal

pub loop-number-preserved : goal.loop-number-preserved
loop-number-preserved c =
    let n : ℕ = get_or c.args.numbers.now c.loop-number.number-index 0 in
    let is : n ≡ get_or c.args.numbers.now c.loop-number.number-index n = get_or-within c.args.numbers.now c.loop-number.number-index 0 n c.loop-number-test.true in
    record {
      new = new_more c.args.numbers.now c.loop-number.number-index n c.loop-number-test.true is c.loop-number.invariant.new (sym (c.loop-number.invariant.held n) ∙ was_new _ _ c.if-not-branch.false c.in_ok-insert.ensures.added);
      held = seen_more c.args.numbers.now c.loop-number.number-index n (contains nat_eq c.loop-number.seen) (contains nat_eq c.insert.new.self) c.loop-number-test.true is c.in_ok-insert.ensures.updates.0 c.loop-number.invariant.held;
    }
