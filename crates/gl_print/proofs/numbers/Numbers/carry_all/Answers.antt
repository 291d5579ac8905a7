use Rattle.std.proofs.Common.{◌∙◌, ap, sym}
use Rattle.gl_print.specs.Numbers.{at, carried}
use Rattle.gl_print.proofs.Carries.{carried-go, carried-end, front-go, front-is, always}
use Rattle.gl_print.proofs.numbers.Numbers.carry_all.Goals as goal

pub loop-pair-preserved : goal.loop-pair-preserved
loop-pair-preserved c =
    let one = c.in_ok-carry_one.ensures {u = tt} in
    record {
      left = carried-go (λ i. at i c.loop-pair.self.of) (λ i. at i c.carry_one.new.self.of) c.as_slice-pair-items.result.now c.loop-pair.pair-index c.pair-item.result c.loop-pair-test.true c.pair-item.is one.of ∙ c.loop-pair.invariant.left;
      front = front-go (λ i. at i c.args.self.now.of) (λ i. at i c.loop-pair.self.of) (λ i. at i c.carry_one.new.self.of) c.as_slice-pair-items.result.now c.loop-pair.pair-index c.pair-item.result c.loop-pair-test.true c.pair-item.is one.of c.loop-pair.invariant.front;
      next = one.next ∙ c.loop-pair.invariant.next;
    }

pub returns-clause-of : goal.returns-clause-of
returns-clause-of c =
    sym (carried-end (λ i. at i c.loop-pair.self.of) c.as_slice-pair-items.result.now c.loop-pair.pair-index c.loop-pair-test.false)
    ∙ (c.loop-pair.invariant.left ∙ ap (carried (λ i. at i c.args.self.now.of)) c.as_slice-pair-items.ensures)

pub returns-in_err-carry_one-clause-err : goal.returns-in_err-carry_one-clause-err
returns-in_err-carry_one-clause-err c =
    let same = (c.in_err-carry_one.ensures {u = tt}).err in
    always c.from_residual.result
    (front-is (λ i. at i c.args.self.now.of) (λ i. at i c.carry_one.new.self.of) c.args.pairs.now c.as_slice-pair-items.result.now c.loop-pair.pair-index (ap (λ t. λ i. at i t.of) same ∙ c.loop-pair.invariant.front) c.as_slice-pair-items.ensures)
