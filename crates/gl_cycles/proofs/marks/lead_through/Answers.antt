use Rattle.std.proofs.Common.{◌∙◌, get_or, arith, inl, inr}
use Rattle.gl_cycles.proofs.Bits.{less_or}
use Rattle.gl_cycles.proofs.Closing.{through_past}
use Rattle.gl_cycles.proofs.marks.lead_through.Goals as goal

pub returns : goal.returns
returns c = λ k.
    let inv = c.loop-row.invariant in
    elim (less_or k c.loop-row.row-index) [
      | inl x ↦ inv.led k x
      | inr y ↦ inv.kept k y ∙ through_past c.args.middle (get_or c.args.rows.now c.args.middle 0) c.args.rows.now k (omega (arith, y, c.told-rows, c.loop-row-test.false))
    ]
