use Rattle.std.proofs.Common.{arith}
use Rattle.gl_cycles.specs.Chains.{link}
use Rattle.gl_cycles.proofs.Bits.{marked_within}
use Rattle.gl_cycles.proofs.Closing.{led_closed, led_keeps, led_sound, closed_chain}
use Rattle.gl_cycles.proofs.marks.close.Goals as goal

pub loop-middle-init : goal.loop-middle-init
loop-middle-init c = record { long = c.told-rows; sound = λ i j h. link h; keeps = λ i j h. h; closed = λ k below i j f h. absurd (omega (arith, below)) }

pub loop-middle-preserved : goal.loop-middle-preserved
loop-middle-preserved c =
    let old = c.loop-middle.rows in
    let new = c.lead_through.new.rows in
    let led = c.lead_through.ensures in
    let inv = c.loop-middle.invariant in
    record {
      long = c.lead_through.array_long;
      sound = led_sound c.loop-middle.middle old new led c.args.rows.now inv.sound;
      keeps = λ i j h. led_keeps c.loop-middle.middle old new led i j (inv.keeps i j h);
      closed = led_closed c.loop-middle.middle old new led inv.closed;
    }

pub returns : goal.returns
returns c =
    let inv = c.loop-middle.invariant in
    let all = c.loop-middle.rows in
    λ i j. (inv.sound i j, closed_chain c.args.rows.now all inv.keeps (λ k i j f h. inv.closed k (let within = marked_within all k j h in omega (arith, within, inv.long)) i j f h) i j)
