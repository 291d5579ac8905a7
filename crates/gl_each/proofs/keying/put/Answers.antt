use Rattle.std.proofs.Common.{◌≡◌, ℕ, ap, sym, get_or, arith}
use Rattle.gl_each.specs.View.{seen_keys}
use Rattle.gl_each.proofs.Keyings.{put_none, put_step, put_past}
use Rattle.gl_each.proofs.Plans.{get_or-within}
use Rattle.gl_each.proofs.keying.put.Goals as goal
use Rattle.gl_each.proofs.keying.put.Goals.{then-place-len, else-place-len}

pub loop-place-init : goal.loop-place-init
loop-place-init c = sym (put_none (seen_keys c.args.keys.items))

pub loop-place-preserved : goal.loop-place-preserved
loop-place-preserved c =
    let n : ℕ = get_or c.args.counts.now c.loop-place.place 0 in
    let is : n ≡ get_or c.args.counts.now c.loop-place.place n = get_or-within c.args.counts.now c.loop-place.place 0 n c.loop-place-test.true in
    elim c.if-place-len.branch [
      | then-place-len w ↦ put_step (seen_keys c.args.keys.items) c.args.counts.now c.loop-place.place n c.loop-place.list.items c.if-place-len.list.items w.index_mut.result.now c.loop-place-test.true is (omega (arith, c.len.ensures, w.if-place-len.true)) w.index_mut.ensures.value c.loop-place.invariant (ap (λ v. v.items) w.list-is)
      | else-place-len w ↦ put_past (seen_keys c.args.keys.items) c.args.counts.now c.loop-place.place n c.loop-place.list.items c.if-place-len.list.items c.loop-place-test.true is (omega (arith, c.len.ensures, w.if-place-len.false)) c.loop-place.invariant (ap (λ v. v.items) w.list-is)
    ]
