use Rattle.std.proofs.Common.{refl}
use Rattle.gl_ops.proofs.Lines.{read_op, line_more, no_line}
use Rattle.gl_ops.proofs.listing.list.Goals as goal

pub unwrap-op-requires : goal.unwrap-op-requires
unwrap-op-requires c =
    let p = read_op c.requires.0 c.args.words.now c.loop-address.address _ c.decode.result c.requires.1 c.loop-address-test.true c.decode.ensures.value in
    rw p.1.0 refl

pub loop-address-preserved : goal.loop-address-preserved
loop-address-preserved c = λ ops h.
    line_more ops c.args.words.now c.loop-address.address _ c.decode.result c.unwrap-op.result c.loop-address.out c.push_line.new.out h c.loop-address-test.true c.decode.ensures.value c.unwrap-op.ensures c.in_ok-push_line.ensures (c.loop-address.invariant ops h)

pub returns : goal.returns
returns c = λ ops h. no_line ops c.args.words.now c.loop-address.address c.loop-address.out h c.loop-address-test.false (c.loop-address.invariant ops h)
