use Rattle.std.proofs.Common.{arith}
use Rattle.gl_exprs.proofs.TokenPieces.{split_front}
use Rattle.gl_exprs.proofs.path.segment.Goals as goal

pub loop-c-init : goal.loop-c-init
loop-c-init c = (c.copy-ahead.ensures, rw c.new-out.ensures (split_front 46 c.args.scan.now), omega arith)
