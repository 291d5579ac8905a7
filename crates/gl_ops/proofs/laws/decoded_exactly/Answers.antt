use Rattle.gl_ops.proofs.Words.{decoded_exactly}
use Rattle.gl_ops.proofs.laws.decoded_exactly.Goals as goal

pub returns : goal.returns
returns c = decoded_exactly c.args.word c.args.op.now
