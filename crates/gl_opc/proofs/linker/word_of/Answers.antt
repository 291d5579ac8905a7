use Rattle.gl_ops.proofs.Words.{decoded_exactly}
use Rattle.gl_opc.proofs.linker.word_of.Goals as goal

pub returns-then-first_operand : goal.returns-then-first_operand
returns-then-first_operand c = (decoded_exactly c.encode.result c.args.op.now).1 c.encode.ensures.word
