use Rattle.std.proofs.Common.{◌∙◌}
use Rattle.gl_ops.specs.Words.{IsWordOf}
use Rattle.gl_ops.proofs.Words.{decoded_by_masks, decoded_exactly, decode_none}
use Rattle.gl_ops.proofs.word.decode.Goals as goal

pub returns-clause-function : goal.returns-clause-function
returns-clause-function c = c.op_with.ensures ∙ decoded_by_masks c.args.word

pub returns-clause-value : goal.returns-clause-value
returns-clause-value c = λ op. rw (returns-clause-function c) (decoded_exactly c.args.word op)

pub returns-clause-none : goal.returns-clause-none
returns-clause-none c = decode_none c.op_with.result (λ op. IsWordOf op c.args.word) (returns-clause-value c)
