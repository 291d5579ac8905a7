use Rattle.std.proofs.Common.{arith}
use Rattle.gl_ast.specs.Template.{named_of}
use Rattle.gl_show.proofs.Arguments.{has_named, has_some}
use Rattle.gl_show.proofs.expression.has_argument.Goals as goal

pub returns-in-empty : goal.returns-in-empty
returns-in-empty c = has_named c.as_slice.result.now _ c.as_slice-in-empty.result.now _ _ c.as_slice.ensures (omega arith) c.as_slice-in-empty.ensures c.is_empty.ensures

pub returns-in-len1-up : goal.returns-in-len1-up
returns-in-len1-up c = has_some c.as_slice.result.now _ (named_of c.args.named.now) c.as_slice.ensures (omega arith)
