use Rattle.std.proofs.Common.{length}
use Rattle.gl_ast.specs.declared.token.TokenKind.TheVariants as k
use Rattle.gl_parse.specs.ReadValue.{read_quoted_text}
use Rattle.gl_exprs.specs.Take.{stands, read_many}
use Rattle.gl_exprs.proofs.Many.{IsLeft}
use Rattle.gl_parse.proofs.value.quoted_texts.Given as goal

abbrev pub invariant-loop-alloc : goal.invariant-loop-alloc
invariant-loop-alloc l = IsLeft (stands k.Text) read_quoted_text l.list l.tokens (read_many (stands k.Text) read_quoted_text (length l.fn.tokens) l.fn.tokens)

abbrev pub decreases-loop-alloc : goal.decreases-loop-alloc
decreases-loop-alloc l = length l.tokens
