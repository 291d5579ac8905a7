use Rattle.std.proofs.Common.{rules}
use Rattle.gl_wirein.proofs.Sameness.{differ_items}
use Rattle.gl_wirein.proofs.same.+same.Goals as goal

pub same_items-returns-then-len : goal.same_items-returns-then-len
same_items-returns-then-len t c = differ_items c.args.ones.now.items c.args.withs.now.items (λ e. c.if-len.true (search rules))
