use Rattle.std.proofs.Common.{length}
use Rattle.gl_parse.proofs.Items.{AreLeft}
use Rattle.gl_parse.proofs.item.items.Given as goal

abbrev pub invariant-loop-alloc : goal.invariant-loop-alloc
invariant-loop-alloc l = AreLeft l.fn.component l.found.parts l.found.args l.tokens l.fn.tokens

abbrev pub decreases-loop-alloc : goal.decreases-loop-alloc
decreases-loop-alloc l = length l.tokens
