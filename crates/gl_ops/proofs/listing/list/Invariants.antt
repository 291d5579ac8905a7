use Rattle.std.proofs.Common.{◌≡◌, ◌++◌, List, drop}
use Rattle.gl_ops.specs.Lines.{lines_of, AreWordsOf}
use Rattle.gl_ops.specs.declared.op.Op.{Op}
use Rattle.gl_ops.proofs.listing.list.Given as goal

-- the text so far and the lines of the words that are left are all lines
abbrev pub invariant-loop-address : goal.invariant-loop-address
invariant-loop-address l = (ops : List Op) → AreWordsOf ops l.words → l.out ++ lines_of l.address (drop l.address ops) ≡ lines_of 0 ops
