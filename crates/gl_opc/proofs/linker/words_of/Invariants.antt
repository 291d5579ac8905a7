use Rattle.std.proofs.Common.{◌≡◌, ◌++◌, map, Some, drop}
use Rattle.gl_ops.specs.Words.{decoded}
use Rattle.gl_opc.proofs.linker.words_of.Given as goal

-- the opcodes of the words so far and those that are left are all
abbrev pub invariant-loop-op : goal.invariant-loop-op
invariant-loop-op l = map decoded l.words ++ map Some (drop l.op-index l.ops) ≡ map Some l.ops
