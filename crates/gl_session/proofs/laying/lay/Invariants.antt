use Rattle.std.proofs.Common.{◌≡◌, vec_len}
use Rattle.gl_vm.specs.View.{Calm}
use Rattle.gl_session.proofs.Laid.{LaidSoFar}
use Rattle.gl_session.proofs.laying.lay.Given as goal

-- what is left to do makes all of it
abbrev pub invariant-loop-given : goal.invariant-loop-given
invariant-loop-given l = record {
  left : LaidSoFar l.fn.givens.items l.fn.vm l.waiting.items l.vm;
  calm : Calm l.fn.vm → Calm l.vm;
  tree : l.vm.tree ≡ l.fn.vm.tree;
}

abbrev pub decreases-loop-given : goal.decreases-loop-given
decreases-loop-given l = vec_len l.waiting
