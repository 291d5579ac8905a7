use Rattle.std.proofs.Common.{◌≡◌}
use Rattle.gl_opc.proofs.NamePlaces.{seen}
use Rattle.gl_opc.proofs.pool.Pool.into_texts.Given as goal

abbrev pub invariant-loop-text : goal.invariant-loop-text
invariant-loop-text l = l.texts ≡ seen l.yielded
