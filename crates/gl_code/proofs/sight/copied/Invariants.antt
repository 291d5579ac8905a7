use Rattle.std.proofs.Common.{◌≡◌, ◌++◌, drop}
use Rattle.gl_code.specs.View.{shared}
use Rattle.gl_code.proofs.sight.copied.Given as goal

abbrev pub invariant-loop-link : goal.invariant-loop-link
invariant-loop-link l = shared l.list.items ++ shared (drop l.link-index l.chain) ≡ shared l.chain
