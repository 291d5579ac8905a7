use Rattle.std.proofs.Common.{◌≡◌, ℕ}
use Rattle.gl_refs.specs.Watch.{span_at}
use Rattle.gl_refs.proofs.watch.reach.Given as goal

abbrev pub invariant-loop : goal.invariant-loop
invariant-loop l = (p : ℕ) → span_at l.spans.items p ≡ span_at l.fn.spans.items p
