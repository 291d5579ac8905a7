use Rattle.std.proofs.Common.{◌≡◌, ◌++◌, map, drop, Bool}
use Rattle.gl_meaning.specs.Scope.{Source}
use Rattle.gl_plain.specs.State.{pair_of}
use Rattle.gl_vm.specs.Labels.{all_labelled}
use Rattle.gl_vm.specs.View.{Tables, stamps, state_of}
use Rattle.gl_parts.proofs.modifiers.values_got.Given as goal

abbrev pub invariant-loop-id : goal.invariant-loop-id
invariant-loop-id l = (n : Tables) (u : Source → Bool) → all_labelled l.values ++ map (λ r. (pair_of (state_of n l.vm u).look r).value) (stamps (drop l.id-index l.ids)) ≡ map (λ r. (pair_of (state_of n l.vm u).look r).value) (stamps l.ids)
