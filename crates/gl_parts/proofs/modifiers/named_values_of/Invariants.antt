use Rattle.std.proofs.Common.{◌≡◌, ◌++◌, map, drop, Bool}
use Rattle.gl_meaning.specs.Scope.{Source}
use Rattle.gl_plain.specs.State.{pair_of}
use Rattle.gl_vm.specs.Labels.{names_labelled}
use Rattle.gl_vm.specs.View.{Tables, name_stamps, state_of}
use Rattle.gl_parts.proofs.modifiers.named_values_of.Given as goal

abbrev pub invariant-loop-entry : goal.invariant-loop-entry
invariant-loop-entry l = (n : Tables) (u : Source → Bool) → names_labelled l.values ++ map (λ y. (y.0, (pair_of (state_of n l.vm u).look y.1).value)) (name_stamps (drop l.entry-index l.named)) ≡ map (λ y. (y.0, (pair_of (state_of n l.vm u).look y.1).value)) (name_stamps l.named)
