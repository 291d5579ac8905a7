use Rattle.std.proofs.Common.{◌≡◌, ◌++◌, Bool, drop}
use Rattle.gl_meaning.specs.Scope.{Source}
use Rattle.gl_plain.specs.State.{pair_of}
use Rattle.gl_plain.specs.Tags.{named_with}
use Rattle.gl_vm.specs.Labels.{names_labelled}
use Rattle.gl_vm.specs.View.{Tables, state_of}
use Rattle.gl_update.proofs.Arguments.{given}
use Rattle.gl_update.proofs.modifiers.paired.Given as goal

abbrev pub invariant-loop-place : goal.invariant-loop-place
invariant-loop-place l = (n : Tables) (u : Source → Bool) →
    names_labelled l.values ++ named_with (drop l.place l.names) (given (pair_of (state_of n l.vm u).look) (drop l.place l.ids)) ≡ named_with l.names (given (pair_of (state_of n l.vm u).look) l.ids)
