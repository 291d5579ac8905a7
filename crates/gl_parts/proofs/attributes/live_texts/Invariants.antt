use Rattle.std.proofs.Common.{◌≡◌, ◌++◌, map, drop, Bool}
use Rattle.gl_meaning.specs.Scope.{Source}
use Rattle.gl_plain.specs.State.{pair_of}
use Rattle.gl_vm.specs.View.{Tables, stamps, state_of}
use Rattle.gl_parts.specs.Parts.{texts_given}
use Rattle.gl_parts.proofs.attributes.live_texts.Given as goal

abbrev pub invariant-loop-id : goal.invariant-loop-id
invariant-loop-id l = (n : Tables) (u : Source → Bool) → l.texts ++ texts_given (map (pair_of (state_of n l.vm u).look) (stamps (drop l.id-index l.ids))) ≡ texts_given (map (pair_of (state_of n l.vm u).look) (stamps l.ids))
