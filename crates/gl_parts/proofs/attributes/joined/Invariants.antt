use Rattle.std.proofs.Common.{◌≡◌, drop}
use Rattle.gl_meaning.specs.Parts.{spaced}
use Rattle.gl_parts.specs.Parts.{words_of, spaced_after}
use Rattle.gl_parts.proofs.attributes.joined.Given as goal

abbrev pub invariant-loop-text : goal.invariant-loop-text
invariant-loop-text l = spaced_after l.out (words_of (drop l.text-index l.texts)) ≡ spaced (words_of l.texts)
