use Rattle.std.proofs.Common.{◌≡◌, ◌∷◌, [], length}
use Rattle.gl_parse.specs.Due.{refused}
use Rattle.gl_parse.specs.Dues.{due_view, seen}
use Rattle.gl_parse.proofs.place.place.Given as goal

abbrev pub invariant-loop-rest : goal.invariant-loop-rest
invariant-loop-rest l = refused (seen l.list.items) l.rest ≡ refused (due_view l.fn.first ∷ []) l.fn.tokens

abbrev pub decreases-loop-rest : goal.decreases-loop-rest
decreases-loop-rest l = length l.rest
