-- The first bytes of a piece are a front of it.
use Rattle.std.proofs.Common.{◌≡◌, ℕ, List, ◌++◌, take, drop, Some, sym, ap}
use Rattle.std.proofs.lemmas.List.{take-append-drop}
use Rattle.gl_base.specs.Taking.{TakesFront}

pub front_of_take : (old new piece : List ℕ) (count : ℕ) → new ≡ old ++ take count piece → TakesFront (Some old) (Some new) piece
front_of_take old new piece count taken =
    (take count piece, drop count piece, sym (take-append-drop count piece), ap Some taken)
