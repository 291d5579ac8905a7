-- Steps that put no node into the tree, move none and take none out, one after another.
use Rattle.std.proofs.Common.{◌≡◌, refl, ◌∙◌, ap}
use Rattle.gl_nodes.specs.Tree.{Tree}
use Rattle.gl_vm.specs.Steps.{Rooted}

pub roots_refl : (t : Tree) → Rooted t t
roots_refl t = record { forest = refl; moves = refl }

pub roots_then : (old mid new : Tree) → Rooted old mid → Rooted mid new → Rooted old new
roots_then old mid new a b = record { forest = b.forest ∙ a.forest; moves = b.moves ∙ a.moves }

-- the tree is the same
pub roots_same : (old new : Tree) → new ≡ old → Rooted old new
roots_same old new e = record { forest = ap (λ t. t.forest) e; moves = ap (λ t. t.moves) e }
