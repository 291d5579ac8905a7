-- The nodes of what was rendered as they stand in the tree.
use Rattle.std.specs.Prelude.{◌≡◌, ◌≢◌, ℕ, ◌+◌, ◌<◌, List, [], ◌∷◌, ◌++◌, Option, Some}
use Rattle.gl_nodes.specs.Forest as f
use Rattle.gl_nodes.specs.Tree.{Tree}
use Rattle.gl_nodes.specs.Flat.{same_stamp, stands, children}
use Rattle.gl_machine.specs.Shape.{Nest, end, tree}

-- the numbers of the trees themselves
abbrev pub tops : Nest ℕ → List ℕ
tops end = []
tops (tree s k r) = s ∷ tops r

-- how often a number stands in a nest
abbrev pub stands_in : ℕ → Nest ℕ → ℕ
stands_in q end = 0
stands_in q (tree s k r) = same_stamp q s + (stands_in q k + stands_in q r)

-- the children of each node of the nest are the nodes that are to stand in it, in their order
abbrev pub Hung : Tree → Nest ℕ → Type 0
Hung t end = Unit {0}
Hung t (tree s k r) = (children t (Some s) ≡ tops k) × Hung t k × Hung t r

-- A nest of nodes that were not in the forest hangs at the end of the children of a parent, and all else is as before.
pub record Hangs (old new : Tree) (p : Option ℕ) (n : Nest ℕ) : Type 0 where
  pub top : children new p ≡ children old p ++ tops n
  pub below : Hung new n
  pub others : (q : Option ℕ) → q ≢ p → ((s : ℕ) → q ≡ Some s → stands_in s n ≡ 0) → children new q ≡ children old q
  pub counts : (s : ℕ) → stands s new.forest ≡ stands s old.forest + stands_in s n
  pub out : (s : ℕ) → 0 < stands_in s n → stands s old.forest ≡ 0
  pub parent : (s : ℕ) → p ≡ Some s → stands_in s n ≡ 0
  pub nodes : new.nodes ≡ old.nodes

-- the forest by the numbers of its nodes
abbrev pub nest_of : f.Forest → Nest ℕ
nest_of f.end = end
nest_of (f.tree i k r) = tree i.1 (nest_of k) (nest_of r)
