-- The nodes of a page by look-ups: the children of a node, and the nodes at the top.
use Rattle.std.specs.Prelude.{ℕ, List, [], ◌∷◌, ◌++◌, Bool, ◌==◌, if◌then◌else◌, Option, Some, None}
use Rattle.gl_meaning.specs.Path.{Path, path_eq}
use Rattle.gl_plain.specs.State.{Content}
use Rattle.gl_plain.specs.Live.{Live}
use Rattle.gl_machine.specs.Shape.{Nest, end, tree, placed_nest}

-- the nodes at the top of a nest
abbrev pub tops : {A : Type 0} → Nest A → List A
tops end = []
tops (tree n k r) = n ∷ tops r

-- what stands in the nodes that pass the test
abbrev pub kids_where : {A : Type 0} → (A → Bool) → Nest A → List A
kids_where p end = []
kids_where p (tree n k r) = (if p n then tops k else []) ++ (kids_where p k ++ kids_where p r)

-- The children of a node by its number, or the nodes at the top.
abbrev pub children : Option ℕ → Nest ℕ → List ℕ
children None f = tops f
children (Some n) f = kids_where (λ i. n == i) f

-- the same of a tree, each with its path
abbrev pub placed_children : Option ℕ → Live → List (Path × ℕ)
placed_children None l = tops (placed_nest [] l)
placed_children (Some n) l = kids_where (λ x. n == x.1) (placed_nest [] l)

-- and of a rendering, by the path of an element
abbrev pub drawn_children : Option Path → Nest (Path × Content) → List (Path × Content)
drawn_children None f = tops f
drawn_children (Some q) f = kids_where (λ x. path_eq q x.0) f
