-- Where a part of what was rendered stands among the children of a parent, and what an update does to it there.
use Rattle.std.specs.Prelude.{◌≡◌, ◌≢◌, ℕ, ◌+◌, ◌<◌, ◌≤◌, List, [], ◌∷◌, ◌++◌, Option, Some, None}
use Rattle.gl_nodes.specs.Forest.{Forest}
use Rattle.gl_nodes.specs.Tree.{Tree}
use Rattle.gl_nodes.specs.Flat.{kids, stands, head_of}
use Rattle.gl_machine.specs.Shape.{Nest, end, tree}
use Rattle.gl_code.specs.Hung.{tops, stands_in}
use Rattle.gl_vm.specs.View.{Tables}

-- the last of a list
abbrev pub last_of : List ℕ → Option ℕ
last_of [] = None
last_of (x ∷ []) = Some x
last_of (x ∷ (y ∷ ys)) = last_of (y ∷ ys)

-- below each node of the nest stands in the forest what is to stand there
abbrev pub Nested : Forest → Nest ℕ → Type 0
Nested f end = Unit {0}
Nested f (tree s k r) = (kids (Some s) f ≡ tops k) × Nested f k × Nested f r

-- The children of a parent, or the trees of the forest, are these, then the trees of the nest, then those. The nodes of the nest stand
-- in the forest, in which each stands once, and so does the parent, which is none of them.
pub record Stood (f : Forest) (p : Option ℕ) (front : List ℕ) (x : Nest ℕ) (back : List ℕ) : Type 0 where
  pub line : kids p f ≡ front ++ (tops x ++ back)
  pub nested : Nested f x
  pub within : (s : ℕ) → stands_in s x ≤ stands s f
  pub once : (s : ℕ) → stands s f ≤ 1
  pub parent : (s : ℕ) → p ≡ Some s → 0 < stands s f
  pub apart : (s : ℕ) → p ≡ Some s → stands_in s x ≡ 0

-- In the place of one nest another one stands, and all else is as it was.
pub record Replaced (f g : Forest) (p : Option ℕ) (front : List ℕ) (x y : Nest ℕ) (back : List ℕ) : Type 0 where
  pub stood : Stood g p front y back
  pub others : (q : Option ℕ) → q ≢ p → ((s : ℕ) → q ≡ Some s → (stands_in s x ≡ 0) × (stands_in s y ≡ 0)) → kids q g ≡ kids q f
  pub counts : (s : ℕ) → stands s g + stands_in s x ≡ stands s f + stands_in s y

-- wherever among the children of the parent it stood
abbrev pub Replaces : Forest → Forest → Option ℕ → Nest ℕ → Nest ℕ → Type 0
Replaces f g p x y = (front back : List ℕ) → Stood f p front x back → Replaced f g p front x y back

-- It is gone, whatever its parent was.
abbrev pub Unseats : Forest → Forest → Nest ℕ → Type 0
Unseats f g x = (p : Option ℕ) → Replaces f g p x end

-- one after another, wherever each stood
abbrev pub UnseatsEach : Forest → Forest → List (Nest ℕ) → Type 0
UnseatsEach f g [] = g ≡ f
UnseatsEach f g (x ∷ xs) = (h : Forest) × Unseats f h x × UnseatsEach h g xs

-- Nodes that stood nowhere stand before the next one of the children of a parent, or at their end.
abbrev pub SeatsBefore : Forest → Forest → Option ℕ → Option ℕ → Nest ℕ → Type 0
SeatsBefore f g p next y = (front back : List ℕ) → Stood f p front end back → next ≡ head_of back → Replaced f g p front end y back

-- A nest stands elsewhere among the children of its parent, and all else is as it was.
pub record Shifted (f g : Forest) (p : Option ℕ) (x : Nest ℕ) (left right : List ℕ) : Type 0 where
  pub stood : Stood g p left x right
  pub others : (q : Option ℕ) → q ≢ p → kids q g ≡ kids q f
  pub counts : (s : ℕ) → stands s g ≡ stands s f

-- It stands before the next one of the others, or at their end.
abbrev pub ShiftsBefore : Forest → Forest → Option ℕ → Option ℕ → Nest ℕ → Type 0
ShiftsBefore f g p next x =
    (front back : List ℕ) → Stood f p front x back → (left right : List ℕ) → front ++ back ≡ left ++ right → next ≡ head_of right → Shifted f g p x left right

-- the next one is the first that stands behind a nest, or there is none
abbrev pub IsBehind : Forest → Option ℕ → Nest ℕ → Option ℕ → Type 0
IsBehind f p x next = (front back : List ℕ) → Stood f p front x back → next ≡ head_of back

-- the next one is the first of a nest with what stands behind it
abbrev pub IsBefore : Nest ℕ → Option ℕ → Type 0
IsBefore x next = (back : List ℕ) → next ≡ head_of (tops x ++ back)

-- What an update does to the nodes of a part below a parent: the new ones stand in the place of the old ones, and as many ranges of
-- nodes were moved as items were counted.
pub record NodesRenewed (old new : Tree) (before after : ℕ) (p : Option ℕ) (x y : Tables → Nest ℕ) : Type 0 where
  pub replaces : (n : Tables) → Replaces old.forest new.forest p (x n) (y n)
  pub moves : new.moves + before ≡ old.moves + after
