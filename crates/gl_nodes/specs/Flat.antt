-- A tree of nodes by flat look-ups: the stamps of the children of a parent, and the node of a stamp. A stamp is how
-- many nodes were put into the arena before, so the stamp of the next node is known before it is made.
use Rattle.std.specs.Prelude.{◌≡◌, ◌≢◌, ℕ, zero, suc, ◌+◌, ◌<◌, ◌≤◌, ◌==◌, Bool, true, false, not, List, [], ◌∷◌, ◌++◌, Option, Some, None, if◌then◌else◌, option_map}
use Rattle.gl_arena.specs.Id.{Id}
use Rattle.gl_arena.specs.Arena.{by_stamp, IsStamped, IsOwn}
use Rattle.gl_nodes.specs.Node.{Node}
use Rattle.gl_nodes.specs.Forest.{Forest, end, tree, leaf, below, run, without, IsAmong, IsRun}
use Rattle.gl_nodes.specs.Tree.{Tree, IsSound, IsPlace, ParentIsElement, Range}

-- 1 where the stamps are the same, and else 0
unfoldable pub same_stamp : ℕ → ℕ → ℕ
same_stamp s q = if s == q then 1 else 0

-- how often a stamp stands in a forest
abbrev pub stands : ℕ → Forest → ℕ
stands s end = 0
stands s (tree i k r) = same_stamp s i.1 + (stands s k + stands s r)

-- the stamps of the trees themselves
abbrev pub tops : Forest → List ℕ
tops end = []
tops (tree i k r) = i.1 ∷ tops r

-- the stamps of the children of a node, none where it does not stand there
abbrev pub kids_in : ℕ → Forest → List ℕ
kids_in s end = []
kids_in s (tree i k r) = (if s == i.1 then tops k else []) ++ (kids_in s k ++ kids_in s r)

-- of a node, or of the forest where there is none
abbrev pub kids : Option ℕ → Forest → List ℕ
kids None f = tops f
kids (Some s) f = kids_in s f

-- The two look-ups: the children of a node, or the trees of the forest, and the node of a stamp.

abbrev pub children : Tree → Option ℕ → List ℕ
children t p = kids p t.forest

abbrev pub node_by : Tree → ℕ → Option Node
node_by t s = by_stamp t.nodes s

abbrev pub stamp_of : Option Id → Option ℕ
stamp_of o = option_map (λ i. i.1) o

-- Lists of stamps.

-- the first
abbrev pub head_of : List ℕ → Option ℕ
head_of [] = None
head_of (x ∷ xs) = Some x

-- the last of a list that begins with x
abbrev pub last_from : ℕ → List ℕ → ℕ
last_from x [] = x
last_from x (y ∷ ys) = last_from y ys

-- what stands before a stamp, and from it on
abbrev pub before : ℕ → List ℕ → List ℕ
before s [] = []
before s (x ∷ xs) = if x == s then [] else x ∷ before s xs

abbrev pub onward : ℕ → List ℕ → List ℕ
onward s [] = []
onward s (x ∷ xs) = if x == s then x ∷ xs else onward s xs

-- what stands up to a stamp and with it, and after it
abbrev pub up_to : ℕ → List ℕ → List ℕ
up_to s [] = []
up_to s (x ∷ xs) = if x == s then x ∷ [] else x ∷ up_to s xs

abbrev pub beyond : ℕ → List ℕ → List ℕ
beyond s [] = []
beyond s (x ∷ xs) = if x == s then xs else beyond s xs

-- a stamp put into a list before another, or at the end
abbrev pub placed : Option ℕ → ℕ → List ℕ → List ℕ
placed None s xs = xs ++ s ∷ []
placed (Some n) s [] = s ∷ []
placed (Some n) s (x ∷ xs) = if x == n then s ∷ (x ∷ xs) else x ∷ placed (Some n) s xs

-- the stamps from x to y, the others, and a list of stamps put in before another or at the end
abbrev pub run_from : ℕ → ℕ → List ℕ → List ℕ
run_from x y xs = up_to y (onward x xs)

abbrev pub cut : ℕ → ℕ → List ℕ → List ℕ
cut x y xs = before x xs ++ beyond y (onward x xs)

abbrev pub placed_run : Option ℕ → List ℕ → List ℕ → List ℕ
placed_run None run xs = xs ++ run
placed_run (Some n) run xs = before n xs ++ (run ++ onward n xs)

-- the stamps from x to y, put in before a third or at the end
abbrev pub shifted : ℕ → ℕ → Option ℕ → List ℕ → List ℕ
shifted x y next xs = placed_run next (run_from x y xs) (cut x y xs)

-- What each call does.

-- each id stands once and names a node, each stamp stands once, and no two live ids have one stamp
pub record IsFlat (t : Tree) : Type 0 where
  pub sound : IsSound t
  pub stamped : IsStamped t.nodes
  pub once : (s : ℕ) → stands s t.forest ≤ 1

-- A node stands before the child next of a parent, or at the end, and all else is as before.
pub record PutsFlat (old new : Tree) (p next : Option ℕ) (s : ℕ) : Type 0 where
  pub is : children new p ≡ placed next s (children old p)
  pub here : (front back : List ℕ) → children old p ≡ front ++ back → head_of back ≡ next → children new p ≡ front ++ s ∷ back
  pub others : (q : Option ℕ) → q ≢ p → children new q ≡ children old q
  pub counts : (q : ℕ) → stands q new.forest ≡ stands q old.forest + same_stamp q s
  pub nodes : new.nodes ≡ old.nodes

-- A node that was not in the forest stands at the end of the children of a parent that was there.
pub record PutsLast (old new : Tree) (p : Option ℕ) (s : ℕ) : Type 0 where
  pub puts : PutsFlat old new p None s
  pub out : stands s old.forest ≡ 0
  pub parent : (q : ℕ) → p ≡ Some q → 0 < stands q old.forest

-- The run from x to y is gone from a parent's children, what stood in it has no children and no node, and all else is
-- as before.
pub record RemovesFlat (old new : Tree) (p : Option ℕ) (x y : ℕ) (gone : Forest) : Type 0 where
  pub is : children new p ≡ cut x y (children old p)
  pub here : (front rest back : List ℕ) → children old p ≡ front ++ ((x ∷ rest) ++ back) → last_from x rest ≡ y → children new p ≡ front ++ back
  pub others : (q : Option ℕ) → q ≢ p → ((s : ℕ) → q ≡ Some s → stands s gone ≡ 0) → children new q ≡ children old q
  pub parent : (s : ℕ) → p ≡ Some s → stands s gone ≡ 0
  pub counts : (q : ℕ) → stands q new.forest + stands q gone ≡ stands q old.forest
  pub childless : (s : ℕ) → 0 < stands s gone → children new (Some s) ≡ []
  pub ended : (s : ℕ) → 0 < stands s gone → node_by new s ≡ None
  pub nodes : (s : ℕ) → stands s gone ≡ 0 → node_by new s ≡ node_by old s
  pub own : (i : Id) → IsOwn old.nodes i → IsOwn new.nodes i

-- The run from x to y stands before another child of its parent, or at the end, and all else is as before.
pub record MovesFlat (old new : Tree) (p next : Option ℕ) (x y : ℕ) : Type 0 where
  pub is : children new p ≡ shifted x y next (children old p)
  pub here : (front rest back : List ℕ) → children old p ≡ front ++ ((x ∷ rest) ++ back) → last_from x rest ≡ y
      → (front' back' : List ℕ) → front ++ back ≡ front' ++ back' → head_of back' ≡ next → children new p ≡ front' ++ ((x ∷ rest) ++ back')
  pub others : (q : Option ℕ) → q ≢ p → children new q ≡ children old q
  pub counts : (q : ℕ) → stands q new.forest ≡ stands q old.forest

-- The node of one stamp is another, and all else is as before.
pub record ChangesFlat (old new : Tree) (s : ℕ) (node : Option Node) : Type 0 where
  pub here : node_by new s ≡ node
  pub others : (q : ℕ) → q ≢ s → node_by new q ≡ node_by old q
  pub children : (q : Option ℕ) → children new q ≡ children old q
  pub counts : (q : ℕ) → stands q new.forest ≡ stands q old.forest
  pub own : (i : Id) → IsOwn old.nodes i → IsOwn new.nodes i

-- A node is made that is not in the forest: its stamp is the count of inserts, and nothing else changes.
pub record MakesFlat (old new : Tree) (i : Id) (node : Node) : Type 0 where
  pub stamp : i.1 ≡ old.nodes.made
  pub stamps : new.nodes.made ≡ old.nodes.made + 1
  pub here : node_by new i.1 ≡ Some node
  pub others : (q : ℕ) → q ≢ i.1 → node_by new q ≡ node_by old q
  pub children : (q : Option ℕ) → children new q ≡ children old q
  pub counts : (q : ℕ) → stands q new.forest ≡ stands q old.forest
  pub out : stands i.1 new.forest ≡ 0
  pub is_own : IsOwn new.nodes i
  pub own : (k : Id) → IsOwn old.nodes k → IsOwn new.nodes k

-- the next sibling of a node: where its stamp stands among the children of a parent, what stands after it
abbrev pub IsNextOf : Tree → ℕ → Option ℕ → Type 0
IsNextOf t s o = (p : Option ℕ) (front back : List ℕ) → children t p ≡ front ++ s ∷ back → o ≡ head_of back

-- By ranges: nothing changes, or the run moves or goes, whichever parent it has.

abbrev pub SameFlat : Tree → Tree → Type 0
SameFlat old new = (q : Option ℕ) → children new q ≡ children old q

abbrev pub MovesRange : Range → Option Id → Tree → Tree → Type 0
MovesRange None next old new = SameFlat old new
MovesRange (Some r) next old new =
    (p : Option Id) (g : Forest) → below p old.forest ≡ Some g → IsRun r.0 r.1 g → IsAmong next (without r.0 r.1 g) → MovesFlat old new (stamp_of p) (stamp_of next) r.0.1 r.1.1

abbrev pub RemovesRange : Range → Tree → Tree → Type 0
RemovesRange None old new = SameFlat old new
RemovesRange (Some r) old new = (p : Option Id) (g : Forest) → below p old.forest ≡ Some g → IsRun r.0 r.1 g → RemovesFlat old new (stamp_of p) r.0.1 r.1.1 (run r.0 r.1 g)

-- Look-ups as functions, for steps that are equations.

abbrev pub same_parent : Option ℕ → Option ℕ → Bool
same_parent None None = true
same_parent None (Some q) = false
same_parent (Some s) None = false
same_parent (Some s) (Some q) = s == q

-- other children for one parent
unfoldable pub with_kids : (Option ℕ → List ℕ) → Option ℕ → List ℕ → Option ℕ → List ℕ
with_kids l p xs q = if same_parent q p then xs else l q

-- no children and no nodes for some stamps
unfoldable pub childless : (ℕ → Bool) → (Option ℕ → List ℕ) → Option ℕ → List ℕ
childless gone l None = l None
childless gone l (Some s) = if gone s then [] else l (Some s)

unfoldable pub ended : (ℕ → Bool) → (ℕ → Option Node) → ℕ → Option Node
ended gone l s = if gone s then None else l s

abbrev pub is_in : Forest → ℕ → Bool
is_in f s = not (stands s f == 0)

-- Document order.

-- the stamps in document order
abbrev pub order : Forest → List ℕ
order end = []
order (tree i k r) = i.1 ∷ (order k ++ order r)

-- the look-up gives below each node of the forest what stands there
abbrev pub IsRead : (ℕ → List ℕ) → Forest → Type 0
IsRead kids end = Unit {0}
IsRead kids (tree i k r) = (kids i.1 ≡ tops k) × IsRead kids k × IsRead kids r

-- the recursion over children, with a bound of how deep and far it goes
abbrev pub walked : (ℕ → List ℕ) → ℕ → List ℕ → List ℕ
walked kids zero ss = []
walked kids (suc n) [] = []
walked kids (suc n) (s ∷ ss) = s ∷ (walked kids n (kids s) ++ walked kids n ss)

-- the forest of the stamps alone
abbrev pub bare : Forest → Forest
bare end = end
bare (tree i k r) = tree (0, i.1) (bare k) (bare r)

-- A node without children stands in the forest: it is a run by itself.
pub record IsLeaf (t : Tree) (i : Id) : Type 0 where
  pub parent : Option Id
  pub kids : Forest
  pub is_below : below parent t.forest ≡ Some kids
  pub is_run : IsRun i i kids
  pub alone : run i i kids ≡ leaf i

-- A node without children is gone from the forest, with its id, and no other.
pub record RemovesLeaf (old new : Tree) (i : Id) : Type 0 where
  pub parent : Option ℕ
  pub removes : RemovesFlat old new parent i.1 i.1 (leaf i)
  pub count : new.nodes.made ≡ old.nodes.made

-- The siblings from the first to the last stand before a third of their parent, or at the end, and all else is as
-- before.
pub record Shifts (old new : Tree) (first last : Id) (next : Option Id) : Type 0 where
  pub parent : Option Id
  pub kids : Forest
  pub is_below : below parent old.forest ≡ Some kids
  pub is_run : IsRun first last kids
  pub among : IsAmong next (without first last kids)
  pub moves_flat : MovesFlat old new (stamp_of parent) (stamp_of next) first.1 last.1
  pub moves : new.moves ≡ old.moves + 1
  pub nodes : new.nodes ≡ old.nodes
  pub made : new.made ≡ old.made
  pub inserts : new.inserts ≡ old.inserts

-- What a caller carries to meet the conditions of the calls.

-- nodes may be put below an element of the forest, or at the top
pub record TakesNodes (t : Tree) (p : Option Id) : Type 0 where
  pub element : ParentIsElement t p
  pub place : IsPlace t p None
  pub stood : (q : ℕ) → stamp_of p ≡ Some q → 0 < stands q t.forest

-- an own id that stands in the forest, or the top
abbrev pub Stands : Tree → Option Id → Type 0
Stands t None = Unit {0}
Stands t (Some p) = IsOwn t.nodes p × (0 < stands p.1 t.forest)

-- the list is cut before an own id, or at its end
abbrev pub Listed : Tree → Option Id → List ℕ → List ℕ → Type 0
Listed t None front back = back ≡ []
Listed t (Some x) front back = IsOwn t.nodes x × (head_of back ≡ Some x.1)
