-- The numbers of nodes.
use Rattle.std.specs.Prelude.{◌≡◌, ℕ, suc, ◌+◌, ◌<◌, ◌==◌, List, [], ◌∷◌, ◌++◌, Option, Some, None, if◌then◌else◌, refl}
use Rattle.std.specs.Coded.{Coded, code_by, coded×, coded_ℕ, coded_list}
use Rattle.gl_meaning.specs.Numbering.{NumbersOf}
use Rattle.gl_arena.specs.Id.{Id, same_id}
use Rattle.gl_nodes.specs.Forest.{Forest, end, tree, hit}

-- the numbers that nodes have, and the next one that is given
abbrev pub Numbers : Type 0
Numbers = NumbersOf Id

-- the number of a node
abbrev pub at : Id → List (Id × ℕ) → Option ℕ
at i [] = None
at i (p ∷ ps) = if same_id i p.0 then Some p.1 else at i ps

-- the nodes in document order
abbrev pub ids : Forest → List Id
ids end = []
ids (tree i k r) = i ∷ (ids k ++ ids r)

abbrev pub numbers_code : Coded Numbers
numbers_code =
    code_by (List ((ℕ × ℕ) × ℕ) × ℕ) (coded× (coded_list (coded× (coded× coded_ℕ coded_ℕ) coded_ℕ)) coded_ℕ)
    (λ m. (m.of, m.next)) (λ p. record { of = p.0; next = p.1 }) (λ _. refl)

-- the node of a number
abbrev pub node_of : ℕ → List (Id × ℕ) → Option Id
node_of n [] = None
node_of n (p ∷ ps) = if n == p.1 then Some p.0 else node_of n ps

-- the first that is there
abbrev pub first_of : Option ℕ → Option ℕ → Option ℕ
first_of None o = o
first_of (Some n) o = Some n

-- the numbers once the new node of a pair has that of the old one, where the old one has a number
unfoldable pub given_on : (Id → Option ℕ) → Id × Id → Id → Option ℕ
given_on m p i = if same_id i p.1 then first_of (m p.0) (m i) else m i

-- the same for pairs of old and new nodes, one after another
abbrev pub carried : (Id → Option ℕ) → List (Id × Id) → Id → Option ℕ
carried m [] = m
carried m (p ∷ ps) = carried (given_on m p) ps

-- the numbers once some of the pairs were carried, from the first on
pub record CarriesFront (m m' : Id → Option ℕ) (ps : List (Id × Id)) : Type 0 where
  pub done : List (Id × Id)
  pub rest : List (Id × Id)
  pub pairs : ps ≡ done ++ rest
  pub numbers : m' ≡ carried m done

-- each node stands once among the numbers
abbrev pub AreKeysOnce : List (Id × ℕ) → Type 0
AreKeysOnce [] = Unit {0}
AreKeysOnce (p ∷ ps) = (at p.0 ps ≡ None) × AreKeysOnce ps

-- No two nodes have one number, and each number is below the next one.
pub record IsNumbering (m : Numbers) : Type 0 where
  pub once : (i k : Id) (n : ℕ) → at i m.of ≡ Some n → at k m.of ≡ Some n → i ≡ k
  pub below : (i : Id) (n : ℕ) → at i m.of ≡ Some n → n < m.next

-- The same of those nodes alone that are counted, as those of a tree: where numbers were carried, an old node and its
-- new one have one number, and only one of the two stands in the tree.
pub record IsNumberingOf (counts : Id → ℕ) (of : Id → Option ℕ) (next : ℕ) : Type 0 where
  pub once : (i k : Id) (n : ℕ) → 0 < counts i → 0 < counts k → of i ≡ Some n → of k ≡ Some n → i ≡ k
  pub below : (i : Id) (n : ℕ) → 0 < counts i → of i ≡ Some n → n < next

-- how often a node is the old one of a pair
abbrev pub olds : Id → List (Id × Id) → ℕ
olds i [] = 0
olds i (p ∷ ps) = hit i p.0 + olds i ps

-- each old node is that of one pair, and is not counted
abbrev pub AreOld : (Id → ℕ) → List (Id × Id) → Type 0
AreOld counts [] = Unit {0}
AreOld counts (p ∷ ps) = (counts p.0 ≡ 0) × (olds p.0 ps ≡ 0) × AreOld counts ps

-- Where the nodes that are counted and the old ones have numbers of their own, the ones that are counted have these
-- after the pairs were carried.
abbrev pub KeepsNumbering : Numbers → Numbers → List (Id × Id) → Type 0
KeepsNumbering old new ps =
    (counts : Id → ℕ) → AreOld counts ps → IsNumberingOf (λ i. counts i + olds i ps) (λ i. at i old.of) old.next → IsNumberingOf counts (λ i. at i new.of) new.next
