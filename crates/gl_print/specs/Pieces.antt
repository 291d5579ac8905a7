-- The forest of nodes that pieces of a rendering are.
use Rattle.std.specs.Prelude.{◌≡◌, ℕ, ◌<◌, [], Option, Some, unwrap_or}
use Rattle.gl_base.specs.Texts.{Text}
use Rattle.gl_arena.specs.Id.{Id}
use Rattle.gl_nodes.specs.Node.{Node, element, text, comment}
use Rattle.gl_nodes.specs.Forest.{Forest, end, tree, leaf, joined, times}
use Rattle.gl_nodes.specs.Tree.{Tree}
use Rattle.gl_nodes.specs.Flat.{node_by, bare}
use Rattle.gl_print.specs.Numbers as n
use Rattle.gl_meaning.specs.Print.{tree_lines}
use Rattle.gl_meaning.specs.Path.{Path, at_path}
use Rattle.gl_meaning.specs.Changes.{Numbers, number, nodes}
use Rattle.gl_meaning.specs.Known.{Among}
use Rattle.gl_meaning.specs.Render as r
use Rattle.gl_meaning.specs.Render.{Piece, element_node, text_node, comment_node, component, branch, item_region, position, too_deep, no_pieces, piece}

-- the nodes of pieces, with the id of each path
module _ (id_at : Path → Id) where
  abbrev mutual
    pub stood_piece : Piece → Forest
    stood_piece (element_node p t a m f) = tree (id_at p) (stood f) end
    stood_piece (text_node p t) = leaf (id_at p)
    stood_piece (comment_node p t) = leaf (id_at p)
    stood_piece (component p s f) = stood f
    stood_piece (branch p f) = stood f
    stood_piece (item_region p v i f) = stood f
    stood_piece (position p ps) = end
    stood_piece (too_deep p) = end

    pub stood : r.Forest → Forest
    stood no_pieces = end
    stood (piece p f) = joined (stood_piece p) (stood f)

  -- each node of the pieces is what its id names, and has the number of its path
  module _ (node : Id → Option Node) (num : Id → ℕ) (numbers : Numbers) where
    abbrev pub Numbered : Path → Type 0
    Numbered p = num (id_at p) ≡ unwrap_or (at_path p numbers.of) 0

    abbrev mutual
      pub IsShown : Piece → Type 0
      IsShown (element_node p t a m f) = (node (id_at p) ≡ Some (element t a)) × Numbered p × AreShown f
      IsShown (text_node p t) = (node (id_at p) ≡ Some (text t)) × Numbered p
      IsShown (comment_node p t) = (node (id_at p) ≡ Some (comment t)) × Numbered p
      IsShown (component p s f) = AreShown f
      IsShown (branch p f) = AreShown f
      IsShown (item_region p v i f) = AreShown f
      IsShown (position p ps) = Unit {0}
      IsShown (too_deep p) = Unit {0}

      pub AreShown : r.Forest → Type 0
      AreShown no_pieces = Unit {0}
      AreShown (piece p f) = IsShown p × AreShown f

  -- the same without numbers
  module _ (node : Id → Option Node) where
    abbrev mutual
      pub IsNamed : Piece → Type 0
      IsNamed (element_node p t a m f) = (node (id_at p) ≡ Some (element t a)) × AreNamed f
      IsNamed (text_node p t) = node (id_at p) ≡ Some (text t)
      IsNamed (comment_node p t) = node (id_at p) ≡ Some (comment t)
      IsNamed (component p s f) = AreNamed f
      IsNamed (branch p f) = AreNamed f
      IsNamed (item_region p v i f) = AreNamed f
      IsNamed (position p ps) = Unit {0}
      IsNamed (too_deep p) = Unit {0}

      pub AreNamed : r.Forest → Type 0
      AreNamed no_pieces = Unit {0}
      AreNamed (piece p f) = IsNamed p × AreNamed f

-- Where the tree's stamps stand as pieces do, with the pieces' nodes and numbers, the text is the lines of the pieces.
abbrev pub PrintsPieces : Tree → (Id → ℕ) → Text → Type 0
PrintsPieces t num out =
    (by : ℕ → ℕ) (id_at : Path → Id) (numbers : Numbers) (ps : r.Forest) → ((i : Id) → 0 < times i t.forest → num i ≡ by i.1)
    → bare t.forest ≡ bare (stood id_at ps) → AreShown id_at (λ i. node_by t i.1) (λ i. by i.1) numbers ps → out ≡ tree_lines numbers [] ps

-- the text is the lines of the pieces, and the nodes have the numbers of their paths
pub record IsTurn (t : Tree) (new : n.Numbers) (out : Text) (id_at : Path → Id) (numbers : Numbers) (ps : r.Forest) : Type 0 where
  pub lines : out ≡ tree_lines numbers [] ps
  pub of : (p : Path) (i : Id) → Among p (nodes ps) → 0 < times i t.forest → i.1 ≡ (id_at p).1 → n.at i new.of ≡ at_path p numbers.of
  pub next : new.next ≡ numbers.next

-- Where the tree's stamps stand as the pieces of a rendering do, name the pieces' nodes, and have the numbers that
-- their paths had before, print numbers the tree as the rendering is numbered: by stands for the numbers by stamps.
abbrev pub PrintsTurn : Tree → n.Numbers → n.Numbers → Text → Type 0
PrintsTurn t old new out =
    (by : ℕ → Option ℕ) (id_at : Path → Id) (numbers : Numbers) (ps : r.Forest) → ((i : Id) → 0 < times i t.forest → n.at i old.of ≡ by i.1)
    → bare t.forest ≡ bare (stood id_at ps) → AreNamed id_at (λ i. node_by t i.1) ps → ((p : Path) → Among p (nodes ps) → by (id_at p).1 ≡ at_path p numbers.of)
    → old.next ≡ numbers.next → IsTurn t new out id_at (number numbers ps) ps
