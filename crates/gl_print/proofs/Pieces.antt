-- The printed lines of nodes are the lines of the pieces that they stand for.
use Rattle.std.proofs.Common.{◌≡◌, ℕ, ◌<◌, [], ◌∷◌, ◌++◌, Option, Some, None, refl, sym, ap, ◌∙◌, arith, append_assoc, append-nil, IsSome, true, false}
use Rattle.std.specs.Prelude.{unwrap_or}
use Rattle.gl_base.specs.Texts.{Text}
use Rattle.gl_arena.specs.Id.{Id}
use Rattle.gl_arena.proofs.Stamps.{by_stamp-live}
use Rattle.gl_nodes.specs.Node.{Node, element, text, comment}
use Rattle.gl_nodes.specs.Forest.{Forest, end, tree, joined, times}
use Rattle.gl_nodes.specs.Tree.{Tree, node_at}
use Rattle.gl_nodes.specs.Flat.{IsFlat, bare, node_by}
use Rattle.gl_nodes.proofs.Counts.{hit-same}
use Rattle.gl_meaning.specs.Path.{Path, at_path}
use Rattle.gl_meaning.specs.Changes.{Numbers}
use Rattle.gl_meaning.specs.Render as r
use Rattle.gl_meaning.specs.Render.{Piece, element_node, text_node, comment_node, component, branch, item_region, position, too_deep, no_pieces, piece}
use Rattle.gl_meaning.specs.Print.{tree_lines, piece_lines}
use Rattle.gl_meaning.specs.Signs.{blank}
use Rattle.gl_print.specs.Lines.{lines, node_line}
use Rattle.gl_print.specs.Pieces.{stood, stood_piece, IsShown, AreShown}

module _ (node : Id → Option Node) (num : Id → ℕ) where
  pub lines-joined : (d : Text) (f g : Forest) → lines node num d (joined f g) ≡ lines node num d f ++ lines node num d g
  lines-joined d end g = refl
  lines-joined d (tree i k s) g = let own = node_line d (num i) (node i) in let below = lines node num (blank ∷ blank ∷ d) k in ap (λ t. own ++ (below ++ t)) (lines-joined d s g)
      ∙ (ap (λ t. own ++ t) (sym (append_assoc below (lines node num d s) (lines node num d g))) ∙ sym (append_assoc own (below ++ lines node num d s) (lines node num d g)))

  lines-leaf : (d : Text) (i : Id) (k : Forest) → lines node num d (tree i k end) ≡ node_line d (num i) (node i) ++ lines node num (blank ∷ blank ∷ d) k
  lines-leaf d i k = ap (λ t. node_line d (num i) (node i) ++ t) (append-nil (lines node num (blank ∷ blank ∷ d) k))

  own_line : (d : Text) (i : Id) (m : ℕ) (v : Node) → node i ≡ Some v → num i ≡ m → node_line d (num i) (node i) ≡ node_line d m (Some v)
  own_line d i m v is at = ap (λ q. node_line d q (node i)) at ∙ ap (node_line d m) is

  module _ (id_at : Path → Id) (numbers : Numbers) where
    mutual
      pub piece-lines : (d : Text) (p : Piece) → IsShown id_at node num numbers p → lines node num d (stood_piece id_at p) ≡ piece_lines numbers d p
      piece-lines d (element_node p t a m f) h = lines-leaf d (id_at p) (stood id_at f) ∙ (ap (λ z. z ++ lines node num (blank ∷ blank ∷ d) (stood id_at f)) (own_line d (id_at p) _ (element t a) h.0 h.1) ∙ ap (λ z. node_line d (unwrap_or (at_path p numbers.of) 0) (Some (element t a)) ++ z) (stood-lines (blank ∷ blank ∷ d) f h.2))
      piece-lines d (text_node p t) h = append-nil (node_line d (num (id_at p)) (node (id_at p))) ∙ own_line d (id_at p) _ (text t) h.0 h.1
      piece-lines d (comment_node p t) h = append-nil (node_line d (num (id_at p)) (node (id_at p))) ∙ own_line d (id_at p) _ (comment t) h.0 h.1
      piece-lines d (component p s f) h = stood-lines d f h
      piece-lines d (branch p f) h = stood-lines d f h
      piece-lines d (item_region p v i f) h = stood-lines d f h
      piece-lines d (position p ps) h = refl
      piece-lines d (too_deep p) h = refl

      pub stood-lines : (d : Text) (f : r.Forest) → AreShown id_at node num numbers f → lines node num d (stood id_at f) ≡ tree_lines numbers d f
      stood-lines d no_pieces h = refl
      stood-lines d (piece p f) h = lines-joined d (stood_piece id_at p) (stood id_at f) ∙ (ap (λ z. z ++ lines node num d (stood id_at f)) (piece-lines d p h.0) ∙ ap (λ z. piece_lines numbers d p ++ z) (stood-lines d f h.1))

-- lines depend on what the ids of the forest name and on their numbers
pub lines-same : (node node' : Id → Option Node) (num num' : Id → ℕ) (d : Text) (f : Forest) → ((i : Id) → 0 < times i f → (node i ≡ node' i) × (num i ≡ num' i)) → lines node num d f ≡ lines node' num' d f
lines-same node node' num num' d end same = refl
lines-same node node' num num' d (tree i k s) same = let at = same i (let one = hit-same i in omega (arith, one)) in ap (λ q. node_line d q (node i) ++ (lines node num (blank ∷ blank ∷ d) k ++ lines node num d s)) at.1 ∙ (ap (λ q. node_line d (num' i) q ++ (lines node num (blank ∷ blank ∷ d) k ++ lines node num d s)) at.0
    ∙ (ap (λ q. node_line d (num' i) (node' i) ++ (q ++ lines node num d s)) (lines-same node node' num num' (blank ∷ blank ∷ d) k (λ x lt. same x (omega (arith, lt))))
    ∙ ap (λ q. node_line d (num' i) (node' i) ++ (lines node' num' (blank ∷ blank ∷ d) k ++ q)) (lines-same node node' num num' d s (λ x lt. same x (omega (arith, lt))))))

-- where nodes and numbers go by stamps, so do the lines
pub lines-bare : (node : ℕ → Option Node) (num : ℕ → ℕ) (d : Text) (f : Forest) → lines (λ i. node i.1) (λ i. num i.1) d f ≡ lines (λ i. node i.1) (λ i. num i.1) d (bare f)
lines-bare node num d end = refl
lines-bare node num d (tree i k s) = ap (λ q. node_line d (num i.1) (node i.1) ++ (q ++ lines (λ i. node i.1) (λ i. num i.1) d s)) (lines-bare node num (blank ∷ blank ∷ d) k) ∙ ap (λ q. node_line d (num i.1) (node i.1) ++ (lines (λ i. node i.1) (λ i. num i.1) (blank ∷ blank ∷ d) (bare k) ++ q)) (lines-bare node num d s)

-- the law: a tree whose stamps stand as the pieces do is printed as the pieces are
pub tree-lines : (t : Tree) (num : Id → ℕ) (by : ℕ → ℕ) (id_at : Path → Id) (numbers : Numbers) (ps : r.Forest) → IsFlat t → ((i : Id) → 0 < times i t.forest → num i ≡ by i.1)
    → bare t.forest ≡ bare (stood id_at ps) → AreShown id_at (λ i. node_by t i.1) (λ i. by i.1) numbers ps → lines (node_at t) num [] t.forest ≡ tree_lines numbers [] ps
tree-lines t num by id_at numbers ps flat same is shown = lines-same (node_at t) (λ i. node_by t i.1) num (λ i. by i.1) [] t.forest (λ i lt. (at_node i (flat.sound.live i lt), same i lt)) ∙ (lines-bare (node_by t) by [] t.forest
    ∙ (ap (lines (λ i. node_by t i.1) (λ i. by i.1) []) is ∙ (sym (lines-bare (node_by t) by [] (stood id_at ps)) ∙ stood-lines (λ i. node_by t i.1) (λ i. by i.1) id_at numbers [] ps shown)))
  where
    at_node : (i : Id) → IsSome (node_at t i) → node_at t i ≡ node_by t i.1
    at_node i live = by_case (node_at t i) refl live
      where
        by_case : (o : Option Node) → node_at t i ≡ o → IsSome o → node_at t i ≡ node_by t i.1
        by_case None e s = absurd (let no : false ≡ true = s in cc)
        by_case (Some v) e s = e ∙ sym (by_stamp-live t.nodes i v flat.stamped e)
