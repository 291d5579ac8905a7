-- The lines of a tree whose nodes have their stamps as numbers.
use Rattle.std.proofs.Common.{◌≡◌, ℕ, List, [], ◌∷◌, ◌++◌, Option, sym, ap, ◌∙◌, append_assoc, append-nil}
use Rattle.gl_base.specs.Texts.{Text}
use Rattle.gl_arena.specs.Id.{Id}
use Rattle.gl_nodes.specs.Forest.{Forest}
use Rattle.gl_nodes.specs.Node.{Node}
use Rattle.gl_print.specs.Lines.{node_line, lines}
use Rattle.gl_print.specs.Walk.{indent, stops}
use Rattle.gl_print.proofs.Printings.{lined, lines-lined}

module _ (node : Id → Option Node) where
  pub own_lined : List (ℕ × Id) → Text
  own_lined ss = lined node (λ i. i.1) ss

  -- what was printed, before the lines of those that are left, is the whole
  abbrev pub PrintsOwn : Forest → Text → List (ℕ × Id) → Type 0
  PrintsOwn f out left = out ++ own_lined left ≡ own_lined (stops 0 f)

  pub own_begins : (f : Forest) (out : Text) (left : List (ℕ × Id)) → out ≡ [] → left ≡ stops 0 f → PrintsOwn f out left
  own_begins f out left none all = ap (λ t. t ++ own_lined left) none ∙ ap own_lined all

  pub own_goes : (f : Forest) (out out' : Text) (left : List (ℕ × Id)) (s : ℕ × Id) (ss : List (ℕ × Id)) → left ≡ s ∷ ss → PrintsOwn f out left → out' ≡ out ++ node_line (indent s.0) s.1.1 (node s.1) → PrintsOwn f out' ss
  unfolding own_lined lined
  own_goes f out out' left s ss is p wrote =
      ap (λ t. t ++ own_lined ss) wrote ∙ (append_assoc out (node_line (indent s.0) s.1.1 (node s.1)) (own_lined ss) ∙ (ap (λ l. out ++ own_lined l) (sym is) ∙ p))

  pub own_ends : (f : Forest) (out : Text) (left : List (ℕ × Id)) → left ≡ [] → PrintsOwn f out left → out ≡ lines node (λ i. i.1) [] f
  unfolding own_lined lined
  own_ends f out left none p = sym (append-nil out) ∙ (ap (λ l. out ++ own_lined l) (sym none) ∙ (p ∙ sym (lines-lined node (λ i. i.1) 0 f)))
