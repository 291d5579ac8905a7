-- The lines that the code writes of its nodes and modifiers are those that are read off the state that it keeps.
use Rattle.std.proofs.Common.{◌≡◌, ℕ, ◌<◌, List, [], ◌∷◌, ◌++◌, flat_map, Bool, true, false, is_some, Option, Some, None, option_map, refl, sym, ap, ◌∙◌, arith}
use Rattle.gl_base.specs.Texts.{Text}
use Rattle.gl_arena.specs.Id.{Id}
use Rattle.gl_arena.specs.Arena.{by_stamp, IsOwn}
use Rattle.gl_arena.proofs.Stamps.{by_stamp-live}
use Rattle.gl_meaning.specs.Scope.{Source}
use Rattle.gl_nodes.specs.Node.{Node, element, text, comment}
use Rattle.gl_nodes.specs.Forest as f
use Rattle.gl_nodes.specs.Forest.{Forest, times}
use Rattle.gl_nodes.specs.Tree.{Tree, node_at}
use Rattle.gl_nodes.specs.Flat.{IsFlat, node_by}
use Rattle.gl_nodes.proofs.Counts.{hit-same}
use Rattle.gl_mods.proofs.Ids.{hit-is}
use Rattle.gl_print.specs.Lines.{node_line, lines}
use Rattle.gl_plain.specs.State.{content, modifier_row, Thing}
use Rattle.gl_mods.specs.Mods as m
use Rattle.gl_mods.specs.Mods.{IsSound}
use Rattle.gl_vm.specs.View.{Tables, stamps, seen_node, seen_modifier, state_of}
use Rattle.gl_vm.specs.declared.vm.Vm.{Vm}
use Rattle.gl_code.specs.Hung.{nest_of}
use Rattle.gl_texts.specs.Lines.{content_line, nest_lines, told_row, told_line}
use Rattle.gl_session.specs.Writing.{told_id}

-- what is kept for a node
abbrev row_at : Option Node → Option Thing
row_at o = option_map content (option_map seen_node o)

node_lines : (indent : Text) (n : ℕ) (o : Option Node) → node_line indent n o ≡ content_line indent n (row_at o)
node_lines indent n None = refl
node_lines indent n (Some (element tag attrs)) = refl
node_lines indent n (Some (text t)) = refl
node_lines indent n (Some (comment t)) = refl

-- each node of the forest has the row of its number
module _ (t : Tree) (row : ℕ → Option Thing) (is : (k : ℕ) → row k ≡ row_at (node_by t k)) where
  pub lines_are : (indent : Text) (g : Forest) → ((i : Id) → 0 < times i g → node_at t i ≡ node_by t i.1) → lines (node_at t) (λ i. i.1) indent g ≡ nest_lines row indent (nest_of g)
  lines_are indent f.end own = refl
  lines_are indent (f.tree i k r) own =
      let at : node_at t i ≡ node_by t i.1 = own i (let one = hit-same i in omega (arith, one)) in
      let here : node_line indent i.1 (node_at t i) ≡ content_line indent i.1 (row i.1) = node_lines indent i.1 (node_at t i) ∙ ap (content_line indent i.1) (ap row_at at ∙ sym (is i.1)) in
      let below = lines_are (32 ∷ 32 ∷ indent) k (λ j lt. own j (omega (arith, lt))) in
      let after = lines_are indent r (λ j lt. own j (omega (arith, lt))) in
      ap (λ x. x ++ (lines (node_at t) (λ j. j.1) (32 ∷ 32 ∷ indent) k ++ lines (node_at t) (λ j. j.1) indent r)) here
      ∙ ap (λ x. content_line indent i.1 (row i.1) ++ x) (ap (λ x. x ++ lines (node_at t) (λ j. j.1) indent r) below ∙ ap (λ x. nest_lines row (32 ∷ 32 ∷ indent) (nest_of k) ++ x) after)

-- an id in the forest names the node of its stamp
pub own_in : (t : Tree) → IsFlat t → (i : Id) → 0 < times i t.forest → node_at t i ≡ node_by t i.1
own_in t flat i lt = by (node_at t i) refl where
  by : (o : Option Node) → node_at t i ≡ o → node_at t i ≡ node_by t i.1
  by (Some v) e = e ∙ sym (by_stamp-live t.nodes i v flat.stamped e)
  by None e = absurd (let no : false ≡ true = sym (ap is_some e) ∙ flat.sound.live i lt in cc)

-- Modifiers

told_same : (word : Text) (n : Tables) (o : Option m.Installed) → told_row word (option_map (λ x. modifier_row (seen_modifier n x)) o) ≡ told_row word (option_map modifier_row (option_map (seen_modifier n) o))
told_same word n None = refl
told_same word n (Some x) = refl

-- lines by ids are those by their stamps
pub told_all : (word : Text) (n : Tables) (vm : Vm) (touched : Source → Bool) (ids : List Id) → ((i : Id) → 0 < m.times i ids → IsOwn vm.mods.table i)
    → flat_map (told_id word n vm) ids ≡ flat_map (told_line word (state_of n vm touched).look) (stamps ids)
unfolding told_id
told_all word n vm touched [] own = refl
told_all word n vm touched (i ∷ is) own =
    let o = own i (let one = hit-is i i refl in omega (arith, one)) in
    let here : told_id word n vm i ≡ told_line word (state_of n vm touched).look i.1 =
    ap (λ x. told_row word (option_map (λ y. modifier_row (seen_modifier n y)) x)) o.same ∙ told_same word n (by_stamp vm.mods.table i.1) in
    let rest = told_all word n vm touched is (λ j lt. own j (omega (arith, lt))) in
    ap (λ x. x ++ flat_map (told_id word n vm) is) here ∙ ap (λ x. told_line word (state_of n vm touched).look i.1 ++ x) rest
