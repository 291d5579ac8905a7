use Rattle.std.proofs.Common.{◌≡◌, map, drop}
use Rattle.gl_nodes.specs.Tree.{Tree}
use Rattle.gl_nodes.specs.Flat.{IsFlat, stamp_of}
use Rattle.gl_machine.specs.Code.{lives_of, items_of}
use Rattle.gl_machine.specs.Shape.{nest_in, nest_items}
use Rattle.gl_vm.specs.View.{Tables}
use Rattle.gl_code.specs.CodeView.{seen_code, seen_item_code, all_codes, all_items}
use Rattle.gl_code.specs.Hung.{Hangs}
use Rattle.gl_code.proofs.standing.+standing.Given as goal

-- where what is left hangs, all hangs
abbrev pub invariant-hang_codes-loop-code : goal.invariant-hang_codes-loop-code
invariant-hang_codes-loop-code l = record {
  flat : IsFlat l.tree;
  moves : l.tree.moves ≡ l.fn.tree.moves;
  left : (n : Tables) (v : Tree) → IsFlat v
      → Hangs l.tree v (stamp_of l.parent) (nest_in (lives_of (all_codes (map (seen_code n) (drop l.code-index l.code-items)))))
      → Hangs l.fn.tree v (stamp_of l.parent) (nest_in (lives_of (all_codes (map (seen_code n) l.code-items))));
}

abbrev pub invariant-hang_items-loop-item : goal.invariant-hang_items-loop-item
invariant-hang_items-loop-item l = record {
  flat : IsFlat l.tree;
  moves : l.tree.moves ≡ l.fn.tree.moves;
  left : (n : Tables) (v : Tree) → IsFlat v
      → Hangs l.tree v (stamp_of l.parent) (nest_items (items_of (all_items (map (seen_item_code n) (drop l.item-index l.item-items)))))
      → Hangs l.fn.tree v (stamp_of l.parent) (nest_items (items_of (all_items (map (seen_item_code n) l.item-items))));
}
