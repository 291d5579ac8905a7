use Rattle.std.proofs.Common.{◌≡◌, map, length, drop}
use Rattle.gl_plain.specs.Tags.{install_parts}
use Rattle.gl_vm.specs.View.{Calm}
use Rattle.gl_code.specs.CodeView.{seen_mod_spot}
use Rattle.gl_parts.specs.Parts.{seen_parts, Leads, grown_after}
use Rattle.gl_parts.proofs.modifiers.install_all.Given as goal

abbrev pub invariant-loop-part : goal.invariant-loop-part
invariant-loop-part l = record {
  leads : Leads (λ n x y. install_parts l.node.1 0 (seen_parts n l.parts) x ≡ grown_after (map seen_mod_spot l.spots.items) (install_parts l.node.1 (length l.spots.items) (seen_parts n (drop l.part-index l.parts)) y)) l.fn.vm l.vm;
  calm : Calm l.vm;
  tree : l.vm.tree ≡ l.fn.vm.tree;
}
