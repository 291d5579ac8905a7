use Rattle.std.proofs.Common.{◌≡◌, map, drop}
use Rattle.gl_plain.specs.Tags.{give_attrs}
use Rattle.gl_vm.specs.View.{Calm}
use Rattle.gl_code.specs.CodeView.{seen_attr_spot}
use Rattle.gl_parts.specs.Parts.{Leads, seen_attributes, given_after}
use Rattle.gl_parts.proofs.attributes.give_all.Given as goal

abbrev pub invariant-loop-name : goal.invariant-loop-name
invariant-loop-name l = record {
  leads : Leads (λ n x y. give_attrs (seen_attributes l.attributes) l.name-items x ≡ given_after l.all.attrs.items (map seen_attr_spot l.all.spots.items) (give_attrs (seen_attributes l.attributes) (drop l.name-index l.name-items) y)) l.fn.vm l.vm;
  calm : Calm l.vm;
  tree : l.vm.tree ≡ l.fn.vm.tree;
}
