use Rattle.std.proofs.Common.{◌≡◌, drop}
use Rattle.gl_plain.specs.Tags.{given_refs}
use Rattle.gl_vm.specs.View.{stamps, Calm}
use Rattle.gl_code.specs.View.{refs_made}
use Rattle.gl_parts.specs.Parts.{Leads, seen_attributes, bound_after}
use Rattle.gl_parts.proofs.attributes.references.Given as goal

abbrev pub invariant-loop-attribute : goal.invariant-loop-attribute
invariant-loop-attribute l = record {
  leads : Leads (λ n x y. given_refs (seen_attributes l.taken) x ≡ bound_after (stamps l.all.ids) (refs_made l.all.made) (given_refs (seen_attributes (drop l.attribute-index l.taken)) y)) l.fn.vm l.vm;
  calm : Calm l.fn.vm → Calm l.vm;
  tree : l.vm.tree ≡ l.fn.vm.tree;
}
