use Rattle.std.proofs.Common.{refl}
use Rattle.gl_plain.specs.Renew.{renew_attrs}
use Rattle.gl_vm.specs.View.{Calm}
use Rattle.gl_vm.specs.Steps.{Rooted}
use Rattle.gl_code.specs.CodeView.{seen_attr_spot}
use Rattle.gl_update.proofs.Spots.{Left}
use Rattle.gl_update.proofs.nodes.renew_attrs.Given as goal

abbrev pub invariant-loop-attr : goal.invariant-loop-attr
invariant-loop-attr l = record {
  left : Left (renew_attrs l.node.1) seen_attr_spot (λ st. refl) (λ y ys st. refl) l.attrs l.fn.vm l.attr-index l.vm;
  calm : Calm l.vm;
  roots : Rooted l.fn.vm.tree l.vm.tree;
}
