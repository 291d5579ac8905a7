use Rattle.std.proofs.Common.{refl}
use Rattle.gl_plain.specs.Renew.{renew_attrs}
use Rattle.gl_code.specs.CodeView.{seen_attr_spot}
use Rattle.gl_update.proofs.Spots.{left_next, left_end}
use Rattle.gl_code.proofs.Rooting.{roots_then}
use Rattle.gl_update.proofs.nodes.renew_attrs.Goals as goal

pub loop-attr-preserved : goal.loop-attr-preserved
loop-attr-preserved c = record {
  left = left_next (renew_attrs c.args.node.1) seen_attr_spot (λ st. refl) (λ y ys st. refl) c.args.attrs.now c.args.vm.now c.loop-attr.attr-index c.attr-item.result c.loop-attr.vm c.renew_attr.new.vm c.loop-attr-test.true c.attr-item.is c.in_ok-renew_attr.ensures.step c.loop-attr.invariant.left;
  calm = c.in_ok-renew_attr.ensures.calm;
  roots = roots_then c.args.vm.now.tree c.loop-attr.vm.tree c.renew_attr.new.vm.tree c.loop-attr.invariant.roots c.in_ok-renew_attr.ensures.roots;
}

pub returns-clause-step : goal.returns-clause-step
returns-clause-step c = left_end (renew_attrs c.args.node.1) seen_attr_spot (λ st. refl) (λ y ys st. refl) c.args.attrs.now c.args.vm.now c.loop-attr.attr-index c.loop-attr.vm c.loop-attr-test.false c.loop-attr.invariant.left
