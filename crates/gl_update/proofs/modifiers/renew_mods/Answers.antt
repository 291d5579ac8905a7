use Rattle.std.proofs.Common.{refl, ◌∙◌}
use Rattle.gl_plain.specs.Renew.{renew_mods}
use Rattle.gl_code.specs.CodeView.{seen_mod_spot}
use Rattle.gl_update.proofs.Spots.{left_next, left_end}
use Rattle.gl_update.proofs.modifiers.renew_mods.Goals as goal

pub loop-spot-preserved : goal.loop-spot-preserved
loop-spot-preserved c = record {
  left = left_next renew_mods seen_mod_spot (λ st. refl) (λ y ys st. refl) c.args.mods.now c.args.vm.now c.loop-spot.spot-index c.spot-item.result c.loop-spot.vm c.renew_mod.new.vm c.loop-spot-test.true c.spot-item.is c.in_ok-renew_mod.ensures.step c.loop-spot.invariant.left;
  calm = c.in_ok-renew_mod.ensures.calm;
  tree = c.in_ok-renew_mod.ensures.tree ∙ c.loop-spot.invariant.tree;
}

pub returns-clause-step : goal.returns-clause-step
returns-clause-step c = left_end renew_mods seen_mod_spot (λ st. refl) (λ y ys st. refl) c.args.mods.now c.args.vm.now c.loop-spot.spot-index c.loop-spot.vm c.loop-spot-test.false c.loop-spot.invariant.left
