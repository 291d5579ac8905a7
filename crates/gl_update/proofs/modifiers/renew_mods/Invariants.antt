use Rattle.std.proofs.Common.{◌≡◌, refl}
use Rattle.gl_plain.specs.Renew.{renew_mods}
use Rattle.gl_vm.specs.View.{Calm}
use Rattle.gl_code.specs.CodeView.{seen_mod_spot}
use Rattle.gl_update.proofs.Spots.{Left}
use Rattle.gl_update.proofs.modifiers.renew_mods.Given as goal

abbrev pub invariant-loop-spot : goal.invariant-loop-spot
invariant-loop-spot l = record {
  left : Left renew_mods seen_mod_spot (λ st. refl) (λ y ys st. refl) l.mods l.fn.vm l.spot-index l.vm;
  calm : Calm l.vm;
  tree : l.vm.tree ≡ l.fn.vm.tree;
}
