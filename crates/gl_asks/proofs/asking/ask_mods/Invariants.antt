use Rattle.std.proofs.Common.{drop}
use Rattle.gl_vm.specs.View.{Calm}
use Rattle.gl_vm.specs.Steps.{Does}
use Rattle.gl_asks.proofs.Parts.{mod_spots}
use Rattle.gl_asks.specs.Spots.{mod_ids}
use Rattle.gl_asks.proofs.Asked.{Left}
use Rattle.gl_asks.proofs.Counting.{Going}
use Rattle.gl_asks.proofs.asking.ask_mods.Given as goal

-- what is left decides
abbrev pub invariant-loop-modifier : goal.invariant-loop-modifier
invariant-loop-modifier l = record {
  still : Does (λ n st. st) l.fn.vm l.vm;
  calm : Calm l.vm;
  going : Going l.fn.vm l.vm (mod_ids (drop l.modifier-index l.mods)) (mod_ids l.mods);
  left : Left l.fn.vm l.fn.left l.left (λ n. mod_spots (drop l.modifier-index l.mods)) (λ n. mod_spots l.mods);
}
