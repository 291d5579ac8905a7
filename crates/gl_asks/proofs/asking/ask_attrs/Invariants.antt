use Rattle.std.proofs.Common.{drop}
use Rattle.gl_vm.specs.View.{Calm}
use Rattle.gl_vm.specs.Steps.{Does}
use Rattle.gl_asks.proofs.Parts.{attr_spots}
use Rattle.gl_asks.specs.Spots.{attr_ids}
use Rattle.gl_asks.proofs.Asked.{Left}
use Rattle.gl_asks.proofs.Counting.{Going}
use Rattle.gl_asks.proofs.asking.ask_attrs.Given as goal

-- what is left decides
abbrev pub invariant-loop-attr : goal.invariant-loop-attr
invariant-loop-attr l = record {
  still : Does (λ n st. st) l.fn.vm l.vm;
  calm : Calm l.vm;
  going : Going l.fn.vm l.vm (attr_ids (drop l.attr-index l.attrs)) (attr_ids l.attrs);
  left : Left l.fn.vm l.fn.left l.left (λ n. attr_spots (drop l.attr-index l.attrs)) (λ n. attr_spots l.attrs);
}
