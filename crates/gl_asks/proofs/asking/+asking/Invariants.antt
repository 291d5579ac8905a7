use Rattle.std.proofs.Common.{drop}
use Rattle.gl_vm.specs.View.{Calm}
use Rattle.gl_vm.specs.Steps.{Does}
use Rattle.gl_asks.proofs.Parts.{codes_spots, items_spots}
use Rattle.gl_asks.specs.Spots.{items_ids}
use Rattle.gl_asks.proofs.Asked.{Left}
use Rattle.gl_asks.proofs.Ids.{codes_ids}
use Rattle.gl_asks.proofs.Counting.{Going}
use Rattle.gl_asks.proofs.asking.+asking.Given as goal

-- what is left decides
abbrev pub invariant-ask_codes-loop-code : goal.invariant-ask_codes-loop-code
invariant-ask_codes-loop-code l = record {
  still : Does (λ n st. st) l.fn.vm l.vm;
  calm : Calm l.vm;
  going : Going l.fn.vm l.vm (codes_ids (drop l.code-index l.code-items)) (codes_ids l.code-items);
  left : Left l.fn.vm l.fn.left l.left (λ n. codes_spots n (drop l.code-index l.code-items)) (λ n. codes_spots n l.code-items);
}

abbrev pub invariant-ask_items-loop-item : goal.invariant-ask_items-loop-item
invariant-ask_items-loop-item l = record {
  still : Does (λ n st. st) l.fn.vm l.vm;
  calm : Calm l.vm;
  going : Going l.fn.vm l.vm (items_ids (drop l.item-index l.item-items)) (items_ids l.item-items);
  left : Left l.fn.vm l.fn.left l.left (λ n. items_spots n (drop l.item-index l.item-items)) (λ n. items_spots n l.item-items);
}
