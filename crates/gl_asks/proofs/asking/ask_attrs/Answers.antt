use Rattle.std.proofs.Common.{◌+◌, ◌∷◌, [], drop, subst, refl}
use Rattle.gl_asks.specs.Asked.{Asked}
use Rattle.gl_asks.proofs.Parts.{attr_spots, attr_more, attr_last}
use Rattle.gl_asks.proofs.Asked.{does_nothing, does_more, left_begin, left_next, left_found, left_end}
use Rattle.gl_asks.specs.Spots.{attr_ids}
use Rattle.gl_asks.proofs.Ids.{attr_next}
use Rattle.gl_asks.proofs.Counting.{no_answer, going_begin, going_next, going_told, going_done}
use Rattle.gl_asks.proofs.asking.ask_attrs.Goals as goal

pub loop-attr-init : goal.loop-attr-init
loop-attr-init c = record {
  still = does_nothing c.args.vm.now;
  calm = c.requires.calm;
  going = going_begin c.args.vm.now (attr_ids c.args.attrs.now);
  left = left_begin c.args.vm.now c.args.left.now (λ n. attr_spots c.args.attrs.now);
}

pub loop-attr-preserved : goal.loop-attr-preserved
loop-attr-preserved c = let a = c.args.vm.now in let b = c.loop-attr.vm in let xs = c.args.attrs.now in let i = c.loop-attr.attr-index in record {
  still = does_more a b c.ask.new.vm c.loop-attr.invariant.still c.ask.ensures.still;
  calm = c.ask.ensures.calm;
  going = going_next a b c.ask.new.vm (attr_ids (drop i xs)) (c.attr-item.result.spot.id ∷ []) (attr_ids (drop (i + 1) xs)) (attr_ids xs) c.ask.result
      (attr_next xs i c.attr-item.result c.loop-attr-test.true c.attr-item.is) c.loop-attr.invariant.going c.ask.ensures.counted;
  left = left_next a b c.loop-attr.invariant.still c.args.left.now c.loop-attr.left c.ask.new.left (λ n. c.attr-item.result.spot.id.1 ∷ []) (λ n. attr_spots (drop (i + 1) xs)) (λ n. attr_spots (drop i xs)) (λ n. attr_spots xs)
      (λ n. attr_more xs i c.attr-item.result c.loop-attr-test.true c.attr-item.is) c.loop-attr.invariant.left
      (subst (Asked b c.loop-attr.left c.ask.new.left (λ n. c.attr-item.result.spot.id.1 ∷ [])) c.if-branch.false c.in_ok-ask.ensures.asked);
}

pub returns-then-branch-clause-asked : goal.returns-then-branch-clause-asked
returns-then-branch-clause-asked c = let a = c.args.vm.now in let b = c.loop-attr.vm in let xs = c.args.attrs.now in let i = c.loop-attr.attr-index in
    left_found a b c.loop-attr.invariant.still c.args.left.now c.loop-attr.left c.ask.new.left (λ n. c.attr-item.result.spot.id.1 ∷ []) (λ n. attr_spots (drop (i + 1) xs)) (λ n. attr_spots (drop i xs)) (λ n. attr_spots xs)
    (λ n. attr_more xs i c.attr-item.result c.loop-attr-test.true c.attr-item.is) c.loop-attr.invariant.left
    (subst (Asked b c.loop-attr.left c.ask.new.left (λ n. c.attr-item.result.spot.id.1 ∷ [])) c.if-branch.true c.in_ok-ask.ensures.asked)

pub returns-then-branch-clause-still : goal.returns-then-branch-clause-still
returns-then-branch-clause-still c = does_more c.args.vm.now c.loop-attr.vm c.ask.new.vm c.loop-attr.invariant.still c.ask.ensures.still

pub returns-in_err-ask-clause-still : goal.returns-in_err-ask-clause-still
returns-in_err-ask-clause-still c = does_more c.args.vm.now c.loop-attr.vm c.ask.new.vm c.loop-attr.invariant.still c.ask.ensures.still

pub returns-clause-asked : goal.returns-clause-asked
returns-clause-asked c = let xs = c.args.attrs.now in let i = c.loop-attr.attr-index in
    left_end c.args.vm.now c.args.left.now c.loop-attr.left (λ n. attr_spots (drop i xs)) (λ n. attr_spots xs) (λ n. attr_last xs i c.loop-attr-test.false) c.loop-attr.invariant.left

pub returns-then-branch-clause-counted : goal.returns-then-branch-clause-counted
returns-then-branch-clause-counted c = let xs = c.args.attrs.now in let i = c.loop-attr.attr-index in
    going_told c.args.vm.now c.loop-attr.vm c.ask.new.vm (attr_ids (drop i xs)) (c.attr-item.result.spot.id ∷ []) (attr_ids (drop (i + 1) xs)) (attr_ids xs) c.ask.result
    (attr_next xs i c.attr-item.result c.loop-attr-test.true c.attr-item.is) c.loop-attr.invariant.going c.ask.ensures.counted _ (λ _. refl)

pub returns-in_err-ask-clause-counted : goal.returns-in_err-ask-clause-counted
returns-in_err-ask-clause-counted c = let xs = c.args.attrs.now in let i = c.loop-attr.attr-index in
    going_told c.args.vm.now c.loop-attr.vm c.ask.new.vm (attr_ids (drop i xs)) (c.attr-item.result.spot.id ∷ []) (attr_ids (drop (i + 1) xs)) (attr_ids xs) c.ask.result
    (attr_next xs i c.attr-item.result c.loop-attr-test.true c.attr-item.is) c.loop-attr.invariant.going c.ask.ensures.counted _ (no_answer c.ask.result _ _ c.in_err-ask.was)

pub returns-clause-counted : goal.returns-clause-counted
returns-clause-counted c = let xs = c.args.attrs.now in let i = c.loop-attr.attr-index in
    going_done c.args.vm.now c.loop-attr.vm (attr_ids (drop i xs)) (attr_ids xs) _ refl c.loop-attr.invariant.going
