use Rattle.std.proofs.Common.{◌+◌, ◌∷◌, [], drop, subst, refl}
use Rattle.gl_asks.specs.Asked.{Asked}
use Rattle.gl_asks.proofs.Parts.{mod_spots, mod_more, mod_last}
use Rattle.gl_asks.proofs.Asked.{does_nothing, does_more, left_begin, left_next, left_found, left_end}
use Rattle.gl_asks.specs.Spots.{mod_ids}
use Rattle.gl_asks.proofs.Ids.{mod_next}
use Rattle.gl_asks.proofs.Counting.{no_answer, going_begin, going_next, going_told, going_done}
use Rattle.gl_asks.proofs.asking.ask_mods.Goals as goal

pub loop-modifier-init : goal.loop-modifier-init
loop-modifier-init c = record {
  still = does_nothing c.args.vm.now;
  calm = c.requires.calm;
  going = going_begin c.args.vm.now (mod_ids c.args.mods.now);
  left = left_begin c.args.vm.now c.args.left.now (λ n. mod_spots c.args.mods.now);
}

pub loop-modifier-preserved : goal.loop-modifier-preserved
loop-modifier-preserved c = let a = c.args.vm.now in let b = c.loop-modifier.vm in let xs = c.args.mods.now in let i = c.loop-modifier.modifier-index in record {
  still = does_more a b c.ask.new.vm c.loop-modifier.invariant.still c.ask.ensures.still;
  calm = c.ask.ensures.calm;
  going = going_next a b c.ask.new.vm (mod_ids (drop i xs)) (c.modifier-item.result.spot.id ∷ []) (mod_ids (drop (i + 1) xs)) (mod_ids xs) c.ask.result
      (mod_next xs i c.modifier-item.result c.loop-modifier-test.true c.modifier-item.is) c.loop-modifier.invariant.going c.ask.ensures.counted;
  left = left_next a b c.loop-modifier.invariant.still c.args.left.now c.loop-modifier.left c.ask.new.left (λ n. c.modifier-item.result.spot.id.1 ∷ []) (λ n. mod_spots (drop (i + 1) xs)) (λ n. mod_spots (drop i xs)) (λ n. mod_spots xs)
      (λ n. mod_more xs i c.modifier-item.result c.loop-modifier-test.true c.modifier-item.is) c.loop-modifier.invariant.left
      (subst (Asked b c.loop-modifier.left c.ask.new.left (λ n. c.modifier-item.result.spot.id.1 ∷ [])) c.if-branch.false c.in_ok-ask.ensures.asked);
}

pub returns-then-branch-clause-asked : goal.returns-then-branch-clause-asked
returns-then-branch-clause-asked c = let a = c.args.vm.now in let b = c.loop-modifier.vm in let xs = c.args.mods.now in let i = c.loop-modifier.modifier-index in
    left_found a b c.loop-modifier.invariant.still c.args.left.now c.loop-modifier.left c.ask.new.left (λ n. c.modifier-item.result.spot.id.1 ∷ []) (λ n. mod_spots (drop (i + 1) xs)) (λ n. mod_spots (drop i xs)) (λ n. mod_spots xs)
    (λ n. mod_more xs i c.modifier-item.result c.loop-modifier-test.true c.modifier-item.is) c.loop-modifier.invariant.left
    (subst (Asked b c.loop-modifier.left c.ask.new.left (λ n. c.modifier-item.result.spot.id.1 ∷ [])) c.if-branch.true c.in_ok-ask.ensures.asked)

pub returns-then-branch-clause-still : goal.returns-then-branch-clause-still
returns-then-branch-clause-still c = does_more c.args.vm.now c.loop-modifier.vm c.ask.new.vm c.loop-modifier.invariant.still c.ask.ensures.still

pub returns-in_err-ask-clause-still : goal.returns-in_err-ask-clause-still
returns-in_err-ask-clause-still c = does_more c.args.vm.now c.loop-modifier.vm c.ask.new.vm c.loop-modifier.invariant.still c.ask.ensures.still

pub returns-clause-asked : goal.returns-clause-asked
returns-clause-asked c = let xs = c.args.mods.now in let i = c.loop-modifier.modifier-index in
    left_end c.args.vm.now c.args.left.now c.loop-modifier.left (λ n. mod_spots (drop i xs)) (λ n. mod_spots xs) (λ n. mod_last xs i c.loop-modifier-test.false) c.loop-modifier.invariant.left

pub returns-then-branch-clause-counted : goal.returns-then-branch-clause-counted
returns-then-branch-clause-counted c = let xs = c.args.mods.now in let i = c.loop-modifier.modifier-index in
    going_told c.args.vm.now c.loop-modifier.vm c.ask.new.vm (mod_ids (drop i xs)) (c.modifier-item.result.spot.id ∷ []) (mod_ids (drop (i + 1) xs)) (mod_ids xs) c.ask.result
    (mod_next xs i c.modifier-item.result c.loop-modifier-test.true c.modifier-item.is) c.loop-modifier.invariant.going c.ask.ensures.counted _ (λ _. refl)

pub returns-in_err-ask-clause-counted : goal.returns-in_err-ask-clause-counted
returns-in_err-ask-clause-counted c = let xs = c.args.mods.now in let i = c.loop-modifier.modifier-index in
    going_told c.args.vm.now c.loop-modifier.vm c.ask.new.vm (mod_ids (drop i xs)) (c.modifier-item.result.spot.id ∷ []) (mod_ids (drop (i + 1) xs)) (mod_ids xs) c.ask.result
    (mod_next xs i c.modifier-item.result c.loop-modifier-test.true c.modifier-item.is) c.loop-modifier.invariant.going c.ask.ensures.counted _ (no_answer c.ask.result _ _ c.in_err-ask.was)

pub returns-clause-counted : goal.returns-clause-counted
returns-clause-counted c = let xs = c.args.mods.now in let i = c.loop-modifier.modifier-index in
    going_done c.args.vm.now c.loop-modifier.vm (mod_ids (drop i xs)) (mod_ids xs) _ refl c.loop-modifier.invariant.going
