use Rattle.std.proofs.Common.{◌+◌, ◌∷◌, [], ◌++◌, drop, sym, subst, ap, true, false, List, ℕ, refl, ◌∙◌}
use Rattle.gl_code.specs.declared.code.Code.TheVariants.{Put, Element, Branch, Listed, Unlisted, Let, Component, Root, Yield}
use Rattle.std.proofs.lemmas.Result.{IfOk-weaker}
use Rattle.gl_vm.specs.View.{Tables}
use Rattle.gl_asks.specs.Asked.{Asked}
use Rattle.gl_asks.proofs.Parts.{code_spots, codes_spots, items_spots, body_spots, attr_spots, mod_spots, put_spots, element_spots, branch_spots, listed_spots, unlisted_spots, let_spots, component_spots, root_spots, yield_spots, body_codes, code_more, item_more, code_last, item_last, asked_code}
use Rattle.gl_asks.proofs.Asked.{does_nothing, does_more, asked_as, asked_first, asked_then, left_begin, left_next, left_found, left_end}
use Rattle.gl_asks.specs.Spots.{attr_ids, mod_ids, code_ids, body_ids, items_ids}
use Rattle.gl_asks.proofs.Ids.{codes_ids, body_all, code_next, item_next, put_ids, element_ids, branch_ids, listed_ids, unlisted_ids, let_ids, component_ids, root_ids, yield_ids}
use Rattle.gl_asks.proofs.Counting.{no_answer, counted_first, counted_then, counted_to, going_begin, going_next, going_told, going_done}
use Rattle.gl_asks.proofs.asking.+asking.Goals as goal

pub ask_codes-loop-code-init : goal.ask_codes-loop-code-init
ask_codes-loop-code-init t c = record {
  still = does_nothing c.args.vm.now;
  calm = c.requires.calm;
  going = going_begin c.args.vm.now (codes_ids c.as_slice-code-items.result.now);
  left = left_begin c.args.vm.now c.args.left.now (λ n. codes_spots n c.as_slice-code-items.result.now);
}

pub ask_codes-loop-code-preserved : goal.ask_codes-loop-code-preserved
ask_codes-loop-code-preserved t c = let a = c.args.vm.now in let b = c.loop-code.vm in let xs = c.as_slice-code-items.result.now in let i = c.loop-code.code-index in record {
  still = does_more a b c.ask_code.new.vm c.loop-code.invariant.still c.ask_code.ensures.still;
  calm = c.ask_code.ensures.calm;
  going = going_next a b c.ask_code.new.vm (codes_ids (drop i xs)) (code_ids c.code-item.result) (codes_ids (drop (i + 1) xs)) (codes_ids xs) c.ask_code.result
      (code_next xs i c.code-item.result c.loop-code-test.true c.code-item.is) c.loop-code.invariant.going c.ask_code.ensures.counted;
  left = left_next a b c.loop-code.invariant.still c.args.left.now c.loop-code.left c.ask_code.new.left (λ n. code_spots n c.code-item.result) (λ n. codes_spots n (drop (i + 1) xs)) (λ n. codes_spots n (drop i xs)) (λ n. codes_spots n xs)
      (λ n. code_more n xs i c.code-item.result c.loop-code-test.true c.code-item.is) c.loop-code.invariant.left
      (subst (Asked b c.loop-code.left c.ask_code.new.left (λ n. code_spots n c.code-item.result)) c.if-branch.false c.in_ok-ask_code.ensures.asked);
}

pub ask_codes-returns-then-branch-clause-asked : goal.ask_codes-returns-then-branch-clause-asked
ask_codes-returns-then-branch-clause-asked t c = let a = c.args.vm.now in let b = c.loop-code.vm in let xs = c.as_slice-code-items.result.now in let i = c.loop-code.code-index in
    asked_as a c.args.left.now c.ask_code.new.left (λ n. codes_spots n xs) (λ n. body_spots n c.args.codes.now) true (λ n. sym (body_codes n c.args.codes.now xs c.as_slice-code-items.ensures.value))
    (left_found a b c.loop-code.invariant.still c.args.left.now c.loop-code.left c.ask_code.new.left (λ n. code_spots n c.code-item.result) (λ n. codes_spots n (drop (i + 1) xs)) (λ n. codes_spots n (drop i xs)) (λ n. codes_spots n xs)
    (λ n. code_more n xs i c.code-item.result c.loop-code-test.true c.code-item.is) c.loop-code.invariant.left
    (subst (Asked b c.loop-code.left c.ask_code.new.left (λ n. code_spots n c.code-item.result)) c.if-branch.true c.in_ok-ask_code.ensures.asked))

pub ask_codes-returns-then-branch-clause-still : goal.ask_codes-returns-then-branch-clause-still
ask_codes-returns-then-branch-clause-still t c = does_more c.args.vm.now c.loop-code.vm c.ask_code.new.vm c.loop-code.invariant.still c.ask_code.ensures.still

pub ask_codes-returns-in_err-ask_code-clause-still : goal.ask_codes-returns-in_err-ask_code-clause-still
ask_codes-returns-in_err-ask_code-clause-still t c = does_more c.args.vm.now c.loop-code.vm c.ask_code.new.vm c.loop-code.invariant.still c.ask_code.ensures.still

pub ask_codes-returns-clause-asked : goal.ask_codes-returns-clause-asked
ask_codes-returns-clause-asked t c = let xs = c.as_slice-code-items.result.now in let i = c.loop-code.code-index in
    asked_as c.args.vm.now c.args.left.now c.loop-code.left (λ n. codes_spots n xs) (λ n. body_spots n c.args.codes.now) false (λ n. sym (body_codes n c.args.codes.now xs c.as_slice-code-items.ensures.value))
    (left_end c.args.vm.now c.args.left.now c.loop-code.left (λ n. codes_spots n (drop i xs)) (λ n. codes_spots n xs) (λ n. code_last n xs i c.loop-code-test.false) c.loop-code.invariant.left)

pub ask_items-loop-item-init : goal.ask_items-loop-item-init
ask_items-loop-item-init t c = record {
  still = does_nothing c.args.vm.now;
  calm = c.requires.calm;
  going = going_begin c.args.vm.now (items_ids c.as_slice-item-items.result.now);
  left = left_begin c.args.vm.now c.args.left.now (λ n. items_spots n c.as_slice-item-items.result.now);
}

pub ask_items-loop-item-preserved : goal.ask_items-loop-item-preserved
ask_items-loop-item-preserved t c = let a = c.args.vm.now in let b = c.loop-item.vm in let xs = c.as_slice-item-items.result.now in let i = c.loop-item.item-index in record {
  still = does_more a b c.ask_codes.new.vm c.loop-item.invariant.still c.ask_codes.ensures.still;
  calm = c.ask_codes.ensures.calm;
  going = going_next a b c.ask_codes.new.vm (items_ids (drop i xs)) (body_ids c.item-item.result.body) (items_ids (drop (i + 1) xs)) (items_ids xs) c.ask_codes.result
      (item_next xs i c.item-item.result c.loop-item-test.true c.item-item.is) c.loop-item.invariant.going c.ask_codes.ensures.counted;
  left = left_next a b c.loop-item.invariant.still c.args.left.now c.loop-item.left c.ask_codes.new.left (λ n. body_spots n c.item-item.result.body) (λ n. items_spots n (drop (i + 1) xs)) (λ n. items_spots n (drop i xs)) (λ n. items_spots n xs)
      (λ n. item_more n xs i c.item-item.result c.loop-item-test.true c.item-item.is) c.loop-item.invariant.left
      (subst (Asked b c.loop-item.left c.ask_codes.new.left (λ n. body_spots n c.item-item.result.body)) c.if-branch.false c.in_ok-ask_codes.ensures.asked);
}

pub ask_items-returns-then-branch-clause-asked : goal.ask_items-returns-then-branch-clause-asked
ask_items-returns-then-branch-clause-asked t c = let a = c.args.vm.now in let b = c.loop-item.vm in let xs = c.as_slice-item-items.result.now in let i = c.loop-item.item-index in
    asked_as a c.args.left.now c.ask_codes.new.left (λ n. items_spots n xs) (λ n. items_spots n c.args.items.now.items) true (λ n. sym (ap (items_spots n) c.as_slice-item-items.ensures.value))
    (left_found a b c.loop-item.invariant.still c.args.left.now c.loop-item.left c.ask_codes.new.left (λ n. body_spots n c.item-item.result.body) (λ n. items_spots n (drop (i + 1) xs)) (λ n. items_spots n (drop i xs)) (λ n. items_spots n xs)
    (λ n. item_more n xs i c.item-item.result c.loop-item-test.true c.item-item.is) c.loop-item.invariant.left
    (subst (Asked b c.loop-item.left c.ask_codes.new.left (λ n. body_spots n c.item-item.result.body)) c.if-branch.true c.in_ok-ask_codes.ensures.asked))

pub ask_items-returns-then-branch-clause-still : goal.ask_items-returns-then-branch-clause-still
ask_items-returns-then-branch-clause-still t c = does_more c.args.vm.now c.loop-item.vm c.ask_codes.new.vm c.loop-item.invariant.still c.ask_codes.ensures.still

pub ask_items-returns-in_err-ask_codes-clause-still : goal.ask_items-returns-in_err-ask_codes-clause-still
ask_items-returns-in_err-ask_codes-clause-still t c = does_more c.args.vm.now c.loop-item.vm c.ask_codes.new.vm c.loop-item.invariant.still c.ask_codes.ensures.still

pub ask_items-returns-clause-asked : goal.ask_items-returns-clause-asked
ask_items-returns-clause-asked t c = let xs = c.as_slice-item-items.result.now in let i = c.loop-item.item-index in
    asked_as c.args.vm.now c.args.left.now c.loop-item.left (λ n. items_spots n xs) (λ n. items_spots n c.args.items.now.items) false (λ n. sym (ap (items_spots n) c.as_slice-item-items.ensures.value))
    (left_end c.args.vm.now c.args.left.now c.loop-item.left (λ n. items_spots n (drop i xs)) (λ n. items_spots n xs) (λ n. item_last n xs i c.loop-item-test.false) c.loop-item.invariant.left)

pub ask_element-returns-then-branch-clause-asked : goal.ask_element-returns-then-branch-clause-asked
ask_element-returns-then-branch-clause-asked t c =
    asked_first c.args.vm.now c.args.left.now c.ask_attrs.new.left (λ n. attr_spots c.args.attrs.now) (λ n. body_spots n c.args.body.now ++ mod_spots c.args.mods.now)
    (subst (Asked c.args.vm.now c.args.left.now c.ask_attrs.new.left (λ n. attr_spots c.args.attrs.now)) c.if-branch.true c.in_ok-ask_attrs.ensures.asked)

pub ask_code-returns-in-Put-clause-asked : goal.ask_code-returns-in-Put-clause-asked
ask_code-returns-in-Put-clause-asked t c =
    asked_code c.ask.result c.args.vm.now c.args.left.now c.ask.new.left c.args.code.now (Put c.in-Put.node c.in-Put.spot) (λ n. c.in-Put.spot.id.1 ∷ []) c.in-Put.is
    (λ n. put_spots n c.in-Put.node c.in-Put.spot) c.ask.ensures.asked

pub ask_code-returns-in-Element-clause-asked : goal.ask_code-returns-in-Element-clause-asked
ask_code-returns-in-Element-clause-asked t c =
    asked_code c.ask_element.result c.args.vm.now c.args.left.now c.ask_element.new.left c.args.code.now (Element c.in-Element.node c.in-Element.made c.in-Element.attrs c.in-Element.mods c.in-Element.body) (λ n. attr_spots c.as_slice.result.now ++ (body_spots n c.in-Element.body ++ mod_spots c.as_slice-in-Element.result.now)) c.in-Element.is
    (λ n. element_spots n c.in-Element.node c.in-Element.made c.in-Element.attrs c.in-Element.mods c.in-Element.body c.as_slice.result.now c.as_slice-in-Element.result.now c.as_slice.ensures.value c.as_slice-in-Element.ensures.value) c.ask_element.ensures.asked

pub ask_code-returns-in-Branch-clause-asked : goal.ask_code-returns-in-Branch-clause-asked
ask_code-returns-in-Branch-clause-asked t c =
    asked_code c.ask_spot.result c.args.vm.now c.args.left.now c.ask_spot.new.left c.args.code.now (Branch c.in-Branch.choice c.in-Branch.spot c.in-Branch.main c.in-Branch.comment c.in-Branch.body) (λ n. c.in-Branch.spot.id.1 ∷ body_spots n c.in-Branch.body) c.in-Branch.is
    (λ n. branch_spots n c.in-Branch.choice c.in-Branch.spot c.in-Branch.main c.in-Branch.comment c.in-Branch.body) c.ask_spot.ensures.asked

pub ask_code-returns-in-Listed-clause-asked : goal.ask_code-returns-in-Listed-clause-asked
ask_code-returns-in-Listed-clause-asked t c =
    asked_code c.ask_list.result c.args.vm.now c.args.left.now c.ask_list.new.left c.args.code.now (Listed c.in-Listed.listing c.in-Listed.spot c.in-Listed.items) (λ n. c.in-Listed.spot.id.1 ∷ items_spots n c.in-Listed.items.items) c.in-Listed.is
    (λ n. listed_spots n c.in-Listed.listing c.in-Listed.spot c.in-Listed.items) c.ask_list.ensures.asked

pub ask_code-returns-in-Unlisted-clause-asked : goal.ask_code-returns-in-Unlisted-clause-asked
ask_code-returns-in-Unlisted-clause-asked t c =
    asked_code c.ask_spot-in-Unlisted.result c.args.vm.now c.args.left.now c.ask_spot-in-Unlisted.new.left c.args.code.now (Unlisted c.in-Unlisted.listing c.in-Unlisted.spot c.in-Unlisted.comment c.in-Unlisted.body) (λ n. c.in-Unlisted.spot.id.1 ∷ body_spots n c.in-Unlisted.body) c.in-Unlisted.is
    (λ n. unlisted_spots n c.in-Unlisted.listing c.in-Unlisted.spot c.in-Unlisted.comment c.in-Unlisted.body) c.ask_spot-in-Unlisted.ensures.asked

pub ask_code-returns-in-Let-clause-asked : goal.ask_code-returns-in-Let-clause-asked
ask_code-returns-in-Let-clause-asked t c =
    asked_code c.ask_codes.result c.args.vm.now c.args.left.now c.ask_codes.new.left c.args.code.now (Let c.in-Let.made c.in-Let.params c.in-Let.body) (λ n. body_spots n c.in-Let.body) c.in-Let.is
    (λ n. let_spots n c.in-Let.made c.in-Let.params c.in-Let.body) c.ask_codes.ensures.asked

pub ask_code-returns-in-Component-clause-asked : goal.ask_code-returns-in-Component-clause-asked
ask_code-returns-in-Component-clause-asked t c =
    asked_code c.ask_codes-in-Component.result c.args.vm.now c.args.left.now c.ask_codes-in-Component.new.left c.args.code.now (Component c.in-Component.owner c.in-Component.block c.in-Component.made c.in-Component.args c.in-Component.body) (λ n. body_spots n c.in-Component.body) c.in-Component.is
    (λ n. component_spots n c.in-Component.owner c.in-Component.block c.in-Component.made c.in-Component.args c.in-Component.body) c.ask_codes-in-Component.ensures.asked

pub ask_code-returns-in-Root-clause-asked : goal.ask_code-returns-in-Root-clause-asked
ask_code-returns-in-Root-clause-asked t c =
    asked_code c.ask_codes-in-Root.result c.args.vm.now c.args.left.now c.ask_codes-in-Root.new.left c.args.code.now (Root c.in-Root.owner c.in-Root.body) (λ n. body_spots n c.in-Root.body) c.in-Root.is
    (λ n. root_spots n c.in-Root.owner c.in-Root.body) c.ask_codes-in-Root.ensures.asked

pub ask_code-returns-in-Yield-clause-asked : goal.ask_code-returns-in-Yield-clause-asked
ask_code-returns-in-Yield-clause-asked t c =
    asked_code c.ask_codes-in-Yield.result c.args.vm.now c.args.left.now c.ask_codes-in-Yield.new.left c.args.code.now (Yield c.in-Yield.name c.in-Yield.made c.in-Yield.params c.in-Yield.body) (λ n. body_spots n c.in-Yield.body) c.in-Yield.is
    (λ n. yield_spots n c.in-Yield.name c.in-Yield.made c.in-Yield.params c.in-Yield.body) c.ask_codes-in-Yield.ensures.asked

pub ask_element-returns-in_err-ask_codes-clause-still : goal.ask_element-returns-in_err-ask_codes-clause-still
ask_element-returns-in_err-ask_codes-clause-still t c = does_more c.args.vm.now c.ask_attrs.new.vm c.ask_codes.new.vm c.ask_attrs.ensures.still c.ask_codes.ensures.still

pub ask_element-returns-then-branch-2-clause-asked : goal.ask_element-returns-then-branch-2-clause-asked
ask_element-returns-then-branch-2-clause-asked t c = let a = c.args.vm.now in let b = c.ask_attrs.new.vm in let k = c.args.left.now in let k1 = c.ask_attrs.new.left in let k2 = c.ask_codes.new.left in
    asked_then a b k k1 k2 (λ n. attr_spots c.args.attrs.now) (λ n. body_spots n c.args.body.now ++ mod_spots c.args.mods.now) true c.ask_attrs.ensures.still
    (subst (Asked a k k1 (λ n. attr_spots c.args.attrs.now)) c.if-branch.false c.in_ok-ask_attrs.ensures.asked)
    (asked_first b k1 k2 (λ n. body_spots n c.args.body.now) (λ n. mod_spots c.args.mods.now) (subst (Asked b k1 k2 (λ n. body_spots n c.args.body.now)) c.if-branch-2.true c.in_ok-ask_codes.ensures.asked))

pub ask_element-returns-then-branch-2-clause-still : goal.ask_element-returns-then-branch-2-clause-still
ask_element-returns-then-branch-2-clause-still t c = does_more c.args.vm.now c.ask_attrs.new.vm c.ask_codes.new.vm c.ask_attrs.ensures.still c.ask_codes.ensures.still

pub ask_element-returns-clause-asked : goal.ask_element-returns-clause-asked
ask_element-returns-clause-asked t c = let a = c.args.vm.now in let b = c.ask_attrs.new.vm in let k = c.args.left.now in let k1 = c.ask_attrs.new.left in let k2 = c.ask_codes.new.left in let k3 = c.ask_mods.new.left in
    let attrs : Tables → List ℕ = λ n. attr_spots c.args.attrs.now in let body : Tables → List ℕ = λ n. body_spots n c.args.body.now in let mods : Tables → List ℕ = λ n. mod_spots c.args.mods.now in
    IfOk-weaker c.ask_mods.result (Asked c.ask_codes.new.vm k2 k3 mods) (Asked a k k3 (λ n. attr_spots c.args.attrs.now ++ (body_spots n c.args.body.now ++ mod_spots c.args.mods.now)))
    (λ w x. asked_then a b k k1 k3 attrs (λ n. body_spots n c.args.body.now ++ mod_spots c.args.mods.now) w c.ask_attrs.ensures.still
    (subst (Asked a k k1 attrs) c.if-branch.false c.in_ok-ask_attrs.ensures.asked)
    (asked_then b c.ask_codes.new.vm k1 k2 k3 body mods w c.ask_codes.ensures.still (subst (Asked b k1 k2 body) c.if-branch-2.false c.in_ok-ask_codes.ensures.asked) x))
    c.ask_mods.ensures.asked

pub ask_element-returns-clause-still : goal.ask_element-returns-clause-still
ask_element-returns-clause-still t c =
    does_more c.args.vm.now c.ask_attrs.new.vm c.ask_mods.new.vm c.ask_attrs.ensures.still (does_more c.ask_attrs.new.vm c.ask_codes.new.vm c.ask_mods.new.vm c.ask_codes.ensures.still c.ask_mods.ensures.still)

pub ask_spot-returns-then-branch-clause-asked : goal.ask_spot-returns-then-branch-clause-asked
ask_spot-returns-then-branch-clause-asked t c = let one : Tables → List ℕ = λ n. c.args.spot.now.id.1 ∷ [] in
    asked_first c.args.vm.now c.args.left.now c.ask.new.left one (λ n. body_spots n c.args.body.now) (subst (Asked c.args.vm.now c.args.left.now c.ask.new.left one) c.if-branch.true c.in_ok-ask.ensures.asked)

pub ask_spot-returns-clause-asked : goal.ask_spot-returns-clause-asked
ask_spot-returns-clause-asked t c = let a = c.args.vm.now in let b = c.ask.new.vm in let k = c.args.left.now in let k1 = c.ask.new.left in let k2 = c.ask_codes.new.left in
    let one : Tables → List ℕ = λ n. c.args.spot.now.id.1 ∷ [] in let body : Tables → List ℕ = λ n. body_spots n c.args.body.now in
    IfOk-weaker c.ask_codes.result (Asked b k1 k2 body) (Asked a k k2 (λ n. c.args.spot.now.id.1 ∷ body_spots n c.args.body.now))
    (λ w x. asked_then a b k k1 k2 one body w c.ask.ensures.still (subst (Asked a k k1 one) c.if-branch.false c.in_ok-ask.ensures.asked) x) c.ask_codes.ensures.asked

pub ask_spot-returns-clause-still : goal.ask_spot-returns-clause-still
ask_spot-returns-clause-still t c = does_more c.args.vm.now c.ask.new.vm c.ask_codes.new.vm c.ask.ensures.still c.ask_codes.ensures.still

pub ask_list-returns-then-branch-clause-asked : goal.ask_list-returns-then-branch-clause-asked
ask_list-returns-then-branch-clause-asked t c = let one : Tables → List ℕ = λ n. c.args.spot.now.id.1 ∷ [] in
    asked_first c.args.vm.now c.args.left.now c.ask.new.left one (λ n. items_spots n c.args.items.now.items) (subst (Asked c.args.vm.now c.args.left.now c.ask.new.left one) c.if-branch.true c.in_ok-ask.ensures.asked)

pub ask_list-returns-clause-asked : goal.ask_list-returns-clause-asked
ask_list-returns-clause-asked t c = let a = c.args.vm.now in let b = c.ask.new.vm in let k = c.args.left.now in let k1 = c.ask.new.left in let k2 = c.ask_items.new.left in
    let one : Tables → List ℕ = λ n. c.args.spot.now.id.1 ∷ [] in let items : Tables → List ℕ = λ n. items_spots n c.args.items.now.items in
    IfOk-weaker c.ask_items.result (Asked b k1 k2 items) (Asked a k k2 (λ n. c.args.spot.now.id.1 ∷ items_spots n c.args.items.now.items))
    (λ w x. asked_then a b k k1 k2 one items w c.ask.ensures.still (subst (Asked a k k1 one) c.if-branch.false c.in_ok-ask.ensures.asked) x) c.ask_items.ensures.asked

pub ask_list-returns-clause-still : goal.ask_list-returns-clause-still
ask_list-returns-clause-still t c = does_more c.args.vm.now c.ask.new.vm c.ask_items.new.vm c.ask.ensures.still c.ask_items.ensures.still

pub ask_codes-returns-then-branch-clause-counted : goal.ask_codes-returns-then-branch-clause-counted
ask_codes-returns-then-branch-clause-counted t c = let xs = c.as_slice-code-items.result.now in let i = c.loop-code.code-index in
    counted_to c.args.vm.now _ (codes_ids xs) (body_ids c.args.codes.now) _ (sym (body_all c.args.codes.now xs c.as_slice-code-items.ensures.value)) (going_told c.args.vm.now c.loop-code.vm c.ask_code.new.vm (codes_ids (drop i xs)) (code_ids c.code-item.result) (codes_ids (drop (i + 1) xs)) (codes_ids xs) c.ask_code.result
    (code_next xs i c.code-item.result c.loop-code-test.true c.code-item.is) c.loop-code.invariant.going c.ask_code.ensures.counted _ (λ _. refl))

pub ask_codes-returns-in_err-ask_code-clause-counted : goal.ask_codes-returns-in_err-ask_code-clause-counted
ask_codes-returns-in_err-ask_code-clause-counted t c = let xs = c.as_slice-code-items.result.now in let i = c.loop-code.code-index in
    counted_to c.args.vm.now _ (codes_ids xs) (body_ids c.args.codes.now) _ (sym (body_all c.args.codes.now xs c.as_slice-code-items.ensures.value)) (going_told c.args.vm.now c.loop-code.vm c.ask_code.new.vm (codes_ids (drop i xs)) (code_ids c.code-item.result) (codes_ids (drop (i + 1) xs)) (codes_ids xs) c.ask_code.result
    (code_next xs i c.code-item.result c.loop-code-test.true c.code-item.is) c.loop-code.invariant.going c.ask_code.ensures.counted _ (no_answer c.ask_code.result _ _ c.in_err-ask_code.was))

pub ask_codes-returns-clause-counted : goal.ask_codes-returns-clause-counted
ask_codes-returns-clause-counted t c = let xs = c.as_slice-code-items.result.now in let i = c.loop-code.code-index in
    counted_to c.args.vm.now _ (codes_ids xs) (body_ids c.args.codes.now) _ (sym (body_all c.args.codes.now xs c.as_slice-code-items.ensures.value)) (going_done c.args.vm.now c.loop-code.vm (codes_ids (drop i xs)) (codes_ids xs) _ refl c.loop-code.invariant.going)

pub ask_items-returns-then-branch-clause-counted : goal.ask_items-returns-then-branch-clause-counted
ask_items-returns-then-branch-clause-counted t c = let xs = c.as_slice-item-items.result.now in let i = c.loop-item.item-index in
    counted_to c.args.vm.now _ (items_ids xs) (items_ids c.args.items.now.items) _ (ap items_ids (sym c.as_slice-item-items.ensures.value)) (going_told c.args.vm.now c.loop-item.vm c.ask_codes.new.vm (items_ids (drop i xs)) (body_ids c.item-item.result.body) (items_ids (drop (i + 1) xs)) (items_ids xs) c.ask_codes.result
    (item_next xs i c.item-item.result c.loop-item-test.true c.item-item.is) c.loop-item.invariant.going c.ask_codes.ensures.counted _ (λ _. refl))

pub ask_items-returns-in_err-ask_codes-clause-counted : goal.ask_items-returns-in_err-ask_codes-clause-counted
ask_items-returns-in_err-ask_codes-clause-counted t c = let xs = c.as_slice-item-items.result.now in let i = c.loop-item.item-index in
    counted_to c.args.vm.now _ (items_ids xs) (items_ids c.args.items.now.items) _ (ap items_ids (sym c.as_slice-item-items.ensures.value)) (going_told c.args.vm.now c.loop-item.vm c.ask_codes.new.vm (items_ids (drop i xs)) (body_ids c.item-item.result.body) (items_ids (drop (i + 1) xs)) (items_ids xs) c.ask_codes.result
    (item_next xs i c.item-item.result c.loop-item-test.true c.item-item.is) c.loop-item.invariant.going c.ask_codes.ensures.counted _ (no_answer c.ask_codes.result _ _ c.in_err-ask_codes.was))

pub ask_items-returns-clause-counted : goal.ask_items-returns-clause-counted
ask_items-returns-clause-counted t c = let xs = c.as_slice-item-items.result.now in let i = c.loop-item.item-index in
    counted_to c.args.vm.now _ (items_ids xs) (items_ids c.args.items.now.items) _ (ap items_ids (sym c.as_slice-item-items.ensures.value)) (going_done c.args.vm.now c.loop-item.vm (items_ids (drop i xs)) (items_ids xs) _ refl c.loop-item.invariant.going)

pub ask_code-returns-in-Put-clause-counted : goal.ask_code-returns-in-Put-clause-counted
ask_code-returns-in-Put-clause-counted t c = counted_to c.args.vm.now c.ask.new.vm (c.in-Put.spot.id ∷ []) (code_ids c.args.code.now) c.ask.result (ap code_ids c.in-Put.is ∙ put_ids c.in-Put.node c.in-Put.spot) c.ask.ensures.counted

pub ask_code-returns-in-Element-clause-counted : goal.ask_code-returns-in-Element-clause-counted
ask_code-returns-in-Element-clause-counted t c = counted_to c.args.vm.now c.ask_element.new.vm (attr_ids c.as_slice.result.now ++ (body_ids c.in-Element.body ++ mod_ids c.as_slice-in-Element.result.now)) (code_ids c.args.code.now) c.ask_element.result (ap code_ids c.in-Element.is ∙ element_ids c.in-Element.node c.in-Element.made c.in-Element.attrs c.in-Element.mods c.in-Element.body c.as_slice.result.now c.as_slice-in-Element.result.now c.as_slice.ensures.value c.as_slice-in-Element.ensures.value) c.ask_element.ensures.counted

pub ask_code-returns-in-Branch-clause-counted : goal.ask_code-returns-in-Branch-clause-counted
ask_code-returns-in-Branch-clause-counted t c = counted_to c.args.vm.now c.ask_spot.new.vm (c.in-Branch.spot.id ∷ body_ids c.in-Branch.body) (code_ids c.args.code.now) c.ask_spot.result (ap code_ids c.in-Branch.is ∙ branch_ids c.in-Branch.choice c.in-Branch.spot c.in-Branch.main c.in-Branch.comment c.in-Branch.body) c.ask_spot.ensures.counted

pub ask_code-returns-in-Listed-clause-counted : goal.ask_code-returns-in-Listed-clause-counted
ask_code-returns-in-Listed-clause-counted t c = counted_to c.args.vm.now c.ask_list.new.vm (c.in-Listed.spot.id ∷ items_ids c.in-Listed.items.items) (code_ids c.args.code.now) c.ask_list.result (ap code_ids c.in-Listed.is ∙ listed_ids c.in-Listed.listing c.in-Listed.spot c.in-Listed.items) c.ask_list.ensures.counted

pub ask_code-returns-in-Unlisted-clause-counted : goal.ask_code-returns-in-Unlisted-clause-counted
ask_code-returns-in-Unlisted-clause-counted t c = counted_to c.args.vm.now c.ask_spot-in-Unlisted.new.vm (c.in-Unlisted.spot.id ∷ body_ids c.in-Unlisted.body) (code_ids c.args.code.now) c.ask_spot-in-Unlisted.result (ap code_ids c.in-Unlisted.is ∙ unlisted_ids c.in-Unlisted.listing c.in-Unlisted.spot c.in-Unlisted.comment c.in-Unlisted.body) c.ask_spot-in-Unlisted.ensures.counted

pub ask_code-returns-in-Let-clause-counted : goal.ask_code-returns-in-Let-clause-counted
ask_code-returns-in-Let-clause-counted t c = counted_to c.args.vm.now c.ask_codes.new.vm (body_ids c.in-Let.body) (code_ids c.args.code.now) c.ask_codes.result (ap code_ids c.in-Let.is ∙ let_ids c.in-Let.made c.in-Let.params c.in-Let.body) c.ask_codes.ensures.counted

pub ask_code-returns-in-Component-clause-counted : goal.ask_code-returns-in-Component-clause-counted
ask_code-returns-in-Component-clause-counted t c = counted_to c.args.vm.now c.ask_codes-in-Component.new.vm (body_ids c.in-Component.body) (code_ids c.args.code.now) c.ask_codes-in-Component.result (ap code_ids c.in-Component.is ∙ component_ids c.in-Component.owner c.in-Component.block c.in-Component.made c.in-Component.args c.in-Component.body) c.ask_codes-in-Component.ensures.counted

pub ask_code-returns-in-Root-clause-counted : goal.ask_code-returns-in-Root-clause-counted
ask_code-returns-in-Root-clause-counted t c = counted_to c.args.vm.now c.ask_codes-in-Root.new.vm (body_ids c.in-Root.body) (code_ids c.args.code.now) c.ask_codes-in-Root.result (ap code_ids c.in-Root.is ∙ root_ids c.in-Root.owner c.in-Root.body) c.ask_codes-in-Root.ensures.counted

pub ask_code-returns-in-Yield-clause-counted : goal.ask_code-returns-in-Yield-clause-counted
ask_code-returns-in-Yield-clause-counted t c = counted_to c.args.vm.now c.ask_codes-in-Yield.new.vm (body_ids c.in-Yield.body) (code_ids c.args.code.now) c.ask_codes-in-Yield.result (ap code_ids c.in-Yield.is ∙ yield_ids c.in-Yield.name c.in-Yield.made c.in-Yield.params c.in-Yield.body) c.ask_codes-in-Yield.ensures.counted

pub ask_element-returns-in_err-ask_attrs-clause-counted : goal.ask_element-returns-in_err-ask_attrs-clause-counted
ask_element-returns-in_err-ask_attrs-clause-counted t c = counted_first c.args.vm.now c.ask_attrs.new.vm (attr_ids c.args.attrs.now) (body_ids c.args.body.now ++ mod_ids c.args.mods.now) c.ask_attrs.result _ (no_answer c.ask_attrs.result _ _ c.in_err-ask_attrs.was) c.ask_attrs.ensures.counted

pub ask_element-returns-then-branch-clause-counted : goal.ask_element-returns-then-branch-clause-counted
ask_element-returns-then-branch-clause-counted t c = counted_first c.args.vm.now c.ask_attrs.new.vm (attr_ids c.args.attrs.now) (body_ids c.args.body.now ++ mod_ids c.args.mods.now) c.ask_attrs.result _ (λ _. refl) c.ask_attrs.ensures.counted

pub ask_element-returns-in_err-ask_codes-clause-counted : goal.ask_element-returns-in_err-ask_codes-clause-counted
ask_element-returns-in_err-ask_codes-clause-counted t c =
    counted_then c.args.vm.now c.ask_attrs.new.vm c.ask_codes.new.vm (attr_ids c.args.attrs.now) (body_ids c.args.body.now ++ mod_ids c.args.mods.now) c.ask_attrs.result _ _ (λ h. h) c.ask_attrs.ensures.counted
    (counted_first c.ask_attrs.new.vm c.ask_codes.new.vm (body_ids c.args.body.now) (mod_ids c.args.mods.now) c.ask_codes.result _ (no_answer c.ask_codes.result _ _ c.in_err-ask_codes.was) c.ask_codes.ensures.counted)

pub ask_element-returns-then-branch-2-clause-counted : goal.ask_element-returns-then-branch-2-clause-counted
ask_element-returns-then-branch-2-clause-counted t c =
    counted_then c.args.vm.now c.ask_attrs.new.vm c.ask_codes.new.vm (attr_ids c.args.attrs.now) (body_ids c.args.body.now ++ mod_ids c.args.mods.now) c.ask_attrs.result c.ask_codes.result _ (λ _. refl) c.ask_attrs.ensures.counted
    (counted_first c.ask_attrs.new.vm c.ask_codes.new.vm (body_ids c.args.body.now) (mod_ids c.args.mods.now) c.ask_codes.result c.ask_codes.result (λ h. h) c.ask_codes.ensures.counted)

pub ask_element-returns-clause-counted : goal.ask_element-returns-clause-counted
ask_element-returns-clause-counted t c =
    counted_then c.args.vm.now c.ask_attrs.new.vm c.ask_mods.new.vm (attr_ids c.args.attrs.now) (body_ids c.args.body.now ++ mod_ids c.args.mods.now) c.ask_attrs.result c.ask_mods.result c.ask_mods.result (λ h. h) c.ask_attrs.ensures.counted
    (counted_then c.ask_attrs.new.vm c.ask_codes.new.vm c.ask_mods.new.vm (body_ids c.args.body.now) (mod_ids c.args.mods.now) c.ask_codes.result c.ask_mods.result c.ask_mods.result (λ h. h) c.ask_codes.ensures.counted c.ask_mods.ensures.counted)

pub ask_spot-returns-in_err-ask-clause-counted : goal.ask_spot-returns-in_err-ask-clause-counted
ask_spot-returns-in_err-ask-clause-counted t c = counted_first c.args.vm.now c.ask.new.vm (c.args.spot.now.id ∷ []) (body_ids c.args.body.now) c.ask.result _ (no_answer c.ask.result _ _ c.in_err-ask.was) c.ask.ensures.counted

pub ask_spot-returns-then-branch-clause-counted : goal.ask_spot-returns-then-branch-clause-counted
ask_spot-returns-then-branch-clause-counted t c = counted_first c.args.vm.now c.ask.new.vm (c.args.spot.now.id ∷ []) (body_ids c.args.body.now) c.ask.result _ (λ _. refl) c.ask.ensures.counted

pub ask_spot-returns-clause-counted : goal.ask_spot-returns-clause-counted
ask_spot-returns-clause-counted t c = counted_then c.args.vm.now c.ask.new.vm c.ask_codes.new.vm (c.args.spot.now.id ∷ []) (body_ids c.args.body.now) c.ask.result c.ask_codes.result c.ask_codes.result (λ h. h) c.ask.ensures.counted c.ask_codes.ensures.counted

pub ask_list-returns-in_err-ask-clause-counted : goal.ask_list-returns-in_err-ask-clause-counted
ask_list-returns-in_err-ask-clause-counted t c = counted_first c.args.vm.now c.ask.new.vm (c.args.spot.now.id ∷ []) (items_ids c.args.items.now.items) c.ask.result _ (no_answer c.ask.result _ _ c.in_err-ask.was) c.ask.ensures.counted

pub ask_list-returns-then-branch-clause-counted : goal.ask_list-returns-then-branch-clause-counted
ask_list-returns-then-branch-clause-counted t c = counted_first c.args.vm.now c.ask.new.vm (c.args.spot.now.id ∷ []) (items_ids c.args.items.now.items) c.ask.result _ (λ _. refl) c.ask.ensures.counted

pub ask_list-returns-clause-counted : goal.ask_list-returns-clause-counted
ask_list-returns-clause-counted t c = counted_then c.args.vm.now c.ask.new.vm c.ask_items.new.vm (c.args.spot.now.id ∷ []) (items_ids c.args.items.now.items) c.ask.result c.ask_items.result c.ask_items.result (λ h. h) c.ask.ensures.counted c.ask_items.ensures.counted
