use Rattle.std.proofs.Common.{◌+◌, ◌++◌, drop, ap, ◌∙◌}
use Rattle.std.proofs.lemmas.Result.{on_ok_weaker}
use Rattle.gl_code.specs.declared.code.Code.TheVariants.{Element, Branch, Listed, Unlisted, Let, Component, Root, Yield}
use Rattle.gl_code.specs.View.{seen_owner}
use Rattle.gl_machine.specs.Gone.{gone_instance}
use Rattle.gl_gone.specs.View.{seen_ending, all_seen}
use Rattle.gl_gone.proofs.CodeGoes.{code_goes, codes_go, items_go, body_goes, mods_go, element_goes, branch_goes, listed_goes, unlisted_goes, let_goes, component_goes, root_goes, yield_goes, body_codes, code_more, item_more, code_last, item_last, left_step, left_end, two_parts, one_more, on_ok_code}
use Rattle.gl_gone.proofs.listing.+listing.Goals as goal

pub list_codes-loop-code-preserved : goal.list_codes-loop-code-preserved
list_codes-loop-code-preserved t c = record {
  seen = λ n. let xs = c.as_slice-code-items.result.now in let i = c.loop-code.code-index in
      left_step (all_seen n c.loop-code.list.items) (all_seen n c.list_code.new.list.items) (code_goes n c.code-item.result) (codes_go n (drop (i + 1) xs)) (all_seen n c.args.list.now.items ++ codes_go n xs) (codes_go n (drop i xs))
      (c.in_ok-list_code.ensures.seen n) (code_more n xs i c.code-item.result c.loop-code-test.true c.code-item.is) (c.loop-code.invariant.seen n);
  kept = λ h. c.in_ok-list_code.ensures.kept (c.loop-code.invariant.kept h);
}

pub list_codes-returns-clause-seen : goal.list_codes-returns-clause-seen
list_codes-returns-clause-seen t c = λ n. let xs = c.as_slice-code-items.result.now in let i = c.loop-code.code-index in
    left_end (all_seen n c.loop-code.list.items) (all_seen n c.args.list.now.items ++ codes_go n xs) (codes_go n (drop i xs)) (code_last n xs i c.loop-code-test.false) (c.loop-code.invariant.seen n)
    ∙ ap (λ gs. all_seen n c.args.list.now.items ++ gs) (body_codes n c.args.codes.now xs c.as_slice-code-items.ensures.value)

pub list_items-loop-item-preserved : goal.list_items-loop-item-preserved
list_items-loop-item-preserved t c = record {
  seen = λ n. let xs = c.as_slice-item-items.result.now in let i = c.loop-item.item-index in
      left_step (all_seen n c.loop-item.list.items) (all_seen n c.list_codes.new.list.items) (body_goes n c.item-item.result.body) (items_go n (drop (i + 1) xs)) (all_seen n c.args.list.now.items ++ items_go n xs) (items_go n (drop i xs))
      (c.in_ok-list_codes.ensures.seen n) (item_more n xs i c.item-item.result c.loop-item-test.true c.item-item.is) (c.loop-item.invariant.seen n);
  kept = λ h. c.in_ok-list_codes.ensures.kept (c.loop-item.invariant.kept h);
}

pub list_items-returns-clause-seen : goal.list_items-returns-clause-seen
list_items-returns-clause-seen t c = λ n. let xs = c.as_slice-item-items.result.now in let i = c.loop-item.item-index in
    left_end (all_seen n c.loop-item.list.items) (all_seen n c.args.list.now.items ++ items_go n xs) (items_go n (drop i xs)) (item_last n xs i c.loop-item-test.false) (c.loop-item.invariant.seen n)
    ∙ ap (λ ys. all_seen n c.args.list.now.items ++ items_go n ys) c.as_slice-item-items.ensures.value

pub list_element-returns-clause-seen : goal.list_element-returns-clause-seen
list_element-returns-clause-seen t c = λ n. on_ok_weaker c.list_mods.result
    (two_parts (all_seen n c.args.list.now.items) (all_seen n c.list_codes.new.list.items) (all_seen n c.list_mods.new.list.items) (body_goes n c.args.body.now) (mods_go c.args.mods.now) (c.in_ok-list_codes.ensures.seen n))
    (c.list_mods.ensures.seen n)

pub list_code-returns-in-Element-clause-seen : goal.list_code-returns-in-Element-clause-seen
list_code-returns-in-Element-clause-seen t c = λ n.
    on_ok_code c.list_element.result n c.list_element.new.list.items c.args.list.now.items c.args.code.now (Element c.in-Element.node c.in-Element.made c.in-Element.attrs c.in-Element.mods c.in-Element.body) _ c.in-Element.is
    (element_goes n c.in-Element.node c.in-Element.made c.in-Element.attrs c.in-Element.mods c.in-Element.body c.as_slice.result.now c.as_slice.ensures.value) (c.list_element.ensures.seen n)

pub list_code-returns-in-Branch-clause-seen : goal.list_code-returns-in-Branch-clause-seen
list_code-returns-in-Branch-clause-seen t c = λ n.
    on_ok_code c.list_codes.result n c.list_codes.new.list.items c.args.list.now.items c.args.code.now (Branch c.in-Branch.choice c.in-Branch.spot c.in-Branch.main c.in-Branch.comment c.in-Branch.body) _ c.in-Branch.is
    (branch_goes n c.in-Branch.choice c.in-Branch.spot c.in-Branch.main c.in-Branch.comment c.in-Branch.body) (c.list_codes.ensures.seen n)

pub list_code-returns-in-Listed-clause-seen : goal.list_code-returns-in-Listed-clause-seen
list_code-returns-in-Listed-clause-seen t c = λ n.
    on_ok_code c.list_items.result n c.list_items.new.list.items c.args.list.now.items c.args.code.now (Listed c.in-Listed.listing c.in-Listed.spot c.in-Listed.items) _ c.in-Listed.is
    (listed_goes n c.in-Listed.listing c.in-Listed.spot c.in-Listed.items) (c.list_items.ensures.seen n)

pub list_code-returns-in-Unlisted-clause-seen : goal.list_code-returns-in-Unlisted-clause-seen
list_code-returns-in-Unlisted-clause-seen t c = λ n.
    on_ok_code c.list_codes-in-Unlisted.result n c.list_codes-in-Unlisted.new.list.items c.args.list.now.items c.args.code.now (Unlisted c.in-Unlisted.listing c.in-Unlisted.spot c.in-Unlisted.comment c.in-Unlisted.body) _ c.in-Unlisted.is
    (unlisted_goes n c.in-Unlisted.listing c.in-Unlisted.spot c.in-Unlisted.comment c.in-Unlisted.body) (c.list_codes-in-Unlisted.ensures.seen n)

pub list_code-returns-in-Let-clause-seen : goal.list_code-returns-in-Let-clause-seen
list_code-returns-in-Let-clause-seen t c = λ n.
    on_ok_code c.list_codes-in-Let.result n c.list_codes-in-Let.new.list.items c.args.list.now.items c.args.code.now (Let c.in-Let.made c.in-Let.params c.in-Let.body) _ c.in-Let.is
    (let_goes n c.in-Let.made c.in-Let.params c.in-Let.body) (c.list_codes-in-Let.ensures.seen n)

pub list_code-returns-in-Component-clause-seen : goal.list_code-returns-in-Component-clause-seen
list_code-returns-in-Component-clause-seen t c = λ n.
    on_ok_code c.list_component.result n c.list_component.new.list.items c.args.list.now.items c.args.code.now (Component c.in-Component.owner c.in-Component.block c.in-Component.made c.in-Component.args c.in-Component.body) _ c.in-Component.is
    (component_goes n c.in-Component.owner c.in-Component.block c.in-Component.made c.in-Component.args c.in-Component.body) (c.list_component.ensures.seen n)

pub list_code-returns-in-Root-clause-seen : goal.list_code-returns-in-Root-clause-seen
list_code-returns-in-Root-clause-seen t c = λ n.
    on_ok_code c.list_component-in-Root.result n c.list_component-in-Root.new.list.items c.args.list.now.items c.args.code.now (Root c.in-Root.owner c.in-Root.body) _ c.in-Root.is
    (root_goes n c.in-Root.owner c.in-Root.body) (c.list_component-in-Root.ensures.seen n)

pub list_code-returns-in-Yield-clause-seen : goal.list_code-returns-in-Yield-clause-seen
list_code-returns-in-Yield-clause-seen t c = λ n.
    on_ok_code c.list_codes-in-Yield.result n c.list_codes-in-Yield.new.list.items c.args.list.now.items c.args.code.now (Yield c.in-Yield.name c.in-Yield.made c.in-Yield.params c.in-Yield.body) _ c.in-Yield.is
    (yield_goes n c.in-Yield.name c.in-Yield.made c.in-Yield.params c.in-Yield.body) (c.list_codes-in-Yield.ensures.seen n)

pub list_component-returns-clause-seen : goal.list_component-returns-clause-seen
list_component-returns-clause-seen t c = λ n. on_ok_weaker c.push_ending.result
    (one_more (all_seen n c.args.list.now.items) (all_seen n c.list_codes.new.list.items) (all_seen n c.push_ending.new.list.items) (body_goes n c.args.body.now) (seen_ending n c.in_ok-ending.ending) (gone_instance (seen_owner n c.args.owner.now.value)) (c.in_ok-list_codes.ensures.seen n) (c.in_ok-ending.ensures.seen n))
    (c.push_ending.ensures.seen n)

pub list_component-returns-clause-kept : goal.list_component-returns-clause-kept
list_component-returns-clause-kept t c = on_ok_weaker c.push_ending.result
    (λ keeps h. keeps (c.in_ok-ending.ensures.kept c.args.vm.now) (c.in_ok-list_codes.ensures.kept h)) c.push_ending.ensures.kept
