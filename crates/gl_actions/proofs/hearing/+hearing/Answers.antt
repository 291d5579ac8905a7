use Rattle.std.proofs.Common.{◌++◌, [], map, nat_eq, ap, ◌∙◌}
use Rattle.std.specs.Prelude.{if◌then◌else◌}
use Rattle.std.specs.Str.{chars}
use Rattle.std.proofs.lemmas.Result.{on_ok_weaker}
use Rattle.gl_machine.specs.Code.{lives_of, items_of}
use Rattle.gl_code.specs.CodeView.{seen_mod_spot, seen_codes, seen_item_code, all_items}
use Rattle.gl_actions.specs.Heard.{spots_among, spots_of_items, called_of}
use Rattle.gl_actions.proofs.HeardIn.{called_then, element_heard, branch_heard, listed_heard, unlisted_heard, let_heard, component_heard, root_heard, yield_heard, codes_on, codes_end, items_on, items_end, heard_as}
use Rattle.gl_actions.proofs.hearing.+hearing.Goals as goal

pub hear_code-returns-in-Element : goal.hear_code-returns-in-Element
hear_code-returns-in-Element t c = on_ok_weaker c.hear_element.result
    (λ e n. heard_as c.args.heard.now.vm.now.mods (chars c.args.heard.now.event.now) c.args.heard.now.number n c.args.code.now _ c.hear_element.new.acts c.args.acts.now _ c.in-Element.is (element_heard c.args.heard.now.vm.now.mods (chars c.args.heard.now.event.now) c.args.heard.now.number n c.in-Element.node c.in-Element.made c.in-Element.attrs c.in-Element.mods c.in-Element.body)
    (e n ∙ ap (λ zs. c.args.acts.now ++ called_of c.args.heard.now.vm.now.mods (chars c.args.heard.now.event.now) ((if nat_eq c.args.heard.now.number c.in-Element.node.1 then map seen_mod_spot zs else []) ++ spots_among c.args.heard.now.number (lives_of (seen_codes n c.in-Element.body)))) c.as_slice.ensures.value)) c.hear_element.ensures

pub hear_code-returns-in-Branch : goal.hear_code-returns-in-Branch
hear_code-returns-in-Branch t c = on_ok_weaker c.hear_codes.result
    (λ e n. heard_as c.args.heard.now.vm.now.mods (chars c.args.heard.now.event.now) c.args.heard.now.number n c.args.code.now _ c.hear_codes.new.acts c.args.acts.now _ c.in-Branch.is (branch_heard c.args.heard.now.vm.now.mods (chars c.args.heard.now.event.now) c.args.heard.now.number n _ _ _ _ c.in-Branch.body) (e n)) c.hear_codes.ensures

pub hear_code-returns-in-Listed : goal.hear_code-returns-in-Listed
hear_code-returns-in-Listed t c = on_ok_weaker c.hear_items.result
    (λ e n. heard_as c.args.heard.now.vm.now.mods (chars c.args.heard.now.event.now) c.args.heard.now.number n c.args.code.now _ c.hear_items.new.acts c.args.acts.now _ c.in-Listed.is (listed_heard c.args.heard.now.vm.now.mods (chars c.args.heard.now.event.now) c.args.heard.now.number n _ _ c.in-Listed.items) (e n)) c.hear_items.ensures

pub hear_code-returns-in-Unlisted : goal.hear_code-returns-in-Unlisted
hear_code-returns-in-Unlisted t c = on_ok_weaker c.hear_codes-in-Unlisted.result
    (λ e n. heard_as c.args.heard.now.vm.now.mods (chars c.args.heard.now.event.now) c.args.heard.now.number n c.args.code.now _ c.hear_codes-in-Unlisted.new.acts c.args.acts.now _ c.in-Unlisted.is (unlisted_heard c.args.heard.now.vm.now.mods (chars c.args.heard.now.event.now) c.args.heard.now.number n _ _ _ c.in-Unlisted.body) (e n)) c.hear_codes-in-Unlisted.ensures

pub hear_code-returns-in-Let : goal.hear_code-returns-in-Let
hear_code-returns-in-Let t c = on_ok_weaker c.hear_codes-in-Let.result
    (λ e n. heard_as c.args.heard.now.vm.now.mods (chars c.args.heard.now.event.now) c.args.heard.now.number n c.args.code.now _ c.hear_codes-in-Let.new.acts c.args.acts.now _ c.in-Let.is (let_heard c.args.heard.now.vm.now.mods (chars c.args.heard.now.event.now) c.args.heard.now.number n _ _ c.in-Let.body) (e n)) c.hear_codes-in-Let.ensures

pub hear_code-returns-in-Component : goal.hear_code-returns-in-Component
hear_code-returns-in-Component t c = on_ok_weaker c.hear_codes-in-Component.result
    (λ e n. heard_as c.args.heard.now.vm.now.mods (chars c.args.heard.now.event.now) c.args.heard.now.number n c.args.code.now _ c.hear_codes-in-Component.new.acts c.args.acts.now _ c.in-Component.is (component_heard c.args.heard.now.vm.now.mods (chars c.args.heard.now.event.now) c.args.heard.now.number n _ _ _ _ c.in-Component.body) (e n)) c.hear_codes-in-Component.ensures

pub hear_code-returns-in-Root : goal.hear_code-returns-in-Root
hear_code-returns-in-Root t c = on_ok_weaker c.hear_codes-in-Root.result
    (λ e n. heard_as c.args.heard.now.vm.now.mods (chars c.args.heard.now.event.now) c.args.heard.now.number n c.args.code.now _ c.hear_codes-in-Root.new.acts c.args.acts.now _ c.in-Root.is (root_heard c.args.heard.now.vm.now.mods (chars c.args.heard.now.event.now) c.args.heard.now.number n _ c.in-Root.body) (e n)) c.hear_codes-in-Root.ensures

pub hear_code-returns-in-Yield : goal.hear_code-returns-in-Yield
hear_code-returns-in-Yield t c = on_ok_weaker c.hear_codes-in-Yield.result
    (λ e n. heard_as c.args.heard.now.vm.now.mods (chars c.args.heard.now.event.now) c.args.heard.now.number n c.args.code.now _ c.hear_codes-in-Yield.new.acts c.args.acts.now _ c.in-Yield.is (yield_heard c.args.heard.now.vm.now.mods (chars c.args.heard.now.event.now) c.args.heard.now.number n _ _ _ c.in-Yield.body) (e n)) c.hear_codes-in-Yield.ensures

pub hear_codes-loop-code-preserved : goal.hear_codes-loop-code-preserved
hear_codes-loop-code-preserved t c = λ n. codes_on c.args.heard.now.vm.now.mods (chars c.args.heard.now.event.now) c.args.heard.now.number n c.as_slice-code-items.result.now c.loop-code.code-index c.code-item.result c.loop-code.acts c.args.acts.now c.hear_code.new.acts
    c.loop-code-test.true c.code-item.is (c.in_ok-hear_code.ensures n) (c.loop-code.invariant n)

pub hear_codes-returns : goal.hear_codes-returns
hear_codes-returns t c = λ n. codes_end c.args.heard.now.vm.now.mods (chars c.args.heard.now.event.now) c.args.heard.now.number n c.args.codes.now c.as_slice-code-items.result.now c.loop-code.code-index c.loop-code.acts c.args.acts.now
    c.as_slice-code-items.ensures.value c.loop-code-test.false (c.loop-code.invariant n)

pub hear_element-returns : goal.hear_element-returns
hear_element-returns t c = on_ok_weaker c.hear_codes.result (λ e n. called_then c.args.heard.now.vm.now.mods (chars c.args.heard.now.event.now) c.args.acts.now c.hear_own.new.acts c.hear_codes.new.acts _ _ c.in_ok-hear_own.ensures (e n)) c.hear_codes.ensures

pub hear_items-loop-item-preserved : goal.hear_items-loop-item-preserved
hear_items-loop-item-preserved t c = λ n. items_on c.args.heard.now.vm.now.mods (chars c.args.heard.now.event.now) c.args.heard.now.number n c.as_slice-item-items.result.now c.loop-item.item-index c.item-item.result c.loop-item.acts c.args.acts.now c.hear_codes.new.acts
    c.loop-item-test.true c.item-item.is (c.in_ok-hear_codes.ensures n) (c.loop-item.invariant n)

pub hear_items-returns : goal.hear_items-returns
hear_items-returns t c = λ n. items_end c.args.heard.now.vm.now.mods (chars c.args.heard.now.event.now) c.args.heard.now.number n c.as_slice-item-items.result.now c.loop-item.item-index c.loop-item.acts c.args.acts.now c.loop-item-test.false (c.loop-item.invariant n)
    ∙ ap (λ ys. c.args.acts.now ++ called_of c.args.heard.now.vm.now.mods (chars c.args.heard.now.event.now) (spots_of_items c.args.heard.now.number (items_of (all_items (map (seen_item_code n) ys))))) c.as_slice-item-items.ensures.value
