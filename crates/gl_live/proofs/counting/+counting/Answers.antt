use Rattle.std.proofs.Common.{◌+◌, subst}
use Rattle.gl_machine.specs.Code.{lives_of, items_of}
use Rattle.gl_nodes.specs.Flat.{stamp_of}
use Rattle.std.specs.Prelude.{map}
use Rattle.gl_code.specs.CodeView.{seen_codes, seen_item_code, all_items}
use Rattle.gl_code.specs.declared.code.Code.TheVariants.{Element, Branch, Listed, Unlisted, Let, Component, Root, Yield}
use Rattle.gl_live.specs.Counting.{weigh_in, weigh_items, weigh_comment, Counts}
use Rattle.gl_live.proofs.Sums.{counts_with, counts_as}
use Rattle.gl_live.proofs.Parts as p
use Rattle.gl_live.proofs.counting.+counting.Goals as goal

pub in_body-returns : goal.in_body-returns
in_body-returns t c = λ n.
    counts_with c.in_codes.result c.in_comment.result c.with.result (λ a b. weigh_in a b (lives_of (seen_codes n c.args.body.now))) (λ a b. weigh_comment a (stamp_of c.args.comment.now))
    (c.in_codes.ensures n) c.in_comment.ensures c.with.ensures.nodes c.with.ensures.instances

pub in_element-returns : goal.in_element-returns
in_element-returns t c = λ n.
    counts_with c.node.result c.in_codes.result c.with.result (λ a b. a) (λ a b. weigh_in a b (lives_of (seen_codes n c.args.body.now))) c.node.ensures (c.in_codes.ensures n) c.with.ensures.nodes c.with.ensures.instances

pub in_component-returns : goal.in_component-returns
in_component-returns t c = λ n.
    counts_with c.instance.result c.in_codes.result c.with.result (λ a b. b) (λ a b. weigh_in a b (lives_of (seen_codes n c.args.body.now))) c.instance.ensures (c.in_codes.ensures n) c.with.ensures.nodes c.with.ensures.instances

pub in_item-returns : goal.in_item-returns
in_item-returns t c = λ n.
    counts_as c.in_body.result (λ a b. weigh_in a b (lives_of (seen_codes n c.args.item.now.body)) + weigh_comment a (stamp_of c.args.item.now.comment)) _ (λ a b. p.item_weighs n a b c.args.item.now) (c.in_body.ensures n)

pub in_codes-loop-code-preserved : goal.in_codes-loop-code-preserved
in_codes-loop-code-preserved t c = λ n.
    p.codes_go n c.as_slice-code-items.result.now c.loop-code.code-index c.code-item.result c.loop-code.sum c.in_code.result c.with-sum.result c.loop-code-test.true c.code-item.is (c.loop-code.invariant n) (c.in_code.ensures n)
    c.with-sum.ensures.nodes c.with-sum.ensures.instances

pub in_codes-returns : goal.in_codes-returns
in_codes-returns t c = λ n.
    p.codes_all n c.as_slice-code-items.result.now c.loop-code.code-index c.loop-code.sum c.args.codes.now c.loop-code-test.false c.as_slice-code-items.ensures.value (c.loop-code.invariant n)

pub in_items-loop-item-preserved : goal.in_items-loop-item-preserved
in_items-loop-item-preserved t c = λ n.
    p.items_go n c.as_slice-item-items.result.now c.loop-item.item-index c.item-item.result c.loop-item.sum c.in_item.result c.with-sum.result c.loop-item-test.true c.item-item.is (c.loop-item.invariant n) (c.in_item.ensures n)
    c.with-sum.ensures.nodes c.with-sum.ensures.instances

pub in_items-returns : goal.in_items-returns
in_items-returns t c = λ n.
    let xs = c.as_slice-item-items.result.now in
    subst (λ ys. Counts c.loop-item.sum (λ a b. weigh_items a b (items_of (all_items (map (seen_item_code n) ys))))) c.as_slice-item-items.ensures.value
    (p.items_all n xs c.loop-item.item-index c.loop-item.sum c.loop-item-test.false (c.loop-item.invariant n))

pub in_code-returns-in-Element : goal.in_code-returns-in-Element
in_code-returns-in-Element t c = λ n.
    let x = c.in-Element in
    p.counts_code n c.in_element.result c.args.code.now (Element x.node x.made x.attrs x.mods x.body) _ x.is (λ a b. p.element_weighs n a b x.node x.made x.attrs x.mods x.body) (c.in_element.ensures n)

pub in_code-returns-in-Branch : goal.in_code-returns-in-Branch
in_code-returns-in-Branch t c = λ n.
    let x = c.in-Branch in
    p.counts_code n c.in_body.result c.args.code.now (Branch x.choice x.spot x.main x.comment x.body) _ x.is (λ a b. p.branch_weighs n a b x.choice x.spot x.main x.comment x.body) (c.in_body.ensures n)

pub in_code-returns-in-Listed : goal.in_code-returns-in-Listed
in_code-returns-in-Listed t c = λ n.
    let x = c.in-Listed in
    p.counts_code n c.in_items.result c.args.code.now (Listed x.listing x.spot x.items) _ x.is (λ a b. p.listed_weighs n a b x.listing x.spot x.items) (c.in_items.ensures n)

pub in_code-returns-in-Unlisted : goal.in_code-returns-in-Unlisted
in_code-returns-in-Unlisted t c = λ n.
    let x = c.in-Unlisted in
    p.counts_code n c.in_body-in-Unlisted.result c.args.code.now (Unlisted x.listing x.spot x.comment x.body) _ x.is (λ a b. p.unlisted_weighs n a b x.listing x.spot x.comment x.body) (c.in_body-in-Unlisted.ensures n)

pub in_code-returns-in-Let : goal.in_code-returns-in-Let
in_code-returns-in-Let t c = λ n.
    let x = c.in-Let in
    p.counts_code n c.in_codes.result c.args.code.now (Let x.made x.params x.body) _ x.is (λ a b. p.let_weighs n a b x.made x.params x.body) (c.in_codes.ensures n)

pub in_code-returns-in-Component : goal.in_code-returns-in-Component
in_code-returns-in-Component t c = λ n.
    let x = c.in-Component in
    p.counts_code n c.in_component.result c.args.code.now (Component x.owner x.block x.made x.args x.body) _ x.is (λ a b. p.component_weighs n a b x.owner x.block x.made x.args x.body) (c.in_component.ensures n)

pub in_code-returns-in-Root : goal.in_code-returns-in-Root
in_code-returns-in-Root t c = λ n.
    let x = c.in-Root in
    p.counts_code n c.in_component-in-Root.result c.args.code.now (Root x.owner x.body) _ x.is (λ a b. p.root_weighs n a b x.owner x.body) (c.in_component-in-Root.ensures n)

pub in_code-returns-in-Yield : goal.in_code-returns-in-Yield
in_code-returns-in-Yield t c = λ n.
    let x = c.in-Yield in
    p.counts_code n c.in_codes-in-Yield.result c.args.code.now (Yield x.name x.made x.params x.body) _ x.is (λ a b. p.yield_weighs n a b x.name x.made x.params x.body) (c.in_codes-in-Yield.ensures n)
