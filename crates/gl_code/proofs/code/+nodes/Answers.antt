use Rattle.std.proofs.Common.{sym, ◌∙◌, ap}
use Rattle.gl_code.proofs.NodesIn.{has, in_let, in_component, in_root, in_yield, in_codes, node_at, node_after, none_after}
use Rattle.gl_code.proofs.code.+nodes.Goals as goal

pub Code::has_node-returns-in-Let : goal.Code::has_node-returns-in-Let
Code::has_node-returns-in-Let t c n = c.has_node.ensures n ∙ sym (ap (has n) c.in-Let.is ∙ in_let n c.in-Let.made c.in-Let.params c.in-Let.body)

pub Code::has_node-returns-in-Component : goal.Code::has_node-returns-in-Component
Code::has_node-returns-in-Component t c n =
    c.has_node-in-Component.ensures n ∙ sym (ap (has n) c.in-Component.is ∙ in_component n c.in-Component.owner c.in-Component.block c.in-Component.made c.in-Component.args c.in-Component.body)

pub Code::has_node-returns-in-Root : goal.Code::has_node-returns-in-Root
Code::has_node-returns-in-Root t c n = c.has_node-in-Root.ensures n ∙ sym (ap (has n) c.in-Root.is ∙ in_root n c.in-Root.owner c.in-Root.body)

pub Code::has_node-returns-in-Yield : goal.Code::has_node-returns-in-Yield
Code::has_node-returns-in-Yield t c n = c.has_node-in-Yield.ensures n ∙ sym (ap (has n) c.in-Yield.is ∙ in_yield n c.in-Yield.name c.in-Yield.made c.in-Yield.params c.in-Yield.body)

pub Codes::has_node-returns-then-has_node : goal.Codes::has_node-returns-then-has_node
Codes::has_node-returns-then-has_node t c n =
    sym (in_codes n c.args.self.now c.as_slice-code-items.result.now c.as_slice-code-items.ensures.value
    ∙ (sym (c.loop-code.invariant n) ∙ node_at n c.as_slice-code-items.result.now c.loop-code.code-index c.code-item.result c.loop-code-test.true c.code-item.is (sym (c.has_node.ensures n) ∙ c.if-has_node.true)))

pub Codes::has_node-loop-code-preserved : goal.Codes::has_node-loop-code-preserved
Codes::has_node-loop-code-preserved t c n =
    sym (node_after n c.as_slice-code-items.result.now c.loop-code.code-index c.code-item.result c.loop-code-test.true c.code-item.is (sym (c.has_node.ensures n) ∙ c.if-has_node.false)) ∙ c.loop-code.invariant n

pub Codes::has_node-returns : goal.Codes::has_node-returns
Codes::has_node-returns t c n =
    sym (in_codes n c.args.self.now c.as_slice-code-items.result.now c.as_slice-code-items.ensures.value
    ∙ (sym (c.loop-code.invariant n) ∙ none_after n c.as_slice-code-items.result.now c.loop-code.code-index c.loop-code-test.false))
