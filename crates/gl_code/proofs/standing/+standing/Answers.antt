use Rattle.std.proofs.Common.{map, subst, ◌∙◌}
use Rattle.std.proofs.lemmas.Result.{on_ok_weaker}
use Rattle.gl_nodes.specs.Flat.{stamp_of}
use Rattle.gl_machine.specs.Code.{lives_of, items_of}
use Rattle.gl_machine.specs.Shape.{joined, nest_in, nest_items, nest_comment}
use Rattle.gl_code.specs.CodeView.{seen_codes, seen_item_code, all_items}
use Rattle.gl_code.specs.Hung.{Hangs}
use Rattle.gl_code.specs.declared.code.Code.TheVariants.{Element, Branch, Listed, Unlisted, Let, Component, Root, Yield}
use Rattle.gl_code.proofs.Hanging.{hangs_joined, hangs_tree}
use Rattle.gl_code.proofs.CodeNests.{element_nest, branch_nest, listed_nest, unlisted_nest, let_nest, component_nest, root_nest, yield_nest, item_nest, codes_go, codes_end, codes_all, items_go, items_end, hangs_as, hangs_code}
use Rattle.gl_code.proofs.standing.+standing.Goals as goal

pub hang_body-returns-clause-hangs : goal.hang_body-returns-clause-hangs
hang_body-returns-clause-hangs t c = λ n. on_ok_weaker c.hang_comment.result
    (hangs_joined c.args.tree.now c.hang_codes.new.tree c.hang_comment.new.tree (stamp_of c.args.parent.now) (nest_in (lives_of (seen_codes n c.args.body.now))) (nest_comment (stamp_of c.args.comment.now)) c.hang_comment.ensures.sound (c.in_ok-hang_codes.ensures.hangs n))
    c.hang_comment.ensures.hangs

pub hang_element-returns-clause-hangs : goal.hang_element-returns-clause-hangs
hang_element-returns-clause-hangs t c = λ n. on_ok_weaker c.hang_codes.result
    (hangs_tree c.args.tree.now c.put_last.new.self c.hang_codes.new.tree (stamp_of c.args.parent.now) c.args.node.1 (nest_in (lives_of (seen_codes n c.args.body.now))) c.hang_codes.ensures.sound c.in_ok-put_last.ensures.ok)
    (c.hang_codes.ensures.hangs n)

pub hang_item-returns-clause-hangs : goal.hang_item-returns-clause-hangs
hang_item-returns-clause-hangs t c = λ n. let x = seen_item_code n c.args.item.now in
    hangs_as c.hang_body.result c.args.tree.now c.hang_body.new.tree (stamp_of c.args.parent.now) (joined (nest_in (lives_of x.1.1)) (nest_comment x.1.0)) _ (item_nest n c.args.item.now) (c.hang_body.ensures.hangs n)

pub hang_codes-loop-code-preserved : goal.hang_codes-loop-code-preserved
hang_codes-loop-code-preserved t c = record {
  flat = c.hang_code.ensures.sound;
  moves = c.in_ok-hang_code.ensures.moves ∙ c.loop-code.invariant.moves;
  left = λ n v sound h. c.loop-code.invariant.left n v sound
      (codes_go n c.loop-code.tree c.hang_code.new.tree v (stamp_of c.args.parent.now) c.as_slice-code-items.result.now c.loop-code.code-index c.code-item.result sound c.loop-code-test.true c.code-item.is (c.in_ok-hang_code.ensures.hangs n) h);
}

pub hang_codes-returns-clause-hangs : goal.hang_codes-returns-clause-hangs
hang_codes-returns-clause-hangs t c = λ n. let p = stamp_of c.args.parent.now in let xs = c.as_slice-code-items.result.now in
    codes_all n c.args.tree.now c.loop-code.tree p c.args.codes.now xs c.as_slice-code-items.ensures.value
    (c.loop-code.invariant.left n c.loop-code.tree c.loop-code.invariant.flat (codes_end n c.loop-code.tree p xs c.loop-code.code-index c.loop-code-test.false))

pub hang_items-loop-item-preserved : goal.hang_items-loop-item-preserved
hang_items-loop-item-preserved t c = record {
  flat = c.hang_item.ensures.sound;
  moves = c.in_ok-hang_item.ensures.moves ∙ c.loop-item.invariant.moves;
  left = λ n v sound h. c.loop-item.invariant.left n v sound
      (items_go n c.loop-item.tree c.hang_item.new.tree v (stamp_of c.args.parent.now) c.as_slice-item-items.result.now c.loop-item.item-index c.item-item.result sound c.loop-item-test.true c.item-item.is (c.in_ok-hang_item.ensures.hangs n) h);
}

pub hang_items-returns-clause-hangs : goal.hang_items-returns-clause-hangs
hang_items-returns-clause-hangs t c = λ n. let p = stamp_of c.args.parent.now in let xs = c.as_slice-item-items.result.now in
    subst (λ ys. Hangs c.args.tree.now c.loop-item.tree p (nest_items (items_of (all_items (map (seen_item_code n) ys))))) c.as_slice-item-items.ensures.value
    (c.loop-item.invariant.left n c.loop-item.tree c.loop-item.invariant.flat (items_end n c.loop-item.tree p xs c.loop-item.item-index c.loop-item-test.false))

pub hang_code-returns-in-Element-clause-hangs : goal.hang_code-returns-in-Element-clause-hangs
hang_code-returns-in-Element-clause-hangs t c = λ n.
    hangs_code c.hang_element.result c.args.tree.now c.hang_element.new.tree (stamp_of c.args.parent.now) n c.args.code.now (Element c.in-Element.node c.in-Element.made c.in-Element.attrs c.in-Element.mods c.in-Element.body) _ c.in-Element.is (element_nest n c.in-Element.node c.in-Element.made c.in-Element.attrs c.in-Element.mods c.in-Element.body) (c.hang_element.ensures.hangs n)

pub hang_code-returns-in-Branch-clause-hangs : goal.hang_code-returns-in-Branch-clause-hangs
hang_code-returns-in-Branch-clause-hangs t c = λ n.
    hangs_code c.hang_body.result c.args.tree.now c.hang_body.new.tree (stamp_of c.args.parent.now) n c.args.code.now (Branch c.in-Branch.choice c.in-Branch.spot c.in-Branch.main c.in-Branch.comment c.in-Branch.body) _ c.in-Branch.is (branch_nest n c.in-Branch.choice c.in-Branch.spot c.in-Branch.main c.in-Branch.comment c.in-Branch.body) (c.hang_body.ensures.hangs n)

pub hang_code-returns-in-Listed-clause-hangs : goal.hang_code-returns-in-Listed-clause-hangs
hang_code-returns-in-Listed-clause-hangs t c = λ n.
    hangs_code c.hang_items.result c.args.tree.now c.hang_items.new.tree (stamp_of c.args.parent.now) n c.args.code.now (Listed c.in-Listed.listing c.in-Listed.spot c.in-Listed.items) _ c.in-Listed.is (listed_nest n c.in-Listed.listing c.in-Listed.spot c.in-Listed.items) (c.hang_items.ensures.hangs n)

pub hang_code-returns-in-Unlisted-clause-hangs : goal.hang_code-returns-in-Unlisted-clause-hangs
hang_code-returns-in-Unlisted-clause-hangs t c = λ n.
    hangs_code c.hang_body-in-Unlisted.result c.args.tree.now c.hang_body-in-Unlisted.new.tree (stamp_of c.args.parent.now) n c.args.code.now (Unlisted c.in-Unlisted.listing c.in-Unlisted.spot c.in-Unlisted.comment c.in-Unlisted.body) _ c.in-Unlisted.is (unlisted_nest n c.in-Unlisted.listing c.in-Unlisted.spot c.in-Unlisted.comment c.in-Unlisted.body) (c.hang_body-in-Unlisted.ensures.hangs n)

pub hang_code-returns-in-Let-clause-hangs : goal.hang_code-returns-in-Let-clause-hangs
hang_code-returns-in-Let-clause-hangs t c = λ n.
    hangs_code c.hang_codes.result c.args.tree.now c.hang_codes.new.tree (stamp_of c.args.parent.now) n c.args.code.now (Let c.in-Let.made c.in-Let.params c.in-Let.body) _ c.in-Let.is (let_nest n c.in-Let.made c.in-Let.params c.in-Let.body) (c.hang_codes.ensures.hangs n)

pub hang_code-returns-in-Component-clause-hangs : goal.hang_code-returns-in-Component-clause-hangs
hang_code-returns-in-Component-clause-hangs t c = λ n.
    hangs_code c.hang_codes-in-Component.result c.args.tree.now c.hang_codes-in-Component.new.tree (stamp_of c.args.parent.now) n c.args.code.now (Component c.in-Component.owner c.in-Component.block c.in-Component.made c.in-Component.args c.in-Component.body) _ c.in-Component.is (component_nest n c.in-Component.owner c.in-Component.block c.in-Component.made c.in-Component.args c.in-Component.body) (c.hang_codes-in-Component.ensures.hangs n)

pub hang_code-returns-in-Root-clause-hangs : goal.hang_code-returns-in-Root-clause-hangs
hang_code-returns-in-Root-clause-hangs t c = λ n.
    hangs_code c.hang_codes-in-Root.result c.args.tree.now c.hang_codes-in-Root.new.tree (stamp_of c.args.parent.now) n c.args.code.now (Root c.in-Root.owner c.in-Root.body) _ c.in-Root.is (root_nest n c.in-Root.owner c.in-Root.body) (c.hang_codes-in-Root.ensures.hangs n)

pub hang_code-returns-in-Yield-clause-hangs : goal.hang_code-returns-in-Yield-clause-hangs
hang_code-returns-in-Yield-clause-hangs t c = λ n.
    hangs_code c.hang_codes-in-Yield.result c.args.tree.now c.hang_codes-in-Yield.new.tree (stamp_of c.args.parent.now) n c.args.code.now (Yield c.in-Yield.name c.in-Yield.made c.in-Yield.params c.in-Yield.body) _ c.in-Yield.is (yield_nest n c.in-Yield.name c.in-Yield.made c.in-Yield.params c.in-Yield.body) (c.hang_codes-in-Yield.ensures.hangs n)
