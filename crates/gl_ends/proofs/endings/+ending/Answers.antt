use Rattle.std.proofs.Common.{ℕ, ◌+◌, [], ◌∷◌, map, refl, arith, ap, sym, subst, ◌∙◌}
use Rattle.std.proofs.lemmas.Result.{on_ok_weaker}
use Rattle.gl_nodes.specs.Flat.{stamp_of}
use Rattle.gl_plain.specs.Ids.{Id as Name, node as node_id, instance_id, block_id, ref, hit, occurs}
use Rattle.gl_plain.specs.Live.{times_in, times_items, times_comment, times_attrs, times_mods}
use Rattle.gl_machine.specs.Code.{lives_of, items_of}
use Rattle.gl_code.specs.View.{refs_made}
use Rattle.gl_code.specs.CodeView.{seen_spot, seen_attr_spot, seen_mod_spot, seen_codes, seen_item_code, all_items}
use Rattle.gl_code.specs.declared.code.Code.TheVariants.{Still, Put, Element, Branch, Listed, Unlisted, Let, Component, Root, Yield}
use Rattle.gl_ends.proofs.Joins.{ends_as, ends_then}
use Rattle.gl_ends.proofs.Loops.{left_step, left_done}
use Rattle.gl_ends.proofs.CodeCounts.{count_code, count_item, codes_count, items_count, still_count, put_count, element_as, branch_count, listed_as, unlisted_count, let_count, component_as, root_as, yield_count, item_count, ends_code}
use Rattle.gl_machine.specs.Shape.{leaf, end, tree as nested, nest_comment}
use Rattle.gl_code.proofs.CodeNests.{element_nest, branch_nest, listed_nest, unlisted_nest, let_nest, component_nest, root_nest, yield_nest}
use Rattle.gl_seats.specs.Parts.{codes_nest, body_nest, item_nest, items_nest}
use Rattle.gl_seats.specs.Seats.{Unseats}
use Rattle.gl_seats.proofs.Replacing.{unseats_joined, unseats_tree}
use Rattle.gl_seats.proofs.CodeRows.{as_code, item_body}
use Rattle.gl_ends.proofs.Gone.{still_nest, put_nest, gone_after, gone_before, gone_items, codes_step, codes_done, items_step, items_done}
use Rattle.gl_ends.proofs.endings.+ending.Goals as goal

pub drop_codes-loop-code-preserved : goal.drop_codes-loop-code-preserved
drop_codes-loop-code-preserved t c = record {
  left = left_step count_code c.as_slice-code-items.result.now c.loop-code.code-index c.args.vm.now c.loop-code.vm c.loop-code.invariant.left c.code-item.result c.drop_code.new.vm c.loop-code-test.true c.code-item.is c.drop_code.ensures.led c.in_ok-drop_code.ensures.ends;
  calm = λ h. c.drop_code.ensures.calm (c.loop-code.invariant.calm h);
  led = λ h. c.drop_code.ensures.led (c.loop-code.invariant.led h);
  gone = codes_step c.as_slice-code-items.result.now c.loop-code.code-index c.args.vm.now.tree.forest c.loop-code.vm.tree.forest c.loop-code.invariant.gone c.code-item.result c.drop_code.new.vm.tree.forest c.loop-code-test.true c.code-item.is c.in_ok-drop_code.ensures.unseats;
  moves = c.in_ok-drop_code.ensures.moves ∙ c.loop-code.invariant.moves;
}

pub drop_codes-returns-clause-ends : goal.drop_codes-returns-clause-ends
drop_codes-returns-clause-ends t c n =
    let xs = c.as_slice-code-items.result.now in
    ends_as n c.args.vm.now c.loop-code.vm _ _ (λ q. codes_count n q c.args.codes.now xs c.as_slice-code-items.ensures.value) (left_done count_code xs c.loop-code.code-index c.args.vm.now c.loop-code.vm c.loop-code.invariant.left c.loop-code-test.false n)

pub drop_items-loop-item-preserved : goal.drop_items-loop-item-preserved
drop_items-loop-item-preserved t c = record {
  left = left_step count_item c.args.items.now c.loop-item.item-index c.args.vm.now c.loop-item.vm c.loop-item.invariant.left c.item-item.result c.drop_item.new.vm c.loop-item-test.true c.item-item.is c.drop_item.ensures.led c.in_ok-drop_item.ensures.ends;
  calm = λ h. c.drop_item.ensures.calm (c.loop-item.invariant.calm h);
  led = λ h. c.drop_item.ensures.led (c.loop-item.invariant.led h);
  gone = items_step c.args.items.now c.loop-item.item-index c.args.vm.now.tree.forest c.loop-item.vm.tree.forest c.loop-item.invariant.gone c.item-item.result c.drop_item.new.vm.tree.forest c.loop-item-test.true c.item-item.is c.in_ok-drop_item.ensures.unseats;
  moves = c.in_ok-drop_item.ensures.moves ∙ c.loop-item.invariant.moves;
}

pub drop_items-returns-clause-ends : goal.drop_items-returns-clause-ends
drop_items-returns-clause-ends t c n =
    ends_as n c.args.vm.now c.loop-item.vm _ _ (λ q. items_count n q c.args.items.now) (left_done count_item c.args.items.now c.loop-item.item-index c.args.vm.now c.loop-item.vm c.loop-item.invariant.left c.loop-item-test.false n)

pub drop_body-returns-clause-ends : goal.drop_body-returns-clause-ends
drop_body-returns-clause-ends t c n = on_ok_weaker c.end_comment.result
    (ends_then n c.args.vm.now c.drop_codes.new.vm c.end_comment.new.vm (λ q. times_in q (lives_of (seen_codes n c.args.body.now))) (λ q. times_comment q (stamp_of c.args.comment.now)) (λ q. times_in q (lives_of (seen_codes n c.args.body.now)) + times_comment q (stamp_of c.args.comment.now)) (λ q. omega arith)
    c.drop_codes.ensures.led (c.in_ok-drop_codes.ensures.ends n))
    (c.end_comment.ensures.ends n)

pub drop_item-returns-clause-ends : goal.drop_item-returns-clause-ends
drop_item-returns-clause-ends t c n = let x = c.args.item.now in on_ok_weaker c.end_pair.result
    (ends_then n c.args.vm.now c.drop_body.new.vm c.end_pair.new.vm (λ q. times_in q (lives_of (seen_codes n x.body)) + times_comment q (stamp_of x.comment)) (λ q. occurs q (ref x.spot.value.1 ∷ ref x.spot.index.1 ∷ [])) (λ q. count_item n q x) (λ q. item_count n q x)
    c.drop_body.ensures.led (c.in_ok-drop_body.ensures.ends n))
    (c.end_pair.ensures.ends n)

pub drop_let-returns-clause-ends : goal.drop_let-returns-clause-ends
drop_let-returns-clause-ends t c n = on_ok_weaker c.end_references.result
    (ends_then n c.args.vm.now c.drop_codes.new.vm c.end_references.new.vm (λ q. times_in q (lives_of (seen_codes n c.args.body.now))) (λ q. occurs q (refs_made c.args.made.now)) _ (λ q. refl)
    c.drop_codes.ensures.led (c.in_ok-drop_codes.ensures.ends n))
    (c.end_references.ensures.ends n)

pub drop_branch-returns-clause-ends : goal.drop_branch-returns-clause-ends
drop_branch-returns-clause-ends t c n = on_ok_weaker c.end_spot.result
    (ends_then n c.args.vm.now c.drop_body.new.vm c.end_spot.new.vm (λ q. times_in q (lives_of (seen_codes n c.args.body.now)) + times_comment q (stamp_of c.args.comment.now)) (λ q. occurs q (seen_spot c.args.spot.now).made) _ (λ q. refl)
    c.drop_body.ensures.led (c.in_ok-drop_body.ensures.ends n))
    (c.end_spot.ensures.ends n)

pub drop_component-returns-clause-ends : goal.drop_component-returns-clause-ends
drop_component-returns-clause-ends t c n = on_ok_weaker c.end_passed.result
    (ends_then n c.args.vm.now c.drop_codes.new.vm c.end_passed.new.vm (λ q. times_in q (lives_of (seen_codes n c.args.body.now)))
    (λ q. (hit q (instance_id c.args.owner.now.id.1) + occurs q (refs_made c.args.owner.now.cells)) + (hit q (block_id c.args.block.1) + occurs q (refs_made c.args.made.now))) _ (λ q. refl)
    c.drop_codes.ensures.led (c.in_ok-drop_codes.ensures.ends n))
    (c.end_passed.ensures.ends n)

pub drop_element-returns-clause-ends : goal.drop_element-returns-clause-ends
drop_element-returns-clause-ends t c n =
    let mods : Name → ℕ = λ q. times_mods q (map seen_mod_spot c.args.mods.now) in
    let body : Name → ℕ = λ q. times_in q (lives_of (seen_codes n c.args.body.now)) in
    on_ok_weaker c.end_tag.result
    (ends_then n c.args.vm.now c.drop_codes.new.vm c.end_tag.new.vm (λ q. body q + mods q)
    (λ q. hit q (node_id c.args.node.1) + (occurs q (refs_made c.args.made.now) + times_attrs q (map seen_attr_spot c.args.attrs.now))) _ (λ q. refl)
    (λ h. c.drop_codes.ensures.led (c.end_mods.ensures.led h))
    (ends_then n c.args.vm.now c.end_mods.new.vm c.drop_codes.new.vm mods body (λ q. body q + mods q) (λ q. refl) c.end_mods.ensures.led (c.in_ok-end_mods.ensures.ends n) (c.in_ok-drop_codes.ensures.ends n)))
    (c.end_tag.ensures.ends n)

pub drop_code-returns-in-Still-clause-ends : goal.drop_code-returns-in-Still-clause-ends
drop_code-returns-in-Still-clause-ends t c n =
    ends_code c.end_node.result n c.args.vm.now c.end_node.new.vm c.args.code.now (Still c.in-Still.node) _ c.in-Still.is (λ q. still_count n q c.in-Still.node) (c.end_node.ensures.ends n)

pub drop_code-returns-in-Put-clause-ends : goal.drop_code-returns-in-Put-clause-ends
drop_code-returns-in-Put-clause-ends t c n =
    ends_code c.end_put.result n c.args.vm.now c.end_put.new.vm c.args.code.now (Put c.in-Put.node c.in-Put.spot) _ c.in-Put.is (λ q. put_count n q c.in-Put.node c.in-Put.spot) (c.end_put.ensures.ends n)

pub drop_code-returns-in-Element-clause-ends : goal.drop_code-returns-in-Element-clause-ends
drop_code-returns-in-Element-clause-ends t c n =
    ends_code c.drop_element.result n c.args.vm.now c.drop_element.new.vm c.args.code.now (Element c.in-Element.node c.in-Element.made c.in-Element.attrs c.in-Element.mods c.in-Element.body) _ c.in-Element.is (λ q. element_as n q c.in-Element.node c.in-Element.made c.in-Element.attrs c.in-Element.mods c.in-Element.body c.as_slice.result.now c.as_slice-in-Element.result.now c.as_slice.ensures.value c.as_slice-in-Element.ensures.value) (c.drop_element.ensures.ends n)

pub drop_code-returns-in-Branch-clause-ends : goal.drop_code-returns-in-Branch-clause-ends
drop_code-returns-in-Branch-clause-ends t c n =
    ends_code c.drop_branch.result n c.args.vm.now c.drop_branch.new.vm c.args.code.now (Branch c.in-Branch.choice c.in-Branch.spot c.in-Branch.main c.in-Branch.comment c.in-Branch.body) _ c.in-Branch.is (λ q. branch_count n q c.in-Branch.choice c.in-Branch.spot c.in-Branch.main c.in-Branch.comment c.in-Branch.body) (c.drop_branch.ensures.ends n)

pub drop_code-returns-in-Unlisted-clause-ends : goal.drop_code-returns-in-Unlisted-clause-ends
drop_code-returns-in-Unlisted-clause-ends t c n =
    ends_code c.drop_branch-in-Unlisted.result n c.args.vm.now c.drop_branch-in-Unlisted.new.vm c.args.code.now (Unlisted c.in-Unlisted.listing c.in-Unlisted.spot c.in-Unlisted.comment c.in-Unlisted.body) _ c.in-Unlisted.is (λ q. unlisted_count n q c.in-Unlisted.listing c.in-Unlisted.spot c.in-Unlisted.comment c.in-Unlisted.body) (c.drop_branch-in-Unlisted.ensures.ends n)

pub drop_code-returns-in-Let-clause-ends : goal.drop_code-returns-in-Let-clause-ends
drop_code-returns-in-Let-clause-ends t c n =
    ends_code c.drop_let.result n c.args.vm.now c.drop_let.new.vm c.args.code.now (Let c.in-Let.made c.in-Let.params c.in-Let.body) _ c.in-Let.is (λ q. let_count n q c.in-Let.made c.in-Let.params c.in-Let.body) (c.drop_let.ensures.ends n)

pub drop_code-returns-in-Component-clause-ends : goal.drop_code-returns-in-Component-clause-ends
drop_code-returns-in-Component-clause-ends t c n =
    ends_code c.drop_component.result n c.args.vm.now c.drop_component.new.vm c.args.code.now (Component c.in-Component.owner c.in-Component.block c.in-Component.made c.in-Component.args c.in-Component.body) _ c.in-Component.is (λ q. component_as n q c.in-Component.owner c.in-Component.block c.in-Component.made c.in-Component.args c.in-Component.body c.as_ref.result.now c.as_ref.ensures) (c.drop_component.ensures.ends n)

pub drop_code-returns-in-Yield-clause-ends : goal.drop_code-returns-in-Yield-clause-ends
drop_code-returns-in-Yield-clause-ends t c n =
    ends_code c.drop_let-in-Yield.result n c.args.vm.now c.drop_let-in-Yield.new.vm c.args.code.now (Yield c.in-Yield.name c.in-Yield.made c.in-Yield.params c.in-Yield.body) _ c.in-Yield.is (λ q. yield_count n q c.in-Yield.name c.in-Yield.made c.in-Yield.params c.in-Yield.body) (c.drop_let-in-Yield.ensures.ends n)

pub drop_code-returns-in_ok-drop_items-in-Listed-clause-ends : goal.drop_code-returns-in_ok-drop_items-in-Listed-clause-ends
drop_code-returns-in_ok-drop_items-in-Listed-clause-ends t c n =
    let xs = c.as_slice-in-Listed.result.now in
    ends_code c.end_spot.result n c.args.vm.now c.end_spot.new.vm c.args.code.now (Listed c.in-Listed.listing c.in-Listed.spot c.in-Listed.items) _ c.in-Listed.is
    (λ q. listed_as n q c.in-Listed.listing c.in-Listed.spot c.in-Listed.items xs c.as_slice-in-Listed.ensures.value)
    (on_ok_weaker c.end_spot.result
    (ends_then n c.args.vm.now c.drop_items.new.vm c.end_spot.new.vm (λ q. times_items q (items_of (all_items (map (seen_item_code n) xs)))) (λ q. occurs q (seen_spot c.in-Listed.spot).made)
    (λ q. occurs q (seen_spot c.in-Listed.spot).made + times_items q (items_of (all_items (map (seen_item_code n) xs)))) (λ q. refl) c.drop_items.ensures.led (c.in_ok-drop_items-in-Listed.ensures.ends n))
    (c.end_spot.ensures.ends n))

pub drop_code-returns-in_ok-drop_codes-in-Root-clause-ends : goal.drop_code-returns-in_ok-drop_codes-in-Root-clause-ends
drop_code-returns-in_ok-drop_codes-in-Root-clause-ends t c n =
    let o = c.as_ref-in-Root.result.now in
    ends_code c.end_owner.result n c.args.vm.now c.end_owner.new.vm c.args.code.now (Root c.in-Root.owner c.in-Root.body) _ c.in-Root.is (λ q. root_as n q c.in-Root.owner c.in-Root.body o c.as_ref-in-Root.ensures)
    (on_ok_weaker c.end_owner.result
    (ends_then n c.args.vm.now c.drop_codes.new.vm c.end_owner.new.vm (λ q. times_in q (lives_of (seen_codes n c.in-Root.body))) (λ q. hit q (instance_id o.id.1) + occurs q (refs_made o.cells))
    (λ q. (hit q (instance_id o.id.1) + occurs q (refs_made o.cells)) + times_in q (lives_of (seen_codes n c.in-Root.body))) (λ q. refl) c.drop_codes.ensures.led (c.in_ok-drop_codes-in-Root.ensures.ends n))
    (c.end_owner.ensures.ends n))

pub drop_body-returns-clause-led : goal.drop_body-returns-clause-led
drop_body-returns-clause-led t c = λ h. c.end_comment.ensures.led (c.drop_codes.ensures.led h)

pub drop_item-returns-clause-led : goal.drop_item-returns-clause-led
drop_item-returns-clause-led t c = λ h. c.end_pair.ensures.led (c.drop_body.ensures.led h)

pub drop_let-returns-clause-led : goal.drop_let-returns-clause-led
drop_let-returns-clause-led t c = λ h. c.end_references.ensures.led (c.drop_codes.ensures.led h)

pub drop_branch-returns-clause-led : goal.drop_branch-returns-clause-led
drop_branch-returns-clause-led t c = λ h. c.end_spot.ensures.led (c.drop_body.ensures.led h)

pub drop_component-returns-clause-led : goal.drop_component-returns-clause-led
drop_component-returns-clause-led t c = λ h. c.end_passed.ensures.led (c.drop_codes.ensures.led h)

pub drop_element-returns-clause-led : goal.drop_element-returns-clause-led
drop_element-returns-clause-led t c = λ h. c.end_tag.ensures.led (c.drop_codes.ensures.led (c.end_mods.ensures.led h))

pub drop_code-returns-in_ok-drop_items-in-Listed-clause-led : goal.drop_code-returns-in_ok-drop_items-in-Listed-clause-led
drop_code-returns-in_ok-drop_items-in-Listed-clause-led t c = λ h. c.end_spot.ensures.led (c.drop_items.ensures.led h)

pub drop_code-returns-in_ok-drop_codes-in-Root-clause-led : goal.drop_code-returns-in_ok-drop_codes-in-Root-clause-led
drop_code-returns-in_ok-drop_codes-in-Root-clause-led t c = λ h. c.end_owner.ensures.led (c.drop_codes.ensures.led h)

pub drop_element-returns-in_err-drop_codes-clause-led : goal.drop_element-returns-in_err-drop_codes-clause-led
drop_element-returns-in_err-drop_codes-clause-led t c = λ h. c.drop_codes.ensures.led (c.end_mods.ensures.led h)

pub drop_codes-returns-in_err-drop_code-clause-led : goal.drop_codes-returns-in_err-drop_code-clause-led
drop_codes-returns-in_err-drop_code-clause-led t c = λ h. c.drop_code.ensures.led (c.loop-code.invariant.led h)

pub drop_items-returns-in_err-drop_item-clause-led : goal.drop_items-returns-in_err-drop_item-clause-led
drop_items-returns-in_err-drop_item-clause-led t c = λ h. c.drop_item.ensures.led (c.loop-item.invariant.led h)

pub drop_codes-returns-clause-unseats : goal.drop_codes-returns-clause-unseats
drop_codes-returns-clause-unseats t c =
    codes_done c.as_slice-code-items.result.now c.loop-code.code-index c.args.vm.now.tree.forest c.loop-code.vm.tree.forest c.loop-code.invariant.gone c.loop-code-test.false c.args.codes.now c.as_slice-code-items.ensures.value

pub drop_items-returns-clause-unseats : goal.drop_items-returns-clause-unseats
drop_items-returns-clause-unseats t c = items_done c.args.items.now c.loop-item.item-index c.args.vm.now.tree.forest c.loop-item.vm.tree.forest c.loop-item.invariant.gone c.loop-item-test.false

pub drop_body-returns-clause-unseats : goal.drop_body-returns-clause-unseats
drop_body-returns-clause-unseats t c = on_ok_weaker c.end_comment.result
    (λ h n. unseats_joined c.args.vm.now.tree.forest c.drop_codes.new.vm.tree.forest c.end_comment.new.vm.tree.forest (codes_nest n c.args.body.now) (nest_comment (stamp_of c.args.comment.now)) (c.in_ok-drop_codes.ensures.unseats n) h)
    c.end_comment.ensures.unseats

pub drop_element-returns-clause-unseats : goal.drop_element-returns-clause-unseats
drop_element-returns-clause-unseats t c = on_ok_weaker c.end_tag.result
    (λ h n. let body = codes_nest n c.args.body.now in
    unseats_tree c.args.vm.now.tree.forest c.drop_codes.new.vm.tree.forest c.end_tag.new.vm.tree.forest c.args.node.1 body
    (gone_before c.args.vm.now.tree c.end_mods.new.vm.tree c.drop_codes.new.vm.tree.forest body c.in_ok-end_mods.ensures.tree (c.in_ok-drop_codes.ensures.unseats n)) h)
    c.end_tag.ensures.unseats

pub drop_item-returns-clause-unseats : goal.drop_item-returns-clause-unseats
drop_item-returns-clause-unseats t c = let x = c.args.item.now in on_ok_weaker c.end_pair.result
    (λ e n. gone_after c.args.vm.now.tree.forest c.drop_body.new.vm.tree c.end_pair.new.vm.tree (item_nest n x) e
    (subst (Unseats c.args.vm.now.tree.forest c.drop_body.new.vm.tree.forest) (sym (item_body n x)) (c.in_ok-drop_body.ensures.unseats n)))
    c.end_pair.ensures.tree

pub drop_let-returns-clause-unseats : goal.drop_let-returns-clause-unseats
drop_let-returns-clause-unseats t c = on_ok_weaker c.end_references.result
    (λ e n. gone_after c.args.vm.now.tree.forest c.drop_codes.new.vm.tree c.end_references.new.vm.tree (codes_nest n c.args.body.now) e (c.in_ok-drop_codes.ensures.unseats n))
    c.end_references.ensures.tree

pub drop_branch-returns-clause-unseats : goal.drop_branch-returns-clause-unseats
drop_branch-returns-clause-unseats t c = on_ok_weaker c.end_spot.result
    (λ e n. gone_after c.args.vm.now.tree.forest c.drop_body.new.vm.tree c.end_spot.new.vm.tree (body_nest n c.args.body.now c.args.comment.now) e (c.in_ok-drop_body.ensures.unseats n))
    c.end_spot.ensures.tree

pub drop_component-returns-clause-unseats : goal.drop_component-returns-clause-unseats
drop_component-returns-clause-unseats t c = on_ok_weaker c.end_passed.result
    (λ e n. gone_after c.args.vm.now.tree.forest c.drop_codes.new.vm.tree c.end_passed.new.vm.tree (codes_nest n c.args.body.now) e (c.in_ok-drop_codes.ensures.unseats n))
    c.end_passed.ensures.tree

pub drop_code-returns-in-Still-clause-unseats : goal.drop_code-returns-in-Still-clause-unseats
drop_code-returns-in-Still-clause-unseats t c =
    as_code c.end_node.result (Unseats c.args.vm.now.tree.forest c.end_node.new.vm.tree.forest) c.args.code.now (Still c.in-Still.node) (λ n. leaf c.in-Still.node.1) c.in-Still.is (λ n. still_nest n c.in-Still.node) (on_ok_weaker c.end_node.result (λ h n. h) c.end_node.ensures.unseats)

pub drop_code-returns-in-Put-clause-unseats : goal.drop_code-returns-in-Put-clause-unseats
drop_code-returns-in-Put-clause-unseats t c =
    as_code c.end_put.result (Unseats c.args.vm.now.tree.forest c.end_put.new.vm.tree.forest) c.args.code.now (Put c.in-Put.node c.in-Put.spot) (λ n. leaf c.in-Put.node.1) c.in-Put.is (λ n. put_nest n c.in-Put.node c.in-Put.spot) (on_ok_weaker c.end_put.result (λ h n. h) c.end_put.ensures.unseats)

pub drop_code-returns-in-Element-clause-unseats : goal.drop_code-returns-in-Element-clause-unseats
drop_code-returns-in-Element-clause-unseats t c =
    as_code c.drop_element.result (Unseats c.args.vm.now.tree.forest c.drop_element.new.vm.tree.forest) c.args.code.now (Element c.in-Element.node c.in-Element.made c.in-Element.attrs c.in-Element.mods c.in-Element.body) (λ n. nested c.in-Element.node.1 (codes_nest n c.in-Element.body) end) c.in-Element.is (λ n. element_nest n c.in-Element.node c.in-Element.made c.in-Element.attrs c.in-Element.mods c.in-Element.body) c.drop_element.ensures.unseats

pub drop_code-returns-in-Branch-clause-unseats : goal.drop_code-returns-in-Branch-clause-unseats
drop_code-returns-in-Branch-clause-unseats t c =
    as_code c.drop_branch.result (Unseats c.args.vm.now.tree.forest c.drop_branch.new.vm.tree.forest) c.args.code.now (Branch c.in-Branch.choice c.in-Branch.spot c.in-Branch.main c.in-Branch.comment c.in-Branch.body) (λ n. body_nest n c.in-Branch.body c.in-Branch.comment) c.in-Branch.is (λ n. branch_nest n c.in-Branch.choice c.in-Branch.spot c.in-Branch.main c.in-Branch.comment c.in-Branch.body) c.drop_branch.ensures.unseats

pub drop_code-returns-in-Unlisted-clause-unseats : goal.drop_code-returns-in-Unlisted-clause-unseats
drop_code-returns-in-Unlisted-clause-unseats t c =
    as_code c.drop_branch-in-Unlisted.result (Unseats c.args.vm.now.tree.forest c.drop_branch-in-Unlisted.new.vm.tree.forest) c.args.code.now (Unlisted c.in-Unlisted.listing c.in-Unlisted.spot c.in-Unlisted.comment c.in-Unlisted.body) (λ n. body_nest n c.in-Unlisted.body c.in-Unlisted.comment) c.in-Unlisted.is (λ n. unlisted_nest n c.in-Unlisted.listing c.in-Unlisted.spot c.in-Unlisted.comment c.in-Unlisted.body) c.drop_branch-in-Unlisted.ensures.unseats

pub drop_code-returns-in-Let-clause-unseats : goal.drop_code-returns-in-Let-clause-unseats
drop_code-returns-in-Let-clause-unseats t c =
    as_code c.drop_let.result (Unseats c.args.vm.now.tree.forest c.drop_let.new.vm.tree.forest) c.args.code.now (Let c.in-Let.made c.in-Let.params c.in-Let.body) (λ n. codes_nest n c.in-Let.body) c.in-Let.is (λ n. let_nest n c.in-Let.made c.in-Let.params c.in-Let.body) c.drop_let.ensures.unseats

pub drop_code-returns-in-Component-clause-unseats : goal.drop_code-returns-in-Component-clause-unseats
drop_code-returns-in-Component-clause-unseats t c =
    as_code c.drop_component.result (Unseats c.args.vm.now.tree.forest c.drop_component.new.vm.tree.forest) c.args.code.now (Component c.in-Component.owner c.in-Component.block c.in-Component.made c.in-Component.args c.in-Component.body) (λ n. codes_nest n c.in-Component.body) c.in-Component.is (λ n. component_nest n c.in-Component.owner c.in-Component.block c.in-Component.made c.in-Component.args c.in-Component.body) c.drop_component.ensures.unseats

pub drop_code-returns-in-Yield-clause-unseats : goal.drop_code-returns-in-Yield-clause-unseats
drop_code-returns-in-Yield-clause-unseats t c =
    as_code c.drop_let-in-Yield.result (Unseats c.args.vm.now.tree.forest c.drop_let-in-Yield.new.vm.tree.forest) c.args.code.now (Yield c.in-Yield.name c.in-Yield.made c.in-Yield.params c.in-Yield.body) (λ n. codes_nest n c.in-Yield.body) c.in-Yield.is (λ n. yield_nest n c.in-Yield.name c.in-Yield.made c.in-Yield.params c.in-Yield.body) c.drop_let-in-Yield.ensures.unseats

pub drop_code-returns-in_ok-drop_items-in-Listed-clause-unseats : goal.drop_code-returns-in_ok-drop_items-in-Listed-clause-unseats
drop_code-returns-in_ok-drop_items-in-Listed-clause-unseats t c = let xs = c.as_slice-in-Listed.result.now in
    as_code c.end_spot.result (Unseats c.args.vm.now.tree.forest c.end_spot.new.vm.tree.forest) c.args.code.now (Listed c.in-Listed.listing c.in-Listed.spot c.in-Listed.items) (λ n. items_nest n xs) c.in-Listed.is
    (λ n. listed_nest n c.in-Listed.listing c.in-Listed.spot c.in-Listed.items ∙ ap (items_nest n) (sym c.as_slice-in-Listed.ensures.value))
    (on_ok_weaker c.end_spot.result
    (λ e n. gone_after c.args.vm.now.tree.forest c.drop_items.new.vm.tree c.end_spot.new.vm.tree (items_nest n xs) e (gone_items n c.args.vm.now.tree.forest c.drop_items.new.vm.tree.forest xs (c.in_ok-drop_items-in-Listed.ensures.unseats n)))
    c.end_spot.ensures.tree)

pub drop_code-returns-in_ok-drop_codes-in-Root-clause-unseats : goal.drop_code-returns-in_ok-drop_codes-in-Root-clause-unseats
drop_code-returns-in_ok-drop_codes-in-Root-clause-unseats t c =
    as_code c.end_owner.result (Unseats c.args.vm.now.tree.forest c.end_owner.new.vm.tree.forest) c.args.code.now (Root c.in-Root.owner c.in-Root.body) (λ n. codes_nest n c.in-Root.body) c.in-Root.is (λ n. root_nest n c.in-Root.owner c.in-Root.body)
    (on_ok_weaker c.end_owner.result
    (λ e n. gone_after c.args.vm.now.tree.forest c.drop_codes.new.vm.tree c.end_owner.new.vm.tree (codes_nest n c.in-Root.body) e (c.in_ok-drop_codes-in-Root.ensures.unseats n))
    c.end_owner.ensures.tree)
