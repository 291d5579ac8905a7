use Rattle.std.proofs.Common.{◌≡◌, Some, refl, sym, ap, ◌∙◌, is_some}
use Rattle.gl_nodes.specs.Flat.{stamp_of, head_of}
use Rattle.gl_machine.specs.Shape.{nest_comment}
use Rattle.gl_code.specs.Hung.{tops}
use Rattle.gl_code.specs.declared.code.Code.TheVariants.{Branch, Listed, Unlisted, Let, Component, Root, Yield}
use Rattle.gl_code.proofs.CodeNests.{branch_nest, listed_nest, unlisted_nest, let_nest, component_nest, root_nest, yield_nest}
use Rattle.gl_seats.specs.Parts.{code_nest, codes_nest, body_nest, item_nest, items_nest}
use Rattle.gl_seats.proofs.Rows.{first_here, first_later, head_go, head_here, head_end}
use Rattle.gl_seats.proofs.CodeRows.{as_nest, codes_row, items_row, item_body, comment_first}
use Rattle.gl_seats.proofs.tops.+first.Goals as goal

pub first_of_code-returns-in-Listed : goal.first_of_code-returns-in-Listed
first_of_code-returns-in-Listed t c = let xs = c.as_slice.result.now in
    as_nest (λ z. stamp_of c.first_of_items.result ≡ head_of (tops z)) c.args.code.now (Listed c.in-Listed.listing c.in-Listed.spot c.in-Listed.items) (λ n. items_nest n xs) c.in-Listed.is
    (λ n. listed_nest n c.in-Listed.listing c.in-Listed.spot c.in-Listed.items ∙ ap (items_nest n) (sym c.as_slice.ensures.value)) c.first_of_items.ensures

pub first_of_code-returns-in-Branch : goal.first_of_code-returns-in-Branch
first_of_code-returns-in-Branch t c =
    as_nest (λ z. stamp_of c.first_top.result ≡ head_of (tops z)) c.args.code.now (Branch c.in-Branch.choice c.in-Branch.spot c.in-Branch.main c.in-Branch.comment c.in-Branch.body) (λ n. body_nest n c.in-Branch.body c.in-Branch.comment) c.in-Branch.is (λ n. branch_nest n c.in-Branch.choice c.in-Branch.spot c.in-Branch.main c.in-Branch.comment c.in-Branch.body) c.first_top.ensures

pub first_of_code-returns-in-Unlisted : goal.first_of_code-returns-in-Unlisted
first_of_code-returns-in-Unlisted t c =
    as_nest (λ z. stamp_of c.first_top-in-Unlisted.result ≡ head_of (tops z)) c.args.code.now (Unlisted c.in-Unlisted.listing c.in-Unlisted.spot c.in-Unlisted.comment c.in-Unlisted.body) (λ n. body_nest n c.in-Unlisted.body c.in-Unlisted.comment) c.in-Unlisted.is (λ n. unlisted_nest n c.in-Unlisted.listing c.in-Unlisted.spot c.in-Unlisted.comment c.in-Unlisted.body) c.first_top-in-Unlisted.ensures

pub first_of_code-returns-in-Let : goal.first_of_code-returns-in-Let
first_of_code-returns-in-Let t c =
    as_nest (λ z. stamp_of c.first_of_body.result ≡ head_of (tops z)) c.args.code.now (Let c.in-Let.made c.in-Let.params c.in-Let.body) (λ n. codes_nest n c.in-Let.body) c.in-Let.is (λ n. let_nest n c.in-Let.made c.in-Let.params c.in-Let.body) c.first_of_body.ensures

pub first_of_code-returns-in-Component : goal.first_of_code-returns-in-Component
first_of_code-returns-in-Component t c =
    as_nest (λ z. stamp_of c.first_of_body-in-Component.result ≡ head_of (tops z)) c.args.code.now (Component c.in-Component.owner c.in-Component.block c.in-Component.made c.in-Component.args c.in-Component.body) (λ n. codes_nest n c.in-Component.body) c.in-Component.is (λ n. component_nest n c.in-Component.owner c.in-Component.block c.in-Component.made c.in-Component.args c.in-Component.body) c.first_of_body-in-Component.ensures

pub first_of_code-returns-in-Root : goal.first_of_code-returns-in-Root
first_of_code-returns-in-Root t c =
    as_nest (λ z. stamp_of c.first_of_body-in-Root.result ≡ head_of (tops z)) c.args.code.now (Root c.in-Root.owner c.in-Root.body) (λ n. codes_nest n c.in-Root.body) c.in-Root.is (λ n. root_nest n c.in-Root.owner c.in-Root.body) c.first_of_body-in-Root.ensures

pub first_of_code-returns-in-Yield : goal.first_of_code-returns-in-Yield
first_of_code-returns-in-Yield t c =
    as_nest (λ z. stamp_of c.first_of_body-in-Yield.result ≡ head_of (tops z)) c.args.code.now (Yield c.in-Yield.name c.in-Yield.made c.in-Yield.params c.in-Yield.body) (λ n. codes_nest n c.in-Yield.body) c.in-Yield.is (λ n. yield_nest n c.in-Yield.name c.in-Yield.made c.in-Yield.params c.in-Yield.body) c.first_of_body-in-Yield.ensures

pub first_top-returns-in-Some : goal.first_top-returns-in-Some
first_top-returns-in-Some t c = λ n. first_here (Some c.in-Some.node) (codes_nest n c.args.body.now) (nest_comment (stamp_of c.args.comment.now)) refl (ap stamp_of (sym c.in-Some.is) ∙ c.first_of_body.ensures n)

pub first_top-returns-in-None : goal.first_top-returns-in-None
first_top-returns-in-None t c = λ n. comment_first (stamp_of c.args.comment.now) ∙ sym (first_later c.first_of_body.result (codes_nest n c.args.body.now) (nest_comment (stamp_of c.args.comment.now)) (ap is_some c.in-None.is) (c.first_of_body.ensures n))

pub first_of_body-loop-code-preserved : goal.first_of_body-loop-code-preserved
first_of_body-loop-code-preserved t c = record {
  left = λ n. head_go (code_nest n) c.as_slice-code-items.result.now c.loop-code.code-index c.code-item.result c.first_of_code-node.result c.loop-code-test.true c.code-item.is (sym c.is_some.ensures ∙ c.if-is_some.false) (c.first_of_code-node.ensures n) ∙ c.loop-code.invariant.left n;
}

pub first_of_body-returns-then-is_some : goal.first_of_body-returns-then-is_some
first_of_body-returns-then-is_some t c = λ n. let xs = c.as_slice-code-items.result.now in
    head_here (code_nest n) xs c.loop-code.code-index c.code-item.result c.first_of_code-node.result c.loop-code-test.true c.code-item.is (sym c.is_some.ensures ∙ c.if-is_some.true) (c.first_of_code-node.ensures n)
    ∙ (c.loop-code.invariant.left n ∙ sym (ap (λ z. head_of (tops z)) (codes_row n c.args.body.now xs c.as_slice-code-items.ensures.value)))

pub first_of_body-returns : goal.first_of_body-returns
first_of_body-returns t c = λ n. let xs = c.as_slice-code-items.result.now in
    head_end (code_nest n) xs c.loop-code.code-index c.loop-code-test.false
    ∙ (c.loop-code.invariant.left n ∙ sym (ap (λ z. head_of (tops z)) (codes_row n c.args.body.now xs c.as_slice-code-items.ensures.value)))

pub first_of_items-loop-item-preserved : goal.first_of_items-loop-item-preserved
first_of_items-loop-item-preserved t c = record {
  left = λ n. head_go (item_nest n) c.args.items.now c.loop-item.item-index c.item-item.result c.first_top-node.result c.loop-item-test.true c.item-item.is (sym c.is_some.ensures ∙ c.if-is_some.false)
      (c.first_top-node.ensures n ∙ sym (ap (λ z. head_of (tops z)) (item_body n c.item-item.result))) ∙ c.loop-item.invariant.left n;
}

pub first_of_items-returns-then-is_some : goal.first_of_items-returns-then-is_some
first_of_items-returns-then-is_some t c = λ n. let xs = c.args.items.now in
    head_here (item_nest n) xs c.loop-item.item-index c.item-item.result c.first_top-node.result c.loop-item-test.true c.item-item.is (sym c.is_some.ensures ∙ c.if-is_some.true)
    (c.first_top-node.ensures n ∙ sym (ap (λ z. head_of (tops z)) (item_body n c.item-item.result)))
    ∙ (c.loop-item.invariant.left n ∙ sym (ap (λ z. head_of (tops z)) (items_row n xs)))

pub first_of_items-returns : goal.first_of_items-returns
first_of_items-returns t c = λ n. let xs = c.args.items.now in
    head_end (item_nest n) xs c.loop-item.item-index c.loop-item-test.false ∙ (c.loop-item.invariant.left n ∙ sym (ap (λ z. head_of (tops z)) (items_row n xs)))
