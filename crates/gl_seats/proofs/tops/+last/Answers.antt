use Rattle.std.proofs.Common.{◌≡◌, Some, refl, sym, ap, ◌∙◌, is_some}
use Rattle.gl_nodes.specs.Flat.{stamp_of}
use Rattle.gl_machine.specs.Shape.{nest_comment}
use Rattle.gl_code.specs.Hung.{tops}
use Rattle.gl_code.specs.declared.code.Code.TheVariants.{Branch, Listed, Unlisted, Let, Component, Root, Yield}
use Rattle.gl_code.proofs.CodeNests.{branch_nest, listed_nest, unlisted_nest, let_nest, component_nest, root_nest, yield_nest}
use Rattle.gl_seats.specs.Parts.{code_nest, codes_nest, body_nest, item_nest, items_nest}
use Rattle.gl_seats.specs.Seats.{last_of}
use Rattle.gl_seats.proofs.Rows.{row, last_here, last_before, last_go, last_at, last_end}
use Rattle.gl_seats.proofs.CodeRows.{as_nest, codes_row, items_row, item_body, comment_last}
use Rattle.gl_seats.proofs.tops.+last.Goals as goal

pub last_of_code-returns-in-Listed : goal.last_of_code-returns-in-Listed
last_of_code-returns-in-Listed t c = let xs = c.as_slice.result.now in
    as_nest (λ z. stamp_of c.last_of_items.result ≡ last_of (tops z)) c.args.code.now (Listed c.in-Listed.listing c.in-Listed.spot c.in-Listed.items) (λ n. items_nest n xs) c.in-Listed.is
    (λ n. listed_nest n c.in-Listed.listing c.in-Listed.spot c.in-Listed.items ∙ ap (items_nest n) (sym c.as_slice.ensures.value)) c.last_of_items.ensures

pub last_of_code-returns-in-Branch : goal.last_of_code-returns-in-Branch
last_of_code-returns-in-Branch t c =
    as_nest (λ z. stamp_of c.last_top.result ≡ last_of (tops z)) c.args.code.now (Branch c.in-Branch.choice c.in-Branch.spot c.in-Branch.main c.in-Branch.comment c.in-Branch.body) (λ n. body_nest n c.in-Branch.body c.in-Branch.comment) c.in-Branch.is (λ n. branch_nest n c.in-Branch.choice c.in-Branch.spot c.in-Branch.main c.in-Branch.comment c.in-Branch.body) c.last_top.ensures

pub last_of_code-returns-in-Unlisted : goal.last_of_code-returns-in-Unlisted
last_of_code-returns-in-Unlisted t c =
    as_nest (λ z. stamp_of c.last_top-in-Unlisted.result ≡ last_of (tops z)) c.args.code.now (Unlisted c.in-Unlisted.listing c.in-Unlisted.spot c.in-Unlisted.comment c.in-Unlisted.body) (λ n. body_nest n c.in-Unlisted.body c.in-Unlisted.comment) c.in-Unlisted.is (λ n. unlisted_nest n c.in-Unlisted.listing c.in-Unlisted.spot c.in-Unlisted.comment c.in-Unlisted.body) c.last_top-in-Unlisted.ensures

pub last_of_code-returns-in-Let : goal.last_of_code-returns-in-Let
last_of_code-returns-in-Let t c =
    as_nest (λ z. stamp_of c.last_of_body.result ≡ last_of (tops z)) c.args.code.now (Let c.in-Let.made c.in-Let.params c.in-Let.body) (λ n. codes_nest n c.in-Let.body) c.in-Let.is (λ n. let_nest n c.in-Let.made c.in-Let.params c.in-Let.body) c.last_of_body.ensures

pub last_of_code-returns-in-Component : goal.last_of_code-returns-in-Component
last_of_code-returns-in-Component t c =
    as_nest (λ z. stamp_of c.last_of_body-in-Component.result ≡ last_of (tops z)) c.args.code.now (Component c.in-Component.owner c.in-Component.block c.in-Component.made c.in-Component.args c.in-Component.body) (λ n. codes_nest n c.in-Component.body) c.in-Component.is (λ n. component_nest n c.in-Component.owner c.in-Component.block c.in-Component.made c.in-Component.args c.in-Component.body) c.last_of_body-in-Component.ensures

pub last_of_code-returns-in-Root : goal.last_of_code-returns-in-Root
last_of_code-returns-in-Root t c =
    as_nest (λ z. stamp_of c.last_of_body-in-Root.result ≡ last_of (tops z)) c.args.code.now (Root c.in-Root.owner c.in-Root.body) (λ n. codes_nest n c.in-Root.body) c.in-Root.is (λ n. root_nest n c.in-Root.owner c.in-Root.body) c.last_of_body-in-Root.ensures

pub last_of_code-returns-in-Yield : goal.last_of_code-returns-in-Yield
last_of_code-returns-in-Yield t c =
    as_nest (λ z. stamp_of c.last_of_body-in-Yield.result ≡ last_of (tops z)) c.args.code.now (Yield c.in-Yield.name c.in-Yield.made c.in-Yield.params c.in-Yield.body) (λ n. codes_nest n c.in-Yield.body) c.in-Yield.is (λ n. yield_nest n c.in-Yield.name c.in-Yield.made c.in-Yield.params c.in-Yield.body) c.last_of_body-in-Yield.ensures

pub last_top-returns-in-Some : goal.last_top-returns-in-Some
last_top-returns-in-Some t c = λ n. last_here (Some c.in-Some.node) (codes_nest n c.args.body.now) (nest_comment (stamp_of c.args.comment.now)) refl (ap stamp_of (sym c.in-Some.is) ∙ comment_last (stamp_of c.args.comment.now))

pub last_top-returns-in-None : goal.last_top-returns-in-None
last_top-returns-in-None t c = λ n. c.last_of_body.ensures n ∙ sym (last_before c.args.comment.now (codes_nest n c.args.body.now) (nest_comment (stamp_of c.args.comment.now)) (ap is_some c.in-None.is) (comment_last (stamp_of c.args.comment.now)))

pub last_of_body-loop-code-init : goal.last_of_body-loop-code-init
last_of_body-loop-code-init t c = record {
  left = λ n.
      ap (λ it. last_of (tops (row (code_nest n) it.iter.rest.now))) c.into_iter-code-iterator.ensures.into_iter_gives
      ∙ (ap (λ it. last_of (tops (row (code_nest n) it.rest.now))) c.rev-code-items.ensures.source
      ∙ (ap (λ xs. last_of (tops (row (code_nest n) xs))) c.iter.ensures.rest
      ∙ sym (ap (λ z. last_of (tops z)) (codes_row n c.args.body.now c.as_slice.result.now c.as_slice.ensures.value))));
}

pub last_of_body-loop-code-preserved : goal.last_of_body-loop-code-preserved
last_of_body-loop-code-preserved t c = record {
  left = λ n. last_go (code_nest n) c.loop-code.code-iterator.iter.rest.now c.next.new.self.iter.rest.now c.in-Some.code.now c.last_of_code-node.result c.in-Some.ensures.steps (sym c.is_some.ensures ∙ c.if-is_some.false) (c.last_of_code-node.ensures n) ∙ c.loop-code.invariant.left n;
}

pub last_of_body-returns-then-is_some : goal.last_of_body-returns-then-is_some
last_of_body-returns-then-is_some t c = λ n. last_at (code_nest n) c.loop-code.code-iterator.iter.rest.now c.next.new.self.iter.rest.now c.in-Some.code.now c.last_of_code-node.result c.in-Some.ensures.steps (sym c.is_some.ensures ∙ c.if-is_some.true) (c.last_of_code-node.ensures n) ∙ c.loop-code.invariant.left n

pub last_of_body-returns : goal.last_of_body-returns
last_of_body-returns t c = λ n. last_end (code_nest n) c.loop-code.code-iterator.iter.rest.now c.in-None.ensures.steps.0 ∙ c.loop-code.invariant.left n

pub last_of_items-loop-item-init : goal.last_of_items-loop-item-init
last_of_items-loop-item-init t c = record {
  left = λ n.
      ap (λ it. last_of (tops (row (item_nest n) it.iter.rest.now))) c.into_iter-item-iterator.ensures.into_iter_gives
      ∙ (ap (λ it. last_of (tops (row (item_nest n) it.rest.now))) c.rev-item-items.ensures.source
      ∙ (ap (λ xs. last_of (tops (row (item_nest n) xs))) c.iter.ensures.rest
      ∙ sym (ap (λ z. last_of (tops z)) (items_row n c.args.items.now))));
}

pub last_of_items-loop-item-preserved : goal.last_of_items-loop-item-preserved
last_of_items-loop-item-preserved t c = record {
  left = λ n. last_go (item_nest n) c.loop-item.item-iterator.iter.rest.now c.next.new.self.iter.rest.now c.in-Some.item.now c.last_top-node.result c.in-Some.ensures.steps (sym c.is_some.ensures ∙ c.if-is_some.false)
      (c.last_top-node.ensures n ∙ sym (ap (λ z. last_of (tops z)) (item_body n c.in-Some.item.now))) ∙ c.loop-item.invariant.left n;
}

pub last_of_items-returns-then-is_some : goal.last_of_items-returns-then-is_some
last_of_items-returns-then-is_some t c = λ n.
    last_at (item_nest n) c.loop-item.item-iterator.iter.rest.now c.next.new.self.iter.rest.now c.in-Some.item.now c.last_top-node.result c.in-Some.ensures.steps (sym c.is_some.ensures ∙ c.if-is_some.true)
    (c.last_top-node.ensures n ∙ sym (ap (λ z. last_of (tops z)) (item_body n c.in-Some.item.now))) ∙ c.loop-item.invariant.left n

pub last_of_items-returns : goal.last_of_items-returns
last_of_items-returns t c = λ n. last_end (item_nest n) c.loop-item.item-iterator.iter.rest.now c.in-None.ensures.steps.0 ∙ c.loop-item.invariant.left n
