use Rattle.std.proofs.Common.{sym, ap, subst, ◌∙◌}
use Rattle.std.proofs.lemmas.Result.{on_ok_weaker}
use Rattle.gl_nodes.specs.Flat.{stamp_of}
use Rattle.gl_machine.specs.Shape.{end, tree as nested, nest_comment}
use Rattle.gl_code.specs.declared.code.Code.TheVariants.{Element, Branch, Listed, Unlisted, Let, Component, Root, Yield}
use Rattle.gl_code.proofs.CodeNests.{element_nest, branch_nest, listed_nest, unlisted_nest, let_nest, component_nest, root_nest, yield_nest}
use Rattle.gl_seats.specs.Parts.{code_nest, codes_nest, body_nest, item_nest, items_nest}
use Rattle.gl_seats.specs.Seats.{SeatsBefore}
use Rattle.gl_seats.proofs.Replacing.{seats_joined}
use Rattle.gl_seats.proofs.Rows.{seats_go, seats_end}
use Rattle.gl_seats.proofs.CodeRows.{as_code, codes_row, items_row, item_body}
use Rattle.gl_seats.proofs.seating.+seating.Goals as goal

pub seat_body-returns-clause-seats : goal.seat_body-returns-clause-seats
seat_body-returns-clause-seats t c = on_ok_weaker c.seat_comment.result
    (λ h n. seats_joined c.args.tree.now.forest c.seat_codes.new.tree.forest c.seat_comment.new.tree.forest (stamp_of c.args.seat.now.parent) (stamp_of c.args.seat.now.next) (codes_nest n c.args.body.now) (nest_comment (stamp_of c.args.comment.now)) (c.in_ok-seat_codes.ensures.seats n) h)
    c.seat_comment.ensures.seats

pub seat_codes-loop-code-preserved : goal.seat_codes-loop-code-preserved
seat_codes-loop-code-preserved t c = record {
  flat = c.seat_code.ensures.sound;
  nodes = c.in_ok-seat_code.ensures.nodes ∙ c.loop-code.invariant.nodes;
  moves = c.in_ok-seat_code.ensures.moves ∙ c.loop-code.invariant.moves;
  left = λ n v h. c.loop-code.invariant.left n v
      (seats_go (code_nest n) c.loop-code.tree.forest c.seat_code.new.tree.forest v (stamp_of c.args.seat.now.parent) (stamp_of c.args.seat.now.next) c.as_slice-code-items.result.now c.loop-code.code-index c.code-item.result c.loop-code-test.true c.code-item.is (c.in_ok-seat_code.ensures.seats n) h);
}

pub seat_codes-returns-clause-seats : goal.seat_codes-returns-clause-seats
seat_codes-returns-clause-seats t c = λ n. let p = stamp_of c.args.seat.now.parent in let next = stamp_of c.args.seat.now.next in let xs = c.as_slice-code-items.result.now in
    subst (SeatsBefore c.args.tree.now.forest c.loop-code.tree.forest p next) (sym (codes_row n c.args.codes.now xs c.as_slice-code-items.ensures.value))
    (c.loop-code.invariant.left n c.loop-code.tree.forest (seats_end (code_nest n) c.loop-code.tree.forest p next xs c.loop-code.code-index c.loop-code-test.false))

pub seat_items-loop-item-preserved : goal.seat_items-loop-item-preserved
seat_items-loop-item-preserved t c = record {
  flat = c.seat_body.ensures.sound;
  nodes = c.in_ok-seat_body.ensures.nodes ∙ c.loop-item.invariant.nodes;
  moves = c.in_ok-seat_body.ensures.moves ∙ c.loop-item.invariant.moves;
  left = λ n v h. let p = stamp_of c.args.seat.now.parent in let next = stamp_of c.args.seat.now.next in let x = c.item-item.result in c.loop-item.invariant.left n v
      (seats_go (item_nest n) c.loop-item.tree.forest c.seat_body.new.tree.forest v p next c.args.items.now c.loop-item.item-index x c.loop-item-test.true c.item-item.is
      (subst (SeatsBefore c.loop-item.tree.forest c.seat_body.new.tree.forest p next) (sym (item_body n x)) (c.in_ok-seat_body.ensures.seats n)) h);
}

pub seat_items-returns-clause-seats : goal.seat_items-returns-clause-seats
seat_items-returns-clause-seats t c = λ n. let p = stamp_of c.args.seat.now.parent in let next = stamp_of c.args.seat.now.next in let xs = c.args.items.now in
    subst (SeatsBefore c.args.tree.now.forest c.loop-item.tree.forest p next) (sym (items_row n xs))
    (c.loop-item.invariant.left n c.loop-item.tree.forest (seats_end (item_nest n) c.loop-item.tree.forest p next xs c.loop-item.item-index c.loop-item-test.false))

pub seat_code-returns-in-Listed-clause-seats : goal.seat_code-returns-in-Listed-clause-seats
seat_code-returns-in-Listed-clause-seats t c = let xs = c.as_slice.result.now in
    as_code c.seat_items.result (SeatsBefore c.args.tree.now.forest c.seat_items.new.tree.forest (stamp_of c.args.seat.now.parent) (stamp_of c.args.seat.now.next)) c.args.code.now
    (Listed c.in-Listed.listing c.in-Listed.spot c.in-Listed.items) (λ n. items_nest n xs) c.in-Listed.is (λ n. listed_nest n c.in-Listed.listing c.in-Listed.spot c.in-Listed.items ∙ ap (items_nest n) (sym c.as_slice.ensures.value)) c.seat_items.ensures.seats

pub seat_code-returns-in-Element-clause-seats : goal.seat_code-returns-in-Element-clause-seats
seat_code-returns-in-Element-clause-seats t c =
    as_code c.seat_element.result (SeatsBefore c.args.tree.now.forest c.seat_element.new.tree.forest (stamp_of c.args.seat.now.parent) (stamp_of c.args.seat.now.next)) c.args.code.now (Element c.in-Element.node c.in-Element.made c.in-Element.attrs c.in-Element.mods c.in-Element.body)
    (λ n. nested c.in-Element.node.1 (codes_nest n c.in-Element.body) end) c.in-Element.is (λ n. element_nest n c.in-Element.node c.in-Element.made c.in-Element.attrs c.in-Element.mods c.in-Element.body) c.seat_element.ensures.seats

pub seat_code-returns-in-Branch-clause-seats : goal.seat_code-returns-in-Branch-clause-seats
seat_code-returns-in-Branch-clause-seats t c =
    as_code c.seat_body.result (SeatsBefore c.args.tree.now.forest c.seat_body.new.tree.forest (stamp_of c.args.seat.now.parent) (stamp_of c.args.seat.now.next)) c.args.code.now (Branch c.in-Branch.choice c.in-Branch.spot c.in-Branch.main c.in-Branch.comment c.in-Branch.body)
    (λ n. body_nest n c.in-Branch.body c.in-Branch.comment) c.in-Branch.is (λ n. branch_nest n c.in-Branch.choice c.in-Branch.spot c.in-Branch.main c.in-Branch.comment c.in-Branch.body) c.seat_body.ensures.seats

pub seat_code-returns-in-Unlisted-clause-seats : goal.seat_code-returns-in-Unlisted-clause-seats
seat_code-returns-in-Unlisted-clause-seats t c =
    as_code c.seat_body-in-Unlisted.result (SeatsBefore c.args.tree.now.forest c.seat_body-in-Unlisted.new.tree.forest (stamp_of c.args.seat.now.parent) (stamp_of c.args.seat.now.next)) c.args.code.now (Unlisted c.in-Unlisted.listing c.in-Unlisted.spot c.in-Unlisted.comment c.in-Unlisted.body)
    (λ n. body_nest n c.in-Unlisted.body c.in-Unlisted.comment) c.in-Unlisted.is (λ n. unlisted_nest n c.in-Unlisted.listing c.in-Unlisted.spot c.in-Unlisted.comment c.in-Unlisted.body) c.seat_body-in-Unlisted.ensures.seats

pub seat_code-returns-in-Let-clause-seats : goal.seat_code-returns-in-Let-clause-seats
seat_code-returns-in-Let-clause-seats t c =
    as_code c.seat_codes.result (SeatsBefore c.args.tree.now.forest c.seat_codes.new.tree.forest (stamp_of c.args.seat.now.parent) (stamp_of c.args.seat.now.next)) c.args.code.now (Let c.in-Let.made c.in-Let.params c.in-Let.body)
    (λ n. codes_nest n c.in-Let.body) c.in-Let.is (λ n. let_nest n c.in-Let.made c.in-Let.params c.in-Let.body) c.seat_codes.ensures.seats

pub seat_code-returns-in-Component-clause-seats : goal.seat_code-returns-in-Component-clause-seats
seat_code-returns-in-Component-clause-seats t c =
    as_code c.seat_codes-in-Component.result (SeatsBefore c.args.tree.now.forest c.seat_codes-in-Component.new.tree.forest (stamp_of c.args.seat.now.parent) (stamp_of c.args.seat.now.next)) c.args.code.now (Component c.in-Component.owner c.in-Component.block c.in-Component.made c.in-Component.args c.in-Component.body)
    (λ n. codes_nest n c.in-Component.body) c.in-Component.is (λ n. component_nest n c.in-Component.owner c.in-Component.block c.in-Component.made c.in-Component.args c.in-Component.body) c.seat_codes-in-Component.ensures.seats

pub seat_code-returns-in-Root-clause-seats : goal.seat_code-returns-in-Root-clause-seats
seat_code-returns-in-Root-clause-seats t c =
    as_code c.seat_codes-in-Root.result (SeatsBefore c.args.tree.now.forest c.seat_codes-in-Root.new.tree.forest (stamp_of c.args.seat.now.parent) (stamp_of c.args.seat.now.next)) c.args.code.now (Root c.in-Root.owner c.in-Root.body)
    (λ n. codes_nest n c.in-Root.body) c.in-Root.is (λ n. root_nest n c.in-Root.owner c.in-Root.body) c.seat_codes-in-Root.ensures.seats

pub seat_code-returns-in-Yield-clause-seats : goal.seat_code-returns-in-Yield-clause-seats
seat_code-returns-in-Yield-clause-seats t c =
    as_code c.seat_codes-in-Yield.result (SeatsBefore c.args.tree.now.forest c.seat_codes-in-Yield.new.tree.forest (stamp_of c.args.seat.now.parent) (stamp_of c.args.seat.now.next)) c.args.code.now (Yield c.in-Yield.name c.in-Yield.made c.in-Yield.params c.in-Yield.body)
    (λ n. codes_nest n c.in-Yield.body) c.in-Yield.is (λ n. yield_nest n c.in-Yield.name c.in-Yield.made c.in-Yield.params c.in-Yield.body) c.seat_codes-in-Yield.ensures.seats
