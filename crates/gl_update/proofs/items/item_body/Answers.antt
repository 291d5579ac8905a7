use Rattle.std.proofs.Common.{ap, sym, ◌∙◌}
use Rattle.gl_meaning.specs.View.{path_view}
use Rattle.gl_machine.specs.RenewCode.{start}
use Rattle.gl_code.specs.View.{seen_sight}
use Rattle.gl_code.specs.CodeView.{seen_item_spot, seen_codes, seen_item_code}
use Rattle.gl_update.specs.ListItems.{Item}
use Rattle.gl_update.proofs.FreshItems.{body_renews, body_fails}
use Rattle.gl_nodes.specs.Flat.{stamp_of}
use Rattle.gl_machine.specs.Code.{lives_of}
use Rattle.gl_machine.specs.Shape.{joined, nest_in, nest_comment}
use Rattle.gl_seats.specs.Parts.{body_nest, item_nest}
use Rattle.gl_update.proofs.Renewed.{seats_after, seats_as}
use Rattle.gl_update.proofs.items.item_body.Goals as goal

pub returns-in_ok-comment-in-Ok-clause-ok : goal.returns-in_ok-comment-in-Ok-clause-ok
returns-in_ok-comment-in-Ok-clause-ok g c =
    body_renews c.args.app.now c.args.cells.now (seen_item_spot c.args.spot) (λ n. start (seen_sight n c.args.sight) c.args.pc (path_view c.args.path) c.args.left) (λ n. seen_codes n c.in-Ok.body) c.in_ok-comment-in-Ok.comment
    (λ n. seen_item_code n c.rendered.result) c.args.vm.now c.append_block.new.vm c.seat_with_comment.new.vm c.in-Ok.ensures.ok c.in_ok-comment-in-Ok.ensures.step c.rendered.ensures

pub returns-in-Err-clause-fails : goal.returns-in-Err-clause-fails
returns-in-Err-clause-fails g c =
    body_fails c.args.app.now c.args.cells.now (seen_item_spot c.args.spot) (λ n. start (seen_sight n c.args.sight) c.args.pc (path_view c.args.path) c.args.left) c.args.vm.now c.in-Err.fault c.in-Err.ensures.fails

pub returns-in_ok-comment-in-Ok-clause-key : goal.returns-in_ok-comment-in-Ok-clause-key
returns-in_ok-comment-in-Ok-clause-key g c = λ n. ap (λ (x : Item). x.0) (c.rendered.ensures n)

pub returns-in_ok-comment-in-Ok-clause-seats : goal.returns-in_ok-comment-in-Ok-clause-seats
returns-in_ok-comment-in-Ok-clause-seats g c = λ n.
    let old = c.args.vm.now.tree in
    let mid = c.append_block.new.vm.tree in
    let new = c.seat_with_comment.new.vm.tree in
    let p = stamp_of c.args.seat.now.parent in
    let next = stamp_of c.args.seat.now.next in
    let y = body_nest n c.in-Ok.body c.in_ok-comment-in-Ok.comment in
    seats_as old new p next y (item_nest n c.rendered.result) (sym (ap (λ (x : Item). joined (nest_in (lives_of x.1.1)) (nest_comment x.1.0)) (c.rendered.ensures n)))
    (seats_after old mid new p next y c.in-Ok.ensures.roots (c.in_ok-comment-in-Ok.ensures.seats n))

pub returns-in_ok-comment-in-Ok-clause-moves : goal.returns-in_ok-comment-in-Ok-clause-moves
returns-in_ok-comment-in-Ok-clause-moves g c = c.in_ok-comment-in-Ok.ensures.moves ∙ c.in-Ok.ensures.roots.moves
