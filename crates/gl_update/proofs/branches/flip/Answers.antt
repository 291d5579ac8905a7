use Rattle.std.proofs.Common.{◌∙◌, ◌∷◌, ap}
use Rattle.std.specs.Prelude.{if◌then◌else◌}
use Rattle.gl_meaning.specs.View.{path_view}
use Rattle.gl_nodes.specs.Flat.{stamp_of}
use Rattle.gl_machine.specs.RenewCode.{start}
use Rattle.gl_code.specs.View.{seen_sight}
use Rattle.gl_code.specs.CodeView.{seen_choice, seen_codes}
use Rattle.gl_update.specs.View.{trail_view}
use Rattle.gl_update.proofs.Branching.{fresh_renews, fresh_fails}
use Rattle.gl_seats.specs.Parts.{body_nest}
use Rattle.gl_update.proofs.Renewed.{stands_anew}
use Rattle.gl_update.proofs.branches.flip.Goals as goal

pub returns-in_ok-comment-in-Ok-clause-ok : goal.returns-in_ok-comment-in-Ok-clause-ok
returns-in_ok-comment-in-Ok-clause-ok g c = λ s.
    let p = trail_view c.args.trail.now in
    let b = c.args.shows in
    let path = path_view c.in_ok-path.path in
    let pc = if b then c.args.choice.now.first else c.args.choice.now.second in
    fresh_renews c.args.app.now c.args.cells.now c.args.left p (λ n. seen_choice n c.args.choice.now) s (stamp_of c.args.comment.now) (λ n. seen_codes n c.args.body.now) b c.args.vm.now c.end_branch.new.vm c.append_block.new.vm c.seat_with_comment.new.vm
    (λ n. start (seen_sight n c.in_ok-sight.sight) c.chosen-pc.result path c.args.left) (λ n. seen_codes n c.in-Ok.codes) c.in_ok-comment-in-Ok.field-0 c.in_ok-end_branch.ensures.step
    (λ n. ap (λ w. start w c.chosen-pc.result path c.args.left) (c.in_ok-sight.ensures n ∙ ap (seen_sight n) c.as_ref.ensures)
    ∙ (ap (λ x. start (seen_sight n c.args.choice.now.sight.value) x path c.args.left) c.chosen-pc.ensures ∙ ap (λ y. start (seen_sight n c.args.choice.now.sight.value) pc y c.args.left) (c.in_ok-path.ensures ∙ ap (λ x. x ∷ p) c.side.ensures)))
    c.in-Ok.ensures.ok (λ n u ag. c.in_ok-comment-in-Ok.ensures.step n u ag)

pub returns-in-Err-clause-fails : goal.returns-in-Err-clause-fails
returns-in-Err-clause-fails g c = λ s.
    let p = trail_view c.args.trail.now in
    let b = c.args.shows in
    let path = path_view c.in_ok-path.path in
    let pc = if b then c.args.choice.now.first else c.args.choice.now.second in
    fresh_fails c.args.app.now c.args.cells.now c.args.left p (λ n. seen_choice n c.args.choice.now) s (stamp_of c.args.comment.now) (λ n. seen_codes n c.args.body.now) b c.args.vm.now c.end_branch.new.vm
    (λ n. start (seen_sight n c.in_ok-sight.sight) c.chosen-pc.result path c.args.left) c.in-Err.fault c.in_ok-end_branch.ensures.step
    (λ n. ap (λ w. start w c.chosen-pc.result path c.args.left) (c.in_ok-sight.ensures n ∙ ap (seen_sight n) c.as_ref.ensures)
    ∙ (ap (λ x. start (seen_sight n c.args.choice.now.sight.value) x path c.args.left) c.chosen-pc.ensures ∙ ap (λ y. start (seen_sight n c.args.choice.now.sight.value) pc y c.args.left) (c.in_ok-path.ensures ∙ ap (λ x. x ∷ p) c.side.ensures)))
    c.in-Err.ensures.fails

pub returns-in_ok-comment-in-Ok-clause-nodes : goal.returns-in_ok-comment-in-Ok-clause-nodes
returns-in_ok-comment-in-Ok-clause-nodes g c = λ n.
    stands_anew c.args.vm.now.tree c.end_branch.new.vm.tree c.append_block.new.vm.tree c.seat_with_comment.new.vm.tree (stamp_of c.args.parent.now) (stamp_of c.in_ok-seat.seat.parent) (stamp_of c.in_ok-seat.seat.next) (body_nest n c.args.body.now c.args.comment.now) (body_nest n c.in-Ok.codes c.in_ok-comment-in-Ok.field-0)
    (ap stamp_of c.in_ok-seat.ensures.parent) (c.in_ok-seat.ensures.behind n) (c.in_ok-end_branch.ensures.unseats n) c.in-Ok.ensures.roots (c.in_ok-comment-in-Ok.ensures.seats n)

pub returns-in_ok-comment-in-Ok-clause-moves : goal.returns-in_ok-comment-in-Ok-clause-moves
returns-in_ok-comment-in-Ok-clause-moves g c = c.in_ok-comment-in-Ok.ensures.moves ∙ (c.in-Ok.ensures.roots.moves ∙ c.in_ok-end_branch.ensures.moves)
