use Rattle.std.proofs.Common.{ap, sym, refl, ◌∙◌}
use Rattle.std.proofs.lemmas.Result.{on_ok_weaker}
use Rattle.gl_nodes.specs.Flat.{stamp_of}
use Rattle.gl_seats.specs.Parts.{body_nest}
use Rattle.gl_seats.proofs.Steps.{run_shifts}
use Rattle.gl_seats.proofs.shifting.shift_body.Goals as goal

pub returns-clause-shifts : goal.returns-clause-shifts
returns-clause-shifts c = on_ok_weaker c.shift.result
    (λ h n. run_shifts c.args.tree.now c.shift.new.self c.in-Some.first c.in-Some-last_top.last (stamp_of c.args.seat.now.parent) (stamp_of c.args.seat.now.next) c.args.seat.now.next (body_nest n c.args.body.now c.args.comment.now) c.flat.ensures c.shift.ensures.sound h refl
    (sym (c.first_top.ensures n) ∙ ap stamp_of c.in-Some.is) (sym (c.last_top.ensures n) ∙ ap stamp_of c.in-Some-last_top.is))
    c.shift.ensures.ok
