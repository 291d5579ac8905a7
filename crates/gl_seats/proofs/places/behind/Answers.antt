use Rattle.std.proofs.Common.{ap, sym, ◌∙◌}
use Rattle.gl_nodes.specs.Flat.{stamp_of}
use Rattle.gl_seats.specs.Parts.{body_nest}
use Rattle.gl_seats.proofs.CodeRows.{if_ok_weaker}
use Rattle.gl_seats.proofs.places.behind.Goals as goal

pub returns-in-Some-clause-behind : goal.returns-in-Some-clause-behind
returns-in-Some-clause-behind c = if_ok_weaker c.after.result _ _ (λ s h n. h (body_nest n c.args.body.now c.args.comment.now) (sym (c.last_top.ensures n) ∙ ap stamp_of c.in-Some.is)) c.after.ensures.behind
