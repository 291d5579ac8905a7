use Rattle.std.proofs.Common.{subst}
use Rattle.std.specs.Prelude.{Some}
use Rattle.gl_meaning.specs.View.{event_view}
use Rattle.gl_session.specs.Standing.{TurnFails}
use Rattle.gl_session.proofs.session.Session.go_on.Goals as goal

pub returns-in-Err-NestingLimit-clause-fails : goal.returns-in-Err-NestingLimit-clause-fails
returns-in-Err-NestingLimit-clause-fails c = λ app templates s h.
    subst (λ f. TurnFails app templates s (Some (event_view c.args.event.now)) f) c.in-Err-NestingLimit.field-0-is (c.in-Err-NestingLimit.ensures.fails app templates s h)
