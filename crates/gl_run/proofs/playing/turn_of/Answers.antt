use Rattle.std.proofs.Common.{refl}
use Rattle.gl_run.proofs.playing.turn_of.Goals as goal

pub returns-in-Err-NestingLimit-clause-stops : goal.returns-in-Err-NestingLimit-clause-stops
returns-in-Err-NestingLimit-clause-stops c =
    (refl, refl, λ app templates s stands. rw c.in-Err-NestingLimit.field-0-is at (c.in-Err-NestingLimit.ensures.fails app templates s stands))
