use Rattle.std.proofs.Common.{subst}
use Rattle.gl_append.specs.Steps.{PopsFrame}
use Rattle.gl_append.proofs.Params.{kept_made}
use Rattle.gl_append.proofs.machine.Machine.keep_made.Goals as goal

pub returns-in_ok-push-in-Some : goal.returns-in_ok-push-in-Some
returns-in_ok-push-in-Some c =
    kept_made c.args.self.now c.pop_frame.new.self c.in-Some.frame c.in_ok-frame-in-Some.frame c.args.id c.push.new.self
    (subst (λ o. PopsFrame c.args.self.now c.pop_frame.new.self o) c.in-Some.is c.in_ok-frame.ensures) c.in_ok-push-in-Some.ensures.items c.in_ok-frame-in-Some.ensures.here c.in_ok-frame-in-Some.ensures.kind
