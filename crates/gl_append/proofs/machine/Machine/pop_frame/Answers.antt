use Rattle.std.proofs.Common.{◌≡◌, [], refl}
use Rattle.gl_append.proofs.Frames.{popped_body}
use Rattle.gl_append.proofs.machine.Machine.pop_frame.Goals as goal

pub returns-in-Some : goal.returns-in-Some
returns-in-Some c =
    let none : c.args.self.now.calls.items ≡ [] = c.is_calling.ensures c.if-is_calling.false in
    (none, refl, (λ n st. popped_body n c.args.self.now.here c.args.self.now.calls.items c.args.self.now.frames.items c.pop.new.self.items c.in-Some.frame none c.in-Some.ensures.items), (λ n st. refl))
