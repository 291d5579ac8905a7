use Rattle.std.proofs.Common.{Some, ◌∙◌, ap, subst}
use Rattle.gl_machine.specs.Step as s
use Rattle.gl_append.specs.Steps.{PopsCall}
use Rattle.gl_append.proofs.FrameEnds.{getter_left, moved_in}
use Rattle.gl_append.proofs.machine.Machine.leave_getter.Goals as goal

pub returns-in-Some-Getter : goal.returns-in-Some-Getter
returns-in-Some-Getter c n vm =
    moved_in n (λ m. s.with_end m s.do_done) vm c.args.self.now c.go_back.new.self
    (getter_left c.args.self.now c.pop_call.new.self c.go_back.new.self c.in-Some-Getter.back (subst (λ o. PopsCall c.args.self.now c.pop_call.new.self o) (c.in-Some-Getter.is ∙ ap Some c.in-Some-Getter.field-0-is) c.pop_call.ensures) c.go_back.ensures)
