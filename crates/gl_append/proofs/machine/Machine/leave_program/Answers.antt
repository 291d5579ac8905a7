use Rattle.std.proofs.Common.{refl, subst}
use Rattle.gl_machine.specs.Step as s
use Rattle.gl_append.specs.Steps.{PopsFrame}
use Rattle.gl_append.proofs.FrameEnds.{moves_ended, over_ended, moved_in}
use Rattle.gl_append.proofs.FramesFree.{done_free}
use Rattle.gl_append.proofs.machine.Machine.leave_program.Goals as goal

pub returns-in-None : goal.returns-in-None
returns-in-None c n vm = (refl, over_ended s.do_done c.args.self.now c.pop_frame.new.self (subst (λ o. PopsFrame c.args.self.now c.pop_frame.new.self o) c.in-None.is c.in_ok-pop_frame.ensures) n)

pub returns-in_ok-end_component-in-Some : goal.returns-in_ok-end_component-in-Some
returns-in_ok-end_component-in-Some c n vm =
    moved_in n (λ m. s.with_end m s.do_done) vm c.args.self.now c.end_component.new.self
    (moves_ended s.do_done c.args.self.now c.pop_frame.new.self c.end_component.new.self c.in-Some.frame done_free (subst (λ o. PopsFrame c.args.self.now c.pop_frame.new.self o) c.in-Some.is c.in_ok-pop_frame.ensures) c.in_ok-end_component-in-Some.ensures)
