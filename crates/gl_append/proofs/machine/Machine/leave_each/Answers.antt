use Rattle.std.proofs.Common.{refl, subst}
use Rattle.gl_machine.specs.Step as s
use Rattle.gl_append.specs.Steps.{PopsFrame}
use Rattle.gl_append.proofs.FrameEnds.{takes_ended, over_ended, moved_in}
use Rattle.gl_append.proofs.FramesFree.{end_each_free}
use Rattle.gl_append.proofs.machine.Machine.leave_each.Goals as goal

pub returns-then-is_calling-clause-step : goal.returns-then-is_calling-clause-step
returns-then-is_calling-clause-step c n = moved_in n (λ m. s.with_end m s.do_end_each) c.args.vm.now c.args.self.now c.end_list.new.self c.in_ok-end_list.ensures

pub returns-in-None-clause-step : goal.returns-in-None-clause-step
returns-in-None-clause-step c n =
    (refl, over_ended s.do_end_each c.args.self.now c.pop_frame.new.self (subst (λ o. PopsFrame c.args.self.now c.pop_frame.new.self o) c.in-None.is c.in_ok-pop_frame.ensures) n)

pub returns-in_ok-do_end_each-in-Some-clause-step : goal.returns-in_ok-do_end_each-in-Some-clause-step
returns-in_ok-do_end_each-in-Some-clause-step c n =
    takes_ended (λ n. s.do_end_each) c.args.vm.now c.do_end_each.new.vm c.args.self.now c.pop_frame.new.self c.do_end_each.new.self c.in-Some.frame (λ n. end_each_free)
    (subst (λ o. PopsFrame c.args.self.now c.pop_frame.new.self o) c.in-Some.is c.in_ok-pop_frame.ensures) c.in_ok-do_end_each-in-Some.ensures.step n
