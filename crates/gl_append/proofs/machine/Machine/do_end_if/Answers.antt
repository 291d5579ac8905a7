use Rattle.std.proofs.Common.{sym, subst}
use Rattle.std.proofs.lemmas.Result.{on_ok_weaker}
use Rattle.gl_machine.specs.Step as s
use Rattle.gl_append.specs.Steps.{EndsFrame}
use Rattle.gl_append.proofs.Commenting.{branch_ended}
use Rattle.gl_append.proofs.machine.Machine.do_end_if.Goals as goal

pub returns-in_ok-comment-in-Branch-clause-step : goal.returns-in_ok-comment-in-Branch-clause-step
returns-in_ok-comment-in-Branch-clause-step c =
    on_ok_weaker c.show.result
    (λ m. subst (λ k. EndsFrame (λ n. s.do_end_if) c.args.vm.now c.args.self.now (record { here = c.args.frame.here; kind = k }) c.comment_for.new.vm c.show.new.self) (sym c.in-Branch.is)
    (branch_ended c.args.vm.now c.comment_for.new.vm c.args.self.now c.end-body.new.self c.show.new.self c.in-Branch.choice c.in-Branch.spot c.in-Branch.main c.in_ok-comment-in-Branch.comment c.args.frame.here c.end-body.result c.branch-code.result
    (c.is_calling.ensures c.if-is_calling.false) c.end-body.ensures c.in_ok-comment-in-Branch.ensures.step c.branch-code.ensures m)) c.show.ensures
