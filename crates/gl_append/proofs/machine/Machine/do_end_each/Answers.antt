use Rattle.std.proofs.Common.{sym, subst}
use Rattle.std.proofs.lemmas.Result.{on_ok_weaker}
use Rattle.gl_machine.specs.Step as s
use Rattle.gl_append.specs.Steps.{EndsFrame}
use Rattle.gl_append.proofs.ListEnds.{unlisted_ended}
use Rattle.gl_append.proofs.machine.Machine.do_end_each.Goals as goal

pub returns-in_ok-comment-in-Other-clause-step : goal.returns-in_ok-comment-in-Other-clause-step
returns-in_ok-comment-in-Other-clause-step c =
    on_ok_weaker c.show.result
    (λ m. subst (λ k. EndsFrame (λ n. s.do_end_each) c.args.vm.now c.args.self.now (record { here = c.args.frame.here; kind = k }) c.comment_for.new.vm c.show.new.self) (sym c.in-Other.is)
    (unlisted_ended c.args.vm.now c.comment_for.new.vm c.args.self.now c.end-body.new.self c.show.new.self c.in-Other.listing c.in-Other.spot c.in_ok-comment-in-Other.comment c.args.frame.here c.end-body.result c.unlisted-code.result
    (c.is_calling.ensures c.if-is_calling.false) c.end-body.ensures c.in_ok-comment-in-Other.ensures.step c.unlisted-code.ensures m)) c.show.ensures
