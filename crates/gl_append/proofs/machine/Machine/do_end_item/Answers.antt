use Rattle.std.proofs.Common.{sym, subst}
use Rattle.std.proofs.lemmas.Result.{on_ok_weaker}
use Rattle.gl_machine.specs.Step as s
use Rattle.gl_append.specs.Steps.{EndsFrame}
use Rattle.gl_append.proofs.ItemSteps.{item_ended}
use Rattle.gl_append.proofs.machine.Machine.do_end_item.Goals as goal

pub returns-in_ok-comment-in-Item-clause-step : goal.returns-in_ok-comment-in-Item-clause-step
returns-in_ok-comment-in-Item-clause-step c =
    on_ok_weaker c.item_done.result
    (λ m. subst (λ k. EndsFrame (λ n. s.do_end_item) c.args.vm.now c.args.self.now (record { here = c.args.frame.here; kind = k }) c.comment_for.new.vm c.item_done.new.self) (sym c.in-Item.is)
    (item_ended c.args.vm.now c.comment_for.new.vm c.args.self.now c.end-body.new.self c.item_done.new.self c.in-Item.iteration c.in-Item.item c.in_ok-comment-in-Item.comment c.args.frame.here c.end-body.result c.rendered-done.result
    (c.is_calling.ensures c.if-is_calling.false) c.end-body.ensures c.in_ok-comment-in-Item.ensures.step c.rendered-done.ensures m)) c.item_done.ensures
