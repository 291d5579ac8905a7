use Rattle.std.proofs.Common.{◌∙◌, ap}
use Rattle.std.proofs.lemmas.Result.{on_ok_weaker}
use Rattle.gl_machine.specs.Sight.{passing_in}
use Rattle.gl_machine.specs.Step as s
use Rattle.gl_code.specs.View.{seen_sight}
use Rattle.gl_code.specs.Written.{block_of}
use Rattle.gl_append.specs.MachineView.{seen_stack}
use Rattle.gl_append.proofs.Yields.{nothing_yielded, block_yielded}
use Rattle.gl_append.proofs.machine.Machine.do_yield.Goals as goal

pub returns-in-None : goal.returns-in-None
returns-in-None c =
    on_ok_weaker c.yield_nothing.result
    (nothing_yielded c.args.count c.args.name.now c.args.self.now c.yield_nothing.new.self c.take_last.new.stack c.in_ok-pending.pending c.in_ok-block.field-0 c.in_ok-taken.ensures.rest
    (c.in_ok-pending.ensures ∙ ap s.positional (ap seen_stack c.as_slice.ensures.value ∙ c.in_ok-taken.ensures.taken)) (λ n. c.in_ok-block.ensures n ∙ ap (λ x. block_of x (passing_in (seen_sight n c.args.self.now.sight))) c.as_str.ensures.value) c.in-None.is) c.yield_nothing.ensures

pub returns : goal.returns
returns c =
    on_ok_weaker c.enter.result
    (block_yielded c.args.count c.args.name.now c.args.self.now c.enter.new.self c.take_last.new.stack c.in_ok-pending.pending c.in_ok-block.field-0 c.in-Some.written c.in_ok-taken.ensures.rest
    (c.in_ok-pending.ensures ∙ ap s.positional (ap seen_stack c.as_slice.ensures.value ∙ c.in_ok-taken.ensures.taken)) (λ n. c.in_ok-block.ensures n ∙ ap (λ x. block_of x (passing_in (seen_sight n c.args.self.now.sight))) c.as_str.ensures.value) c.in-Some.is) c.enter.ensures
