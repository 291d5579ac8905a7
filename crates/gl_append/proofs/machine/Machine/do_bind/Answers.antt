use Rattle.std.proofs.Common.{◌∙◌, ap, sym, subst}
use Rattle.std.proofs.lemmas.Result.{on_ok_weaker}
use Rattle.gl_machine.specs.Step as s
use Rattle.gl_vm.specs.View.{stamps}
use Rattle.gl_append.specs.Steps.{TakesFirst, KeepsMade}
use Rattle.gl_append.proofs.LetBegins.{param_bound}
use Rattle.gl_append.proofs.Params.{param_made}
use Rattle.gl_append.proofs.Taking.{moved}
use Rattle.gl_append.proofs.machine.Machine.do_bind.Goals as goal

pub returns-in-Some-clause-step : goal.returns-in-Some-clause-step
returns-in-Some-clause-step c =
    on_ok_weaker c.add_param.result
    (λ l. moved (λ n m. s.do_bind c.args.symbol m m.rest.pending) c.args.vm.now c.args.self.now c.add_param.new.self
    (param_bound c.args.symbol c.args.self.now c.add_param.new.self c.take_first.new.ids c.in-Some.id (ap stamps (subst (λ o. TakesFirst c.args.self.now.pending c.take_first.new.ids o) c.in-Some.is c.in_ok-id.ensures)) l)) c.add_param.ensures

pub returns-in_ok-keep_made-in-None-clause-step : goal.returns-in_ok-keep_made-in-None-clause-step
returns-in_ok-keep_made-in-None-clause-step c =
    let e = subst (λ o. TakesFirst c.args.self.now.pending c.take_first.new.ids o) c.in-None.is c.in_ok-id.ensures in
    on_ok_weaker c.add_param-in-None.result
    (param_made c.args.symbol c.args.vm.now c.constant.new.self c.args.self.now c.keep_made.new.self c.add_param-in-None.new.self c.in_ok-id-in-None.id (ap stamps e.0) c.in_ok-id-in-None.ensures.step c.in_ok-id-in-None.ensures.id
    (subst (λ ids. KeepsMade (record c.args.self.now { pending = ids }) c.keep_made.new.self c.in_ok-id-in-None.id) (e.1 ∙ sym e.0) c.in_ok-keep_made-in-None.ensures)) c.add_param-in-None.ensures
