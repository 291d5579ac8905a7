use Rattle.std.proofs.Common.{sym, subst}
use Rattle.std.proofs.lemmas.Result.{on_ok_weaker}
use Rattle.gl_plain.specs.Naming.{by_number}
use Rattle.gl_machine.specs.Step as s
use Rattle.gl_append.specs.Steps.{EndsCall}
use Rattle.gl_append.proofs.machine.Machine.continue_list.Goals as goal

pub returns-in-Each-clause-step : goal.returns-in-Each-clause-step
returns-in-Each-clause-step c =
    on_ok_weaker c.begin_next_item.result (λ e. subst (λ x. EndsCall (λ n. s.do_item_as by_number) c.args.vm.now c.args.self.now x c.begin_next_item.new.vm c.begin_next_item.new.self) (sym c.in-Each.is) e) c.begin_next_item.ensures.step
