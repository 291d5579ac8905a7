use Rattle.gl_vm.proofs.States.{both_if}
use Rattle.gl_vm.proofs.ThingSteps.{inst_step, inst_numbers}
use Rattle.gl_vm.proofs.vm.Vm.instance.Goals as goal

pub returns-clause-step : goal.returns-clause-step
returns-clause-step c =
    both_if c.put_instance.result (λ id s g. inst_step c.args.self.now c.put_instance.new.instances id (record { class = c.args.class; path = c.args.path; cells = c.args.cells }) s.0 g.1) c.put_instance.ensures.stamps c.put_instance.ensures.given

pub returns-clause-id : goal.returns-clause-id
returns-clause-id c =
    both_if c.put_instance.result (λ id s g. inst_numbers c.args.self.now c.put_instance.new.instances id (record { class = c.args.class; path = c.args.path; cells = c.args.cells }) s.0 g.1 g.0 s.1) c.put_instance.ensures.stamps
    c.put_instance.ensures.given
