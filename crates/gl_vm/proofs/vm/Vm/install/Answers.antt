use Rattle.gl_arena.proofs.Stamps.{on_if}
use Rattle.gl_vm.proofs.ThingSteps.{install_step, install_numbers}
use Rattle.gl_vm.proofs.vm.Vm.install.Goals as goal

pub returns-clause-step : goal.returns-clause-step
returns-clause-step c =
    on_if c.install.result
    (λ id g. install_step c.args.self.now c.install.new.self id (record { node = c.args.node; place = c.args.place; name = c.args.name; args = c.args.args; named = c.args.named }) g) c.install.ensures.ok

pub returns-clause-id : goal.returns-clause-id
returns-clause-id c =
    on_if c.install.result
    (λ id g. install_numbers c.args.self.now c.install.new.self id (record { node = c.args.node; place = c.args.place; name = c.args.name; args = c.args.args; named = c.args.named }) g) c.install.ensures.ok
