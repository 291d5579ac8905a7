use Rattle.gl_vm.proofs.vm.Vm.end_if_unread.Goals as goal

pub returns-then-unread-clause-step : goal.returns-then-unread-clause-step
returns-then-unread-clause-step c t calm = c.end_reference.ensures.step (λ e. calm.led)
