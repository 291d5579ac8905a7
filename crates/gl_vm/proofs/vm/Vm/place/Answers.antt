use Rattle.std.proofs.Common.{ap, ◌∙◌}
use Rattle.gl_vm.proofs.Placed.{place_step}
use Rattle.gl_vm.proofs.vm.Vm.place.Goals as goal

pub returns-in_err-evaluate-clause-olds : goal.returns-in_err-evaluate-clause-olds
returns-in_err-evaluate-clause-olds c i live = ap (λ l. l i) c.in_err-evaluate.ensures.forms ∙ c.in_ok-id.ensures.olds i live

pub returns-clause-step : goal.returns-clause-step
returns-clause-step c =
    place_step c.args.self.now c.bind.new.self c.evaluate.new.self c.in_ok-id.id c.args.ids c.sound.ensures.stamped c.requires.parts c.in_ok-id.ensures.step c.in_ok-id.ensures.id.stamp c.in_ok-evaluate.ensures.step

pub returns-clause-form : goal.returns-clause-form
returns-clause-form c = ap (λ l. l c.in_ok-id.id) c.in_ok-evaluate.ensures.forms ∙ c.in_ok-id.ensures.form

pub returns-clause-olds : goal.returns-clause-olds
returns-clause-olds c i live = ap (λ l. l i) c.in_ok-evaluate.ensures.forms ∙ c.in_ok-id.ensures.olds i live

pub returns-clause-led : goal.returns-clause-led
returns-clause-led c led = c.in_ok-evaluate.ensures.led (c.in_ok-id.ensures.led led)
