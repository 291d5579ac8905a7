use Rattle.std.proofs.Common.{option_map, ◌∙◌, ap, ap₂, sym, subst}
use Rattle.std.proofs.lemmas.Result.{on_ok_weaker}
use Rattle.gl_base.specs.Names.{last_named}
use Rattle.gl_value.specs.Value.{undefined}
use Rattle.gl_plain.specs.State.{constant_form}
use Rattle.gl_machine.specs.Sight.{args_in}
use Rattle.gl_machine.specs.Step as s
use Rattle.gl_append.specs.MachineView.{mach_of}
use Rattle.gl_append.specs.Steps.{Moves, GoesOn, Takes}
use Rattle.gl_append.proofs.Scopes.{named_of}
use Rattle.gl_append.proofs.Taking.{moved}
use Rattle.gl_append.proofs.machine.Machine.do_arg_ref.Goals as goal

pub returns-in-Some-clause-step : goal.returns-in-Some-clause-step
returns-in-Some-clause-step c =
    let f : Moves (λ n. s.push_old c.in-Some.id.1) c.args.self.now c.push_old.new.self
    → Takes (λ n m. s.push_found (last_named c.args.name.now (args_in m.rest.sight)) m) c.args.vm.now c.args.self.now c.args.vm.now c.push_old.new.self
    = λ m n t a. subst (λ o. GoesOn n (s.push_found o (mach_of n t c.args.vm.now c.args.self.now)) c.args.vm.now c.push_old.new.self)
    (sym (named_of c.args.name.now c.args.self.now.sight.level.args.value ∙ ap (option_map (λ i. i.1)) ((ap₂ (λ x y. last_named x y) (sym c.as_str.ensures.value) (sym c.as_ref.ensures) ∙ sym c.get.ensures) ∙ c.in-Some.is)))
    (moved (λ n. s.push_old c.in-Some.id.1) c.args.vm.now c.args.self.now c.push_old.new.self m n t a) in
    on_ok_weaker c.push_old.result f c.push_old.ensures

pub returns-in-None-clause-step : goal.returns-in-None-clause-step
returns-in-None-clause-step c =
    let f : Takes (λ n. s.push_new (constant_form undefined)) c.args.vm.now c.args.self.now c.push_constant.new.vm c.push_constant.new.self
    → Takes (λ n m. s.push_found (last_named c.args.name.now (args_in m.rest.sight)) m) c.args.vm.now c.args.self.now c.push_constant.new.vm c.push_constant.new.self
    = λ m n t a. subst (λ o. GoesOn n (s.push_found o (mach_of n t c.args.vm.now c.args.self.now)) c.push_constant.new.vm c.push_constant.new.self)
    (sym (named_of c.args.name.now c.args.self.now.sight.level.args.value ∙ ap (option_map (λ i. i.1)) ((ap₂ (λ x y. last_named x y) (sym c.as_str.ensures.value) (sym c.as_ref.ensures) ∙ sym c.get.ensures) ∙ c.in-None.is))) (m n t a) in
    on_ok_weaker c.push_constant.result f c.push_constant.ensures.step
