use Rattle.std.proofs.Common.{ℕ, List, [], ap, ◌∙◌, subst}
use Rattle.std.proofs.lemmas.Result.{on_ok_weaker}
use Rattle.gl_base.specs.Texts.{Text}
use Rattle.gl_value.specs.Value as v
use Rattle.gl_plain.specs.Naming.{by_number}
use Rattle.gl_plain.specs.State.{constant_form}
use Rattle.gl_machine.specs.Sight.{inst_in}
use Rattle.gl_machine.specs.Step as s
use Rattle.gl_vm.specs.Labels.{labelled}
use Rattle.gl_append.specs.Steps.{Takes}
use Rattle.gl_code.specs.declared.sight.Owner.{Owner}
use Rattle.gl_append.proofs.machine.Machine.do_action.Goals as goal

pub returns-clause-step : goal.returns-clause-step
returns-clause-step c =
    let h : ℕ → Text → List (v.Value ℕ) → Type 0 = λ o x vs. Takes (λ n. s.push_new (constant_form (labelled (v.action o x (v.values_of vs))))) c.args.vm.now c.args.self.now c.push_constant.new.vm c.push_constant.new.self in
    let a = c.in_ok-action.action in
    let f : h a.owner a.name a.fixed
    → Takes (λ n m. s.push_new (constant_form (v.action (by_number.owner (inst_in m.rest.sight)) c.args.name.now v.no_values)) m) c.args.vm.now c.args.self.now c.push_constant.new.vm c.push_constant.new.self
    = λ t. subst (λ o. h o c.args.name.now []) (c.in_ok-action.ensures.owner ∙ (c.number-owner.ensures ∙ ap (λ (o : Owner). o.id.1) c.as_ref.ensures))
    (subst (λ x. h a.owner x []) (c.in_ok-action.ensures.name ∙ c.in_ok-name.ensures) (subst (λ vs. h a.owner a.name vs) (c.in_ok-action.ensures.fixed ∙ c.in_ok-fixed.ensures) t)) in
    on_ok_weaker c.push_constant.result f c.push_constant.ensures.step
