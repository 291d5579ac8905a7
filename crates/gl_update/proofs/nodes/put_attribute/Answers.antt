use Rattle.std.proofs.Common.{◌≡◌, Some, None, ◌∙◌, ap, sym, subst}
use Rattle.std.proofs.lemmas.Result.{on_ok_weaker}
use Rattle.std.specs.Str.{chars}
use Rattle.gl_vm.specs.Steps.{Does, put_attr, times_named}
use Rattle.gl_update.proofs.nodes.put_attribute.Goals as goal

pub returns-in-Some-clause-step : goal.returns-in-Some-clause-step
returns-in-Some-clause-step c =
    let at = c.has_once.ensures c.if-not-has_once.false in
    on_ok_weaker c.set_attr.result
    (λ f. subst (λ o. Does (λ n. put_attr c.args.node.1 c.args.name.now o) c.args.vm.now c.set_attr.new.self) (ap Some c.as_str-in-Some.ensures.value ∙ sym c.in-Some.is)
    (subst (λ t. Does (λ n. put_attr c.args.node.1 t (Some (chars c.as_str-in-Some.result.now))) c.args.vm.now c.set_attr.new.self) c.as_str.ensures.value (f at.tag at.attrs at.is (subst (λ t. times_named t at.attrs ≡ 1) (sym c.as_str.ensures.value) at.once)))) c.set_attr.ensures.once

pub returns-in-None-clause-step : goal.returns-in-None-clause-step
returns-in-None-clause-step c =
    let at = c.has_once.ensures c.if-not-has_once.false in
    on_ok_weaker c.set_attr-in-None.result
    (λ f. subst (λ o. Does (λ n. put_attr c.args.node.1 c.args.name.now o) c.args.vm.now c.set_attr-in-None.new.self) (sym c.in-None.is)
    (subst (λ t. Does (λ n. put_attr c.args.node.1 t None) c.args.vm.now c.set_attr-in-None.new.self) c.as_str-in-None.ensures.value (f at.tag at.attrs at.is (subst (λ t. times_named t at.attrs ≡ 1) (sym c.as_str-in-None.ensures.value) at.once)))) c.set_attr-in-None.ensures.once
