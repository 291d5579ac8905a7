use Rattle.std.proofs.Common.{◌≡◌, ℕ, Some, ◌∙◌, ap, subst}
use Rattle.std.proofs.lemmas.Result.{on_ok_weaker}
use Rattle.gl_value.specs.Value.{Value, count_value}
use Rattle.gl_value.specs.View.{view}
use Rattle.gl_plain.specs.Renew as r
use Rattle.gl_vm.specs.Labels.{label, labelled}
use Rattle.gl_vm.specs.Steps.{Does}
use Rattle.gl_code.proofs.Doing.{does_then}
use Rattle.gl_update.proofs.staying.give_at.Goals as goal

same_some : (x y : Value ℕ) → Some x ≡ Some y → x ≡ y
same_some x y e = cc

pub returns-in_ok-give-in-Some-clause-step : goal.returns-in_ok-give-in-Some-clause-step
returns-in_ok-give-in-Some-clause-step c =
    let s = c.args.spot.now in
    on_ok_weaker c.give-in-Some.result
    (λ d x at.
    let is : view c.in_ok-copy-in-Some.field-0 ≡ x = ap view c.in_ok-copy-in-Some.ensures ∙ same_some (view c.in-Some.value.now) x (c.in-Some.ensures ∙ at) in
    does_then (λ n. r.give s.value.1 (label s.value.1) (labelled x)) (λ n. r.give s.index.1 (label s.index.1) (labelled (count_value c.args.index))) c.args.vm.now c.give.new.vm c.give-in-Some.new.vm
    (subst (λ v. Does (λ n. r.give s.value.1 (label s.value.1) (labelled v)) c.args.vm.now c.give.new.vm) is c.in_ok-give-in-Some.ensures.step)
    (subst (λ v. Does (λ n. r.give s.index.1 (label s.index.1) (labelled v)) c.give.new.vm c.give-in-Some.new.vm) c.counted.ensures d))
    c.give-in-Some.ensures.step
