use Rattle.std.proofs.Common.{◌≡◌, arith, false, true, sym, ap, ap₂, ◌∙◌, option_map}
use Rattle.std.proofs.lemmas.Result.{IfOk-weaker}
use Rattle.std.specs.Prelude.{nat_eq}
use Rattle.gl_value.specs.Helpers.{helper_value, helper_numbered}
use Rattle.gl_base.specs.Names.{named}
use Rattle.gl_ast.specs.Template.{exprs_of, named_of}
use Rattle.gl_ast.specs.View.{expr_view}
use Rattle.gl_value.specs.Value.{properties, join_values}
use Rattle.gl_value.specs.View.{view, seen_items}
use Rattle.gl_actions.specs.World.{value_in}
use Rattle.gl_actions.specs.Frames.{pairs_in, named_in, pair_in}
use Rattle.gl_actions.proofs.Values.{along_is, joined_is, call_none, call_branch, call_all, is_if, is_unless, called_is, getter_at, found_there, place_none, member_field, member_getter, member_action, field_there, place_some}
use Rattle.gl_actions.proofs.evaluate.+evaluate.Goals as goal

pub call-returns-in-None : goal.call-returns-in-None
call-returns-in-None t c = λ w fits. call_none c.args.name.now _ _ (c.in-None.ensures.value ∙ ap₂ named c.as_str.ensures.value c.helpers.ensures)

pub call-returns-in-Some-eq0 : goal.call-returns-in-Some-eq0
call-returns-in-Some-eq0 t c = IfOk-weaker c.branch-here.result _ _
    (λ v e w fits. e w fits ∙ call_branch c.args.name.now _ _ c.in-Some-eq0.field-0 false (c.in-Some-eq0.ensures.value ∙ ap₂ named c.as_str.ensures.value c.helpers.ensures) (λ h x. let z = c.in-Some-eq0.field-0-test in let d : 0 ≡ c.in-Some-eq0.field-0 = omega (arith, z) in is_if h (ap helper_numbered d ∙ x))) c.branch-here.ensures

pub call-returns-in-Some-eq1 : goal.call-returns-in-Some-eq1
call-returns-in-Some-eq1 t c = IfOk-weaker c.branch-here-in-Some-eq1.result _ _
    (λ v e w fits. e w fits ∙ call_branch c.args.name.now _ _ c.in-Some-eq1.field-0 true (c.in-Some-eq1.ensures.value ∙ ap₂ named c.as_str.ensures.value c.helpers.ensures) (λ h x. let z = c.in-Some-eq1.field-0-test in let d : 1 ≡ c.in-Some-eq1.field-0 = omega (arith, z) in is_unless h (ap helper_numbered d ∙ x))) c.branch-here-in-Some-eq1.ensures

pub call-returns-in-Some : goal.call-returns-in-Some
call-returns-in-Some t c = IfOk-weaker c.called.result _ _
    (λ v e w fits. call_all c.args.name.now _ _ c.in-Some.helper (value_in w (view v)) (c.in-Some.ensures.value ∙ ap₂ named c.as_str.ensures.value c.helpers.ensures)
    (λ z. let a = c.in-Some.helper-test in omega (arith, a, z)) (λ z. let a = c.in-Some.helper-test in omega (arith, a, z)) (e w fits)) c.called.ensures

pub called-returns : goal.called-returns
called-returns t c = IfOk-weaker c.call.result _ _
    (λ v e w fits. called_is w c.args.helper (view v) (seen_items c.in_ok-values.values.items) c.in_ok-named.named _ _ (ap (λ xs. option_map (helper_value nat_eq (seen_items xs) c.in_ok-named.named) (helper_numbered c.args.helper)) (sym c.as_slice-3.ensures.value) ∙ e)
    (c.in_ok-values.ensures w fits ∙ ap (λ es. Rattle.gl_meaning.specs.Eval.values_in (pairs_in w c.args.here.now c.args.left (exprs_of es))) c.as_slice.ensures)
    (c.in_ok-named.ensures w fits ∙ ap (λ ns. Rattle.gl_actions.specs.Frames.pair_values (named_in w c.args.here.now c.args.left (named_of ns))) c.as_slice-2.ensures)) c.call.ensures.value

pub getter-returns : goal.getter-returns
getter-returns t c = IfOk-weaker c.value.result _ _
    (λ v e w fits. e w fits ∙ getter_at w c.args.here.now.frame _ c.args.here.now.sets.now c.args.left (expr_view c.args.expr.now) (let z = c.if-left-eq0.false in omega (arith, z)) c.new-none.ensures) c.value.ensures

pub member-returns-then-is_some : goal.member-returns-then-is_some
member-returns-then-is_some t c = IfOk-weaker c.field_value.result _ _
    (λ v e w fits.
    let there = found_there _ c.get.result c.args.name.now c.args.here.now.frame.class.now.fields (c.get.ensures ∙ ap (λ n. named n c.args.here.now.frame.class.now.fields) c.as_str.ensures.value) in
    let yet = sym there ∙ (sym c.is_some.ensures ∙ c.if-is_some.true) in
    e w fits (field_there w c.args.here.now c.args.left c.args.name.now fits yet) ∙ sym (member_field w c.args.here.now c.args.left c.args.name.now fits yet)) c.field_value.ensures

pub member-returns-in-Some : goal.member-returns-in-Some
member-returns-in-Some t c = IfOk-weaker c.getter.result _ _
    (λ v e w fits. let there = found_there _ c.get.result c.args.name.now c.args.here.now.frame.class.now.fields (c.get.ensures ∙ ap (λ n. named n c.args.here.now.frame.class.now.fields) c.as_str.ensures.value) in
    let yet = sym there ∙ (sym c.is_some.ensures ∙ c.if-is_some.false) in
    e w fits ∙ sym (member_getter w c.args.here.now c.args.left c.args.name.now fits yet (expr_view c.in-Some.expr.now) (c.in-Some.ensures ∙ ap (named c.args.name.now) c.as_slice.ensures))) c.getter.ensures

pub member-returns-in-None : goal.member-returns-in-None
member-returns-in-None t c = IfOk-weaker c.action.result _ _
    (λ v e w fits. let there = found_there _ c.get.result c.args.name.now c.args.here.now.frame.class.now.fields (c.get.ensures ∙ ap (λ n. named n c.args.here.now.frame.class.now.fields) c.as_str.ensures.value) in
    let yet = sym there ∙ (sym c.is_some.ensures ∙ c.if-is_some.false) in
    ap (value_in w) e ∙ member_action w c.args.here.now c.args.left c.args.name.now fits yet (c.in-None.ensures ∙ ap (named c.args.name.now) c.as_slice.ensures)) c.action.ensures

pub value-returns-in_ok-member-in-This : goal.value-returns-in_ok-member-in-This
value-returns-in_ok-member-in-This t c = IfOk-weaker c.along.result _ _
    (λ v e w fits. along_is w c.in-This.rest (view v) (view c.in_ok-member-in-This.field-0) _ (e ∙ ap (λ ks. properties ks (view c.in_ok-member-in-This.field-0)) c.as_slice.ensures) (c.in_ok-member-in-This.ensures w fits)
    ∙ ap (λ x. (pair_in w c.args.here.now c.args.left (expr_view x)).value) (sym c.in-This.is)) c.along.ensures

pub value-returns-in_ok-argument-in-Arg : goal.value-returns-in_ok-argument-in-Arg
value-returns-in_ok-argument-in-Arg t c = IfOk-weaker c.along-in-Arg.result _ _
    (λ v e w fits. along_is w c.in-Arg.rest (view v) (view c.in_ok-argument-in-Arg.field-0) _ (e ∙ ap (λ ks. properties ks (view c.in_ok-argument-in-Arg.field-0)) c.as_slice-in-Arg.ensures) (c.in_ok-argument-in-Arg.ensures w fits)
    ∙ ap (λ x. (pair_in w c.args.here.now c.args.left (expr_view x)).value) (sym c.in-Arg.is)) c.along-in-Arg.ensures

pub value-returns-in_ok-values-in-Cat : goal.value-returns-in_ok-values-in-Cat
value-returns-in_ok-values-in-Cat t c = IfOk-weaker c.joined.result _ _
    (λ v e w fits. joined_is w (view v) (seen_items c.in_ok-values-in-Cat.values.items) _ (e ∙ ap (λ xs. join_values (seen_items xs)) c.as_slice-in-Cat-2.ensures.value)
    (c.in_ok-values-in-Cat.ensures w fits ∙ ap (λ es. Rattle.gl_meaning.specs.Eval.values_in (pairs_in w c.args.here.now c.args.left (exprs_of es))) c.as_slice-in-Cat.ensures)
    ∙ ap (λ x. (pair_in w c.args.here.now c.args.left (expr_view x)).value) (sym c.in-Cat.is)) c.joined.ensures

pub value_at-returns-in-Some : goal.value_at-returns-in-Some
value_at-returns-in-Some t c = IfOk-weaker c.value.result _ _
    (λ v e w fits. e w fits ∙ ap (λ (p : Rattle.gl_meaning.specs.Scope.Pair). p.value) (place_some w c.args.here.now c.args.left c.args.place c.args.exprs.now (expr_view c.in-Some.expr.now) c.in-Some.ensures)) c.value.ensures

pub value_at-returns-in-None : goal.value_at-returns-in-None
value_at-returns-in-None t c = λ w fits. ap (λ (p : Rattle.gl_meaning.specs.Scope.Pair). p.value) (place_none w c.args.here.now c.args.left c.args.place c.args.exprs.now c.in-None.ensures)
