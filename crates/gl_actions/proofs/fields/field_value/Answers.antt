use Rattle.std.proofs.Common.{sym, ap, ◌∙◌, option_map, unwrap_or}
use Rattle.std.proofs.lemmas.Result.{IfOk-weaker}
use Rattle.gl_plain.specs.State.{cell_ref}
use Rattle.gl_value.specs.View.{view}
use Rattle.gl_actions.specs.World.{value_in, read_in}
use Rattle.gl_actions.specs.Frames.{inst_in}
use Rattle.gl_actions.proofs.FieldLaws.{field_is}
use Rattle.gl_actions.proofs.fields.field_value.Goals as goal

pub returns-in-Some : goal.returns-in-Some
returns-in-Some c = let f = c.args.here.now.frame in IfOk-weaker c.copy.result _ _
    (λ v e w fits is. ap (λ x. value_in w (view x)) e
    ∙ sym (field_is w f fits c.args.name.now c.as_slice-fields.result.now c.as_slice-fields.ensures c.as_slice.result.now c.args.here.now.sets.now c.as_slice.ensures is
    ∙ ap (λ o. unwrap_or (option_map (value_in w) o) (read_in w f.vm.now (cell_ref (inst_in w f) c.args.name.now))) (sym c.in_ok-value.ensures ∙ ap (option_map (λ v. view v.now)) c.in-Some.is)))
    c.copy.ensures

pub returns-in-None : goal.returns-in-None
returns-in-None c = let f = c.args.here.now.frame in IfOk-weaker c.held.result _ _
    (λ v e w fits is. e w fits
    ∙ sym (field_is w f fits c.args.name.now c.as_slice-fields.result.now c.as_slice-fields.ensures c.as_slice.result.now c.args.here.now.sets.now c.as_slice.ensures is
    ∙ ap (λ o. unwrap_or (option_map (value_in w) o) (read_in w f.vm.now (cell_ref (inst_in w f) c.args.name.now))) (sym c.in_ok-value.ensures ∙ ap (option_map (λ v. view v.now)) c.in-None.is)))
    c.held.ensures
