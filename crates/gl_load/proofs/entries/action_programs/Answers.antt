use Rattle.std.proofs.Common.{◌+◌, ◌∷◌, [], ap, drop}
use Rattle.std.specs.Prelude.{flat_map}
use Rattle.std.proofs.lemmas.Result.{err_from_is_err_and}
use Rattle.gl_base.proofs.Lists.{drop_item}
use Rattle.gl_meaning.specs.ManifestRules.{Each}
use Rattle.gl_meaning.specs.View.{manifest_view, class_view, action_view, seen_actions}
use Rattle.gl_opc.specs.Programs.{action_exprs, actions_exprs}
use Rattle.gl_load.specs.Names.{action_known, each_known}
use Rattle.gl_load.specs.Spelled.{IsSpelledAction}
use Rattle.gl_load.proofs.Adding.{goes_step}
use Rattle.gl_load.proofs.Faults.{passes, stays_told}
use Rattle.gl_load.proofs.entries.action_programs.Goals as goal

pub returns-in_err-push_action-clause-told : goal.returns-in_err-push_action-clause-told
returns-in_err-push_action-clause-told c =
    let items = c.as_slice-action-items.result.now in
    let m = manifest_view c.args.manifest.now in
    let k = class_view c.args.class.now in
    let left = seen_actions (drop (c.loop-action.action-index + 1) items) in
    let here = ap seen_actions (drop_item items c.loop-action.action-index c.action-item.result c.loop-action-test.true c.action-item.is) in
    let p = err_from_is_err_and c.from_residual.result c.from_residual.ensures.1 in
    let told = rw here at c.loop-action.invariant.told in
    rw (p.1, p.2, ← told) (stays_told c.in_err-push_action.field-0.0 (action_known m k (action_view c.action-item.result)) (each_known (action_known m k) left) c.in_err-push_action.ensures.told)

pub loop-action-preserved : goal.loop-action-preserved
loop-action-preserved c =
    let items = c.as_slice-action-items.result.now in
    let one = action_view c.action-item.result in
    let left = seen_actions (drop (c.loop-action.action-index + 1) items) in
    let here = ap seen_actions (drop_item items c.loop-action.action-index c.action-item.result c.loop-action-test.true c.action-item.is) in
    let spelled : Each IsSpelledAction (one ∷ left) = rw here at c.loop-action.invariant.spelled in
    record {
      told = passes _ _ _ c.in_ok-push_action.ensures.told (rw here at c.loop-action.invariant.told);
      spelled = spelled.1;
      goes = goes_step (manifest_view c.args.manifest.now) (class_view c.args.class.now) (action_exprs one.1) (flat_map (λ a. action_exprs a.1) left) (actions_exprs (class_view c.args.class.now)) [] _ _ (rw here at c.loop-action.invariant.goes) c.in_ok-push_action.ensures.adds;
    }
