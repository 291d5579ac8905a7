use Rattle.std.proofs.Common.{◌+◌, ◌∷◌, ap, drop, map}
use Rattle.std.specs.Prelude.{flat_map}
use Rattle.std.proofs.lemmas.List.{map-append}
use Rattle.gl_base.proofs.Lists.{drop_item}
use Rattle.gl_meaning.specs.ManifestRules.{Each}
use Rattle.gl_meaning.specs.View.{manifest_view, class_view, step_view, seen_steps}
use Rattle.gl_opc.specs.Programs.{Scoped, step_exprs}
use Rattle.gl_load.specs.Spelled.{IsSpelledStep}
use Rattle.gl_load.proofs.Adding.{goes_step}
use Rattle.gl_load.proofs.Faults.{passes}
use Rattle.gl_load.proofs.entries.push_action.Goals as goal

pub loop-step-preserved : goal.loop-step-preserved
loop-step-preserved c =
    let items = c.as_slice-step-items.result.now in
    let params = c.args.action.now.params in
    let one = step_view c.step-item.result in
    let left = seen_steps (drop (c.loop-step.step-index + 1) items) in
    let here = ap seen_steps (drop_item items c.loop-step.step-index c.step-item.result c.loop-step-test.true c.step-item.is) in
    let spelled : Each IsSpelledStep (one ∷ left) = rw here at c.loop-step.invariant.spelled in
    let parts = map-append {B = Scoped} (λ e. (params, e)) (step_exprs one) (flat_map step_exprs left) in
    record {
      told = passes _ _ _ c.in_ok-push_step.ensures.told (rw here at c.loop-step.invariant.told);
      spelled = spelled.1;
      goes = goes_step (manifest_view c.args.manifest.now) (class_view c.args.class.now) (map (λ e. (params, e)) (step_exprs one)) (map (λ e. (params, e)) (flat_map step_exprs left)) _ _ _ _ (rw (here, parts) at c.loop-step.invariant.goes) c.in_ok-push_step.ensures.adds;
    }
