use Rattle.std.proofs.Common.{◌≡◌, drop, map}
use Rattle.std.specs.Prelude.{flat_map}
use Rattle.gl_meaning.specs.ManifestRules.{Each}
use Rattle.gl_meaning.specs.View.{manifest_view, class_view, action_view, seen_steps}
use Rattle.gl_opc.specs.Programs.{step_exprs, action_exprs}
use Rattle.gl_load.specs.Names.{each_known, step_known, action_known}
use Rattle.gl_load.specs.Spelled.{IsSpelledStep}
use Rattle.gl_load.proofs.Adding.{Goes}
use Rattle.gl_load.proofs.entries.push_action.Given as goal

abbrev pub invariant-loop-step : goal.invariant-loop-step
invariant-loop-step l =
    let left = seen_steps (drop l.step-index l.step-items) in
    let m = manifest_view l.manifest in
    let c = class_view l.class in
    record {
      told : each_known (step_known m c l.action.params) left ≡ action_known m c (action_view l.action);
      spelled : Each IsSpelledStep left;
      goes : Goes m c (map (λ e. (l.action.params, e)) (flat_map step_exprs left)) (action_exprs (action_view l.action).1) l.fn.programs l.programs;
    }
