use Rattle.std.proofs.Common.{◌≡◌, [], drop}
use Rattle.std.specs.Prelude.{flat_map}
use Rattle.gl_meaning.specs.ManifestRules.{Each}
use Rattle.gl_meaning.specs.View.{manifest_view, class_view, seen_actions}
use Rattle.gl_opc.specs.Programs.{action_exprs, actions_exprs}
use Rattle.gl_load.specs.Names.{each_known, action_known, actions_known}
use Rattle.gl_load.specs.Spelled.{IsSpelledAction}
use Rattle.gl_load.proofs.Adding.{Goes}
use Rattle.gl_load.proofs.entries.action_programs.Given as goal

abbrev pub invariant-loop-action : goal.invariant-loop-action
invariant-loop-action l =
    let left = seen_actions (drop l.action-index l.action-items) in
    let m = manifest_view l.manifest in
    let c = class_view l.class in
    record {
      told : each_known (action_known m c) left ≡ actions_known m c;
      spelled : Each IsSpelledAction left;
      goes : Goes m c (flat_map (λ a. action_exprs a.1) left) (actions_exprs c) [] l.programs;
    }
