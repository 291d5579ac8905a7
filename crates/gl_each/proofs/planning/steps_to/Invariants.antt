use Rattle.std.proofs.Common.{◌≡◌, ℕ, [], take}
use Rattle.gl_each.specs.Sync.{AreSteps, is_passed, kept}
use Rattle.gl_each.specs.Planned.{is_below}
use Rattle.gl_each.specs.View.{seen_keys}
use Rattle.gl_each.proofs.planning.steps_to.Given as goal

abbrev pub invariant-loop-key : goal.invariant-loop-key
invariant-loop-key l = record {
  made : AreSteps (seen_keys l.old) [] (seen_keys (take l.key-index l.new)) l.list;
  finds : l.finder ≡ seen_keys l.old;
  reached : (i : ℕ) → is_passed (kept l.list) i ≡ is_below i l.greatest;
}
