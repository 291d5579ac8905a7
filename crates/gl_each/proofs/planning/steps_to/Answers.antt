use Rattle.std.proofs.Common.{◌∙◌, ap, sym, ◌++◌, ◌∷◌, []}
use Rattle.std.specs.Prelude.{◌≡◌, position}
use Rattle.gl_each.specs.Key.{same_key}
use Rattle.gl_each.specs.SameKeys.{same_key-Decides}
use Rattle.gl_each.specs.Sync.{is_passed, kept}
use Rattle.gl_each.specs.View.{key_view, seen_keys}
use Rattle.gl_each.specs.Planned.{step_for, is_below}
use Rattle.gl_each.proofs.Plans.{steps_more, reached_next}
use Rattle.gl_each.proofs.planning.steps_to.Goals as goal

pub loop-key-preserved : goal.loop-key-preserved
loop-key-preserved c =
    let now : c.push.new.self ≡ c.loop-key.list ++ step_for c.in_ok-place.place c.loop-key.greatest ∷ [] = c.in_ok-push.ensures.ok ∙ ap (λ s. c.loop-key.list ++ s ∷ []) c.step_for.ensures in
    let at : c.in_ok-place.place ≡ position (same_key (key_view c.key-item.result)) (seen_keys c.args.old.now) = c.in_ok-place.ensures.place ∙ ap (position (same_key (key_view c.key-item.result))) c.loop-key.invariant.finds in
    record {
      made = steps_more same_key same_key-Decides key_view (seen_keys c.args.old.now) c.args.new.now c.loop-key.key-index c.key-item.result c.loop-key.list c.push.new.self c.in_ok-place.place c.loop-key.greatest c.loop-key-test.true c.key-item.is at c.loop-key.invariant.reached now c.loop-key.invariant.made;
      finds = c.in_ok-place.ensures.same ∙ c.loop-key.invariant.finds;
      reached = λ i. ap (λ ss. is_passed (kept ss) i) now ∙ reached_next c.loop-key.list c.in_ok-place.place c.loop-key.greatest c.loop-key.invariant.reached i ∙ ap (is_below i) (sym c.greater-greatest.ensures);
    }
