use Rattle.std.proofs.Common.{[], sym, ◌∙◌, ap, subst}
use Rattle.gl_update.specs.OldItems.{Plans, Rising}
use Rattle.gl_update.proofs.OldKeys.{plans_of, rising_of, highest_none, steps_reversed}
use Rattle.gl_each.specs.Moved.{moves}
use Rattle.gl_kept.proofs.Between.{moves_are_planned}
use Rattle.gl_update.proofs.old_items.steps_for.Goals as goal

pub returns-clause-plans : goal.returns-clause-plans
returns-clause-plans c =
    subst (Plans c.args.old.now c.args.new.now) (sym (steps_reversed c.into_vec-steps.result.items c.reverse.new.self.items c.reverse.ensures.items ∙ c.into_vec-steps.ensures))
    (plans_of c.args.old.now [] c.args.new.now c.in_ok-plan.plan.steps c.in_ok-plan.ensures.steps_are)

pub returns-clause-moves : goal.returns-clause-moves
returns-clause-moves c =
    ap moves (steps_reversed c.into_vec-steps.result.items c.reverse.new.self.items c.reverse.ensures.items ∙ c.into_vec-steps.ensures)
    ∙ moves_are_planned c.args.old.now c.args.new.now [] c.in_ok-plan.plan.steps c.requires c.in_ok-plan.ensures.steps_are

pub returns-clause-rising : goal.returns-clause-rising
returns-clause-rising c =
    subst (Rising 0) (sym (steps_reversed c.into_vec-steps.result.items c.reverse.new.self.items c.reverse.ensures.items ∙ c.into_vec-steps.ensures))
    (rising_of c.args.old.now [] 0 c.args.new.now c.in_ok-plan.plan.steps highest_none c.in_ok-plan.ensures.steps_are)
