use Rattle.std.proofs.Common.{refl}
use Rattle.gl_session.proofs.Laid.{given_first, given_next, given_last}
use Rattle.gl_update.proofs.FreshItems.{none_waits}
use Rattle.gl_session.proofs.laying.givens_for.Goals as goal

pub loop-set-init : goal.loop-set-init
loop-set-init c = λ w reads. given_first w c.args.page.now c.args.sets c.into_vec-waiting.result.items c.new-givens.result.items c.into_vec-waiting.ensures c.new-givens.ensures.items

pub loop-set-preserved : goal.loop-set-preserved
loop-set-preserved c = λ w reads.
    given_next w c.args.page.now c.args.sets c.loop-set.waiting.items c.pop.new.self.items c.in-Some.set c.loop-set.givens.items c.push.new.self.items _ c.in-Some.ensures.items c.in_ok-push.ensures.items
    (c.in_ok-cell.ensures w reads, refl, tt) (c.loop-set.invariant w reads)

pub returns : goal.returns
returns c = λ w reads.
    given_last w c.args.page.now c.args.sets c.loop-set.waiting.items c.loop-set.givens.items (none_waits c.loop-set.waiting.items c.pop.new.self.items _ c.in_default.ensures.items c.in_default.ensures.rest c.in_default.ensures.cases.0) (c.loop-set.invariant w reads)
