use Rattle.std.proofs.Common.{subst, sym}
use Rattle.gl_update.specs.OldItems.{TakenBy}
use Rattle.gl_update.proofs.old_items.Work.next_for.Goals as goal

pub returns-clause-taken : goal.returns-clause-taken
returns-clause-taken c = λ s ss e.
    let t = c.in_ok-take.ensures.taken s ss e in (t.0, subst (TakenBy s c.args.self.now.olds.items c.take.new.self.olds.items) (sym c.in_ok-old.ensures) t.1)
