use Rattle.std.proofs.Common.{subst, sym}
use Rattle.gl_refs.specs.State.{IsKept}
use Rattle.gl_refs.specs.Refs.{Refs, rows_of, HasRead}
use Rattle.gl_refs.proofs.Seen.{of_seen, has_read, after}
use Rattle.gl_refs.proofs.refs.Refs.refresh.Goals as goal

pub returns-clause-reads : goal.returns-clause-reads
returns-clause-reads c =
    let s = c.self.inside in
    let e = c.prepare.ensures in
    subst (λ (r : Refs). HasRead r (after s.rows c.prepare.new.rows s.tags c.prepare.new.tags s.evals s.asks s.evaluated.items c.args.id) c.args.id c.prepare.result) c.self.view_is
    (has_read s.rows c.prepare.new.rows s.tags c.prepare.new.tags s.evals s.asks s.evaluated.items c.args.id c.prepare.result e.settles e.made e.kept e.still)

pub returns-clause-kept : goal.returns-clause-kept
returns-clause-kept c k =
    let s = c.self.inside in
    c.prepare.ensures.fresh (of_seen (λ x. IsKept s.tags x c.args.id) s.rows (subst (λ (r : Refs). IsKept r.tags (rows_of r) c.args.id) (sym c.self.view_is) k))

pub invariant_of-self : goal.invariant_of-self
invariant_of-self c = let e = c.prepare.ensures in (e.settles.sound, (e.counts c.self.invariant.1.0, e.watched c.self.invariant.1.1))
