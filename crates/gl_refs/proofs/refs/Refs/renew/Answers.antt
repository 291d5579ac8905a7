use Rattle.std.proofs.Common.{◌+◌, refl, subst, Ok, Err}
use Rattle.gl_refs.specs.State.{IsKept, IsSound}
use Rattle.gl_refs.specs.Refs.{Refs, Reads, HasEvaluated, rows_of}
use Rattle.gl_refs.specs.View.{rows_in}
use Rattle.gl_refs.proofs.Seen.{to_seen, before, after, reads_seen, reads_none, evaluated_ok, evaluated_err}
use Rattle.gl_refs.proofs.refs.Refs.renew.Goals as goal

pub returns-then-self : goal.returns-then-self
returns-then-self c =
    let s = c.self.inside in
    let old = c.args.self.now in
    let sound = subst (λ (r : Refs). IsSound r.tags (rows_of r)) c.self.view_is (to_seen (IsSound s.tags) s.rows c.self.invariant.0) in
    evaluated_err old old c.args.id (reads_none old c.args.id sound) (Err (record {})) refl refl refl

pub returns-in_err-prepare : goal.returns-in_err-prepare
returns-in_err-prepare c =
    let s = c.self.inside in
    let e = c.prepare.ensures in
    let new = after s.rows c.prepare.new.rows s.tags c.prepare.new.tags s.evals s.asks s.evaluated.items c.args.id in
    subst (λ (r : Refs). HasEvaluated r new c.args.id c.from_residual.result) c.self.view_is
    (evaluated_err (before s.rows c.prepare.new.rows s.tags c.prepare.new.tags s.evals s.asks s.evaluated.items c.args.id) new c.args.id
    (reads_seen s.rows c.prepare.new.rows s.tags c.prepare.new.tags s.evals s.asks s.evaluated.items c.args.id e.settles e.made) c.from_residual.result c.from_residual.ensures.0 refl refl)

pub returns-in_err-push : goal.returns-in_err-push
returns-in_err-push c =
    let s = c.self.inside in
    let e = c.prepare.ensures in
    let old = before s.rows c.prepare.new.rows s.tags c.prepare.new.tags s.evals s.asks s.evaluated.items c.args.id in
    let new : Refs = record { rows = rows_in c.prepare.new.rows; tags = c.prepare.new.tags; evals = s.evals; asks = s.asks; evaluated = c.push.new.self.items } in
    let q = reads_seen s.rows c.prepare.new.rows s.tags c.prepare.new.tags s.evals s.asks s.evaluated.items c.args.id e.settles e.made in
    let reads : Reads old new c.args.id = record { settles = q.settles; made = q.made; asks = q.asks } in
    subst (λ (r : Refs). HasEvaluated r new c.args.id c.from_residual-in_err-push.result) c.self.view_is
    (evaluated_err old new c.args.id reads c.from_residual-in_err-push.result c.from_residual-in_err-push.ensures.0 refl c.in_err-push.ensures.items)

pub returns : goal.returns
returns c =
    let s = c.self.inside in
    let e = c.prepare.ensures in
    let old = before s.rows c.prepare.new.rows s.tags c.prepare.new.tags s.evals s.asks s.evaluated.items c.args.id in
    let new : Refs = record { rows = rows_in c.prepare.new.rows; tags = c.prepare.new.tags; evals = s.evals + 1; asks = s.asks; evaluated = c.push.new.self.items } in
    let q = reads_seen s.rows c.prepare.new.rows s.tags c.prepare.new.tags s.evals s.asks s.evaluated.items c.args.id e.settles e.made in
    let reads : Reads old new c.args.id = record { settles = q.settles; made = q.made; asks = q.asks } in
    subst (λ (r : Refs). HasEvaluated r new c.args.id (Ok tt)) c.self.view_is
    (evaluated_ok old new c.args.id reads (Ok tt) (to_seen (λ x. IsKept c.prepare.new.tags x c.args.id) c.prepare.new.rows c.in_ok-prepare.ensures.kept) refl c.in_ok-push.ensures.items refl)

pub invariant_of-self-in_err-push : goal.invariant_of-self-in_err-push
invariant_of-self-in_err-push c = let e = c.prepare.ensures in (e.settles.sound, (e.counts c.self.invariant.1.0, e.watched c.self.invariant.1.1))

pub invariant_of-self-2 : goal.invariant_of-self-2
invariant_of-self-2 c = let e = c.prepare.ensures in (e.settles.sound, (e.counts c.self.invariant.1.0, e.watched c.self.invariant.1.1))
