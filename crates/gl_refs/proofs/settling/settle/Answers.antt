use Rattle.std.proofs.Common.{◌++◌, ◌∷◌, [], refl, sym, ap, subst, ◌∙◌}
use Rattle.gl_refs.specs.Forms.{IsReadFor, itself}
use Rattle.gl_refs.specs.State.{forms, AllReady}
use Rattle.gl_refs.specs.View.{rows_of, seen_stack}
use Rattle.gl_refs.proofs.Computing.{settles_none}
use Rattle.gl_refs.proofs.Stacks.{popped, settles_on}
use Rattle.gl_refs.proofs.settling.settle.Goals as goal

pub loop-init : goal.loop-init
loop-init c =
    let tags = c.args.tags.now in
    let rows = rows_of c.args.rows.now in
    record {
      settles = settles_none (IsReadFor (forms rows) c.args.id) tags rows c.requires;
      ready = subst (λ xs. AllReady tags rows c.args.id (seen_stack xs)) (sym (c.in_ok-push.ensures.ok ∙ ap (λ xs. xs ++ record { id = c.args.id; next = 0 } ∷ []) c.new-stack.ensures.items)) ((itself, tt), tt);
      made = refl;
      watched = λ h. h;
      counts = λ h. h;
    }

pub visit-requires-clause-front : goal.visit-requires-clause-front
visit-requires-clause-front c =
    let r = popped c.loop.tags (rows_of c.loop.rows) c.args.id c.loop.stack.items c.pop.new.self.items c.in-Some.waiting c.in-Some.ensures.items c.loop.invariant.ready in
    r.1.1

pub returns-in_err-visit-in-Some-clause-settles : goal.returns-in_err-visit-in-Some-clause-settles
returns-in_err-visit-in-Some-clause-settles c =
    let r = popped c.loop.tags (rows_of c.loop.rows) c.args.id c.loop.stack.items c.pop.new.self.items c.in-Some.waiting c.in-Some.ensures.items c.loop.invariant.ready in
    settles_on c.args.tags.now c.loop.tags c.visit.new.tags (rows_of c.args.rows.now) (rows_of c.loop.rows) (rows_of c.visit.new.rows) c.args.id c.in-Some.waiting.id c.loop.invariant.settles r.1.0 c.visit.ensures.settles

pub loop-preserved : goal.loop-preserved
loop-preserved c =
    let r = popped c.loop.tags (rows_of c.loop.rows) c.args.id c.loop.stack.items c.pop.new.self.items c.in-Some.waiting c.in-Some.ensures.items c.loop.invariant.ready in
    record {
      settles = settles_on c.args.tags.now c.loop.tags c.visit.new.tags (rows_of c.args.rows.now) (rows_of c.loop.rows) (rows_of c.visit.new.rows) c.args.id c.in-Some.waiting.id c.loop.invariant.settles r.1.0 c.visit.ensures.settles;
      ready = c.in_ok-visit-in-Some.ensures.ready c.args.id r.0 r.1;
      made = c.visit.ensures.made ∙ c.loop.invariant.made;
      watched = λ h. c.visit.ensures.watched (c.loop.invariant.watched h);
      counts = λ h. c.visit.ensures.counts (c.loop.invariant.counts h);
    }

pub returns-in_err-visit-in-Some-clause-counts : goal.returns-in_err-visit-in-Some-clause-counts
returns-in_err-visit-in-Some-clause-counts c h = c.visit.ensures.counts (c.loop.invariant.counts h)

pub returns-in_err-visit-in-Some-clause-watched : goal.returns-in_err-visit-in-Some-clause-watched
returns-in_err-visit-in-Some-clause-watched c h = c.visit.ensures.watched (c.loop.invariant.watched h)

pub returns-in-None-clause-watched : goal.returns-in-None-clause-watched
returns-in-None-clause-watched c h = c.loop.invariant.watched h

pub returns-clause-watched : goal.returns-clause-watched
returns-clause-watched c h = c.loop.invariant.watched h
