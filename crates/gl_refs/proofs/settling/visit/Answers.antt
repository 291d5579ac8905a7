use Rattle.std.proofs.Common.{◌≡◌, IfSome, Option, Some, take, sym, subst}
use Rattle.std.specs.Prelude.{slice_get}
use Rattle.gl_refs.specs.Forms.{Each}
use Rattle.gl_refs.specs.State.{Settles, AllReady, IsKept, reads_of}
use Rattle.gl_refs.specs.View.{rows_of, seen_stack}
use Rattle.gl_refs.proofs.Seen.{on_ok, on_ok_any}
use Rattle.gl_refs.proofs.Stacks.{put_off_ready}
use Rattle.gl_refs.proofs.Waits.{all_ready_stay}
use Rattle.gl_refs.proofs.settling.visit.Goals as goal

given : {A : Type 0} (P : A → Type 0) (o : Option A) (x : A) → o ≡ Some x → IfSome o P → P x
given P o x e h = subst (λ o. IfSome o P) e h

pub returns-in-Some-clause-ready : goal.returns-in-Some-clause-ready
returns-in-Some-clause-ready c =
    let rows = rows_of c.args.rows.now in
    let tags = c.args.tags.now in
    let i = c.args.waiting.id in
    let x = c.in-Some.stale in
    let e = given (λ s. slice_get (reads_of rows i) s.at ≡ Some s.part) c.in_ok-stale.field-0 x c.in-Some.is c.in_ok-stale.ensures.some in
    let front = given (λ s. Each (IsKept tags rows) (take s.at (reads_of rows i))) c.in_ok-stale.field-0 x c.in-Some.is c.in_ok-stale.ensures.front in
    on_ok c.put_off.result
    (λ is root all ready. subst (λ y. AllReady y rows root (seen_stack c.put_off.new.stack.items)) (sym c.next_stale.ensures.stays)
    (put_off_ready tags rows c.requires.sound root i x.part c.args.waiting.next x.at c.args.stack.now.items c.put_off.new.stack.items front e is all ready))
    c.put_off.ensures

pub returns-in-None-clause-ready : goal.returns-in-None-clause-ready
returns-in-None-clause-ready c =
    let e = c.next_stale.ensures.stays in
    let rows = rows_of c.args.rows.now in
    let s = subst (λ x. Settles (λ k. k ≡ c.args.waiting.id) x c.compute.new.tags rows (rows_of c.compute.new.rows)) e c.compute.ensures.settles in
    on_ok_any c.compute.result (λ root all ready. all_ready_stay (λ k. k ≡ c.args.waiting.id) c.args.tags.now c.compute.new.tags rows (rows_of c.compute.new.rows) c.requires.sound s root (seen_stack c.args.stack.now.items) all)

pub returns-in-None-clause-settles : goal.returns-in-None-clause-settles
returns-in-None-clause-settles c =
    subst (λ x. Settles (λ k. k ≡ c.args.waiting.id) x c.compute.new.tags (rows_of c.args.rows.now) (rows_of c.compute.new.rows)) c.next_stale.ensures.stays c.compute.ensures.settles
