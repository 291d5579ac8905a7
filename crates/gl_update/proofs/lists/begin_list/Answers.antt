use Rattle.std.proofs.Common.{◌+◌, subst, sym}
use Rattle.gl_nodes.specs.Flat.{stamp_of}
use Rattle.gl_plain.specs.Live.{times_in, times_comment}
use Rattle.gl_machine.specs.Code.{Code as PlainCode, lives_of, live_of}
use Rattle.gl_code.specs.CodeView.{seen_code, seen_codes, seen_listing, seen_spot}
use Rattle.gl_code.specs.Entries.{seen_left}
use Rattle.gl_code.specs.declared.code.Code.{Code}
use Rattle.gl_update.specs.Counted.{IsListed}
use Rattle.gl_update.specs.View.{trail_view}
use Rattle.gl_update.specs.ListItems.{ListsFresh}
use Rattle.gl_code.specs.Renewing.{Renews, RenewFails}
use Rattle.gl_update.specs.declared.taken.Ready.{Ready}
use Rattle.gl_update.specs.declared.taken.Unlisted.{Unlisted}
use Rattle.gl_seats.specs.Parts.{code_nest, body_nest}
use Rattle.gl_seats.specs.Seats.{Replaces}
use Rattle.gl_update.proofs.lists.begin_list.Goals as goal

pub returns-in-Ok-clause-ok : goal.returns-in-Ok-clause-ok
returns-in-Ok-clause-ok g c =
    let new = c.in_ok-boxed_code-in-Ok.field-0.value in
    subst (λ (l : Unlisted). Renews c.args.app.now c.args.cells.now (ListsFresh (λ n. seen_listing n l.listing) (seen_spot l.spot) c.args.left (trail_view c.args.trail.now) (seen_left c.args.ready.value.entries.items) (λ n q. times_in q (lives_of (seen_codes n l.body)) + times_comment q (stamp_of l.comment))) c.args.vm.now (λ n. seen_code n new) c.list_items.new.vm) c.into_inner-list.ensures
    (subst (λ (x : Ready). Renews c.args.app.now c.args.cells.now (ListsFresh (λ n. seen_listing n c.into_inner-list.result.listing) (seen_spot c.into_inner-list.result.spot) c.args.left (trail_view c.args.trail.now) (seen_left x.entries.items) (λ n q. times_in q (lives_of (seen_codes n c.into_inner-list.result.body)) + times_comment q (stamp_of c.into_inner-list.result.comment))) c.args.vm.now (λ n. seen_code n new) c.list_items.new.vm) c.into_inner-ready.ensures
    (subst (λ (y : Code). Renews c.args.app.now c.args.cells.now (ListsFresh (λ n. seen_listing n c.into_inner-list.result.listing) (seen_spot c.into_inner-list.result.spot) c.args.left (trail_view c.args.trail.now) (seen_left c.into_inner-ready.result.entries.items) (λ n q. times_in q (lives_of (seen_codes n c.into_inner-list.result.body)) + times_comment q (stamp_of c.into_inner-list.result.comment))) c.args.vm.now (λ n. seen_code n y) c.list_items.new.vm) (sym c.in_ok-boxed_code-in-Ok.ensures) c.in-Ok.ensures.ok))

pub returns-in-Ok-clause-some : goal.returns-in-Ok-clause-some
returns-in-Ok-clause-some g c = λ n. subst (λ (y : Code). IsListed (live_of (seen_code n y))) (sym c.in_ok-boxed_code-in-Ok.ensures) (c.in-Ok.ensures.some n)

pub returns-clause-fails : goal.returns-clause-fails
returns-clause-fails g c =
    subst (λ (l : Unlisted). RenewFails {A = PlainCode} c.args.app.now c.args.cells.now (ListsFresh (λ n. seen_listing n l.listing) (seen_spot l.spot) c.args.left (trail_view c.args.trail.now) (seen_left c.args.ready.value.entries.items) (λ n q. times_in q (lives_of (seen_codes n l.body)) + times_comment q (stamp_of l.comment))) c.args.vm.now c.in-Err.fault) c.into_inner-list.ensures
    (subst (λ (x : Ready). RenewFails {A = PlainCode} c.args.app.now c.args.cells.now (ListsFresh (λ n. seen_listing n c.into_inner-list.result.listing) (seen_spot c.into_inner-list.result.spot) c.args.left (trail_view c.args.trail.now) (seen_left x.entries.items) (λ n q. times_in q (lives_of (seen_codes n c.into_inner-list.result.body)) + times_comment q (stamp_of c.into_inner-list.result.comment))) c.args.vm.now c.in-Err.fault) c.into_inner-ready.ensures c.in-Err.ensures.fails)

pub returns-in-Ok-clause-nodes : goal.returns-in-Ok-clause-nodes
returns-in-Ok-clause-nodes g c = λ n.
    let new = c.list_items.new.vm.tree.forest in
    subst (λ (l : Unlisted). Replaces c.args.vm.now.tree.forest new (stamp_of c.args.parent.now) (body_nest n l.body l.comment) (code_nest n c.in_ok-boxed_code-in-Ok.field-0.value)) c.into_inner-list.ensures
    (subst (λ (y : Code). Replaces c.args.vm.now.tree.forest new (stamp_of c.args.parent.now) (body_nest n c.into_inner-list.result.body c.into_inner-list.result.comment) (code_nest n y)) (sym c.in_ok-boxed_code-in-Ok.ensures) (c.in-Ok.ensures.nodes n))
