use Rattle.std.proofs.Common.{map, subst, sym}
use Rattle.gl_plain.specs.Live.{times_items}
use Rattle.gl_machine.specs.Code.{Code as PlainCode, live_of, items_of as lives_in}
use Rattle.gl_code.specs.CodeView.{seen_code, seen_item_code, seen_listing, seen_spot, all_items}
use Rattle.gl_code.specs.declared.code.Code.{Code}
use Rattle.gl_update.specs.Counted.{IsUnlisted}
use Rattle.gl_update.specs.View.{trail_view}
use Rattle.gl_update.specs.ListItems.{ListsNone}
use Rattle.gl_code.specs.Renewing.{Renews, RenewFails}
use Rattle.gl_update.specs.declared.taken.Listed.{Listed}
use Rattle.gl_nodes.specs.Flat.{stamp_of}
use Rattle.gl_seats.specs.Parts.{code_nest, items_nest}
use Rattle.gl_seats.specs.Seats.{Replaces}
use Rattle.gl_update.proofs.lists.end_list.Goals as goal

pub returns-in-Ok-clause-ok : goal.returns-in-Ok-clause-ok
returns-in-Ok-clause-ok g c =
    let new = c.in_ok-boxed_code-in-Ok.field-0.value in
    subst (λ (l : Listed). Renews c.args.app.now c.args.cells.now (ListsNone (λ n. seen_listing n l.listing) (seen_spot l.spot) c.args.left (trail_view c.args.trail.now) (λ n q. times_items q (lives_in (all_items (map (seen_item_code n) l.items.items))))) c.args.vm.now (λ n. seen_code n new) c.unlist.new.vm) c.into_inner-list.ensures
    (subst (λ (y : Code). Renews c.args.app.now c.args.cells.now (ListsNone (λ n. seen_listing n c.into_inner-list.result.listing) (seen_spot c.into_inner-list.result.spot) c.args.left (trail_view c.args.trail.now) (λ n q. times_items q (lives_in (all_items (map (seen_item_code n) c.into_inner-list.result.items.items))))) c.args.vm.now (λ n. seen_code n y) c.unlist.new.vm) (sym c.in_ok-boxed_code-in-Ok.ensures) c.in-Ok.ensures.ok)

pub returns-in-Ok-clause-none : goal.returns-in-Ok-clause-none
returns-in-Ok-clause-none g c = λ n. subst (λ (y : Code). IsUnlisted (live_of (seen_code n y))) (sym c.in_ok-boxed_code-in-Ok.ensures) (c.in-Ok.ensures.none n)

pub returns-clause-fails : goal.returns-clause-fails
returns-clause-fails g c =
    subst (λ (l : Listed). RenewFails {A = PlainCode} c.args.app.now c.args.cells.now (ListsNone (λ n. seen_listing n l.listing) (seen_spot l.spot) c.args.left (trail_view c.args.trail.now) (λ n q. times_items q (lives_in (all_items (map (seen_item_code n) l.items.items))))) c.args.vm.now c.in-Err.fault) c.into_inner-list.ensures c.in-Err.ensures.fails

pub returns-in-Ok-clause-nodes : goal.returns-in-Ok-clause-nodes
returns-in-Ok-clause-nodes g c = λ n.
    let new = c.unlist.new.vm.tree.forest in
    subst (λ (l : Listed). Replaces c.args.vm.now.tree.forest new (stamp_of c.args.parent.now) (items_nest n l.items.items) (code_nest n c.in_ok-boxed_code-in-Ok.field-0.value)) c.into_inner-list.ensures
    (subst (λ (y : Code). Replaces c.args.vm.now.tree.forest new (stamp_of c.args.parent.now) (items_nest n c.into_inner-list.result.items.items) (code_nest n y)) (sym c.in_ok-boxed_code-in-Ok.ensures) (c.in-Ok.ensures.nodes n))
