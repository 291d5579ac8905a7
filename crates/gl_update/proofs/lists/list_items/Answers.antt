use Rattle.std.proofs.Common.{ℕ, ◌+◌, map, refl, sym, ap, subst, ◌∙◌}
use Rattle.gl_nodes.specs.Flat.{stamp_of}
use Rattle.gl_plain.specs.Ids.{Id}
use Rattle.gl_plain.specs.Live.{times_in, times_comment}
use Rattle.gl_machine.specs.Code.{Listing, ItemCodes, listed_code, lives_of, live_of}
use Rattle.gl_vm.specs.View.{Tables}
use Rattle.gl_code.specs.CodeView.{seen_code, seen_codes, seen_listing, seen_spot, seen_item_code, all_items}
use Rattle.gl_code.specs.Entries.{seen_left}
use Rattle.gl_update.specs.ListItems.{FreshItems, ListsFresh}
use Rattle.gl_code.specs.Renewing.{Renews, RenewFails}
use Rattle.gl_update.specs.View.{trail_view}
use Rattle.gl_update.proofs.MovedCodes.{is_listed}
use Rattle.gl_update.proofs.ListUpdates.{lists_fresh, lists_fresh_fails}
use Rattle.gl_update.proofs.Renewing.{renews_as}
use Rattle.gl_machine.specs.Shape.{nest}
use Rattle.gl_seats.specs.Parts.{body_nest, items_nest}
use Rattle.gl_seats.specs.Seats.{Replaces}
use Rattle.gl_code.proofs.Rooting.{roots_refl}
use Rattle.gl_update.proofs.Renewed.{stands_anew}
use Rattle.gl_update.proofs.lists.list_items.Goals as goal

pub returns-in-Ok-clause-ok : goal.returns-in-Ok-clause-ok
returns-in-Ok-clause-ok g c =
    let z : Tables → Listing = λ n. seen_listing n c.args.listing in
    let s = seen_spot c.args.spot in
    let p = trail_view c.args.trail.now in
    let es = seen_left c.args.entries.items in
    let gone : Tables → Id → ℕ = λ n q. times_in q (lives_of (seen_codes n c.args.body.now)) + times_comment q (stamp_of c.args.comment.now) in
    let is : Tables → ItemCodes = λ n. all_items (map (seen_item_code n) c.in-Ok.items.items) in
    renews_as c.args.app.now c.args.cells.now (ListsFresh z s c.args.left p es gone) (λ n. listed_code (z n) s (is n)) (λ n. seen_code n c.listed.result) c.args.vm.now c.fresh_items.new.vm (λ n. sym (c.listed.ensures n))
    (lists_fresh c.args.app.now c.args.cells.now z c.args.listing.key (λ n. refl) s c.args.left p es gone c.args.vm.now c.end_branch.new.vm c.fresh_items.new.vm is c.in_ok-end_branch.ensures.step
    (subst (λ q. Renews c.args.app.now c.args.cells.now (FreshItems z c.args.left q es) c.end_branch.new.vm is c.fresh_items.new.vm) c.in_ok-base.ensures c.in-Ok.ensures.ok))

pub returns-in-Err-clause-fails : goal.returns-in-Err-clause-fails
returns-in-Err-clause-fails g c =
    let z : Tables → Listing = λ n. seen_listing n c.args.listing in
    let s = seen_spot c.args.spot in
    let p = trail_view c.args.trail.now in
    let es = seen_left c.args.entries.items in
    let gone : Tables → Id → ℕ = λ n q. times_in q (lives_of (seen_codes n c.args.body.now)) + times_comment q (stamp_of c.args.comment.now) in
    lists_fresh_fails c.args.app.now c.args.cells.now z c.args.listing.key (λ n. refl) s c.args.left p es gone c.args.vm.now c.end_branch.new.vm c.in-Err.fault c.in_ok-end_branch.ensures.step
    (subst (λ q. RenewFails {A = ItemCodes} c.args.app.now c.args.cells.now (FreshItems z c.args.left q es) c.end_branch.new.vm c.in-Err.fault) c.in_ok-base.ensures c.in-Err.ensures.fails)

pub returns-in-Ok-clause-some : goal.returns-in-Ok-clause-some
returns-in-Ok-clause-some g c = λ n. is_listed (seen_code n c.listed.result) (seen_listing n c.args.listing) (seen_spot c.args.spot) (map (seen_item_code n) c.in-Ok.items.items) (c.listed.ensures n)

pub returns-in-Ok-clause-nodes : goal.returns-in-Ok-clause-nodes
returns-in-Ok-clause-nodes g c = λ n.
    let seat = c.in_ok-seat.seat in
    let gone = c.end_branch.new.vm.tree in
    let new = c.fresh_items.new.vm.tree in
    let x = body_nest n c.args.body.now c.args.comment.now in
    subst (λ y. Replaces c.args.vm.now.tree.forest new.forest (stamp_of c.args.parent.now) x y) (sym (ap (λ l. nest (live_of l)) (c.listed.ensures n)))
    (stands_anew c.args.vm.now.tree gone gone new (stamp_of c.args.parent.now) (stamp_of seat.parent) (stamp_of seat.next) x (items_nest n c.in-Ok.items.items)
    (ap stamp_of c.in_ok-seat.ensures.parent) (c.in_ok-seat.ensures.behind n) (c.in_ok-end_branch.ensures.unseats n) (roots_refl gone) (c.in-Ok.ensures.seats n))

pub returns-in-Ok-clause-moves : goal.returns-in-Ok-clause-moves
returns-in-Ok-clause-moves g c = c.in-Ok.ensures.moves ∙ c.in_ok-end_branch.ensures.moves
