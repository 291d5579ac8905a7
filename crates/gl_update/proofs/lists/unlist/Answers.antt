use Rattle.std.proofs.Common.{ℕ, map, refl, sym, ap, ap₂, subst, ◌∙◌}
use Rattle.gl_nodes.specs.Flat.{stamp_of}
use Rattle.gl_meaning.specs.View.{path_view}
use Rattle.gl_plain.specs.Ids.{Id}
use Rattle.gl_plain.specs.Live.{times_items}
use Rattle.gl_plain.specs.Naming.{by_number, dropped_as}
use Rattle.gl_machine.specs.Code.{Listing, Codes, unlisted_code, items_of}
use Rattle.gl_machine.specs.RenewCode.{Start, start}
use Rattle.gl_vm.specs.Steps.{Does}
use Rattle.gl_code.specs.View.{seen_sight}
use Rattle.gl_vm.specs.View.{Tables}
use Rattle.gl_code.specs.CodeView.{seen_code, seen_codes, seen_listing, seen_spot, seen_item_code, all_items}
use Rattle.gl_update.specs.ListItems.{ListsNone}
use Rattle.gl_update.specs.View.{trail_view}
use Rattle.gl_update.proofs.MovedCodes.{is_unlisted}
use Rattle.gl_update.proofs.ListUpdates.{lists_none, lists_none_fails}
use Rattle.gl_update.proofs.Renewing.{renews_as}
use Rattle.gl_machine.specs.Code.{live_of}
use Rattle.gl_machine.specs.Shape.{nest}
use Rattle.gl_seats.specs.Parts.{body_nest, item_nest, items_nest}
use Rattle.gl_seats.specs.Seats.{Replaces, UnseatsEach, IsBehind}
use Rattle.gl_update.proofs.Renewed.{items_unseated, stands_anew}
use Rattle.gl_update.proofs.lists.unlist.Goals as goal

pub returns-in_ok-comment-in-Ok-clause-ok : goal.returns-in_ok-comment-in-Ok-clause-ok
returns-in_ok-comment-in-Ok-clause-ok g c =
    let z : Tables → Listing = λ n. seen_listing n c.args.listing in
    let s = seen_spot c.args.spot in
    let p = trail_view c.args.trail.now in
    let gone : Tables → Id → ℕ = λ n q. times_items q (items_of (all_items (map (seen_item_code n) c.args.items.now.items))) in
    let ds : Tables → Codes = λ n. seen_codes n c.in-Ok.codes in
    let from : Tables → Start = λ n. start (seen_sight n c.in_ok-sight.sight) c.args.listing.other (path_view c.in_ok-path.path) c.args.left in
    let ended = subst (λ xs. Does (λ n. dropped_as by_number (λ q. times_items q (items_of (all_items (map (seen_item_code n) xs))))) c.args.vm.now c.end_items.new.vm) c.as_slice-2.ensures.value c.in_ok-end_items.ensures.step in
    renews_as c.args.app.now c.args.cells.now (ListsNone z s c.args.left p gone) (λ n. unlisted_code (z n) s (stamp_of c.in_ok-comment-in-Ok.comment) (ds n)) (λ n. seen_code n c.unlisted.result) c.args.vm.now c.seat_with_comment.new.vm (λ n. sym (c.unlisted.ensures n))
    (lists_none c.args.app.now c.args.cells.now z c.args.listing.key (λ n. refl) s c.args.left p gone c.args.vm.now c.end_items.new.vm c.append_block.new.vm c.seat_with_comment.new.vm from ds c.in_ok-comment-in-Ok.comment ended
    (λ n. ap₂ (λ w q. start w c.args.listing.other q c.args.left) (c.in_ok-sight.ensures n ∙ ap (seen_sight n) c.as_ref.ensures) c.in_ok-path.ensures) c.in-Ok.ensures.ok c.in_ok-comment-in-Ok.ensures.step)

pub returns-in-Err-clause-fails : goal.returns-in-Err-clause-fails
returns-in-Err-clause-fails g c =
    let z : Tables → Listing = λ n. seen_listing n c.args.listing in
    let s = seen_spot c.args.spot in
    let p = trail_view c.args.trail.now in
    let gone : Tables → Id → ℕ = λ n q. times_items q (items_of (all_items (map (seen_item_code n) c.args.items.now.items))) in
    let from : Tables → Start = λ n. start (seen_sight n c.in_ok-sight.sight) c.args.listing.other (path_view c.in_ok-path.path) c.args.left in
    let ended = subst (λ xs. Does (λ n. dropped_as by_number (λ q. times_items q (items_of (all_items (map (seen_item_code n) xs))))) c.args.vm.now c.end_items.new.vm) c.as_slice-2.ensures.value c.in_ok-end_items.ensures.step in
    lists_none_fails c.args.app.now c.args.cells.now z c.args.listing.key (λ n. refl) s c.args.left p gone c.args.vm.now c.end_items.new.vm from c.in-Err.fault ended
    (λ n. ap₂ (λ w q. start w c.args.listing.other q c.args.left) (c.in_ok-sight.ensures n ∙ ap (seen_sight n) c.as_ref.ensures) c.in_ok-path.ensures) c.in-Err.ensures.fails

pub returns-in_ok-comment-in-Ok-clause-none : goal.returns-in_ok-comment-in-Ok-clause-none
returns-in_ok-comment-in-Ok-clause-none g c = λ n. is_unlisted (seen_code n c.unlisted.result) (seen_listing n c.args.listing) (seen_spot c.args.spot) (stamp_of c.in_ok-comment-in-Ok.comment) (seen_codes n c.in-Ok.codes) (c.unlisted.ensures n)

pub returns-in_ok-comment-in-Ok-clause-nodes : goal.returns-in_ok-comment-in-Ok-clause-nodes
returns-in_ok-comment-in-Ok-clause-nodes g c = λ n.
    let xs = c.args.items.now.items in
    let seat = c.in_ok-seat.seat in
    let new = c.seat_with_comment.new.vm.tree in
    subst (λ y. Replaces c.args.vm.now.tree.forest new.forest (stamp_of c.args.parent.now) (items_nest n xs) y) (sym (ap (λ l. nest (live_of l)) (c.unlisted.ensures n)))
    (stands_anew c.args.vm.now.tree c.end_items.new.vm.tree c.append_block.new.vm.tree new (stamp_of c.args.parent.now) (stamp_of seat.parent) (stamp_of seat.next) (items_nest n xs) (body_nest n c.in-Ok.codes c.in_ok-comment-in-Ok.comment)
    (ap stamp_of c.in_ok-seat.ensures.parent) (subst (λ ys. IsBehind c.args.vm.now.tree.forest (stamp_of c.args.parent.now) (items_nest n ys) (stamp_of seat.next)) c.as_slice.ensures.value (c.in_ok-seat.ensures.behind n))
    (items_unseated n c.args.vm.now.tree c.end_items.new.vm.tree xs (subst (λ ys. UnseatsEach c.args.vm.now.tree.forest c.end_items.new.vm.tree.forest (map (item_nest n) ys)) c.as_slice-2.ensures.value (c.in_ok-end_items.ensures.unseats n)))
    c.in-Ok.ensures.roots (c.in_ok-comment-in-Ok.ensures.seats n))

pub returns-in_ok-comment-in-Ok-clause-moves : goal.returns-in_ok-comment-in-Ok-clause-moves
returns-in_ok-comment-in-Ok-clause-moves g c = c.in_ok-comment-in-Ok.ensures.moves ∙ (c.in-Ok.ensures.roots.moves ∙ c.in_ok-end_items.ensures.moves)
