use Rattle.std.proofs.Common.{◌≡◌, ap, ◌∙◌}
use Rattle.std.proofs.lemmas.Result.{on_ok_weaker, IfOk-weaker, IfErr-weaker}
use Rattle.gl_machine.specs.RenewCode.{start}
use Rattle.gl_meaning.specs.View.{path_view}
use Rattle.gl_code.specs.CodeView.{seen_item_code, seen_item_spot, seen_listing}
use Rattle.gl_code.specs.Entries.{seen_entry}
use Rattle.gl_ast.specs.ExprCode.{owned}
use Rattle.gl_each.specs.Key.{entry_key}
use Rattle.gl_plain.specs.Live.{ItemSpot as PlainItemSpot}
use Rattle.gl_vm.specs.View.{Tables}
use Rattle.gl_code.specs.View.{seen_sight}
use Rattle.gl_update.specs.ListItems.{Item, spot_key, BodyItem, FreshItem}
use Rattle.gl_code.specs.Renewing.{Renews, RenewFails}
use Rattle.gl_update.proofs.FreshItems.{fresh_renews, fresh_fails}
use Rattle.gl_nodes.specs.Flat.{stamp_of}
use Rattle.gl_vm.specs.Steps.{Rooted}
use Rattle.gl_seats.specs.Parts.{item_nest}
use Rattle.gl_seats.specs.Seats.{SeatsBefore}
use Rattle.gl_code.proofs.Rooting.{roots_then}
use Rattle.gl_update.proofs.Renewed.{refs_rooted, seats_after}
use Rattle.gl_update.proofs.items.fresh_item.Goals as goal

pub returns-clause-ok : goal.returns-clause-ok
returns-clause-ok g c =
    let z = c.args.listing.now in
    IfOk-weaker c.item_body.result
    (λ r. Renews c.args.app.now c.args.cells.now (BodyItem (λ n. start (seen_sight n c.in_ok-sight.sight) z.body (path_view c.args.path) c.args.left) (seen_item_spot (record { key = c.args.entry.key; occurrence = c.args.entry.occurrence; value = c.in_ok-value.value; index = c.in_ok-index.index; params = c.in_ok-params.params }))) c.item-2.new.self (λ n. seen_item_code n r) c.item_body.new.vm)
    (λ r. Renews c.args.app.now c.args.cells.now (FreshItem (λ n. seen_listing n z) c.args.left (path_view c.args.path) (seen_entry c.args.entry)) c.args.vm.now (λ n. seen_item_code n r) c.item_body.new.vm)
    (λ r. fresh_renews c.args.app.now c.args.cells.now c.args.left z c.args.entry c.args.vm.now c.item.new.self c.item-2.new.self c.in_ok-value.value c.in_ok-index.index c.counted.result c.in_ok-params.params c.in_ok-sight.sight c.args.path
    c.in_ok-value.ensures.step c.in_ok-value.ensures.id c.in_ok-index.ensures.step c.in_ok-index.ensures.id c.counted.ensures c.in_ok-sight.ensures c.in_ok-params.ensures (λ n. seen_item_code n r) c.item_body.new.vm)
    c.item_body.ensures.ok

pub returns-clause-fails : goal.returns-clause-fails
returns-clause-fails g c =
    let z = c.args.listing.now in
    IfErr-weaker c.item_body.result
    (RenewFails {A = Item} c.args.app.now c.args.cells.now (BodyItem (λ n. start (seen_sight n c.in_ok-sight.sight) z.body (path_view c.args.path) c.args.left) (seen_item_spot (record { key = c.args.entry.key; occurrence = c.args.entry.occurrence; value = c.in_ok-value.value; index = c.in_ok-index.index; params = c.in_ok-params.params }))) c.item-2.new.self)
    (RenewFails {A = Item} c.args.app.now c.args.cells.now (FreshItem (λ n. seen_listing n z) c.args.left (path_view c.args.path) (seen_entry c.args.entry)) c.args.vm.now)
    (λ h. fresh_fails c.args.app.now c.args.cells.now c.args.left z c.args.entry c.args.vm.now c.item.new.self c.item-2.new.self c.in_ok-value.value c.in_ok-index.index c.counted.result c.in_ok-params.params c.in_ok-sight.sight c.args.path
    c.in_ok-value.ensures.step c.in_ok-value.ensures.id c.in_ok-index.ensures.step c.in_ok-index.ensures.id c.counted.ensures c.in_ok-sight.ensures c.in_ok-params.ensures h)
    c.item_body.ensures.fails

pub returns-clause-key : goal.returns-clause-key
returns-clause-key g c =
    let spot : PlainItemSpot = seen_item_spot (record { key = c.args.entry.key; occurrence = c.args.entry.occurrence; value = c.in_ok-value.value; index = c.in_ok-index.index; params = c.in_ok-params.params }) in
    IfOk-weaker c.item_body.result
    (λ r. (n : Tables) → (seen_item_code n r).0 ≡ spot) (λ r. (n : Tables) → spot_key (seen_item_code n r) ≡ entry_key (seen_entry c.args.entry))
    (λ r h n. ap (λ (x : PlainItemSpot). (owned x.key, x.occurrence)) (h n)) c.item_body.ensures.key

pub returns-clause-seats : goal.returns-clause-seats
returns-clause-seats g c =
    let old = c.args.vm.now.tree in
    let mid = c.item-2.new.self.tree in
    let new = c.item_body.new.vm.tree in
    let p = stamp_of c.args.seat.now.parent in
    let next = stamp_of c.args.seat.now.next in
    let roots : Rooted old mid = roots_then old c.item.new.self.tree mid (refs_rooted c.args.vm.now c.item.new.self _ c.item.ensures.rest) (refs_rooted c.item.new.self c.item-2.new.self _ c.item-2.ensures.rest) in
    IfOk-weaker c.item_body.result (λ r. (n : Tables) → SeatsBefore mid.forest new.forest p next (item_nest n r)) (λ r. (n : Tables) → SeatsBefore old.forest new.forest p next (item_nest n r))
    (λ r h n. seats_after old mid new p next (item_nest n r) roots (h n)) c.item_body.ensures.seats

pub returns-clause-moves : goal.returns-clause-moves
returns-clause-moves g c =
    let roots : Rooted c.args.vm.now.tree c.item-2.new.self.tree =
    roots_then c.args.vm.now.tree c.item.new.self.tree c.item-2.new.self.tree (refs_rooted c.args.vm.now c.item.new.self _ c.item.ensures.rest) (refs_rooted c.item.new.self c.item-2.new.self _ c.item-2.ensures.rest) in
    on_ok_weaker c.item_body.result (λ e. e ∙ roots.moves) c.item_body.ensures.moves
