use Rattle.std.proofs.Common.{◌∷◌, ◌∙◌, ap, subst, sym}
use Rattle.gl_value.specs.Value.{plain}
use Rattle.gl_value.specs.View.{view}
use Rattle.gl_meaning.specs.Path.{item, Path}
use Rattle.gl_meaning.specs.View.{path_view}
use Rattle.gl_each.specs.Key.{entry_key}
use Rattle.gl_code.specs.CodeView.{seen_item_code, seen_listing}
use Rattle.gl_code.specs.Entries.{seen_entry}
use Rattle.gl_code.specs.declared.code.ItemCode.{ItemCode}
use Rattle.gl_code.specs.declared.entries.Entry.{Entry}
use Rattle.gl_nodes.specs.Flat.{stamp_of}
use Rattle.gl_seats.specs.Parts.{item_nest}
use Rattle.gl_seats.specs.Seats.{SeatsBefore}
use Rattle.gl_update.specs.ListItems.{Item, spot_key, FreshItem}
use Rattle.gl_code.specs.Renewing.{Renews, RenewFails}
use Rattle.gl_update.proofs.syncing.new_item.Goals as goal

pub returns-in_ok-boxed-in-Ok-clause-ok : goal.returns-in_ok-boxed-in-Ok-clause-ok
returns-in_ok-boxed-in-Ok-clause-ok g c =
    let new = c.in_ok-boxed-in-Ok.field-0.value in
    subst (λ (e : Entry). Renews c.args.app.now c.args.cells.now (FreshItem (λ n. seen_listing n c.args.listing.now) c.args.left (item (plain (view e.key)) e.occurrence ∷ path_view c.args.base.now) (seen_entry e)) c.args.vm.now (λ n. seen_item_code n new) c.fresh_item.new.vm) c.into_inner-entry.ensures
    (subst (λ (q : Path). Renews c.args.app.now c.args.cells.now (FreshItem (λ n. seen_listing n c.args.listing.now) c.args.left q (seen_entry c.into_inner-entry.result)) c.args.vm.now (λ n. seen_item_code n new) c.fresh_item.new.vm) c.in_ok-path.ensures
    (subst (λ (y : ItemCode). Renews c.args.app.now c.args.cells.now (FreshItem (λ n. seen_listing n c.args.listing.now) c.args.left (path_view c.in_ok-path.path) (seen_entry c.into_inner-entry.result)) c.args.vm.now (λ n. seen_item_code n y) c.fresh_item.new.vm) (sym c.in_ok-boxed-in-Ok.ensures) c.in-Ok.ensures.ok))

pub returns-in_ok-boxed-in-Ok-clause-key : goal.returns-in_ok-boxed-in-Ok-clause-key
returns-in_ok-boxed-in-Ok-clause-key g c = λ n.
    ap (λ (y : ItemCode). spot_key (seen_item_code n y)) c.in_ok-boxed-in-Ok.ensures ∙ (c.in-Ok.ensures.key n ∙ ap (λ (e : Entry). entry_key (seen_entry e)) c.into_inner-entry.ensures)

pub returns-in-Err-clause-fails : goal.returns-in-Err-clause-fails
returns-in-Err-clause-fails g c =
    subst (λ (e : Entry). RenewFails {A = Item} c.args.app.now c.args.cells.now (FreshItem (λ n. seen_listing n c.args.listing.now) c.args.left (item (plain (view e.key)) e.occurrence ∷ path_view c.args.base.now) (seen_entry e)) c.args.vm.now c.in-Err.fault) c.into_inner-entry.ensures
    (subst (λ (q : Path). RenewFails {A = Item} c.args.app.now c.args.cells.now (FreshItem (λ n. seen_listing n c.args.listing.now) c.args.left q (seen_entry c.into_inner-entry.result)) c.args.vm.now c.in-Err.fault) c.in_ok-path.ensures c.in-Err.ensures.fails)

pub returns-in_ok-boxed-in-Ok-clause-seats : goal.returns-in_ok-boxed-in-Ok-clause-seats
returns-in_ok-boxed-in-Ok-clause-seats g c = λ n.
    subst (λ (y : ItemCode). SeatsBefore c.args.vm.now.tree.forest c.fresh_item.new.vm.tree.forest (stamp_of c.args.seat.now.parent) (stamp_of c.args.seat.now.next) (item_nest n y)) (sym c.in_ok-boxed-in-Ok.ensures) (c.in-Ok.ensures.seats n)
