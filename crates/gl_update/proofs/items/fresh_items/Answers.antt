use Rattle.std.proofs.Common.{◌≡◌, [], refl, ◌∙◌}
use Rattle.gl_meaning.specs.View.{path_view}
use Rattle.gl_update.proofs.FreshItems.{All, none_waits, items_begin, items_next, items_fail, items_end}
use Rattle.gl_nodes.specs.Flat.{stamp_of}
use Rattle.gl_update.proofs.RenewedRows.{items_seated, none_seated}
use Rattle.gl_update.proofs.items.fresh_items.Goals as goal

pub loop-entry-init : goal.loop-entry-init
loop-entry-init g c = record {
  calm = c.requires.calm;
  onward = items_begin c.args.app.now c.args.cells.now c.args.left c.args.listing.now (path_view c.args.base.now) c.args.entries.items c.new-done.result.items c.args.vm.now c.new-done.ensures.items;
  seats = λ n. none_seated c.args.vm.now.tree n (stamp_of c.args.seat.now.parent) (stamp_of c.args.seat.now.next) c.new-done.result.items c.new-done.ensures.items;
  moves = refl;
}

pub loop-entry-preserved : goal.loop-entry-preserved
loop-entry-preserved g c = record {
  calm = c.fresh_item.ensures.calm;
  onward = items_next c.args.app.now c.args.cells.now c.args.left c.args.listing.now (path_view c.args.base.now) (All c.args.app.now c.args.cells.now c.args.left c.args.listing.now (path_view c.args.base.now) c.args.entries.items)
      c.loop-entry.done.items c.add.new.items.items c.loop-entry.waiting.items c.pop.new.self.items c.in-Some.entry c.in-Ok.item (path_view c.in_ok-path.path) c.args.vm.now c.loop-entry.vm c.fresh_item.new.vm
      c.in-Some.ensures.items c.in_ok-path.ensures c.in_ok-add-in-Ok.ensures c.loop-entry.invariant.onward c.in-Ok.ensures.ok;
  seats = λ n. items_seated c.args.vm.now.tree c.loop-entry.vm.tree c.fresh_item.new.vm.tree n (stamp_of c.args.seat.now.parent) (stamp_of c.args.seat.now.next) c.loop-entry.done.items c.add.new.items.items c.in-Ok.item c.in_ok-add-in-Ok.ensures (c.loop-entry.invariant.seats n) (c.in-Ok.ensures.seats n);
  moves = c.in-Ok.ensures.moves ∙ c.loop-entry.invariant.moves;
}

pub returns-in-Err-clause-fails : goal.returns-in-Err-clause-fails
returns-in-Err-clause-fails g c =
    items_fail c.args.app.now c.args.cells.now c.args.left c.args.listing.now (path_view c.args.base.now) (All c.args.app.now c.args.cells.now c.args.left c.args.listing.now (path_view c.args.base.now) c.args.entries.items)
    c.loop-entry.done.items c.loop-entry.waiting.items c.pop.new.self.items c.in-Some.entry (path_view c.in_ok-path.path) c.args.vm.now c.loop-entry.vm c.in-Err.fault
    c.in-Some.ensures.items c.in_ok-path.ensures c.loop-entry.invariant.onward c.in-Err.ensures.fails

pub returns-clause-ok : goal.returns-clause-ok
returns-clause-ok g c =
    let waiting = c.loop-entry.waiting.items in
    let none : waiting ≡ [] = none_waits waiting c.pop.new.self.items _ c.in_default.ensures.items c.in_default.ensures.rest c.in_default.ensures.cases.0 in
    items_end c.args.app.now c.args.cells.now c.args.left c.args.listing.now (path_view c.args.base.now) (All c.args.app.now c.args.cells.now c.args.left c.args.listing.now (path_view c.args.base.now) c.args.entries.items)
    c.loop-entry.done.items waiting c.args.vm.now c.loop-entry.vm none c.loop-entry.invariant.onward
