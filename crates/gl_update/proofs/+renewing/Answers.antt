use Rattle.std.proofs.Common.{rules, Bool, ◌≡◌, ◌≢◌, ◌<◌, ℕ, ◌+◌, ◌∷◌, ◌∙◌, length, drop, Some, None, map, ◌++◌, [], ◌-◌, ap, sym, subst, arith, get_or, get_or-set_other, List, Option, refl, ap₂, reverse, nat_eq, true, false}
use Rattle.std.specs.Prelude.{if◌then◌else◌, OnOk, IfErr, List, Option}
use Rattle.std.proofs.lemmas.List.{length-set}
use Rattle.std.proofs.lemmas.Result.{on_ok_weaker, IfOk-weaker, IfErr-weaker}
use Rattle.std.specs.Cmp.{booleans_Decides}
use Rattle.gl_meaning.specs.Path.{at, main, otherwise, slot, Path, item, items}
use Rattle.gl_meaning.specs.Render.{entries}
use Rattle.gl_meaning.specs.Scope.{Source}
use Rattle.gl_meaning.specs.View.{path_view, path_step_view}
use Rattle.gl_nodes.specs.Flat.{stamp_of}
use Rattle.gl_plain.specs.Ids as ids
use Rattle.gl_plain.specs.Naming.{by_number}
use Rattle.gl_plain.specs.Binding.{first_value}
use Rattle.gl_plain.specs.Renew.{renew_attrs, renew_mods, renew_text, spot_pairs}
use Rattle.gl_machine.specs.Code as p
use Rattle.gl_plain.specs.State.{Names, Inst}
use Rattle.std.specs.declared.vec.Vec.{Vec}
use Rattle.std.specs.declared.alloc.Global.{Global}
use Rattle.gl_base.specs.Texts.{Text}
use Rattle.gl_arena.specs.Id.{Id}
use Rattle.gl_code.specs.declared.code.AttrSpot.{AttrSpot}
use Rattle.gl_code.specs.declared.code.Choice.{Choice}
use Rattle.gl_code.specs.declared.code.Codes.{Codes}
use Rattle.gl_code.specs.declared.code.ModSpot.{ModSpot}
use Rattle.gl_code.specs.declared.code.Spot.{Spot}
use Rattle.gl_code.specs.declared.sight.Owner.{Owner}
use Rattle.gl_vm.specs.View.{Tables, stamps, name_stamps, state_of}
use Rattle.gl_vm.specs.Steps.{Does}
use Rattle.gl_code.specs.View.{refs_made, seen_owner}
use Rattle.gl_code.specs.declared.code.Code.{the_lemmas}
use Rattle.gl_code.specs.CodeView.{seen_attr_spot, seen_choice, seen_code, seen_codes, seen_mod_spot, seen_spot, seen_listing, seen_item_code, all_items, seen_item_spot}
use Rattle.gl_update.specs.View.{trail_view}
use Rattle.gl_code.specs.Renewing.{Renews, RenewFails}
use Rattle.gl_update.proofs.Renewing.{renews_by, renews_still, renews_in, renews_at, fails_in, fails_at, renews_as}
use Rattle.gl_update.proofs.Arms.{arm, arm_fails, still_is, put_is, element_is, branch_is, let_is, component_is, yield_is, Below, element_renews, element_fails, component_renews, component_fails}
use Rattle.gl_update.specs.Questions.{Asks, AsksBody, AsksCode, AsksIn, AsksItems, AsksKept, AsksList, AsksOne, AsksRelist, AsksStaying, AsksSync, old_items}
use Rattle.gl_update.proofs.Asking.{asks_just, asks_passed}
use Rattle.gl_update.proofs.AskedCodes.{asks_at, asks_entered, asks_over, both_counted, arm_asks, element_asks, component_asks, branch_asks, flip_asks, asks_begin, asks_next, asks_end}
use Rattle.gl_update.proofs.Branching.{branch_kept, branch_kept_fails, branch_flips, branch_flip_fails}
use Rattle.gl_update.proofs.Results.{on_ok_always, if_err, if_err_all, moved2, moved4, moved5, written, sides_differ}
use Rattle.gl_update.proofs.Walking.{One, walks_begin, walks_next, walks_fail, walks_end}
use Rattle.std.specs.Vec.{vec_len}
use Rattle.std.specs.Result.{IfOk, IfErr}
use Rattle.gl_value.specs.Value.{plain}
use Rattle.gl_value.specs.View.{view}
use Rattle.gl_plain.specs.Live.{times_items, times_in, times_comment}
use Rattle.gl_machine.specs.Code.{Listing, Code as PlainCode, Codes as PlainCodes, ItemCodes, listed_code, unlisted_code, items_of, lives_of, live_of}
use Rattle.gl_plain.specs.Counts.{positions_in}
use Rattle.gl_guards.specs.Along.{along_code_as, along_codes_as, along_body_as, few}
use Rattle.gl_update.specs.Read.{Gives, IsOf, entries_now}
use Rattle.gl_update.specs.declared.reading.Read.TheVariants as r
use Rattle.gl_update.proofs.StayingItems.{GivesAt, none_now, stays_begin, stays_next, stays_fails, stays_end}
use Rattle.gl_update.proofs.Regions.{region_entered, region_fails, region_passed}
use Rattle.gl_code.specs.Entries.{seen_entry, seen_left}
use Rattle.gl_code.proofs.EntryCounts.{none_counted, some_counted, none_left}
use Rattle.gl_update.specs.ListItems.{Item, there, FreshItem, ListsFresh, ListsNone, Syncs, Relists, AlongItem, EntersList, GoesAlong, KeptItem, SyncItems, spot_key}
use Rattle.gl_update.specs.OldItems.{OneItem, unboxed, code_key}
use Rattle.gl_update.specs.NextItem.{Follows, Taking}
use Rattle.gl_update.specs.TakenLists.{TakenOut}
use Rattle.std.specs.declared.boxed.Box.{Box}
use Rattle.gl_each.specs.Moved.{moves as count_moves}
use Rattle.gl_each.specs.View.{seen_steps}
use Rattle.gl_kept.specs.Between.{moves_between}
use Rattle.gl_code.specs.declared.code.Listing.{Listing as ListingCode}
use Rattle.gl_update.specs.declared.taken.Begun.{Begun}
use Rattle.gl_update.specs.declared.taken.Listed.{Listed}
use Rattle.gl_update.specs.declared.taken.Ready.{Ready}
use Rattle.gl_update.specs.declared.taken.Unlisted.{Unlisted}
use Rattle.gl_update.proofs.SyncItems.{given_item, All, sync_begin, sync_next, sync_fails, sync_end, work_next, kept_renews, kept_fails, list_syncs, list_sync_fails, item_is}
use Rattle.gl_code.specs.declared.code.ItemCode.{ItemCode}
use Rattle.gl_update.proofs.ListUpdates.{unlisted_stays, unlisted_stays_fails, unlisted_lists, unlisted_lists_fails, Unlisting, gone, Updating, listed_reads, listed_reads_fails, listed_goes, listed_goes_fails, listed_ends, listed_ends_fails, listed_syncs, listed_syncs_fails, Relisting}
use Rattle.gl_each.specs.Key.{entry_key, entry_keys}
use Rattle.gl_update.specs.Counted.{CodeMoved, CodesMoved, HasKey, IsListed, IsUnlisted, ItemMoved, ItemsAlong, KeptMoved}
use Rattle.gl_update.proofs.MovedCodes.{none_moved, code_moved, code_counted, body_counted, arm_moved, walked_begin, walked_next, walked_end, same_moved, flip_moved, stays_moved, ended_moved, begun_moved, kept_moved, moved_kept}
use Rattle.gl_update.proofs.AlongCounts.{along_begin, along_next, along_end, list_along, list_stays}
use Rattle.gl_update.proofs.AlongItems.{along_renews, along_fails, items_begin, items_next, items_fail, items_end, list_goes, list_goes_fails, list_entered, list_fails, list_passed}
use Rattle.gl_guards.specs.AlongAsks.{stay_count}
use Rattle.gl_machine.specs.RenewCode.{Runs}
use Rattle.gl_code.proofs.EntryLists.{next_left}
use Rattle.gl_update.proofs.AskedItems.{AsksItem, does_nothing, item_asks, items_all_asked, items_ask, items_asked, list_asks, list_asks_one}
use Rattle.gl_update.proofs.AskedLists.{listed_asks, listed_asks_along, listed_code_asks, relist_asks, relist_asks_none, unlisted_asks, unlisted_asks_none, unlisted_code_asks}
use Rattle.gl_update.proofs.AskedStaying.{all_stay, stays_all_asked, stays_ask, stays_asked}
use Rattle.gl_update.proofs.AskedSync.{AsksOf, asks_together, kept_asks, olds_there, settled_at, stays_one, sync_all_asked, sync_asked, sync_asks}
use Rattle.gl_update.proofs.SyncCounts.{syncing_begin, syncing_next, syncing_end, list_moved}
use Rattle.gl_machine.specs.Shape.{Nest, end, tree as nested, joined, leaf, nest_comment}
use Rattle.gl_seats.specs.Parts.{code_nest, codes_nest, body_nest, item_nest, items_nest}
use Rattle.gl_seats.specs.Seats.{Replaces, NodesRenewed}
use Rattle.gl_update.proofs.Results.{on_ok_two, if_ok_two}
use Rattle.gl_code.proofs.Rooting.{roots_refl, roots_same}
use Rattle.gl_update.proofs.Renewed.{refs_rooted, nodes_after, nodes_arm, nodes_beside, nodes_counted, nodes_element, nodes_item, nodes_made, nodes_replaced, nodes_same, nodes_within}
use Rattle.gl_seats.specs.Seats.{IsBefore}
use Rattle.gl_update.specs.Counted.{one_if}
use Rattle.gl_update.specs.Standing.{Settles, OneKept}
use Rattle.gl_code.proofs.Doing.{does_then}
use Rattle.gl_update.proofs.SyncNodes.{nodes_begin, nodes_next, nodes_end, list_synced}
use Rattle.gl_update.proofs.RenewedRows.{row_begin, row_next, row_end, body_renewed, items_renewed}
use Rattle.gl_update.proofs.+renewing.Goals as goal

pub codes::renew_below-returns-in-Ok-clause-ok : goal.codes::renew_below-returns-in-Ok-clause-ok
codes::renew_below-returns-in-Ok-clause-ok g t c =
    subst (λ q. Renews c.args.app.now c.args.cells.now (Below c.args.app.now c.args.cells.now c.args.left q q c.args.body.now) c.args.vm.now (λ n. seen_codes n c.renew_codes.new.codes) c.renew_codes.new.vm) c.in_ok-push.ensures.view c.in-Ok.ensures.ok

pub codes::renew_below-returns-in-Err-clause-fails : goal.codes::renew_below-returns-in-Err-clause-fails
codes::renew_below-returns-in-Err-clause-fails g t c =
    subst (λ q. RenewFails c.args.app.now c.args.cells.now (Below c.args.app.now c.args.cells.now c.args.left q q c.args.body.now) c.args.vm.now c.in-Err.fault) c.in_ok-push.ensures.view c.in-Err.ensures.fails

pub codes::renew_below-returns-in-Ok-clause-asked : goal.codes::renew_below-returns-in-Ok-clause-asked
codes::renew_below-returns-in-Ok-clause-asked g t c =
    subst (λ q. Asks c.args.app.now c.args.cells.now (AsksIn c.args.left q (λ n. seen_codes n c.args.body.now)) c.args.vm.now c.args.moved.now.asked c.renew_codes.new.moved.asked) c.in_ok-push.ensures.view c.in-Ok.ensures.asked

pub codes::renew_yield-returns-clause-ok : goal.codes::renew_yield-returns-clause-ok
codes::renew_yield-returns-clause-ok g t c =
    subst (λ y. OnOk c.renew_below.result (Renews c.args.app.now c.args.cells.now (λ n run. along_codes_as by_number run c.args.left (slot y ∷ trail_view c.args.trail.now) 0 (seen_codes n c.args.body.now)) c.args.vm.now (λ n. seen_codes n c.renew_below.new.body) c.renew_below.new.vm)) c.in_ok-copy.ensures c.renew_below.ensures.ok

pub codes::renew_yield-returns-clause-fails : goal.codes::renew_yield-returns-clause-fails
codes::renew_yield-returns-clause-fails g t c =
    subst (λ y. IfErr c.renew_below.result (RenewFails {A = p.Codes} c.args.app.now c.args.cells.now (λ n run. along_codes_as by_number run c.args.left (slot y ∷ trail_view c.args.trail.now) 0 (seen_codes n c.args.body.now)) c.args.vm.now)) c.in_ok-copy.ensures c.renew_below.ensures.fails

pub codes::renew_yield-returns-clause-asked : goal.codes::renew_yield-returns-clause-asked
codes::renew_yield-returns-clause-asked g t c =
    subst (λ y. OnOk c.renew_below.result (Asks c.args.app.now c.args.cells.now (AsksIn c.args.left (slot y ∷ trail_view c.args.trail.now) (λ n. seen_codes n c.args.body.now)) c.args.vm.now c.args.moved.now.asked c.renew_below.new.moved.asked)) c.in_ok-copy.ensures c.renew_below.ensures.asked

pub codes::renew_element-returns-in_ok-renew_mods-in-Ok-clause-ok : goal.codes::renew_element-returns-in_ok-renew_mods-in-Ok-clause-ok
codes::renew_element-returns-in_ok-renew_mods-in-Ok-clause-ok g t c = λ made.
    element_renews c.args.app.now c.args.cells.now c.args.left (trail_view c.args.trail.now) c.args.node.1 made (map seen_attr_spot c.args.attrs.now.items) (map seen_mod_spot c.args.mods.now.items) c.args.body.now c.renew_codes.new.codes c.args.vm.now c.renew_attrs.new.vm c.renew_codes.new.vm c.renew_mods.new.vm
    (subst (λ xs. Does (λ n. renew_attrs c.args.node.1 (map seen_attr_spot xs)) c.args.vm.now c.renew_attrs.new.vm) c.as_slice.ensures.value c.in_ok-renew_attrs.ensures.step) c.in-Ok.ensures.ok
    (subst (λ xs. Does (λ n. renew_mods (map seen_mod_spot xs)) c.renew_codes.new.vm c.renew_mods.new.vm) c.as_slice-in-Ok.ensures.value c.in_ok-renew_mods-in-Ok.ensures.step)

pub codes::renew_element-returns-in-Err-clause-fails : goal.codes::renew_element-returns-in-Err-clause-fails
codes::renew_element-returns-in-Err-clause-fails g t c = λ made.
    element_fails c.args.app.now c.args.cells.now c.args.left (trail_view c.args.trail.now) c.args.node.1 made (map seen_attr_spot c.args.attrs.now.items) (map seen_mod_spot c.args.mods.now.items) c.args.body.now c.args.vm.now c.renew_attrs.new.vm c.in-Err.fault
    (subst (λ xs. Does (λ n. renew_attrs c.args.node.1 (map seen_attr_spot xs)) c.args.vm.now c.renew_attrs.new.vm) c.as_slice.ensures.value c.in_ok-renew_attrs.ensures.step) c.in-Err.ensures.fails

pub codes::renew_element-returns-in_ok-renew_mods-in-Ok-clause-asked : goal.codes::renew_element-returns-in_ok-renew_mods-in-Ok-clause-asked
codes::renew_element-returns-in_ok-renew_mods-in-Ok-clause-asked g t c = λ made.
    element_asks c.args.app.now c.args.cells.now c.args.left (trail_view c.args.trail.now) c.args.node.1 made (map seen_attr_spot c.args.attrs.now.items) (map seen_mod_spot c.args.mods.now.items) c.args.body.now c.args.vm.now c.renew_attrs.new.vm c.args.moved.now.asked c.ask-2.new.self.asked c.renew_codes.new.moved.asked
    (both_counted seen_attr_spot seen_mod_spot c.args.attrs.now.items c.args.mods.now.items c.len.result c.len-2.result c.args.moved.now.asked c.ask.new.self.asked c.ask-2.new.self.asked (c.len.ensures ∙ c.args.attrs.now.ok.0) (c.len-2.ensures ∙ c.args.mods.now.ok.0) c.in_ok-ask.ensures.asked c.in_ok-ask-2.ensures.asked)
    (subst (λ xs. Does (λ n. renew_attrs c.args.node.1 (map seen_attr_spot xs)) c.args.vm.now c.renew_attrs.new.vm) c.as_slice.ensures.value c.in_ok-renew_attrs.ensures.step) c.in-Ok.ensures.asked

pub codes::renew_element-returns-in_ok-renew_mods-in-Ok-clause-moved : goal.codes::renew_element-returns-in_ok-renew_mods-in-Ok-clause-moved
codes::renew_element-returns-in_ok-renew_mods-in-Ok-clause-moved g t c =
    body_counted c.args.moved.now c.ask-2.new.self c.renew_codes.new.moved c.renew_codes.new.moved (λ n. seen_codes n c.args.body.now) (λ n. seen_codes n c.renew_codes.new.codes) (c.ask-2.ensures.items ∙ c.ask.ensures.items) refl c.in-Ok.ensures.moved

pub codes::renew_element-returns-in_ok-renew_mods-in-Ok-clause-nodes : goal.codes::renew_element-returns-in_ok-renew_mods-in-Ok-clause-nodes
codes::renew_element-returns-in_ok-renew_mods-in-Ok-clause-nodes g t c =
    λ p.
    let x : Tables → Nest ℕ = λ n. codes_nest n c.args.body.now in
    let y : Tables → Nest ℕ = λ n. codes_nest n c.renew_codes.new.codes in
    nodes_within c.args.vm.now.tree c.renew_attrs.new.vm.tree c.renew_codes.new.vm.tree c.renew_mods.new.vm.tree c.args.moved.now.items c.ask-2.new.self.items c.renew_codes.new.moved.items c.renew_codes.new.moved.items p (λ n. nested c.args.node.1 (x n) end) (λ n. nested c.args.node.1 (y n) end)
    c.in_ok-renew_attrs.ensures.roots (c.ask-2.ensures.items ∙ c.ask.ensures.items)
    (nodes_element c.renew_attrs.new.vm.tree c.renew_codes.new.vm.tree c.ask-2.new.self.items c.renew_codes.new.moved.items p c.args.node.1 x y c.in-Ok.ensures.nodes)
    (roots_same c.renew_codes.new.vm.tree c.renew_mods.new.vm.tree c.in_ok-renew_mods-in-Ok.ensures.tree) refl

pub codes::renew_body-returns-in-Ok-clause-ok : goal.codes::renew_body-returns-in-Ok-clause-ok
codes::renew_body-returns-in-Ok-clause-ok g t c =
    region_entered few c.args.app.now c.args.cells.now p.Codes (λ n. positions_in (lives_of (seen_codes n c.args.codes.now))) (λ n. seen_codes n c.args.codes.now) (Below c.args.app.now c.args.cells.now c.args.left (trail_view c.args.trail.now) (trail_view c.args.trail.now) c.args.codes.now)
    c.args.vm.now c.enters_body.new.vm c.renew_codes.new.vm (λ n. seen_codes n c.renew_codes.new.codes) (λ n u agrees. c.in_ok-enters_body.ensures.asked n u agrees ∙ c.if-branch.true) c.enters_body.ensures.still c.in-Ok.ensures.ok

pub codes::renew_body-returns-in-Err-clause-fails : goal.codes::renew_body-returns-in-Err-clause-fails
codes::renew_body-returns-in-Err-clause-fails g t c =
    region_fails few c.args.app.now c.args.cells.now p.Codes (λ n. positions_in (lives_of (seen_codes n c.args.codes.now))) (λ n. seen_codes n c.args.codes.now) (Below c.args.app.now c.args.cells.now c.args.left (trail_view c.args.trail.now) (trail_view c.args.trail.now) c.args.codes.now)
    c.args.vm.now c.enters_body.new.vm c.in-Err.fault (λ n u agrees. c.in_ok-enters_body.ensures.asked n u agrees ∙ c.if-branch.true) c.enters_body.ensures.still c.in-Err.ensures.fails

pub codes::renew_body-returns-in-Ok-clause-moved : goal.codes::renew_body-returns-in-Ok-clause-moved
codes::renew_body-returns-in-Ok-clause-moved g t c =
    body_counted c.args.moved.now c.ask.new.self c.renew_codes.new.moved c.close.new.self (λ n. seen_codes n c.args.codes.now) (λ n. seen_codes n c.renew_codes.new.codes) c.ask.ensures.items c.close.ensures.items c.in-Ok.ensures.moved

pub codes::renew_body-returns-in-Ok-clause-nodes : goal.codes::renew_body-returns-in-Ok-clause-nodes
codes::renew_body-returns-in-Ok-clause-nodes g t c =
    nodes_within c.args.vm.now.tree c.enters_body.new.vm.tree c.renew_codes.new.vm.tree c.renew_codes.new.vm.tree c.args.moved.now.items c.ask.new.self.items c.renew_codes.new.moved.items c.close.new.self.items (stamp_of c.args.parent.now) (λ n. codes_nest n c.args.codes.now) (λ n. codes_nest n c.renew_codes.new.codes)
    (refs_rooted c.args.vm.now c.enters_body.new.vm _ c.enters_body.ensures.counted.rest) c.ask.ensures.items c.in-Ok.ensures.nodes (roots_refl c.renew_codes.new.vm.tree) c.close.ensures.items

pub codes::renew_body-returns-in-Ok-clause-asked : goal.codes::renew_body-returns-in-Ok-clause-asked
codes::renew_body-returns-in-Ok-clause-asked g t c =
    let p = trail_view c.args.trail.now in
    asks_entered c.args.app.now c.args.cells.now (λ n run. along_body_as by_number run c.args.left p (seen_codes n c.args.codes.now)) (AsksIn c.args.left p (λ n. seen_codes n c.args.codes.now)) (λ n. seen_codes n c.renew_codes.new.codes) c.args.vm.now c.enters_body.new.vm c.renew_codes.new.vm
    c.args.moved.now.asked c.ask.new.self.asked c.renew_codes.new.moved.asked c.close.new.self.asked c.mark-mark.result.asked c.mark-mark.result.evaluated
    c.in_ok-ask.ensures.asked c.mark-mark.ensures.asked c.mark-mark.ensures.evaluated c.close.ensures.asked c.enters_body.ensures.still (codes::renew_body-returns-in-Ok-clause-ok g t c) c.in-Ok.ensures.asked

pub codes::renew_body-returns-else-branch-clause-ok : goal.codes::renew_body-returns-else-branch-clause-ok
codes::renew_body-returns-else-branch-clause-ok g t c =
    region_passed few c.args.app.now c.args.cells.now p.Codes (λ n. positions_in (lives_of (seen_codes n c.args.codes.now))) (λ n. seen_codes n c.args.codes.now) (Below c.args.app.now c.args.cells.now c.args.left (trail_view c.args.trail.now) (trail_view c.args.trail.now) c.args.codes.now)
    c.args.vm.now c.enters_body.new.vm (λ n u agrees. c.in_ok-enters_body.ensures.asked n u agrees ∙ c.if-branch.false) c.enters_body.ensures.still

pub codes::renew_body-returns-else-branch-clause-moved : goal.codes::renew_body-returns-else-branch-clause-moved
codes::renew_body-returns-else-branch-clause-moved g t c =
    body_counted c.args.moved.now c.ask.new.self c.ask.new.self c.ask.new.self (λ n. seen_codes n c.args.codes.now) (λ n. seen_codes n c.args.codes.now) c.ask.ensures.items refl (stays_moved c.ask.new.self (λ n. seen_codes n c.args.codes.now))

pub codes::renew_body-returns-else-branch-clause-nodes : goal.codes::renew_body-returns-else-branch-clause-nodes
codes::renew_body-returns-else-branch-clause-nodes g t c =
    nodes_same c.args.vm.now.tree c.enters_body.new.vm.tree c.args.moved.now.items c.ask.new.self.items (stamp_of c.args.parent.now) (λ n. codes_nest n c.args.codes.now) (refs_rooted c.args.vm.now c.enters_body.new.vm _ c.enters_body.ensures.counted.rest) c.ask.ensures.items

pub codes::renew_body-returns-else-branch-clause-asked : goal.codes::renew_body-returns-else-branch-clause-asked
codes::renew_body-returns-else-branch-clause-asked g t c =
    let p = trail_view c.args.trail.now in
    asks_over c.args.app.now c.args.cells.now (λ n run. along_body_as by_number run c.args.left p (seen_codes n c.args.codes.now)) (AsksIn c.args.left p (λ n. seen_codes n c.args.codes.now)) (λ n. seen_codes n c.args.codes.now) c.args.vm.now c.enters_body.new.vm c.args.moved.now.asked c.ask.new.self.asked
    c.in_ok-ask.ensures.asked c.enters_body.ensures.counted.rest (codes::renew_body-returns-else-branch-clause-ok g t c)

pub codes::renew_side-returns-in-Ok-clause-ok : goal.codes::renew_side-returns-in-Ok-clause-ok
codes::renew_side-returns-in-Ok-clause-ok g t c =
    region_entered few c.args.app.now c.args.cells.now p.Codes (λ n. positions_in (lives_of (seen_codes n c.args.body.now))) (λ n. seen_codes n c.args.body.now) (Below c.args.app.now c.args.cells.now c.args.left (path_step_view c.args.step ∷ trail_view c.args.trail.now) (path_step_view c.args.step ∷ trail_view c.args.trail.now) c.args.body.now)
    c.args.vm.now c.enters_body.new.vm c.renew_below.new.vm (λ n. seen_codes n c.renew_below.new.body) (λ n u agrees. c.in_ok-enters_body.ensures.asked n u agrees ∙ c.if-branch.true) c.enters_body.ensures.still c.in-Ok.ensures.ok

pub codes::renew_side-returns-in-Err-clause-fails : goal.codes::renew_side-returns-in-Err-clause-fails
codes::renew_side-returns-in-Err-clause-fails g t c =
    region_fails few c.args.app.now c.args.cells.now p.Codes (λ n. positions_in (lives_of (seen_codes n c.args.body.now))) (λ n. seen_codes n c.args.body.now) (Below c.args.app.now c.args.cells.now c.args.left (path_step_view c.args.step ∷ trail_view c.args.trail.now) (path_step_view c.args.step ∷ trail_view c.args.trail.now) c.args.body.now)
    c.args.vm.now c.enters_body.new.vm c.in-Err.fault (λ n u agrees. c.in_ok-enters_body.ensures.asked n u agrees ∙ c.if-branch.true) c.enters_body.ensures.still c.in-Err.ensures.fails

pub codes::renew_side-returns-in-Ok-clause-moved : goal.codes::renew_side-returns-in-Ok-clause-moved
codes::renew_side-returns-in-Ok-clause-moved g t c =
    body_counted c.args.moved.now c.ask.new.self c.renew_below.new.moved c.close.new.self (λ n. seen_codes n c.args.body.now) (λ n. seen_codes n c.renew_below.new.body) c.ask.ensures.items c.close.ensures.items c.in-Ok.ensures.moved

pub codes::renew_side-returns-in-Ok-clause-nodes : goal.codes::renew_side-returns-in-Ok-clause-nodes
codes::renew_side-returns-in-Ok-clause-nodes g t c =
    nodes_within c.args.vm.now.tree c.enters_body.new.vm.tree c.renew_below.new.vm.tree c.renew_below.new.vm.tree c.args.moved.now.items c.ask.new.self.items c.renew_below.new.moved.items c.close.new.self.items (stamp_of c.args.parent.now) (λ n. codes_nest n c.args.body.now) (λ n. codes_nest n c.renew_below.new.body)
    (refs_rooted c.args.vm.now c.enters_body.new.vm _ c.enters_body.ensures.counted.rest) c.ask.ensures.items c.in-Ok.ensures.nodes (roots_refl c.renew_below.new.vm.tree) c.close.ensures.items

pub codes::renew_side-returns-in-Ok-clause-asked : goal.codes::renew_side-returns-in-Ok-clause-asked
codes::renew_side-returns-in-Ok-clause-asked g t c =
    let p = path_step_view c.args.step ∷ trail_view c.args.trail.now in
    asks_entered c.args.app.now c.args.cells.now (λ n run. along_body_as by_number run c.args.left p (seen_codes n c.args.body.now)) (AsksIn c.args.left p (λ n. seen_codes n c.args.body.now)) (λ n. seen_codes n c.renew_below.new.body) c.args.vm.now c.enters_body.new.vm c.renew_below.new.vm
    c.args.moved.now.asked c.ask.new.self.asked c.renew_below.new.moved.asked c.close.new.self.asked c.mark-mark.result.asked c.mark-mark.result.evaluated
    c.in_ok-ask.ensures.asked c.mark-mark.ensures.asked c.mark-mark.ensures.evaluated c.close.ensures.asked c.enters_body.ensures.still (codes::renew_side-returns-in-Ok-clause-ok g t c) c.in-Ok.ensures.asked

pub codes::renew_side-returns-else-branch-clause-ok : goal.codes::renew_side-returns-else-branch-clause-ok
codes::renew_side-returns-else-branch-clause-ok g t c =
    region_passed few c.args.app.now c.args.cells.now p.Codes (λ n. positions_in (lives_of (seen_codes n c.args.body.now))) (λ n. seen_codes n c.args.body.now) (Below c.args.app.now c.args.cells.now c.args.left (path_step_view c.args.step ∷ trail_view c.args.trail.now) (path_step_view c.args.step ∷ trail_view c.args.trail.now) c.args.body.now)
    c.args.vm.now c.enters_body.new.vm (λ n u agrees. c.in_ok-enters_body.ensures.asked n u agrees ∙ c.if-branch.false) c.enters_body.ensures.still

pub codes::renew_side-returns-else-branch-clause-moved : goal.codes::renew_side-returns-else-branch-clause-moved
codes::renew_side-returns-else-branch-clause-moved g t c =
    body_counted c.args.moved.now c.ask.new.self c.ask.new.self c.ask.new.self (λ n. seen_codes n c.args.body.now) (λ n. seen_codes n c.args.body.now) c.ask.ensures.items refl (stays_moved c.ask.new.self (λ n. seen_codes n c.args.body.now))

pub codes::renew_side-returns-else-branch-clause-nodes : goal.codes::renew_side-returns-else-branch-clause-nodes
codes::renew_side-returns-else-branch-clause-nodes g t c =
    nodes_same c.args.vm.now.tree c.enters_body.new.vm.tree c.args.moved.now.items c.ask.new.self.items (stamp_of c.args.parent.now) (λ n. codes_nest n c.args.body.now) (refs_rooted c.args.vm.now c.enters_body.new.vm _ c.enters_body.ensures.counted.rest) c.ask.ensures.items

pub codes::renew_side-returns-else-branch-clause-asked : goal.codes::renew_side-returns-else-branch-clause-asked
codes::renew_side-returns-else-branch-clause-asked g t c =
    let p = path_step_view c.args.step ∷ trail_view c.args.trail.now in
    asks_over c.args.app.now c.args.cells.now (λ n run. along_body_as by_number run c.args.left p (seen_codes n c.args.body.now)) (AsksIn c.args.left p (λ n. seen_codes n c.args.body.now)) (λ n. seen_codes n c.args.body.now) c.args.vm.now c.enters_body.new.vm c.args.moved.now.asked c.ask.new.self.asked
    c.in_ok-ask.ensures.asked c.enters_body.ensures.counted.rest (codes::renew_side-returns-else-branch-clause-ok g t c)

pub along::walk_list-returns-in-Ok-clause-ok : goal.along::walk_list-returns-in-Ok-clause-ok
along::walk_list-returns-in-Ok-clause-ok g t c =
    let z : Tables → Listing = λ n. seen_listing n c.args.list.value.listing in
    let s = seen_spot c.args.list.value.spot in
    let p = trail_view c.args.trail.now in
    let xs : Tables → List Item = λ n. map (seen_item_code n) c.args.list.value.items.items in
    list_entered c.args.app.now c.args.cells.now z s c.args.left p xs c.args.vm.now c.ask_items.new.vm c.walk_entered.new.vm (λ n. seen_code n c.in-Ok.code.value) (λ n u agrees. c.in_ok-asked.ensures.asked n u agrees ∙ c.if-enters.true) c.ask_items.ensures.still
    (subst (λ (b : Box Listed Global). Renews c.args.app.now c.args.cells.now (EntersList (λ n. seen_listing n b.value.listing) (seen_spot b.value.spot) c.args.left p (λ n. map (seen_item_code n) b.value.items.items)) c.ask_items.new.vm (λ n. seen_code n c.in-Ok.code.value) c.walk_entered.new.vm) c.in_ok-asked.ensures.list c.in-Ok.ensures.ok)

pub along::walk_list-returns-in-Err-clause-fails : goal.along::walk_list-returns-in-Err-clause-fails
along::walk_list-returns-in-Err-clause-fails g t c =
    let z : Tables → Listing = λ n. seen_listing n c.args.list.value.listing in
    let s = seen_spot c.args.list.value.spot in
    let p = trail_view c.args.trail.now in
    let xs : Tables → List Item = λ n. map (seen_item_code n) c.args.list.value.items.items in
    list_fails c.args.app.now c.args.cells.now z s c.args.left p xs c.args.vm.now c.ask_items.new.vm c.in-Err.fault (λ n u agrees. c.in_ok-asked.ensures.asked n u agrees ∙ c.if-enters.true) c.ask_items.ensures.still
    (subst (λ (b : Box Listed Global). RenewFails {A = PlainCode} c.args.app.now c.args.cells.now (EntersList (λ n. seen_listing n b.value.listing) (seen_spot b.value.spot) c.args.left p (λ n. map (seen_item_code n) b.value.items.items)) c.ask_items.new.vm c.in-Err.fault) c.in_ok-asked.ensures.list c.in-Err.ensures.fails)

pub along::walk_list-returns-in-Ok-clause-moved : goal.along::walk_list-returns-in-Ok-clause-moved
along::walk_list-returns-in-Ok-clause-moved g t c =
    let l = c.args.list.value in
    code_counted c.args.moved.now c.ask_items.new.moved c.walk_entered.new.moved c.close.new.self (λ n. listed_code (seen_listing n l.listing) (seen_spot l.spot) (all_items (map (seen_item_code n) l.items.items))) (λ n. seen_code n c.in-Ok.code.value) c.ask_items.ensures.moved c.close.ensures.items
    (subst (λ (b : Box Listed Global). CodeMoved c.ask_items.new.moved c.walk_entered.new.moved (λ n. listed_code (seen_listing n b.value.listing) (seen_spot b.value.spot) (all_items (map (seen_item_code n) b.value.items.items))) (λ n. seen_code n c.in-Ok.code.value)) c.in_ok-asked.ensures.list c.in-Ok.ensures.moved)

pub along::walk_list-returns-in-Ok-clause-nodes : goal.along::walk_list-returns-in-Ok-clause-nodes
along::walk_list-returns-in-Ok-clause-nodes g t c =
    nodes_within c.args.vm.now.tree c.ask_items.new.vm.tree c.walk_entered.new.vm.tree c.walk_entered.new.vm.tree c.args.moved.now.items c.ask_items.new.moved.items c.walk_entered.new.moved.items c.close.new.self.items (stamp_of c.args.parent.now) (λ n. items_nest n c.args.list.value.items.items) (λ n. code_nest n c.in-Ok.code.value)
    (roots_same c.args.vm.now.tree c.ask_items.new.vm.tree c.in_ok-asked.ensures.tree) c.ask_items.ensures.moved
    (subst (λ (b : Box Listed Global). NodesRenewed c.ask_items.new.vm.tree c.walk_entered.new.vm.tree c.ask_items.new.moved.items c.walk_entered.new.moved.items (stamp_of c.args.parent.now) (λ n. items_nest n b.value.items.items) (λ n. code_nest n c.in-Ok.code.value)) c.in_ok-asked.ensures.list c.in-Ok.ensures.nodes)
    (roots_refl c.walk_entered.new.vm.tree) c.close.ensures.items

pub along::walk_list-returns-in-Ok-clause-asked : goal.along::walk_list-returns-in-Ok-clause-asked
along::walk_list-returns-in-Ok-clause-asked g t c =
    let z : Tables → Listing = λ n. seen_listing n c.args.list.value.listing in
    let s = seen_spot c.args.list.value.spot in
    let p = trail_view c.args.trail.now in
    let xs : Tables → List Item = λ n. map (seen_item_code n) c.args.list.value.items.items in
    let goes = list_entered c.args.app.now c.args.cells.now z s c.args.left p xs c.args.vm.now c.ask_items.new.vm c.walk_entered.new.vm (λ n. seen_code n c.in-Ok.code.value) (λ n u agrees. c.in_ok-asked.ensures.asked n u agrees ∙ c.if-enters.true) c.ask_items.ensures.still
    (subst (λ (b : Box Listed Global). Renews c.args.app.now c.args.cells.now (EntersList (λ n. seen_listing n b.value.listing) (seen_spot b.value.spot) c.args.left p (λ n. map (seen_item_code n) b.value.items.items)) c.ask_items.new.vm (λ n. seen_code n c.in-Ok.code.value) c.walk_entered.new.vm) c.in_ok-asked.ensures.list c.in-Ok.ensures.ok) in
    list_asks c.args.app.now c.args.cells.now z s c.args.left p xs c.args.vm.now c.ask_items.new.vm c.walk_entered.new.vm (λ n. seen_code n c.in-Ok.code.value) c.args.moved.now.asked c.ask_items.new.moved.asked c.walk_entered.new.moved.asked c.close.new.self.asked c.mark-mark.result.asked c.mark-mark.result.evaluated
    c.in_ok-asked.ensures.counted c.mark-mark.ensures.asked c.mark-mark.ensures.evaluated c.close.ensures.asked c.ask_items.ensures.still goes
    (subst (λ (b : Box Listed Global). Asks c.args.app.now c.args.cells.now (AsksItems c.args.left (items ∷ p) (λ n. map (seen_item_code n) b.value.items.items)) c.ask_items.new.vm c.ask_items.new.moved.asked c.walk_entered.new.moved.asked) c.in_ok-asked.ensures.list c.in-Ok.ensures.asked)

pub along::walk_list-returns-in_ok-with_items-clause-ok : goal.along::walk_list-returns-in_ok-with_items-clause-ok
along::walk_list-returns-in_ok-with_items-clause-ok g t c =
    let l = c.args.list.value in
    let made : (n : Tables) → seen_code n c.in_ok-with_items.field-0.value ≡ listed_code (seen_listing n l.listing) (seen_spot l.spot) (all_items (map (seen_item_code n) l.items.items)) =
    λ n. c.in_ok-with_items.ensures n ∙ ap (λ (b : Box Listed Global). listed_code (seen_listing n b.value.listing) (seen_spot b.value.spot) (all_items (map (seen_item_code n) b.value.items.items))) c.in_ok-asked.ensures.list in
    list_passed c.args.app.now c.args.cells.now (λ n. seen_listing n l.listing) (seen_spot l.spot) c.args.left (trail_view c.args.trail.now) (λ n. map (seen_item_code n) l.items.items) c.args.vm.now c.ask_items.new.vm (λ n. seen_code n c.in_ok-with_items.field-0.value) made
    (λ n u agrees. c.in_ok-asked.ensures.asked n u agrees ∙ c.if-enters.false) c.ask_items.ensures.still

pub along::walk_list-returns-in_ok-with_items-clause-moved : goal.along::walk_list-returns-in_ok-with_items-clause-moved
along::walk_list-returns-in_ok-with_items-clause-moved g t c =
    let l = c.args.list.value in
    let made : (n : Tables) → seen_code n c.in_ok-with_items.field-0.value ≡ listed_code (seen_listing n l.listing) (seen_spot l.spot) (all_items (map (seen_item_code n) l.items.items)) =
    λ n. c.in_ok-with_items.ensures n ∙ ap (λ (b : Box Listed Global). listed_code (seen_listing n b.value.listing) (seen_spot b.value.spot) (all_items (map (seen_item_code n) b.value.items.items))) c.in_ok-asked.ensures.list in
    code_counted c.args.moved.now c.args.moved.now c.args.moved.now c.ask_items.new.moved (λ n. listed_code (seen_listing n l.listing) (seen_spot l.spot) (all_items (map (seen_item_code n) l.items.items))) (λ n. seen_code n c.in_ok-with_items.field-0.value) refl c.ask_items.ensures.moved
    (list_stays c.args.moved.now (λ n. seen_listing n l.listing) (seen_spot l.spot) l.items.items (λ n. seen_code n c.in_ok-with_items.field-0.value) made)

pub along::walk_list-returns-in_ok-with_items-clause-nodes : goal.along::walk_list-returns-in_ok-with_items-clause-nodes
along::walk_list-returns-in_ok-with_items-clause-nodes g t c =
    let l = c.args.list.value in
    let made : (n : Tables) → seen_code n c.in_ok-with_items.field-0.value ≡ listed_code (seen_listing n l.listing) (seen_spot l.spot) (all_items (map (seen_item_code n) l.items.items)) =
    λ n. c.in_ok-with_items.ensures n ∙ ap (λ (b : Box Listed Global). listed_code (seen_listing n b.value.listing) (seen_spot b.value.spot) (all_items (map (seen_item_code n) b.value.items.items))) c.in_ok-asked.ensures.list in
    nodes_made c.args.vm.now.tree c.ask_items.new.vm.tree c.args.moved.now.items c.ask_items.new.moved.items (stamp_of c.args.parent.now) (λ n. items_nest n l.items.items) c.in_ok-with_items.field-0.value (λ n. listed_code (seen_listing n l.listing) (seen_spot l.spot) (all_items (map (seen_item_code n) l.items.items))) made
    (nodes_same c.args.vm.now.tree c.ask_items.new.vm.tree c.args.moved.now.items c.ask_items.new.moved.items (stamp_of c.args.parent.now) (λ n. items_nest n l.items.items) (roots_same c.args.vm.now.tree c.ask_items.new.vm.tree c.in_ok-asked.ensures.tree) c.ask_items.ensures.moved)

pub along::walk_list-returns-in_ok-with_items-clause-asked : goal.along::walk_list-returns-in_ok-with_items-clause-asked
along::walk_list-returns-in_ok-with_items-clause-asked g t c =
    let z : Tables → Listing = λ n. seen_listing n c.args.list.value.listing in
    let s = seen_spot c.args.list.value.spot in
    let p = trail_view c.args.trail.now in
    let xs : Tables → List Item = λ n. map (seen_item_code n) c.args.list.value.items.items in
    list_asks_one c.args.app.now c.args.cells.now z s c.args.left p xs c.args.vm.now c.args.moved.now.asked c.ask_items.new.moved.asked c.in_ok-asked.ensures.counted (λ n u agrees. c.in_ok-asked.ensures.asked n u agrees ∙ c.if-enters.false)

pub codes::renew_component-returns-clause-ok : goal.codes::renew_component-returns-clause-ok
codes::renew_component-returns-clause-ok g t c =
    on_ok_weaker c.renew_body.result
    (λ r i made gm args k q e. component_renews c.args.app.now c.args.cells.now c.args.left q i made gm args k (c.args.left - 1) (omega arith) (trail_view c.of-trail.result) (e ∙ sym c.of-trail.ensures) c.args.body.now c.renew_body.new.codes c.args.vm.now c.renew_body.new.vm r)
    c.renew_body.ensures.ok

pub codes::renew_component-returns-clause-fails : goal.codes::renew_component-returns-clause-fails
codes::renew_component-returns-clause-fails g t c = λ i made gm args k q e.
    if_err c.renew_body.result
    (λ f r. component_fails c.args.app.now c.args.cells.now c.args.left q i made gm args k (c.args.left - 1) (omega arith) (trail_view c.of-trail.result) (e ∙ sym c.of-trail.ensures) c.args.body.now c.args.vm.now f r)
    c.renew_body.ensures.fails

pub codes::renew_component-returns-clause-asked : goal.codes::renew_component-returns-clause-asked
codes::renew_component-returns-clause-asked g t c =
    on_ok_weaker c.renew_body.result
    (λ r i made gm args k q e. component_asks c.args.app.now c.args.cells.now c.args.left q i made gm args k (c.args.left - 1) (omega arith) (trail_view c.of-trail.result) (e ∙ sym c.of-trail.ensures) c.args.body.now c.args.vm.now c.args.moved.now.asked c.renew_body.new.moved.asked r)
    c.renew_body.ensures.asked

pub codes::renew_codes-loop-place-init : goal.codes::renew_codes-loop-place-init
codes::renew_codes-loop-place-init g t c = record {
  unvisited = search rules;
  trail = search rules;
  calm = c.requires.calm;
  walks = walks_begin c.args.app.now c.args.cells.now c.args.left (trail_view c.args.trail.now) c.args.codes.now c.deref_mut-code-items.result.now c.args.vm.now c.deref_mut-code-items.ensures.value;
  moved = walked_begin c.args.moved.now c.args.codes.now.list.items c.deref_mut-code-items.result.now;
  asks = asks_begin c.args.app.now c.args.cells.now c.args.left (trail_view c.args.trail.now) c.args.codes.now c.deref_mut-code-items.result.now c.args.vm.now c.args.moved.now.asked c.deref_mut-code-items.ensures.value;
  nodes = row_begin code_nest c.args.vm.now.tree c.args.moved.now.items (stamp_of c.args.parent.now) c.args.codes.now.list.items c.deref_mut-code-items.result.now;
}

pub codes::renew_codes-loop-place-preserved : goal.codes::renew_codes-loop-place-preserved
codes::renew_codes-loop-place-preserved g t c = record {
  unvisited = (
    length-set c.loop-place.code-items c.loop-place.place c.renew_code.new.code ∙ c.loop-place.invariant.unvisited.0,
    λ k d le. let ne : k ≢ c.loop-place.place = omega (arith, le) in
        get_or-set_other c.loop-place.code-items c.loop-place.place k c.renew_code.new.code d ne ∙ c.loop-place.invariant.unvisited.1 k d (omega (arith, le)),
  );
  trail = c.pop.ensures c.args.trail.now (at c.loop-place.place) (ap (λ x. x.base) c.in-Ok.ensures.trail ∙ (c.push.ensures.base ∙ ap (λ x. x.base) c.loop-place.invariant.trail))
      (ap (λ x. x.path.steps) c.in-Ok.ensures.trail ∙ (c.in_ok-push.ensures.steps ∙ ap (λ x. x.path.steps ++ at c.loop-place.place ∷ []) c.loop-place.invariant.trail));
  calm = c.in-Ok.ensures.calm;
  walks = walks_next c.args.app.now c.args.cells.now c.args.left (trail_view c.args.trail.now) c.loop-place.code-items c.loop-place.place c.code-item.result (let lt = c.loop-place-test.true in let e = c.loop-place.invariant.unvisited.0 in omega (arith, lt, e)) c.code-item.is (trail_view c.push.new.self)
      (c.in_ok-push.ensures.view ∙ ap (λ x. at c.loop-place.place ∷ trail_view x) c.loop-place.invariant.trail) c.args.codes.now c.args.vm.now c.loop-place.vm c.renew_code.new.vm c.renew_code.new.code c.loop-place.invariant.walks
      (subst (λ z. Renews c.args.app.now c.args.cells.now (One c.args.app.now c.args.cells.now c.args.left (trail_view c.args.trail.now) (trail_view c.push.new.self) z) c.loop-place.vm (λ n. seen_code n c.renew_code.new.code) c.renew_code.new.vm) (sym c.code-item.is) c.in-Ok.ensures.ok);
  moved = walked_next c.args.moved.now c.loop-place.moved c.renew_code.new.moved c.args.codes.now.list.items c.loop-place.code-items c.loop-place.place c.code-item.result c.renew_code.new.code
      (let lt = c.loop-place-test.true in let e = c.loop-place.invariant.unvisited.0 in omega (arith, lt, e))
      (c.loop-place.invariant.unvisited.0 ∙ ap length c.deref_mut-code-items.ensures.value)
      (c.code-item.is ∙ (c.loop-place.invariant.unvisited.1 c.loop-place.place c.code-item.result (omega arith) ∙ ap (λ xs. get_or xs c.loop-place.place c.code-item.result) c.deref_mut-code-items.ensures.value))
      c.loop-place.invariant.moved
      (subst (λ z. CodeMoved c.loop-place.moved c.renew_code.new.moved (λ n. seen_code n z) (λ n. seen_code n c.renew_code.new.code)) (sym c.code-item.is) c.in-Ok.ensures.moved);
  asks = asks_next c.args.app.now c.args.cells.now c.args.left (trail_view c.args.trail.now) c.loop-place.code-items c.loop-place.place c.code-item.result c.renew_code.new.code (let lt = c.loop-place-test.true in let e = c.loop-place.invariant.unvisited.0 in omega (arith, lt, e)) c.code-item.is (trail_view c.push.new.self)
      (c.in_ok-push.ensures.view ∙ ap (λ x. at c.loop-place.place ∷ trail_view x) c.loop-place.invariant.trail) c.args.codes.now c.args.vm.now c.loop-place.vm c.renew_code.new.vm c.args.moved.now.asked c.loop-place.moved.asked c.renew_code.new.moved.asked c.loop-place.invariant.asks
      (subst (λ z. Asks c.args.app.now c.args.cells.now (AsksCode c.args.left (trail_view c.push.new.self) (λ n. seen_code n z)) c.loop-place.vm c.loop-place.moved.asked c.renew_code.new.moved.asked) (sym c.code-item.is) c.in-Ok.ensures.asked)
      (subst (λ z. Renews c.args.app.now c.args.cells.now (One c.args.app.now c.args.cells.now c.args.left (trail_view c.args.trail.now) (trail_view c.push.new.self) z) c.loop-place.vm (λ n. seen_code n c.renew_code.new.code) c.renew_code.new.vm) (sym c.code-item.is) c.in-Ok.ensures.ok);
  nodes = row_next code_nest c.args.vm.now.tree c.loop-place.vm.tree c.renew_code.new.vm.tree c.args.moved.now.items c.loop-place.moved.items c.renew_code.new.moved.items (stamp_of c.args.parent.now) c.args.codes.now.list.items c.loop-place.code-items c.loop-place.place c.code-item.result c.renew_code.new.code
      (let lt = c.loop-place-test.true in let e = c.loop-place.invariant.unvisited.0 in omega (arith, lt, e))
      (c.loop-place.invariant.unvisited.0 ∙ ap length c.deref_mut-code-items.ensures.value)
      (c.code-item.is ∙ (c.loop-place.invariant.unvisited.1 c.loop-place.place c.code-item.result (omega arith) ∙ ap (λ xs. get_or xs c.loop-place.place c.code-item.result) c.deref_mut-code-items.ensures.value))
      c.loop-place.invariant.nodes
      (subst (λ z. NodesRenewed c.loop-place.vm.tree c.renew_code.new.vm.tree c.loop-place.moved.items c.renew_code.new.moved.items (stamp_of c.args.parent.now) (λ n. code_nest n z) (λ n. code_nest n c.renew_code.new.code)) (sym c.code-item.is) c.in-Ok.ensures.nodes);
}

pub codes::renew_codes-returns-in-Err-clause-fails : goal.codes::renew_codes-returns-in-Err-clause-fails
codes::renew_codes-returns-in-Err-clause-fails g t c =
    walks_fail c.args.app.now c.args.cells.now c.args.left (trail_view c.args.trail.now) c.loop-place.code-items c.loop-place.place c.code-item.result (let lt = c.loop-place-test.true in let e = c.loop-place.invariant.unvisited.0 in omega (arith, lt, e)) c.code-item.is (trail_view c.push.new.self)
    (c.in_ok-push.ensures.view ∙ ap (λ x. at c.loop-place.place ∷ trail_view x) c.loop-place.invariant.trail) c.args.codes.now c.args.vm.now c.loop-place.vm c.in-Err.fault c.loop-place.invariant.walks
    (subst (λ z. RenewFails c.args.app.now c.args.cells.now (One c.args.app.now c.args.cells.now c.args.left (trail_view c.args.trail.now) (trail_view c.push.new.self) z) c.loop-place.vm c.in-Err.fault) (sym c.code-item.is) c.in-Err.ensures.fails)

pub codes::renew_codes-returns-clause-ok : goal.codes::renew_codes-returns-clause-ok
codes::renew_codes-returns-clause-ok g t c =
    walks_end c.args.app.now c.args.cells.now c.args.left (trail_view c.args.trail.now) c.args.codes.now _ c.args.vm.now c.loop-place.vm c.loop-place.code-items c.loop-place.place
    (let le = c.loop-place-test.false in let e = c.loop-place.invariant.unvisited.0 in omega (arith, le, e)) c.loop-place.invariant.walks
    (written c.loop-place.code-items (drop (length c.loop-place.code-items) c.args.codes.now.list.items) c.args.codes.now.list.len
    (c.args.codes.now.list.ok.0 ∙ (ap length (sym c.deref_mut-code-items.ensures.value) ∙ sym c.loop-place.invariant.unvisited.0)))

pub codes::renew_codes-returns-clause-moved : goal.codes::renew_codes-returns-clause-moved
codes::renew_codes-returns-clause-moved g t c =
    walked_end c.args.moved.now c.loop-place.moved c.args.codes.now _ c.loop-place.code-items c.loop-place.place
    (c.loop-place.invariant.unvisited.0 ∙ ap length c.deref_mut-code-items.ensures.value)
    (let le = c.loop-place-test.false in let e = c.loop-place.invariant.unvisited.0 in omega (arith, le, e))
    (written c.loop-place.code-items (drop (length c.loop-place.code-items) c.args.codes.now.list.items) c.args.codes.now.list.len
    (c.args.codes.now.list.ok.0 ∙ (ap length (sym c.deref_mut-code-items.ensures.value) ∙ sym c.loop-place.invariant.unvisited.0)))
    c.loop-place.invariant.moved

pub codes::renew_codes-returns-clause-nodes : goal.codes::renew_codes-returns-clause-nodes
codes::renew_codes-returns-clause-nodes g t c =
    body_renewed c.args.vm.now.tree c.loop-place.vm.tree c.args.moved.now.items c.loop-place.moved.items (stamp_of c.args.parent.now) c.args.codes.now _
    (row_end code_nest c.args.vm.now.tree c.loop-place.vm.tree c.args.moved.now.items c.loop-place.moved.items (stamp_of c.args.parent.now) c.args.codes.now.list.items _ c.loop-place.code-items c.loop-place.place
    (c.loop-place.invariant.unvisited.0 ∙ ap length c.deref_mut-code-items.ensures.value)
    (let le = c.loop-place-test.false in let e = c.loop-place.invariant.unvisited.0 in omega (arith, le, e))
    (written c.loop-place.code-items (drop (length c.loop-place.code-items) c.args.codes.now.list.items) c.args.codes.now.list.len
    (c.args.codes.now.list.ok.0 ∙ (ap length (sym c.deref_mut-code-items.ensures.value) ∙ sym c.loop-place.invariant.unvisited.0)))
    c.loop-place.invariant.nodes)

pub codes::renew_codes-returns-clause-asked : goal.codes::renew_codes-returns-clause-asked
codes::renew_codes-returns-clause-asked g t c =
    asks_end c.args.app.now c.args.cells.now c.args.left (trail_view c.args.trail.now) c.args.codes.now c.args.vm.now c.loop-place.vm c.args.moved.now.asked c.loop-place.moved.asked c.loop-place.code-items c.loop-place.place
    (let le = c.loop-place-test.false in let e = c.loop-place.invariant.unvisited.0 in omega (arith, le, e)) c.loop-place.invariant.asks

pub branches::renew_branch-returns-then-shows-main-clause-moved : goal.branches::renew_branch-returns-then-shows-main-clause-moved
branches::renew_branch-returns-then-shows-main-clause-moved g t c =
    let z : Tables → p.Choice = λ n. seen_choice n c.args.choice.now in
    let xs : Tables → p.Codes = λ n. seen_codes n c.args.body.now in
    let ys : Tables → p.Codes = λ n. seen_codes n c.renew_side.new.body in
    on_ok_weaker c.renew_side.result
    (λ r. same_moved c.args.moved.now c.renew_side.new.moved z z (seen_spot c.args.spot.now) c.args.main.now (stamp_of c.args.comment.now) (stamp_of c.args.comment.now) xs ys (body_counted c.args.moved.now c.ask.new.self c.renew_side.new.moved c.renew_side.new.moved xs ys c.ask.ensures.items refl r))
    c.renew_side.ensures.moved

pub branches::renew_branch-returns-then-shows-main-clause-nodes : goal.branches::renew_branch-returns-then-shows-main-clause-nodes
branches::renew_branch-returns-then-shows-main-clause-nodes g t c =
    let k : Tables → Nest ℕ = λ n. nest_comment (stamp_of c.args.comment.now) in
    let x : Tables → Nest ℕ = λ n. codes_nest n c.args.body.now in
    let y : Tables → Nest ℕ = λ n. codes_nest n c.renew_side.new.body in
    on_ok_weaker c.renew_side.result
    (λ r. nodes_after c.args.vm.now.tree c.condition.new.vm.tree c.renew_side.new.vm.tree c.args.moved.now.items c.ask.new.self.items c.renew_side.new.moved.items (stamp_of c.args.parent.now) (λ n. joined (x n) (k n)) (λ n. joined (y n) (k n))
    (roots_same c.args.vm.now.tree c.condition.new.vm.tree c.in_ok-shows.ensures.tree) c.ask.ensures.items
    (nodes_beside c.condition.new.vm.tree c.renew_side.new.vm.tree c.ask.new.self.items c.renew_side.new.moved.items (stamp_of c.args.parent.now) x y k r))
    c.renew_side.ensures.nodes

pub branches::renew_branch-returns-else-shows-main-clause-moved : goal.branches::renew_branch-returns-else-shows-main-clause-moved
branches::renew_branch-returns-else-shows-main-clause-moved g t c =
    let z : Tables → p.Choice = λ n. seen_choice n c.args.choice.now in
    let s = seen_spot c.args.spot.now in
    let was : Tables → p.Code = λ n. p.branch_code (z n) s c.args.main.now (stamp_of c.args.comment.now) (seen_codes n c.args.body.now) in
    let is : Tables → p.Code = λ n. p.branch_code (z n) s c.in_ok-shows.shows (stamp_of c.flip.new.comment) (seen_codes n c.flip.new.body) in
    let ne : c.in_ok-shows.shows ≢ c.args.main.now = (sides_differ c.in_ok-shows.shows c.args.main.now c.if-shows-main.false) in
    on_ok_always c.flip.result
    (code_counted c.args.moved.now c.ask.new.self c.ask.new.self c.ask.new.self was is c.ask.ensures.items refl
    (flip_moved c.ask.new.self z z s c.in_ok-shows.shows c.args.main.now (stamp_of c.args.comment.now) (stamp_of c.flip.new.comment) (λ n. seen_codes n c.args.body.now) (λ n. seen_codes n c.flip.new.body) ne))

pub branches::renew_branch-returns-else-shows-main-clause-nodes : goal.branches::renew_branch-returns-else-shows-main-clause-nodes
branches::renew_branch-returns-else-shows-main-clause-nodes g t c =
    let x : Tables → Nest ℕ = λ n. body_nest n c.args.body.now c.args.comment.now in
    let y : Tables → Nest ℕ = λ n. body_nest n c.flip.new.body c.flip.new.comment in
    on_ok_two c.flip.result
    (λ r s. nodes_after c.args.vm.now.tree c.condition.new.vm.tree c.flip.new.vm.tree c.args.moved.now.items c.ask.new.self.items c.ask.new.self.items (stamp_of c.args.parent.now) x y
    (roots_same c.args.vm.now.tree c.condition.new.vm.tree c.in_ok-shows.ensures.tree) c.ask.ensures.items
    (nodes_replaced c.condition.new.vm.tree c.flip.new.vm.tree c.ask.new.self.items c.ask.new.self.items (stamp_of c.args.parent.now) x y r s refl))
    c.flip.ensures.nodes c.flip.ensures.moves

pub branches::renew_branch-returns-then-shows-main-clause-ok : goal.branches::renew_branch-returns-then-shows-main-clause-ok
branches::renew_branch-returns-then-shows-main-clause-ok g t c =
    let b = c.args.main.now in
    let e : c.in_ok-shows.shows ≡ b = (booleans_Decides c.in_ok-shows.shows b).0 c.if-shows-main.true in
    on_ok_weaker c.renew_side.result
    (λ r. branch_kept c.args.app.now c.args.cells.now c.args.left (trail_view c.args.trail.now) (λ n. seen_choice n c.args.choice.now) (seen_spot c.args.spot.now) (stamp_of c.args.comment.now) (λ n. seen_codes n c.args.body.now) b c.args.vm.now c.condition.new.vm c.renew_side.new.vm (λ n. seen_codes n c.renew_side.new.body)
    c.in_ok-shows.ensures.step (λ n u. c.in_ok-shows.ensures.shows n u ∙ e)
    (subst (λ q. Renews c.args.app.now c.args.cells.now (λ n run. along_body_as by_number run c.args.left (q ∷ trail_view c.args.trail.now) (seen_codes n c.args.body.now)) c.condition.new.vm (λ n. seen_codes n c.renew_side.new.body) c.renew_side.new.vm)
    (c.side.ensures ∙ ap (λ z. if z then main else otherwise) e) r))
    c.renew_side.ensures.ok

pub branches::renew_branch-returns-then-shows-main-clause-fails : goal.branches::renew_branch-returns-then-shows-main-clause-fails
branches::renew_branch-returns-then-shows-main-clause-fails g t c =
    let b = c.args.main.now in
    let e : c.in_ok-shows.shows ≡ b = (booleans_Decides c.in_ok-shows.shows b).0 c.if-shows-main.true in
    if_err c.renew_side.result
    (λ f r. branch_kept_fails c.args.app.now c.args.cells.now c.args.left (trail_view c.args.trail.now) (λ n. seen_choice n c.args.choice.now) (seen_spot c.args.spot.now) (stamp_of c.args.comment.now) (λ n. seen_codes n c.args.body.now) b c.args.vm.now c.condition.new.vm f
    c.in_ok-shows.ensures.step (λ n u. c.in_ok-shows.ensures.shows n u ∙ e)
    (subst (λ q. RenewFails {A = p.Codes} c.args.app.now c.args.cells.now (λ n run. along_body_as by_number run c.args.left (q ∷ trail_view c.args.trail.now) (seen_codes n c.args.body.now)) c.condition.new.vm f)
    (c.side.ensures ∙ ap (λ z. if z then main else otherwise) e) r))
    c.renew_side.ensures.fails

pub branches::renew_branch-returns-then-shows-main-clause-asked : goal.branches::renew_branch-returns-then-shows-main-clause-asked
branches::renew_branch-returns-then-shows-main-clause-asked g t c =
    let b = c.args.main.now in
    let e : c.in_ok-shows.shows ≡ b = (booleans_Decides c.in_ok-shows.shows b).0 c.if-shows-main.true in
    on_ok_weaker c.renew_side.result
    (λ r. branch_asks c.args.app.now c.args.cells.now c.args.left (trail_view c.args.trail.now) (λ n. seen_choice n c.args.choice.now) (seen_spot c.args.spot.now) (stamp_of c.args.comment.now) (λ n. seen_codes n c.args.body.now) b c.args.vm.now c.condition.new.vm c.args.moved.now.asked c.ask.new.self.asked c.renew_side.new.moved.asked
    c.in_ok-ask.ensures.asked c.in_ok-shows.ensures.step (λ n u. c.in_ok-shows.ensures.shows n u ∙ e)
    (subst (λ q. Asks c.args.app.now c.args.cells.now (AsksBody c.args.left (q ∷ trail_view c.args.trail.now) (λ n. seen_codes n c.args.body.now)) c.condition.new.vm c.ask.new.self.asked c.renew_side.new.moved.asked)
    (c.side.ensures ∙ ap (λ z. if z then main else otherwise) e) r))
    c.renew_side.ensures.asked

pub branches::renew_branch-returns-else-shows-main-clause-ok : goal.branches::renew_branch-returns-else-shows-main-clause-ok
branches::renew_branch-returns-else-shows-main-clause-ok g t c =
    let s = seen_spot c.args.spot.now in
    let ne : c.in_ok-shows.shows ≢ c.args.main.now = (sides_differ c.in_ok-shows.shows c.args.main.now c.if-shows-main.false) in
    on_ok_weaker c.flip.result
    (λ r. branch_flips c.args.app.now c.args.cells.now c.args.left (trail_view c.args.trail.now) (λ n. seen_choice n c.args.choice.now) s (stamp_of c.args.comment.now) (λ n. seen_codes n c.args.body.now) c.in_ok-shows.shows c.args.main.now c.args.vm.now c.condition.new.vm c.flip.new.vm
    (λ n. p.branch_code (seen_choice n c.args.choice.now) s c.in_ok-shows.shows (stamp_of c.flip.new.comment) (seen_codes n c.flip.new.body)) ne c.in_ok-shows.ensures.step c.in_ok-shows.ensures.shows (r s))
    c.flip.ensures.ok

pub branches::renew_branch-returns-else-shows-main-clause-fails : goal.branches::renew_branch-returns-else-shows-main-clause-fails
branches::renew_branch-returns-else-shows-main-clause-fails g t c =
    let s = seen_spot c.args.spot.now in
    let ne : c.in_ok-shows.shows ≢ c.args.main.now = (sides_differ c.in_ok-shows.shows c.args.main.now c.if-shows-main.false) in
    if_err c.flip.result
    (λ f r. branch_flip_fails c.args.app.now c.args.cells.now c.args.left (trail_view c.args.trail.now) (λ n. seen_choice n c.args.choice.now) s (stamp_of c.args.comment.now) (λ n. seen_codes n c.args.body.now) c.in_ok-shows.shows c.args.main.now c.args.vm.now c.condition.new.vm f
    ne c.in_ok-shows.ensures.step c.in_ok-shows.ensures.shows r)
    (c.flip.ensures.fails s)

pub branches::renew_branch-returns-else-shows-main-clause-asked : goal.branches::renew_branch-returns-else-shows-main-clause-asked
branches::renew_branch-returns-else-shows-main-clause-asked g t c =
    let ne : c.in_ok-shows.shows ≢ c.args.main.now = (sides_differ c.in_ok-shows.shows c.args.main.now c.if-shows-main.false) in
    on_ok_always c.flip.result
    (flip_asks c.args.app.now c.args.cells.now c.args.left (trail_view c.args.trail.now) (λ n. seen_choice n c.args.choice.now) (seen_spot c.args.spot.now) (stamp_of c.args.comment.now) (λ n. seen_codes n c.args.body.now) c.in_ok-shows.shows c.args.main.now c.args.vm.now c.condition.new.vm c.args.moved.now.asked c.ask.new.self.asked
    c.in_ok-ask.ensures.asked ne c.in_ok-shows.ensures.step c.in_ok-shows.ensures.shows)

pub codes::renew_code-returns-in-Still-clause-ok : goal.codes::renew_code-returns-in-Still-clause-ok
codes::renew_code-returns-in-Still-clause-ok g t c =
    let k : Tables → p.Code = λ n. p.still_code c.in-Still.node.1 in
    arm c.args.app.now c.args.cells.now c.args.left (trail_view c.args.trail.now) c.args.code.now c.args.code.now k k c.args.vm.now c.args.vm.now (λ n. ap (seen_code n) c.in-Still.is ∙ still_is n c.in-Still.node) (λ n. ap (seen_code n) c.in-Still.is ∙ still_is n c.in-Still.node) (renews_still c.args.app.now c.args.cells.now k c.args.vm.now)

pub codes::renew_code-returns-in-Let-clause-ok : goal.codes::renew_code-returns-in-Let-clause-ok
codes::renew_code-returns-in-Let-clause-ok g t c =
    let k : Tables → p.Codes → p.Code = λ n cs. p.let_code (refs_made c.in-Let.made) (stamps c.in-Let.params) cs in
    let held : OnOk c.renew_let.result (Renews c.args.app.now c.args.cells.now (λ n run. along_codes_as by_number run c.args.left (main ∷ trail_view c.args.trail.now) 0 (seen_codes n c.in-Let.body)) c.args.vm.now (λ n. seen_codes n c.renew_let.new.body) c.renew_let.new.vm) =
    subst (λ z. OnOk c.renew_let.result (Renews c.args.app.now c.args.cells.now (λ n run. along_codes_as by_number run c.args.left (main ∷ trail_view c.args.trail.now) 0 (seen_codes n z)) c.args.vm.now (λ n. seen_codes n c.renew_let.new.body) c.renew_let.new.vm)) c.in-Let.body-is c.renew_let.ensures.ok in
    on_ok_weaker c.renew_let.result
    (λ r. arm c.args.app.now c.args.cells.now c.args.left (trail_view c.args.trail.now) c.args.code.now _ (λ n. k n (seen_codes n c.in-Let.body)) (λ n. k n (seen_codes n c.renew_let.new.body)) c.args.vm.now c.renew_let.new.vm (λ n. ap (seen_code n) c.in-Let.is ∙ let_is n c.in-Let.made c.in-Let.params c.in-Let.body) (λ n. search (rules, the_lemmas))
    (renews_in c.args.app.now c.args.cells.now (λ n run. along_codes_as by_number run c.args.left (main ∷ trail_view c.args.trail.now) 0 (seen_codes n c.in-Let.body)) k (λ n. seen_codes n c.renew_let.new.body) c.args.vm.now c.renew_let.new.vm r))
    held

pub codes::renew_code-returns-in-Let-clause-fails : goal.codes::renew_code-returns-in-Let-clause-fails
codes::renew_code-returns-in-Let-clause-fails g t c =
    let k : Tables → p.Codes → p.Code = λ n cs. p.let_code (refs_made c.in-Let.made) (stamps c.in-Let.params) cs in
    let held : IfErr c.renew_let.result (RenewFails {A = p.Codes} c.args.app.now c.args.cells.now (λ n run. along_codes_as by_number run c.args.left (main ∷ trail_view c.args.trail.now) 0 (seen_codes n c.in-Let.body)) c.args.vm.now) =
    subst (λ z. IfErr c.renew_let.result (RenewFails {A = p.Codes} c.args.app.now c.args.cells.now (λ n run. along_codes_as by_number run c.args.left (main ∷ trail_view c.args.trail.now) 0 (seen_codes n z)) c.args.vm.now)) c.in-Let.body-is c.renew_let.ensures.fails in
    if_err c.renew_let.result
    (λ f r. arm_fails c.args.app.now c.args.cells.now c.args.left (trail_view c.args.trail.now) c.args.code.now (λ n. k n (seen_codes n c.in-Let.body)) c.args.vm.now f (λ n. ap (seen_code n) c.in-Let.is ∙ let_is n c.in-Let.made c.in-Let.params c.in-Let.body)
    (fails_in c.args.app.now c.args.cells.now (λ n run. along_codes_as by_number run c.args.left (main ∷ trail_view c.args.trail.now) 0 (seen_codes n c.in-Let.body)) k (λ n st. st) c.args.vm.now f r))
    held

pub codes::renew_code-returns-in-Component-clause-ok : goal.codes::renew_code-returns-in-Component-clause-ok
codes::renew_code-returns-in-Component-clause-ok g t c =
    let k : Tables → p.Codes → p.Code = λ m cs. p.component_code (seen_owner m c.in-Component.owner.value) (ids.instance_id (seen_owner m c.in-Component.owner.value).id ∷ ((ids.block_id c.in-Component.block.1 ∷ refs_made c.in-Component.made) ++ refs_made c.in-Component.owner.value.cells)) (ids.block_id c.in-Component.block.1 ∷ refs_made c.in-Component.made) (name_stamps c.in-Component.args.value) (Some c.in-Component.block.1) cs in
    let held : OnOk c.renew_component.result ((i : Inst) (made gm : List ids.Id) (args : Names) (k : Option ℕ) (q : Path) → i.path ≡ path_view c.deref.result.now.path → Renews c.args.app.now c.args.cells.now (λ n run. along_code_as by_number run c.args.left q (p.component_code i made gm args k (seen_codes n c.in-Component.body))) c.args.vm.now (λ n. p.component_code i made gm args k (seen_codes n c.renew_component.new.body)) c.renew_component.new.vm) = subst (λ z. OnOk c.renew_component.result ((i : Inst) (made gm : List ids.Id) (args : Names) (k : Option ℕ) (q : Path) → i.path ≡ path_view c.deref.result.now.path → Renews c.args.app.now c.args.cells.now (λ n run. along_code_as by_number run c.args.left q (p.component_code i made gm args k (seen_codes n z))) c.args.vm.now (λ n. p.component_code i made gm args k (seen_codes n c.renew_component.new.body)) c.renew_component.new.vm)) c.in-Component.body-is c.renew_component.ensures.ok in
    on_ok_weaker c.renew_component.result
    (λ r. arm c.args.app.now c.args.cells.now c.args.left (trail_view c.args.trail.now) c.args.code.now _ (λ n. k n (seen_codes n c.in-Component.body)) (λ n. k n (seen_codes n c.renew_component.new.body)) c.args.vm.now c.renew_component.new.vm (λ n. ap (seen_code n) c.in-Component.is ∙ component_is n c.in-Component.owner c.in-Component.block c.in-Component.made c.in-Component.args c.in-Component.body) (λ n. search (rules, the_lemmas))
    (renews_at c.args.app.now c.args.cells.now (λ m n run. along_code_as by_number run c.args.left (trail_view c.args.trail.now) (k m (seen_codes n c.in-Component.body))) (λ m n. k m (seen_codes n c.renew_component.new.body)) c.args.vm.now c.renew_component.new.vm
    (λ m. r (seen_owner m c.in-Component.owner.value) (ids.instance_id (seen_owner m c.in-Component.owner.value).id ∷ ((ids.block_id c.in-Component.block.1 ∷ refs_made c.in-Component.made) ++ refs_made c.in-Component.owner.value.cells)) (ids.block_id c.in-Component.block.1 ∷ refs_made c.in-Component.made) (name_stamps c.in-Component.args.value) (Some c.in-Component.block.1) (trail_view c.args.trail.now) (ap (λ (o : Owner). path_view o.path) (ap (λ z. z.value) (sym c.in-Component.owner-is) ∙ sym c.deref.ensures)))))
    held

pub codes::renew_code-returns-in-Component-clause-fails : goal.codes::renew_code-returns-in-Component-clause-fails
codes::renew_code-returns-in-Component-clause-fails g t c =
    let k : Tables → p.Codes → p.Code = λ m cs. p.component_code (seen_owner m c.in-Component.owner.value) (ids.instance_id (seen_owner m c.in-Component.owner.value).id ∷ ((ids.block_id c.in-Component.block.1 ∷ refs_made c.in-Component.made) ++ refs_made c.in-Component.owner.value.cells)) (ids.block_id c.in-Component.block.1 ∷ refs_made c.in-Component.made) (name_stamps c.in-Component.args.value) (Some c.in-Component.block.1) cs in
    let held : (i : Inst) (made gm : List ids.Id) (args : Names) (k : Option ℕ) (q : Path) → i.path ≡ path_view c.deref.result.now.path → IfErr c.renew_component.result (RenewFails {A = p.Code} c.args.app.now c.args.cells.now (λ n run. along_code_as by_number run c.args.left q (p.component_code i made gm args k (seen_codes n c.in-Component.body))) c.args.vm.now) = subst (λ z. (i : Inst) (made gm : List ids.Id) (args : Names) (k : Option ℕ) (q : Path) → i.path ≡ path_view c.deref.result.now.path → IfErr c.renew_component.result (RenewFails {A = p.Code} c.args.app.now c.args.cells.now (λ n run. along_code_as by_number run c.args.left q (p.component_code i made gm args k (seen_codes n z))) c.args.vm.now)) c.in-Component.body-is c.renew_component.ensures.fails in
    if_err_all c.renew_component.result
    (λ f r. arm_fails c.args.app.now c.args.cells.now c.args.left (trail_view c.args.trail.now) c.args.code.now (λ n. k n (seen_codes n c.in-Component.body)) c.args.vm.now f (λ n. ap (seen_code n) c.in-Component.is ∙ component_is n c.in-Component.owner c.in-Component.block c.in-Component.made c.in-Component.args c.in-Component.body)
    (fails_at c.args.app.now c.args.cells.now (λ m n run. along_code_as by_number run c.args.left (trail_view c.args.trail.now) (k m (seen_codes n c.in-Component.body))) c.args.vm.now f r))
    (λ m. held (seen_owner m c.in-Component.owner.value) (ids.instance_id (seen_owner m c.in-Component.owner.value).id ∷ ((ids.block_id c.in-Component.block.1 ∷ refs_made c.in-Component.made) ++ refs_made c.in-Component.owner.value.cells)) (ids.block_id c.in-Component.block.1 ∷ refs_made c.in-Component.made) (name_stamps c.in-Component.args.value) (Some c.in-Component.block.1) (trail_view c.args.trail.now) (ap (λ (o : Owner). path_view o.path) (ap (λ z. z.value) (sym c.in-Component.owner-is) ∙ sym c.deref.ensures)))

pub codes::renew_code-returns-in_ok-renew_text-in-Put-clause-ok : goal.codes::renew_code-returns-in_ok-renew_text-in-Put-clause-ok
codes::renew_code-returns-in_ok-renew_text-in-Put-clause-ok g t c =
    let k : Tables → p.Code = λ n. p.put_code c.in-Put.node.1 (seen_spot c.in-Put.spot) in
    arm c.args.app.now c.args.cells.now c.args.left (trail_view c.args.trail.now) c.args.code.now _ k k c.args.vm.now c.renew_text.new.vm (λ n. ap (seen_code n) c.in-Put.is ∙ put_is n c.in-Put.node c.in-Put.spot) (λ n. search (rules, the_lemmas))
    (renews_by c.args.app.now c.args.cells.now (λ n. renew_text c.in-Put.node.1 c.in-Put.spot.id.1) k c.args.vm.now c.renew_text.new.vm
    (moved2 (λ (y : Id) (z : Spot). Does (λ n. renew_text y.1 z.id.1) c.args.vm.now c.renew_text.new.vm) c.in-Put.node-is c.in-Put.spot-is c.in_ok-renew_text-in-Put.ensures.step))

pub codes::renew_code-returns-in-Element-clause-ok : goal.codes::renew_code-returns-in-Element-clause-ok
codes::renew_code-returns-in-Element-clause-ok g t c =
    let k : Tables → p.Codes → p.Code = λ n cs. p.element_code c.in-Element.node.1 (refs_made c.in-Element.made) (map seen_attr_spot c.in-Element.attrs.items) (map seen_mod_spot c.in-Element.mods.items) cs in
    on_ok_weaker c.renew_element.result
    (λ r. arm c.args.app.now c.args.cells.now c.args.left (trail_view c.args.trail.now) c.args.code.now _ (λ n. k n (seen_codes n c.in-Element.body)) (λ n. k n (seen_codes n c.renew_element.new.body)) c.args.vm.now c.renew_element.new.vm (λ n. ap (seen_code n) c.in-Element.is ∙ element_is n c.in-Element.node c.in-Element.made c.in-Element.attrs c.in-Element.mods c.in-Element.body) (λ n. search (rules, the_lemmas)) (r (refs_made c.in-Element.made)))
    (moved4 (λ (y : Id) (xs : Vec AttrSpot Global) (zs : Vec ModSpot Global) (b : Codes). OnOk c.renew_element.result ((made : List ids.Id) → Renews c.args.app.now c.args.cells.now (λ n run. along_code_as by_number run c.args.left (trail_view c.args.trail.now) (p.element_code y.1 made (map seen_attr_spot xs.items) (map seen_mod_spot zs.items) (seen_codes n b))) c.args.vm.now (λ n. (p.element_code y.1 made (map seen_attr_spot xs.items) (map seen_mod_spot zs.items) (seen_codes n c.renew_element.new.body))) c.renew_element.new.vm)) c.in-Element.node-is c.in-Element.attrs-is c.in-Element.mods-is c.in-Element.body-is c.renew_element.ensures.ok)

pub codes::renew_code-returns-in-Element-clause-fails : goal.codes::renew_code-returns-in-Element-clause-fails
codes::renew_code-returns-in-Element-clause-fails g t c =
    let k : Tables → p.Codes → p.Code = λ n cs. p.element_code c.in-Element.node.1 (refs_made c.in-Element.made) (map seen_attr_spot c.in-Element.attrs.items) (map seen_mod_spot c.in-Element.mods.items) cs in
    if_err c.renew_element.result
    (λ f r. arm_fails c.args.app.now c.args.cells.now c.args.left (trail_view c.args.trail.now) c.args.code.now (λ n. k n (seen_codes n c.in-Element.body)) c.args.vm.now f (λ n. ap (seen_code n) c.in-Element.is ∙ element_is n c.in-Element.node c.in-Element.made c.in-Element.attrs c.in-Element.mods c.in-Element.body) r)
    (moved4 (λ (y : Id) (xs : Vec AttrSpot Global) (zs : Vec ModSpot Global) (b : Codes). (made : List ids.Id) → IfErr c.renew_element.result (RenewFails {A = p.Code} c.args.app.now c.args.cells.now (λ n run. along_code_as by_number run c.args.left (trail_view c.args.trail.now) (p.element_code y.1 made (map seen_attr_spot xs.items) (map seen_mod_spot zs.items) (seen_codes n b))) c.args.vm.now)) c.in-Element.node-is c.in-Element.attrs-is c.in-Element.mods-is c.in-Element.body-is c.renew_element.ensures.fails (refs_made c.in-Element.made))

pub codes::renew_code-returns-in-Branch-clause-ok : goal.codes::renew_code-returns-in-Branch-clause-ok
codes::renew_code-returns-in-Branch-clause-ok g t c =
    on_ok_weaker c.renew_branch.result
    (λ r. arm c.args.app.now c.args.cells.now c.args.left (trail_view c.args.trail.now) c.args.code.now _ (λ n. p.branch_code (seen_choice n c.in-Branch.choice) (seen_spot c.in-Branch.spot) c.in-Branch.main (stamp_of c.in-Branch.comment) (seen_codes n c.in-Branch.body))
    (λ n. p.branch_code (seen_choice n c.in-Branch.choice) (seen_spot c.in-Branch.spot) c.renew_branch.new.main (stamp_of c.renew_branch.new.comment) (seen_codes n c.renew_branch.new.body)) c.args.vm.now c.renew_branch.new.vm (λ n. ap (seen_code n) c.in-Branch.is ∙ branch_is n c.in-Branch.choice c.in-Branch.spot c.in-Branch.main c.in-Branch.comment c.in-Branch.body) (λ n. search (rules, the_lemmas)) r)
    (moved5 (λ (z : Choice) (x : Spot) (u : Bool) (k : Option Id) (b : Codes). OnOk c.renew_branch.result (Renews c.args.app.now c.args.cells.now (λ n run. along_code_as by_number run c.args.left (trail_view c.args.trail.now) (p.branch_code (seen_choice n z) (seen_spot x) u (stamp_of k) (seen_codes n b))) c.args.vm.now (λ n. p.branch_code (seen_choice n z) (seen_spot x) c.renew_branch.new.main (stamp_of c.renew_branch.new.comment) (seen_codes n c.renew_branch.new.body)) c.renew_branch.new.vm)) c.in-Branch.choice-is c.in-Branch.spot-is c.in-Branch.main-is c.in-Branch.comment-is c.in-Branch.body-is c.renew_branch.ensures.ok)

pub codes::renew_code-returns-in-Branch-clause-fails : goal.codes::renew_code-returns-in-Branch-clause-fails
codes::renew_code-returns-in-Branch-clause-fails g t c =
    if_err c.renew_branch.result
    (λ f r. arm_fails c.args.app.now c.args.cells.now c.args.left (trail_view c.args.trail.now) c.args.code.now (λ n. p.branch_code (seen_choice n c.in-Branch.choice) (seen_spot c.in-Branch.spot) c.in-Branch.main (stamp_of c.in-Branch.comment) (seen_codes n c.in-Branch.body)) c.args.vm.now f (λ n. ap (seen_code n) c.in-Branch.is ∙ branch_is n c.in-Branch.choice c.in-Branch.spot c.in-Branch.main c.in-Branch.comment c.in-Branch.body) r)
    (moved5 (λ (z : Choice) (x : Spot) (u : Bool) (k : Option Id) (b : Codes). IfErr c.renew_branch.result (RenewFails {A = p.Code} c.args.app.now c.args.cells.now (λ n run. along_code_as by_number run c.args.left (trail_view c.args.trail.now) (p.branch_code (seen_choice n z) (seen_spot x) u (stamp_of k) (seen_codes n b))) c.args.vm.now)) c.in-Branch.choice-is c.in-Branch.spot-is c.in-Branch.main-is c.in-Branch.comment-is c.in-Branch.body-is c.renew_branch.ensures.fails)

pub codes::renew_code-returns-in-Yield-clause-ok : goal.codes::renew_code-returns-in-Yield-clause-ok
codes::renew_code-returns-in-Yield-clause-ok g t c =
    let k : Tables → p.Codes → p.Code = λ n cs. p.yield_code c.in-Yield.name (refs_made c.in-Yield.made) (stamps c.in-Yield.params) cs in
    on_ok_weaker c.renew_yield.result
    (λ r. arm c.args.app.now c.args.cells.now c.args.left (trail_view c.args.trail.now) c.args.code.now _ (λ n. k n (seen_codes n c.in-Yield.body)) (λ n. k n (seen_codes n c.renew_yield.new.body)) c.args.vm.now c.renew_yield.new.vm (λ n. ap (seen_code n) c.in-Yield.is ∙ yield_is n c.in-Yield.name c.in-Yield.made c.in-Yield.params c.in-Yield.body) (λ n. search (rules, the_lemmas))
    (renews_in c.args.app.now c.args.cells.now (λ n run. along_codes_as by_number run c.args.left (slot c.in-Yield.name ∷ trail_view c.args.trail.now) 0 (seen_codes n c.in-Yield.body)) k (λ n. seen_codes n c.renew_yield.new.body) c.args.vm.now c.renew_yield.new.vm r))
    (moved2 (λ (y : Text) (b : Codes). OnOk c.renew_yield.result (Renews c.args.app.now c.args.cells.now (λ n run. along_codes_as by_number run c.args.left (slot y ∷ trail_view c.args.trail.now) 0 (seen_codes n b)) c.args.vm.now (λ n. seen_codes n c.renew_yield.new.body) c.renew_yield.new.vm)) c.in-Yield.name-is c.in-Yield.body-is c.renew_yield.ensures.ok)

pub codes::renew_code-returns-in-Yield-clause-fails : goal.codes::renew_code-returns-in-Yield-clause-fails
codes::renew_code-returns-in-Yield-clause-fails g t c =
    let k : Tables → p.Codes → p.Code = λ n cs. p.yield_code c.in-Yield.name (refs_made c.in-Yield.made) (stamps c.in-Yield.params) cs in
    if_err c.renew_yield.result
    (λ f r. arm_fails c.args.app.now c.args.cells.now c.args.left (trail_view c.args.trail.now) c.args.code.now (λ n. k n (seen_codes n c.in-Yield.body)) c.args.vm.now f (λ n. ap (seen_code n) c.in-Yield.is ∙ yield_is n c.in-Yield.name c.in-Yield.made c.in-Yield.params c.in-Yield.body) (fails_in c.args.app.now c.args.cells.now (λ n run. along_codes_as by_number run c.args.left (slot c.in-Yield.name ∷ trail_view c.args.trail.now) 0 (seen_codes n c.in-Yield.body)) k (λ n st. st) c.args.vm.now f r))
    (moved2 (λ (y : Text) (b : Codes). IfErr c.renew_yield.result (RenewFails {A = p.Codes} c.args.app.now c.args.cells.now (λ n run. along_codes_as by_number run c.args.left (slot y ∷ trail_view c.args.trail.now) 0 (seen_codes n b)) c.args.vm.now)) c.in-Yield.name-is c.in-Yield.body-is c.renew_yield.ensures.fails)

-- what was moved

pub codes::renew_code-returns-in-Still-clause-moved : goal.codes::renew_code-returns-in-Still-clause-moved
codes::renew_code-returns-in-Still-clause-moved g t c =
    let k : Tables → p.Code = λ n. p.still_code c.in-Still.node.1 in
    arm_moved c.args.moved.now c.args.moved.now c.args.code.now c.args.code.now k k (λ n. ap (seen_code n) c.in-Still.is ∙ still_is n c.in-Still.node) (λ n. ap (seen_code n) c.in-Still.is ∙ still_is n c.in-Still.node)
    (none_moved c.args.moved.now k k (λ n. refl))

pub codes::renew_code-returns-in-Still-clause-nodes : goal.codes::renew_code-returns-in-Still-clause-nodes
codes::renew_code-returns-in-Still-clause-nodes g t c =
    let k : Tables → p.Code = λ n. p.still_code c.in-Still.node.1 in
    nodes_arm c.args.vm.now.tree c.args.vm.now.tree c.args.moved.now.items c.args.moved.now.items (stamp_of c.args.parent.now) c.args.code.now c.args.code.now k k (λ n. ap (seen_code n) c.in-Still.is ∙ still_is n c.in-Still.node) (λ n. ap (seen_code n) c.in-Still.is ∙ still_is n c.in-Still.node)
    (nodes_same c.args.vm.now.tree c.args.vm.now.tree c.args.moved.now.items c.args.moved.now.items (stamp_of c.args.parent.now) (λ n. leaf c.in-Still.node.1) (roots_refl c.args.vm.now.tree) refl)

pub codes::renew_code-returns-in_ok-renew_text-in-Put-clause-moved : goal.codes::renew_code-returns-in_ok-renew_text-in-Put-clause-moved
codes::renew_code-returns-in_ok-renew_text-in-Put-clause-moved g t c =
    let k : Tables → p.Code = λ n. p.put_code c.in-Put.node.1 (seen_spot c.in-Put.spot) in
    arm_moved c.args.moved.now c.ask.new.self c.args.code.now _ k k (λ n. ap (seen_code n) c.in-Put.is ∙ put_is n c.in-Put.node c.in-Put.spot) (λ n. search (rules, the_lemmas))
    (code_counted c.args.moved.now c.ask.new.self c.ask.new.self c.ask.new.self k k c.ask.ensures.items refl (none_moved c.ask.new.self k k (λ n. refl)))

pub codes::renew_code-returns-in_ok-renew_text-in-Put-clause-nodes : goal.codes::renew_code-returns-in_ok-renew_text-in-Put-clause-nodes
codes::renew_code-returns-in_ok-renew_text-in-Put-clause-nodes g t c =
    let k : Tables → p.Code = λ n. p.put_code c.in-Put.node.1 (seen_spot c.in-Put.spot) in
    nodes_arm c.args.vm.now.tree c.renew_text.new.vm.tree c.args.moved.now.items c.ask.new.self.items (stamp_of c.args.parent.now) c.args.code.now _ k k (λ n. ap (seen_code n) c.in-Put.is ∙ put_is n c.in-Put.node c.in-Put.spot) (λ n. search (rules, the_lemmas))
    (nodes_same c.args.vm.now.tree c.renew_text.new.vm.tree c.args.moved.now.items c.ask.new.self.items (stamp_of c.args.parent.now) (λ n. leaf c.in-Put.node.1) c.in_ok-renew_text-in-Put.ensures.roots c.ask.ensures.items)

pub codes::renew_code-returns-in-Let-clause-moved : goal.codes::renew_code-returns-in-Let-clause-moved
codes::renew_code-returns-in-Let-clause-moved g t c =
    let k : Tables → p.Codes → p.Code = λ n cs. p.let_code (refs_made c.in-Let.made) (stamps c.in-Let.params) cs in
    let held : OnOk c.renew_let.result (CodesMoved c.args.moved.now c.renew_let.new.moved (λ n. seen_codes n c.in-Let.body) (λ n. seen_codes n c.renew_let.new.body)) =
    subst (λ z. OnOk c.renew_let.result (CodesMoved c.args.moved.now c.renew_let.new.moved (λ n. seen_codes n z) (λ n. seen_codes n c.renew_let.new.body))) c.in-Let.body-is c.renew_let.ensures.moved in
    on_ok_weaker c.renew_let.result
    (λ r. arm_moved c.args.moved.now c.renew_let.new.moved c.args.code.now _ (λ n. k n (seen_codes n c.in-Let.body)) (λ n. k n (seen_codes n c.renew_let.new.body)) (λ n. ap (seen_code n) c.in-Let.is ∙ let_is n c.in-Let.made c.in-Let.params c.in-Let.body) (λ n. search (rules, the_lemmas)) r)
    held

pub codes::renew_code-returns-in-Let-clause-nodes : goal.codes::renew_code-returns-in-Let-clause-nodes
codes::renew_code-returns-in-Let-clause-nodes g t c =
    let k : Tables → p.Codes → p.Code = λ n cs. p.let_code (refs_made c.in-Let.made) (stamps c.in-Let.params) cs in
    let b = c.args.moved.now.items in
    let a = c.renew_let.new.moved.items in
    let held : OnOk c.renew_let.result (NodesRenewed c.args.vm.now.tree c.renew_let.new.vm.tree b a (stamp_of c.args.parent.now) (λ n. codes_nest n c.in-Let.body) (λ n. codes_nest n c.renew_let.new.body)) =
    subst (λ z. OnOk c.renew_let.result (NodesRenewed c.args.vm.now.tree c.renew_let.new.vm.tree b a (stamp_of c.args.parent.now) (λ n. codes_nest n z) (λ n. codes_nest n c.renew_let.new.body))) c.in-Let.body-is c.renew_let.ensures.nodes in
    on_ok_weaker c.renew_let.result
    (λ r. nodes_arm c.args.vm.now.tree c.renew_let.new.vm.tree b a (stamp_of c.args.parent.now) c.args.code.now _ (λ n. k n (seen_codes n c.in-Let.body)) (λ n. k n (seen_codes n c.renew_let.new.body)) (λ n. ap (seen_code n) c.in-Let.is ∙ let_is n c.in-Let.made c.in-Let.params c.in-Let.body) (λ n. search (rules, the_lemmas)) r)
    held

pub codes::renew_code-returns-in-Yield-clause-moved : goal.codes::renew_code-returns-in-Yield-clause-moved
codes::renew_code-returns-in-Yield-clause-moved g t c =
    let k : Tables → p.Codes → p.Code = λ n cs. p.yield_code c.in-Yield.name (refs_made c.in-Yield.made) (stamps c.in-Yield.params) cs in
    let m = c.args.moved.now in
    let m2 = c.renew_yield.new.moved in
    let held : OnOk c.renew_yield.result (CodesMoved m m2 (λ n. seen_codes n c.in-Yield.body) (λ n. seen_codes n c.renew_yield.new.body)) =
    subst (λ z. OnOk c.renew_yield.result (CodesMoved m m2 (λ n. seen_codes n z) (λ n. seen_codes n c.renew_yield.new.body))) c.in-Yield.body-is c.renew_yield.ensures.moved in
    on_ok_weaker c.renew_yield.result
    (λ r. arm_moved m m2 c.args.code.now _ (λ n. k n (seen_codes n c.in-Yield.body)) (λ n. k n (seen_codes n c.renew_yield.new.body)) (λ n. ap (seen_code n) c.in-Yield.is ∙ yield_is n c.in-Yield.name c.in-Yield.made c.in-Yield.params c.in-Yield.body) (λ n. search (rules, the_lemmas)) r)
    held

pub codes::renew_code-returns-in-Yield-clause-nodes : goal.codes::renew_code-returns-in-Yield-clause-nodes
codes::renew_code-returns-in-Yield-clause-nodes g t c =
    let k : Tables → p.Codes → p.Code = λ n cs. p.yield_code c.in-Yield.name (refs_made c.in-Yield.made) (stamps c.in-Yield.params) cs in
    let b = c.args.moved.now.items in
    let a = c.renew_yield.new.moved.items in
    let held : OnOk c.renew_yield.result (NodesRenewed c.args.vm.now.tree c.renew_yield.new.vm.tree b a (stamp_of c.args.parent.now) (λ n. codes_nest n c.in-Yield.body) (λ n. codes_nest n c.renew_yield.new.body)) =
    subst (λ z. OnOk c.renew_yield.result (NodesRenewed c.args.vm.now.tree c.renew_yield.new.vm.tree b a (stamp_of c.args.parent.now) (λ n. codes_nest n z) (λ n. codes_nest n c.renew_yield.new.body))) c.in-Yield.body-is c.renew_yield.ensures.nodes in
    on_ok_weaker c.renew_yield.result
    (λ r. nodes_arm c.args.vm.now.tree c.renew_yield.new.vm.tree b a (stamp_of c.args.parent.now) c.args.code.now _ (λ n. k n (seen_codes n c.in-Yield.body)) (λ n. k n (seen_codes n c.renew_yield.new.body)) (λ n. ap (seen_code n) c.in-Yield.is ∙ yield_is n c.in-Yield.name c.in-Yield.made c.in-Yield.params c.in-Yield.body) (λ n. search (rules, the_lemmas)) r)
    held

pub codes::renew_code-returns-in-Component-clause-moved : goal.codes::renew_code-returns-in-Component-clause-moved
codes::renew_code-returns-in-Component-clause-moved g t c =
    let k : Tables → p.Codes → p.Code = λ m cs. p.component_code (seen_owner m c.in-Component.owner.value) (ids.instance_id (seen_owner m c.in-Component.owner.value).id ∷ ((ids.block_id c.in-Component.block.1 ∷ refs_made c.in-Component.made) ++ refs_made c.in-Component.owner.value.cells)) (ids.block_id c.in-Component.block.1 ∷ refs_made c.in-Component.made) (name_stamps c.in-Component.args.value) (Some c.in-Component.block.1) cs in
    let m = c.args.moved.now in
    let m2 = c.renew_component.new.moved in
    let held : OnOk c.renew_component.result (CodesMoved m m2 (λ n. seen_codes n c.in-Component.body) (λ n. seen_codes n c.renew_component.new.body)) =
    subst (λ z. OnOk c.renew_component.result (CodesMoved m m2 (λ n. seen_codes n z) (λ n. seen_codes n c.renew_component.new.body))) c.in-Component.body-is c.renew_component.ensures.moved in
    on_ok_weaker c.renew_component.result
    (λ r. arm_moved m m2 c.args.code.now _ (λ n. k n (seen_codes n c.in-Component.body)) (λ n. k n (seen_codes n c.renew_component.new.body)) (λ n. ap (seen_code n) c.in-Component.is ∙ component_is n c.in-Component.owner c.in-Component.block c.in-Component.made c.in-Component.args c.in-Component.body) (λ n. search (rules, the_lemmas)) r)
    held

pub codes::renew_code-returns-in-Component-clause-nodes : goal.codes::renew_code-returns-in-Component-clause-nodes
codes::renew_code-returns-in-Component-clause-nodes g t c =
    let k : Tables → p.Codes → p.Code = λ m cs. p.component_code (seen_owner m c.in-Component.owner.value) (ids.instance_id (seen_owner m c.in-Component.owner.value).id ∷ ((ids.block_id c.in-Component.block.1 ∷ refs_made c.in-Component.made) ++ refs_made c.in-Component.owner.value.cells)) (ids.block_id c.in-Component.block.1 ∷ refs_made c.in-Component.made) (name_stamps c.in-Component.args.value) (Some c.in-Component.block.1) cs in
    let b = c.args.moved.now.items in
    let a = c.renew_component.new.moved.items in
    let held : OnOk c.renew_component.result (NodesRenewed c.args.vm.now.tree c.renew_component.new.vm.tree b a (stamp_of c.args.parent.now) (λ n. codes_nest n c.in-Component.body) (λ n. codes_nest n c.renew_component.new.body)) =
    subst (λ z. OnOk c.renew_component.result (NodesRenewed c.args.vm.now.tree c.renew_component.new.vm.tree b a (stamp_of c.args.parent.now) (λ n. codes_nest n z) (λ n. codes_nest n c.renew_component.new.body))) c.in-Component.body-is c.renew_component.ensures.nodes in
    on_ok_weaker c.renew_component.result
    (λ r. nodes_arm c.args.vm.now.tree c.renew_component.new.vm.tree b a (stamp_of c.args.parent.now) c.args.code.now _ (λ n. k n (seen_codes n c.in-Component.body)) (λ n. k n (seen_codes n c.renew_component.new.body)) (λ n. ap (seen_code n) c.in-Component.is ∙ component_is n c.in-Component.owner c.in-Component.block c.in-Component.made c.in-Component.args c.in-Component.body) (λ n. search (rules, the_lemmas)) r)
    held

pub codes::renew_code-returns-in-Element-clause-moved : goal.codes::renew_code-returns-in-Element-clause-moved
codes::renew_code-returns-in-Element-clause-moved g t c =
    let k : Tables → p.Codes → p.Code = λ n cs. p.element_code c.in-Element.node.1 (refs_made c.in-Element.made) (map seen_attr_spot c.in-Element.attrs.items) (map seen_mod_spot c.in-Element.mods.items) cs in
    let m = c.args.moved.now in
    let m2 = c.renew_element.new.moved in
    let held : OnOk c.renew_element.result (CodesMoved m m2 (λ n. seen_codes n c.in-Element.body) (λ n. seen_codes n c.renew_element.new.body)) =
    subst (λ z. OnOk c.renew_element.result (CodesMoved m m2 (λ n. seen_codes n z) (λ n. seen_codes n c.renew_element.new.body))) c.in-Element.body-is c.renew_element.ensures.moved in
    on_ok_weaker c.renew_element.result
    (λ r. arm_moved m m2 c.args.code.now _ (λ n. k n (seen_codes n c.in-Element.body)) (λ n. k n (seen_codes n c.renew_element.new.body)) (λ n. ap (seen_code n) c.in-Element.is ∙ element_is n c.in-Element.node c.in-Element.made c.in-Element.attrs c.in-Element.mods c.in-Element.body) (λ n. search (rules, the_lemmas)) r)
    held

pub codes::renew_code-returns-in-Element-clause-nodes : goal.codes::renew_code-returns-in-Element-clause-nodes
codes::renew_code-returns-in-Element-clause-nodes g t c =
    let k : Tables → p.Codes → p.Code = λ n cs. p.element_code c.in-Element.node.1 (refs_made c.in-Element.made) (map seen_attr_spot c.in-Element.attrs.items) (map seen_mod_spot c.in-Element.mods.items) cs in
    let b = c.args.moved.now.items in
    let a = c.renew_element.new.moved.items in
    on_ok_weaker c.renew_element.result
    (λ r. nodes_arm c.args.vm.now.tree c.renew_element.new.vm.tree b a (stamp_of c.args.parent.now) c.args.code.now _ (λ n. k n (seen_codes n c.in-Element.body)) (λ n. k n (seen_codes n c.renew_element.new.body)) (λ n. ap (seen_code n) c.in-Element.is ∙ element_is n c.in-Element.node c.in-Element.made c.in-Element.attrs c.in-Element.mods c.in-Element.body) (λ n. search (rules, the_lemmas)) (r (stamp_of c.args.parent.now)))
    (moved2 (λ (y : Id) (z : Codes). OnOk c.renew_element.result ((q : Option ℕ) → NodesRenewed c.args.vm.now.tree c.renew_element.new.vm.tree b a q (λ n. nested y.1 (codes_nest n z) end) (λ n. nested y.1 (codes_nest n c.renew_element.new.body) end))) c.in-Element.node-is c.in-Element.body-is c.renew_element.ensures.nodes)

pub codes::renew_code-returns-in-Branch-clause-moved : goal.codes::renew_code-returns-in-Branch-clause-moved
codes::renew_code-returns-in-Branch-clause-moved g t c =
    let m = c.args.moved.now in
    let m2 = c.renew_branch.new.moved in
    on_ok_weaker c.renew_branch.result
    (λ r. arm_moved m m2 c.args.code.now _ (λ n. p.branch_code (seen_choice n c.in-Branch.choice) (seen_spot c.in-Branch.spot) c.in-Branch.main (stamp_of c.in-Branch.comment) (seen_codes n c.in-Branch.body))
    (λ n. p.branch_code (seen_choice n c.in-Branch.choice) (seen_spot c.in-Branch.spot) c.renew_branch.new.main (stamp_of c.renew_branch.new.comment) (seen_codes n c.renew_branch.new.body)) (λ n. ap (seen_code n) c.in-Branch.is ∙ branch_is n c.in-Branch.choice c.in-Branch.spot c.in-Branch.main c.in-Branch.comment c.in-Branch.body) (λ n. search (rules, the_lemmas)) r)
    (moved5 (λ (z : Choice) (x : Spot) (u : Bool) (k : Option Id) (b : Codes). OnOk c.renew_branch.result (CodeMoved m m2 (λ n. p.branch_code (seen_choice n z) (seen_spot x) u (stamp_of k) (seen_codes n b)) (λ n. p.branch_code (seen_choice n z) (seen_spot x) c.renew_branch.new.main (stamp_of c.renew_branch.new.comment) (seen_codes n c.renew_branch.new.body)))) c.in-Branch.choice-is c.in-Branch.spot-is c.in-Branch.main-is c.in-Branch.comment-is c.in-Branch.body-is c.renew_branch.ensures.moved)

pub codes::renew_code-returns-in-Branch-clause-nodes : goal.codes::renew_code-returns-in-Branch-clause-nodes
codes::renew_code-returns-in-Branch-clause-nodes g t c =
    let b = c.args.moved.now.items in
    let a = c.renew_branch.new.moved.items in
    on_ok_weaker c.renew_branch.result
    (λ r. nodes_arm c.args.vm.now.tree c.renew_branch.new.vm.tree b a (stamp_of c.args.parent.now) c.args.code.now _ (λ n. p.branch_code (seen_choice n c.in-Branch.choice) (seen_spot c.in-Branch.spot) c.in-Branch.main (stamp_of c.in-Branch.comment) (seen_codes n c.in-Branch.body))
    (λ n. p.branch_code (seen_choice n c.in-Branch.choice) (seen_spot c.in-Branch.spot) c.renew_branch.new.main (stamp_of c.renew_branch.new.comment) (seen_codes n c.renew_branch.new.body)) (λ n. ap (seen_code n) c.in-Branch.is ∙ branch_is n c.in-Branch.choice c.in-Branch.spot c.in-Branch.main c.in-Branch.comment c.in-Branch.body) (λ n. search (rules, the_lemmas)) r)
    (moved2 (λ (k : Option Id) (z : Codes). OnOk c.renew_branch.result (NodesRenewed c.args.vm.now.tree c.renew_branch.new.vm.tree b a (stamp_of c.args.parent.now) (λ n. body_nest n z k) (λ n. body_nest n c.renew_branch.new.body c.renew_branch.new.comment))) c.in-Branch.comment-is c.in-Branch.body-is c.renew_branch.ensures.nodes)

pub codes::renew_code-returns-in-Still-clause-asked : goal.codes::renew_code-returns-in-Still-clause-asked
codes::renew_code-returns-in-Still-clause-asked g t c =
    arm_asks c.args.app.now c.args.cells.now c.args.left (trail_view c.args.trail.now) c.args.code.now (λ n. p.still_code c.in-Still.node.1) c.args.vm.now c.args.moved.now.asked c.args.moved.now.asked (λ n. ap (seen_code n) c.in-Still.is ∙ still_is n c.in-Still.node)
    (asks_just c.args.app.now c.args.cells.now 0 c.args.vm.now c.args.moved.now.asked c.args.moved.now.asked (omega arith))

pub codes::renew_code-returns-in_ok-renew_text-in-Put-clause-asked : goal.codes::renew_code-returns-in_ok-renew_text-in-Put-clause-asked
codes::renew_code-returns-in_ok-renew_text-in-Put-clause-asked g t c =
    arm_asks c.args.app.now c.args.cells.now c.args.left (trail_view c.args.trail.now) c.args.code.now (λ n. p.put_code c.in-Put.node.1 (seen_spot c.in-Put.spot)) c.args.vm.now c.args.moved.now.asked c.ask.new.self.asked (λ n. ap (seen_code n) c.in-Put.is ∙ put_is n c.in-Put.node c.in-Put.spot)
    (asks_just c.args.app.now c.args.cells.now 1 c.args.vm.now c.args.moved.now.asked c.ask.new.self.asked c.in_ok-ask-in-Put.ensures.asked)

pub codes::renew_code-returns-in-Let-clause-asked : goal.codes::renew_code-returns-in-Let-clause-asked
codes::renew_code-returns-in-Let-clause-asked g t c =
    let m = c.renew_let.new.moved.asked in
    on_ok_weaker c.renew_let.result
    (arm_asks c.args.app.now c.args.cells.now c.args.left (trail_view c.args.trail.now) c.args.code.now (λ n. p.let_code (refs_made c.in-Let.made) (stamps c.in-Let.params) (seen_codes n c.in-Let.body)) c.args.vm.now c.args.moved.now.asked m (λ n. ap (seen_code n) c.in-Let.is ∙ let_is n c.in-Let.made c.in-Let.params c.in-Let.body))
    (subst (λ z. OnOk c.renew_let.result (Asks c.args.app.now c.args.cells.now (AsksIn c.args.left (main ∷ trail_view c.args.trail.now) (λ n. seen_codes n z)) c.args.vm.now c.args.moved.now.asked m)) c.in-Let.body-is c.renew_let.ensures.asked)

pub codes::renew_code-returns-in-Yield-clause-asked : goal.codes::renew_code-returns-in-Yield-clause-asked
codes::renew_code-returns-in-Yield-clause-asked g t c =
    let m = c.renew_yield.new.moved.asked in
    on_ok_weaker c.renew_yield.result
    (arm_asks c.args.app.now c.args.cells.now c.args.left (trail_view c.args.trail.now) c.args.code.now (λ n. p.yield_code c.in-Yield.name (refs_made c.in-Yield.made) (stamps c.in-Yield.params) (seen_codes n c.in-Yield.body)) c.args.vm.now c.args.moved.now.asked m (λ n. ap (seen_code n) c.in-Yield.is ∙ yield_is n c.in-Yield.name c.in-Yield.made c.in-Yield.params c.in-Yield.body))
    (moved2 (λ (y : Text) (b : Codes). OnOk c.renew_yield.result (Asks c.args.app.now c.args.cells.now (AsksIn c.args.left (slot y ∷ trail_view c.args.trail.now) (λ n. seen_codes n b)) c.args.vm.now c.args.moved.now.asked m)) c.in-Yield.name-is c.in-Yield.body-is c.renew_yield.ensures.asked)

pub codes::renew_code-returns-in-Component-clause-asked : goal.codes::renew_code-returns-in-Component-clause-asked
codes::renew_code-returns-in-Component-clause-asked g t c =
    let k : Tables → p.Codes → p.Code = λ m cs. p.component_code (seen_owner m c.in-Component.owner.value) (ids.instance_id (seen_owner m c.in-Component.owner.value).id ∷ ((ids.block_id c.in-Component.block.1 ∷ refs_made c.in-Component.made) ++ refs_made c.in-Component.owner.value.cells)) (ids.block_id c.in-Component.block.1 ∷ refs_made c.in-Component.made) (name_stamps c.in-Component.args.value) (Some c.in-Component.block.1) cs in
    let q = trail_view c.args.trail.now in
    let asked = c.renew_component.new.moved.asked in
    let held : OnOk c.renew_component.result ((i : Inst) (made gm : List ids.Id) (args : Names) (k : Option ℕ) (q : Path) → i.path ≡ path_view c.deref.result.now.path → Asks c.args.app.now c.args.cells.now (AsksCode c.args.left q (λ n. p.component_code i made gm args k (seen_codes n c.in-Component.body))) c.args.vm.now c.args.moved.now.asked asked) =
    subst (λ z. OnOk c.renew_component.result ((i : Inst) (made gm : List ids.Id) (args : Names) (k : Option ℕ) (q : Path) → i.path ≡ path_view c.deref.result.now.path → Asks c.args.app.now c.args.cells.now (AsksCode c.args.left q (λ n. p.component_code i made gm args k (seen_codes n z))) c.args.vm.now c.args.moved.now.asked asked)) c.in-Component.body-is c.renew_component.ensures.asked in
    on_ok_weaker c.renew_component.result
    (λ r. arm_asks c.args.app.now c.args.cells.now c.args.left (trail_view c.args.trail.now) c.args.code.now (λ n. k n (seen_codes n c.in-Component.body)) c.args.vm.now c.args.moved.now.asked asked (λ n. ap (seen_code n) c.in-Component.is ∙ component_is n c.in-Component.owner c.in-Component.block c.in-Component.made c.in-Component.args c.in-Component.body)
    (asks_at c.args.app.now c.args.cells.now (λ m. AsksCode c.args.left q (λ n. k m (seen_codes n c.in-Component.body))) c.args.vm.now c.args.moved.now.asked asked
    (λ m. r (seen_owner m c.in-Component.owner.value) (ids.instance_id (seen_owner m c.in-Component.owner.value).id ∷ ((ids.block_id c.in-Component.block.1 ∷ refs_made c.in-Component.made) ++ refs_made c.in-Component.owner.value.cells)) (ids.block_id c.in-Component.block.1 ∷ refs_made c.in-Component.made) (name_stamps c.in-Component.args.value) (Some c.in-Component.block.1) q (ap (λ (o : Owner). path_view o.path) (ap (λ z. z.value) (sym c.in-Component.owner-is) ∙ sym c.deref.ensures)))))
    held

pub codes::renew_code-returns-in-Element-clause-asked : goal.codes::renew_code-returns-in-Element-clause-asked
codes::renew_code-returns-in-Element-clause-asked g t c =
    let m = c.renew_element.new.moved.asked in
    on_ok_weaker c.renew_element.result
    (λ r. arm_asks c.args.app.now c.args.cells.now c.args.left (trail_view c.args.trail.now) c.args.code.now (λ n. p.element_code c.in-Element.node.1 (refs_made c.in-Element.made) (map seen_attr_spot c.in-Element.attrs.items) (map seen_mod_spot c.in-Element.mods.items) (seen_codes n c.in-Element.body)) c.args.vm.now c.args.moved.now.asked m (λ n. ap (seen_code n) c.in-Element.is ∙ element_is n c.in-Element.node c.in-Element.made c.in-Element.attrs c.in-Element.mods c.in-Element.body) (r (refs_made c.in-Element.made)))
    (moved4 (λ (y : Id) (xs : Vec AttrSpot Global) (zs : Vec ModSpot Global) (b : Codes). OnOk c.renew_element.result ((made : List ids.Id) → Asks c.args.app.now c.args.cells.now (AsksCode c.args.left (trail_view c.args.trail.now) (λ n. p.element_code y.1 made (map seen_attr_spot xs.items) (map seen_mod_spot zs.items) (seen_codes n b))) c.args.vm.now c.args.moved.now.asked m)) c.in-Element.node-is c.in-Element.attrs-is c.in-Element.mods-is c.in-Element.body-is c.renew_element.ensures.asked)

pub codes::renew_code-returns-in-Branch-clause-asked : goal.codes::renew_code-returns-in-Branch-clause-asked
codes::renew_code-returns-in-Branch-clause-asked g t c =
    let m = c.renew_branch.new.moved.asked in
    on_ok_weaker c.renew_branch.result
    (arm_asks c.args.app.now c.args.cells.now c.args.left (trail_view c.args.trail.now) c.args.code.now (λ n. p.branch_code (seen_choice n c.in-Branch.choice) (seen_spot c.in-Branch.spot) c.in-Branch.main (stamp_of c.in-Branch.comment) (seen_codes n c.in-Branch.body)) c.args.vm.now c.args.moved.now.asked m (λ n. ap (seen_code n) c.in-Branch.is ∙ branch_is n c.in-Branch.choice c.in-Branch.spot c.in-Branch.main c.in-Branch.comment c.in-Branch.body))
    (moved5 (λ (z : Choice) (x : Spot) (u : Bool) (k : Option Id) (b : Codes). OnOk c.renew_branch.result (Asks c.args.app.now c.args.cells.now (AsksCode c.args.left (trail_view c.args.trail.now) (λ n. p.branch_code (seen_choice n z) (seen_spot x) u (stamp_of k) (seen_codes n b))) c.args.vm.now c.args.moved.now.asked m)) c.in-Branch.choice-is c.in-Branch.spot-is c.in-Branch.main-is c.in-Branch.comment-is c.in-Branch.body-is c.renew_branch.ensures.asked)

-- the list that is there

pub lists::renew_list-returns-in-Ok-clause-moved : goal.lists::renew_list-returns-in-Ok-clause-moved
lists::renew_list-returns-in-Ok-clause-moved g t c =
    let l = c.in-Items.list.value.listing in
    let s = c.in-Items.list.value.spot in
    let xs = c.in-Items.list.value.items in
    code_counted c.args.moved.now c.ask.new.self c.renew_listed.new.moved c.renew_listed.new.moved (λ n. seen_code n c.args.code.now) (λ n. seen_code n c.put_list.new.code) c.ask.ensures.items refl
    (arm_moved c.ask.new.self c.renew_listed.new.moved c.args.code.now c.put_list.new.code (λ n. listed_code (seen_listing n l) (seen_spot s) (all_items (map (seen_item_code n) xs.items))) (λ n. seen_code n c.in-Ok.new.value)
    (subst (TakenOut c.args.code.now) c.in-Items.is c.in_ok-list.ensures) (λ n. ap (seen_code n) c.put_list.ensures) c.in-Ok.ensures.moved)

pub lists::renew_list-returns-in-Ok-clause-nodes : goal.lists::renew_list-returns-in-Ok-clause-nodes
lists::renew_list-returns-in-Ok-clause-nodes g t c =
    let l = c.in-Items.list.value.listing in
    let s = c.in-Items.list.value.spot in
    let xs = c.in-Items.list.value.items in
    nodes_counted c.args.vm.now.tree c.renew_listed.new.vm.tree c.args.moved.now.items c.ask.new.self.items c.renew_listed.new.moved.items c.renew_listed.new.moved.items (stamp_of c.args.parent.now) (λ n. code_nest n c.args.code.now) (λ n. code_nest n c.put_list.new.code) c.ask.ensures.items refl
    (nodes_arm c.args.vm.now.tree c.renew_listed.new.vm.tree c.ask.new.self.items c.renew_listed.new.moved.items (stamp_of c.args.parent.now) c.args.code.now c.put_list.new.code (λ n. listed_code (seen_listing n l) (seen_spot s) (all_items (map (seen_item_code n) xs.items))) (λ n. seen_code n c.in-Ok.new.value)
    (subst (TakenOut c.args.code.now) c.in-Items.is c.in_ok-list.ensures) (λ n. ap (seen_code n) c.put_list.ensures) c.in-Ok.ensures.nodes)

pub lists::renew_list-returns-in-Ok-renew_unlisted-clause-moved : goal.lists::renew_list-returns-in-Ok-renew_unlisted-clause-moved
lists::renew_list-returns-in-Ok-renew_unlisted-clause-moved g t c =
    let l = c.in-Other.list.value.listing in
    let s = c.in-Other.list.value.spot in
    let k = c.in-Other.list.value.comment in
    let b = c.in-Other.list.value.body in
    code_counted c.args.moved.now c.ask.new.self c.renew_unlisted.new.moved c.renew_unlisted.new.moved (λ n. seen_code n c.args.code.now) (λ n. seen_code n c.put_list-in-Ok-renew_unlisted.new.code) c.ask.ensures.items refl
    (arm_moved c.ask.new.self c.renew_unlisted.new.moved c.args.code.now c.put_list-in-Ok-renew_unlisted.new.code (λ n. unlisted_code (seen_listing n l) (seen_spot s) (stamp_of k) (seen_codes n b)) (λ n. seen_code n c.in-Ok-renew_unlisted.new.value)
    (subst (TakenOut c.args.code.now) c.in-Other.is c.in_ok-list.ensures) (λ n. ap (seen_code n) c.put_list-in-Ok-renew_unlisted.ensures) c.in-Ok-renew_unlisted.ensures.moved)

pub lists::renew_list-returns-in-Ok-renew_unlisted-clause-nodes : goal.lists::renew_list-returns-in-Ok-renew_unlisted-clause-nodes
lists::renew_list-returns-in-Ok-renew_unlisted-clause-nodes g t c =
    let l = c.in-Other.list.value.listing in
    let s = c.in-Other.list.value.spot in
    let k = c.in-Other.list.value.comment in
    let b = c.in-Other.list.value.body in
    let new = c.renew_unlisted.new in
    nodes_counted c.args.vm.now.tree new.vm.tree c.args.moved.now.items c.ask.new.self.items new.moved.items new.moved.items (stamp_of c.args.parent.now) (λ n. code_nest n c.args.code.now) (λ n. code_nest n c.put_list-in-Ok-renew_unlisted.new.code) c.ask.ensures.items refl
    (nodes_arm c.args.vm.now.tree new.vm.tree c.ask.new.self.items new.moved.items (stamp_of c.args.parent.now) c.args.code.now c.put_list-in-Ok-renew_unlisted.new.code (λ n. unlisted_code (seen_listing n l) (seen_spot s) (stamp_of k) (seen_codes n b)) (λ n. seen_code n c.in-Ok-renew_unlisted.new.value)
    (subst (TakenOut c.args.code.now) c.in-Other.is c.in_ok-list.ensures) (λ n. ap (seen_code n) c.put_list-in-Ok-renew_unlisted.ensures) c.in-Ok-renew_unlisted.ensures.nodes)

pub lists::renew_list-returns-in-Ok-clause-ok : goal.lists::renew_list-returns-in-Ok-clause-ok
lists::renew_list-returns-in-Ok-clause-ok g t c =
    let l = c.in-Items.list.value.listing in
    let s = c.in-Items.list.value.spot in
    let xs = c.in-Items.list.value.items in
    arm c.args.app.now c.args.cells.now c.args.left (trail_view c.args.trail.now) c.args.code.now c.put_list.new.code (λ n. listed_code (seen_listing n l) (seen_spot s) (all_items (map (seen_item_code n) xs.items))) (λ n. seen_code n c.in-Ok.new.value) c.args.vm.now c.renew_listed.new.vm
    (subst (TakenOut c.args.code.now) c.in-Items.is c.in_ok-list.ensures) (λ n. ap (seen_code n) c.put_list.ensures) c.in-Ok.ensures.ok

pub lists::renew_list-returns-in-Ok-clause-asked : goal.lists::renew_list-returns-in-Ok-clause-asked
lists::renew_list-returns-in-Ok-clause-asked g t c =
    let l = c.in-Items.list.value.listing in
    let s = c.in-Items.list.value.spot in
    let xs = c.in-Items.list.value.items in
    listed_code_asks c.args.app.now c.args.cells.now (λ n. seen_listing n l) l.key (λ n. refl) (seen_spot s) c.args.left (trail_view c.args.trail.now) (λ n. map (seen_item_code n) xs.items) c.args.code.now c.args.vm.now c.args.moved.now.asked c.ask.new.self.asked c.renew_listed.new.moved.asked
    (subst (TakenOut c.args.code.now) c.in-Items.is c.in_ok-list.ensures) c.in_ok-ask.ensures.asked c.in-Ok.ensures.asked

pub lists::renew_list-returns-in-Err-clause-fails : goal.lists::renew_list-returns-in-Err-clause-fails
lists::renew_list-returns-in-Err-clause-fails g t c =
    let l = c.in-Items.list.value.listing in
    let s = c.in-Items.list.value.spot in
    let xs = c.in-Items.list.value.items in
    arm_fails c.args.app.now c.args.cells.now c.args.left (trail_view c.args.trail.now) c.args.code.now (λ n. listed_code (seen_listing n l) (seen_spot s) (all_items (map (seen_item_code n) xs.items))) c.args.vm.now c.in-Err.fault
    (subst (TakenOut c.args.code.now) c.in-Items.is c.in_ok-list.ensures) c.in-Err.ensures.fails

pub lists::renew_list-returns-in-Ok-renew_unlisted-clause-ok : goal.lists::renew_list-returns-in-Ok-renew_unlisted-clause-ok
lists::renew_list-returns-in-Ok-renew_unlisted-clause-ok g t c =
    let l = c.in-Other.list.value.listing in
    let s = c.in-Other.list.value.spot in
    let k = c.in-Other.list.value.comment in
    let b = c.in-Other.list.value.body in
    arm c.args.app.now c.args.cells.now c.args.left (trail_view c.args.trail.now) c.args.code.now c.put_list-in-Ok-renew_unlisted.new.code (λ n. unlisted_code (seen_listing n l) (seen_spot s) (stamp_of k) (seen_codes n b)) (λ n. seen_code n c.in-Ok-renew_unlisted.new.value) c.args.vm.now c.renew_unlisted.new.vm
    (subst (TakenOut c.args.code.now) c.in-Other.is c.in_ok-list.ensures) (λ n. ap (seen_code n) c.put_list-in-Ok-renew_unlisted.ensures) c.in-Ok-renew_unlisted.ensures.ok

pub lists::renew_list-returns-in-Ok-renew_unlisted-clause-asked : goal.lists::renew_list-returns-in-Ok-renew_unlisted-clause-asked
lists::renew_list-returns-in-Ok-renew_unlisted-clause-asked g t c =
    let l = c.in-Other.list.value.listing in
    let s = c.in-Other.list.value.spot in
    let k = c.in-Other.list.value.comment in
    let b = c.in-Other.list.value.body in
    unlisted_code_asks c.args.app.now c.args.cells.now (λ n. seen_listing n l) l.key (λ n. refl) (seen_spot s) c.args.left (trail_view c.args.trail.now) (stamp_of k) (λ n. seen_codes n b) c.args.code.now c.args.vm.now c.args.moved.now.asked c.ask.new.self.asked c.renew_unlisted.new.moved.asked
    (subst (TakenOut c.args.code.now) c.in-Other.is c.in_ok-list.ensures) c.in_ok-ask.ensures.asked c.in-Ok-renew_unlisted.ensures.asked

pub lists::renew_list-returns-in-Err-renew_unlisted-clause-fails : goal.lists::renew_list-returns-in-Err-renew_unlisted-clause-fails
lists::renew_list-returns-in-Err-renew_unlisted-clause-fails g t c =
    let l = c.in-Other.list.value.listing in
    let s = c.in-Other.list.value.spot in
    let k = c.in-Other.list.value.comment in
    let b = c.in-Other.list.value.body in
    arm_fails c.args.app.now c.args.cells.now c.args.left (trail_view c.args.trail.now) c.args.code.now (λ n. unlisted_code (seen_listing n l) (seen_spot s) (stamp_of k) (seen_codes n b)) c.args.vm.now c.in-Err-renew_unlisted.fault
    (subst (TakenOut c.args.code.now) c.in-Other.is c.in_ok-list.ensures) c.in-Err-renew_unlisted.ensures.fails

-- with items

pub lists::relist-returns-then-is_empty-clause-ok : goal.lists::relist-returns-then-is_empty-clause-ok
lists::relist-returns-then-is_empty-clause-ok g t c =
    let z : Tables → Listing = λ n. seen_listing n c.args.list.value.listing in
    let key = c.args.list.value.listing.key in
    let s = seen_spot c.args.list.value.spot in
    let p = trail_view c.args.trail.now in
    let xs : Tables → List Item = λ n. map (seen_item_code n) c.args.list.value.items.items in
    let is : IsOf c.args.list (r.Other c.in-Other.list c.in-Other.ready) = subst (IsOf c.args.list) c.in-Other.is c.in_ok-read.ensures.is in
    let gives : (n : Tables) (u : Source → Bool) → Gives (first_value (spot_pairs (state_of n c.read_listed.new.vm u) c.args.list.value.spot.id.1)) c.args.list (r.Other c.in-Other.list c.in-Other.ready) =
    λ n u. subst (Gives (first_value (spot_pairs (state_of n c.read_listed.new.vm u) c.args.list.value.spot.id.1)) c.args.list) c.in-Other.is (c.in_ok-read.ensures.gives n u) in
    let es = c.in-Other.ready.value.entries in
    let l : vec_len es ≡ length es.items = search rules in
    let none = none_counted es.items (vec_len es) l (subst (λ (x : Ready). nat_eq (vec_len x.entries) 0 ≡ true) c.deref.ensures (sym c.is_empty.ensures ∙ c.if-is_empty.true)) in
    IfOk-weaker c.end_list.result
    (λ r. Renews c.args.app.now c.args.cells.now (ListsNone z s c.args.left p (λ n q. times_items q (items_of (all_items (xs n))))) c.read_listed.new.vm (λ n. seen_code n r.value) c.end_list.new.vm)
    (λ r. Renews c.args.app.now c.args.cells.now (Relisting c.args.app.now c.args.cells.now z key (λ n. refl) s c.args.left p xs) c.args.vm.now (λ n. seen_code n r.value) c.end_list.new.vm)
    (λ r h. listed_ends c.args.app.now c.args.cells.now z key (λ n. refl) s c.args.left p xs c.args.vm.now c.read_listed.new.vm c.end_list.new.vm (λ n. seen_code n r.value) c.in_ok-read.ensures.step
    (λ n u. sym (ap seen_left none) ∙ gives n u) h)
    (subst (λ (b : Box Listed Global). IfOk c.end_list.result (λ r. Renews c.args.app.now c.args.cells.now (ListsNone (λ n. seen_listing n b.value.listing) (seen_spot b.value.spot) c.args.left p (λ n q. times_items q (items_of (all_items (map (seen_item_code n) b.value.items.items))))) c.read_listed.new.vm (λ n. seen_code n r.value) c.end_list.new.vm)) is.0 c.end_list.ensures.ok)

pub lists::relist-returns-then-is_empty-clause-fails : goal.lists::relist-returns-then-is_empty-clause-fails
lists::relist-returns-then-is_empty-clause-fails g t c =
    let z : Tables → Listing = λ n. seen_listing n c.args.list.value.listing in
    let key = c.args.list.value.listing.key in
    let s = seen_spot c.args.list.value.spot in
    let p = trail_view c.args.trail.now in
    let xs : Tables → List Item = λ n. map (seen_item_code n) c.args.list.value.items.items in
    let is : IsOf c.args.list (r.Other c.in-Other.list c.in-Other.ready) = subst (IsOf c.args.list) c.in-Other.is c.in_ok-read.ensures.is in
    let gives : (n : Tables) (u : Source → Bool) → Gives (first_value (spot_pairs (state_of n c.read_listed.new.vm u) c.args.list.value.spot.id.1)) c.args.list (r.Other c.in-Other.list c.in-Other.ready) =
    λ n u. subst (Gives (first_value (spot_pairs (state_of n c.read_listed.new.vm u) c.args.list.value.spot.id.1)) c.args.list) c.in-Other.is (c.in_ok-read.ensures.gives n u) in
    let es = c.in-Other.ready.value.entries in
    let l : vec_len es ≡ length es.items = search rules in
    let none = none_counted es.items (vec_len es) l (subst (λ (x : Ready). nat_eq (vec_len x.entries) 0 ≡ true) c.deref.ensures (sym c.is_empty.ensures ∙ c.if-is_empty.true)) in
    IfErr-weaker c.end_list.result
    (RenewFails {A = PlainCode} c.args.app.now c.args.cells.now (ListsNone z s c.args.left p (λ n q. times_items q (items_of (all_items (xs n))))) c.read_listed.new.vm)
    (RenewFails {A = PlainCode} c.args.app.now c.args.cells.now (Relisting c.args.app.now c.args.cells.now z key (λ n. refl) s c.args.left p xs) c.args.vm.now)
    (λ f h. listed_ends_fails c.args.app.now c.args.cells.now z key (λ n. refl) s c.args.left p xs c.args.vm.now c.read_listed.new.vm f c.in_ok-read.ensures.step
    (λ n u. sym (ap seen_left none) ∙ gives n u) h)
    (subst (λ (b : Box Listed Global). IfErr c.end_list.result (RenewFails {A = PlainCode} c.args.app.now c.args.cells.now (ListsNone (λ n. seen_listing n b.value.listing) (seen_spot b.value.spot) c.args.left p (λ n q. times_items q (items_of (all_items (map (seen_item_code n) b.value.items.items))))) c.read_listed.new.vm)) is.0 c.end_list.ensures.fails)

pub lists::relist-returns-then-is_empty-clause-moved : goal.lists::relist-returns-then-is_empty-clause-moved
lists::relist-returns-then-is_empty-clause-moved g t c =
    let z : Tables → Listing = λ n. seen_listing n c.args.list.value.listing in
    let s = seen_spot c.args.list.value.spot in
    let xs : Tables → List Item = λ n. map (seen_item_code n) c.args.list.value.items.items in
    IfOk-weaker c.end_list.result (λ r. (n : Tables) → IsUnlisted (live_of (seen_code n r.value))) (λ r. CodeMoved c.args.moved.now c.args.moved.now (λ n. listed_code (z n) s (all_items (xs n))) (λ n. seen_code n r.value))
    (λ r h. ended_moved c.args.moved.now z s xs (λ n. seen_code n r.value) h) c.end_list.ensures.none

pub lists::relist-returns-then-is_empty-clause-nodes : goal.lists::relist-returns-then-is_empty-clause-nodes
lists::relist-returns-then-is_empty-clause-nodes g t c =
    let is : IsOf c.args.list (r.Other c.in-Other.list c.in-Other.ready) = subst (IsOf c.args.list) c.in-Other.is c.in_ok-read.ensures.is in
    let x : Tables → Nest ℕ = λ n. items_nest n c.args.list.value.items.items in
    let b = c.args.moved.now.items in
    if_ok_two c.end_list.result
    (λ r h m. nodes_after c.args.vm.now.tree c.read_listed.new.vm.tree c.end_list.new.vm.tree b b b (stamp_of c.args.parent.now) x (λ n. code_nest n r.value) (roots_same c.args.vm.now.tree c.read_listed.new.vm.tree c.in_ok-read.ensures.tree) refl
    (nodes_replaced c.read_listed.new.vm.tree c.end_list.new.vm.tree b b (stamp_of c.args.parent.now) x (λ n. code_nest n r.value) h m refl))
    (subst (λ (l : Box Listed Global). IfOk c.end_list.result (λ r. (n : Tables) → Replaces c.read_listed.new.vm.tree.forest c.end_list.new.vm.tree.forest (stamp_of c.args.parent.now) (items_nest n l.value.items.items) (code_nest n r.value))) is.0 c.end_list.ensures.nodes)
    c.end_list.ensures.moves

pub lists::relist-returns-then-is_empty-clause-asked : goal.lists::relist-returns-then-is_empty-clause-asked
lists::relist-returns-then-is_empty-clause-asked g t c =
    let z : Tables → Listing = λ n. seen_listing n c.args.list.value.listing in
    let key = c.args.list.value.listing.key in
    let s = seen_spot c.args.list.value.spot in
    let p = trail_view c.args.trail.now in
    let xs : Tables → List Item = λ n. map (seen_item_code n) c.args.list.value.items.items in
    let is : IsOf c.args.list (r.Other c.in-Other.list c.in-Other.ready) = subst (IsOf c.args.list) c.in-Other.is c.in_ok-read.ensures.is in
    let gives : (n : Tables) (u : Source → Bool) → Gives (first_value (spot_pairs (state_of n c.read_listed.new.vm u) c.args.list.value.spot.id.1)) c.args.list (r.Other c.in-Other.list c.in-Other.ready) =
    λ n u. subst (Gives (first_value (spot_pairs (state_of n c.read_listed.new.vm u) c.args.list.value.spot.id.1)) c.args.list) c.in-Other.is (c.in_ok-read.ensures.gives n u) in
    let es = c.in-Other.ready.value.entries in
    let l : vec_len es ≡ length es.items = search rules in
    let none = none_counted es.items (vec_len es) l (subst (λ (x : Ready). nat_eq (vec_len x.entries) 0 ≡ true) c.deref.ensures (sym c.is_empty.ensures ∙ c.if-is_empty.true)) in
    on_ok_always c.end_list.result (relist_asks_none c.args.app.now c.args.cells.now z key (λ n. refl) s c.args.left p xs c.args.vm.now c.read_listed.new.vm c.args.moved.now.asked c.in_ok-read.ensures.step (λ n u. sym (ap seen_left none) ∙ gives n u))

pub lists::relist-returns-else-is_empty-clause-ok : goal.lists::relist-returns-else-is_empty-clause-ok
lists::relist-returns-else-is_empty-clause-ok g t c =
    let z : Tables → Listing = λ n. seen_listing n c.args.list.value.listing in
    let key = c.args.list.value.listing.key in
    let s = seen_spot c.args.list.value.spot in
    let p = trail_view c.args.trail.now in
    let xs : Tables → List Item = λ n. map (seen_item_code n) c.args.list.value.items.items in
    let is : IsOf c.args.list (r.Other c.in-Other.list c.in-Other.ready) = subst (IsOf c.args.list) c.in-Other.is c.in_ok-read.ensures.is in
    let gives : (n : Tables) (u : Source → Bool) → Gives (first_value (spot_pairs (state_of n c.read_listed.new.vm u) c.args.list.value.spot.id.1)) c.args.list (r.Other c.in-Other.list c.in-Other.ready) =
    λ n u. subst (Gives (first_value (spot_pairs (state_of n c.read_listed.new.vm u) c.args.list.value.spot.id.1)) c.args.list) c.in-Other.is (c.in_ok-read.ensures.gives n u) in
    let es = c.in-Other.ready.value.entries in
    let l : vec_len es ≡ length es.items = search rules in
    let some = some_counted es.items (vec_len es) l (subst (λ (x : Ready). nat_eq (vec_len x.entries) 0 ≡ false) c.deref.ensures (sym c.is_empty.ensures ∙ c.if-is_empty.false)) in
    IfOk-weaker c.sync_list.result
    (λ r. Renews c.args.app.now c.args.cells.now (Syncs z s c.args.left p (seen_left es.items) xs) c.read_listed.new.vm (λ n. seen_code n r.value) c.sync_list.new.vm)
    (λ r. Renews c.args.app.now c.args.cells.now (Relisting c.args.app.now c.args.cells.now z key (λ n. refl) s c.args.left p xs) c.args.vm.now (λ n. seen_code n r.value) c.sync_list.new.vm)
    (λ r h. listed_syncs c.args.app.now c.args.cells.now z key (λ n. refl) s c.args.left p xs (seen_left es.items) c.args.vm.now c.read_listed.new.vm c.sync_list.new.vm (λ n. seen_code n r.value) (λ e. some (none_left es.items e)) c.in_ok-read.ensures.step gives h)
    (subst (λ (b : Box Listed Global). IfOk c.sync_list.result (λ r. Renews c.args.app.now c.args.cells.now (Syncs (λ n. seen_listing n b.value.listing) (seen_spot b.value.spot) c.args.left p (seen_left es.items) (λ n. map (seen_item_code n) b.value.items.items)) c.read_listed.new.vm (λ n. seen_code n r.value) c.sync_list.new.vm)) is.0 c.sync_list.ensures.ok)

pub lists::relist-returns-else-is_empty-clause-fails : goal.lists::relist-returns-else-is_empty-clause-fails
lists::relist-returns-else-is_empty-clause-fails g t c =
    let z : Tables → Listing = λ n. seen_listing n c.args.list.value.listing in
    let key = c.args.list.value.listing.key in
    let s = seen_spot c.args.list.value.spot in
    let p = trail_view c.args.trail.now in
    let xs : Tables → List Item = λ n. map (seen_item_code n) c.args.list.value.items.items in
    let is : IsOf c.args.list (r.Other c.in-Other.list c.in-Other.ready) = subst (IsOf c.args.list) c.in-Other.is c.in_ok-read.ensures.is in
    let gives : (n : Tables) (u : Source → Bool) → Gives (first_value (spot_pairs (state_of n c.read_listed.new.vm u) c.args.list.value.spot.id.1)) c.args.list (r.Other c.in-Other.list c.in-Other.ready) =
    λ n u. subst (Gives (first_value (spot_pairs (state_of n c.read_listed.new.vm u) c.args.list.value.spot.id.1)) c.args.list) c.in-Other.is (c.in_ok-read.ensures.gives n u) in
    let es = c.in-Other.ready.value.entries in
    let l : vec_len es ≡ length es.items = search rules in
    let some = some_counted es.items (vec_len es) l (subst (λ (x : Ready). nat_eq (vec_len x.entries) 0 ≡ false) c.deref.ensures (sym c.is_empty.ensures ∙ c.if-is_empty.false)) in
    IfErr-weaker c.sync_list.result
    (RenewFails {A = PlainCode} c.args.app.now c.args.cells.now (Syncs z s c.args.left p (seen_left es.items) xs) c.read_listed.new.vm)
    (RenewFails {A = PlainCode} c.args.app.now c.args.cells.now (Relisting c.args.app.now c.args.cells.now z key (λ n. refl) s c.args.left p xs) c.args.vm.now)
    (λ f h. listed_syncs_fails c.args.app.now c.args.cells.now z key (λ n. refl) s c.args.left p xs (seen_left es.items) c.args.vm.now c.read_listed.new.vm f (λ e. some (none_left es.items e)) c.in_ok-read.ensures.step gives h)
    (subst (λ (b : Box Listed Global). IfErr c.sync_list.result (RenewFails {A = PlainCode} c.args.app.now c.args.cells.now (Syncs (λ n. seen_listing n b.value.listing) (seen_spot b.value.spot) c.args.left p (seen_left es.items) (λ n. map (seen_item_code n) b.value.items.items)) c.read_listed.new.vm)) is.0 c.sync_list.ensures.fails)

pub lists::relist-returns-else-is_empty-clause-moved : goal.lists::relist-returns-else-is_empty-clause-moved
lists::relist-returns-else-is_empty-clause-moved g t c =
    let is : IsOf c.args.list (r.Other c.in-Other.list c.in-Other.ready) = subst (IsOf c.args.list) c.in-Other.is c.in_ok-read.ensures.is in
    subst (λ (b : Box Listed Global). IfOk c.sync_list.result (λ r. CodeMoved c.args.moved.now c.sync_list.new.moved (λ n. listed_code (seen_listing n b.value.listing) (seen_spot b.value.spot) (all_items (map (seen_item_code n) b.value.items.items))) (λ n. seen_code n r.value))) is.0 c.sync_list.ensures.moved

pub lists::relist-returns-else-is_empty-clause-nodes : goal.lists::relist-returns-else-is_empty-clause-nodes
lists::relist-returns-else-is_empty-clause-nodes g t c =
    let is : IsOf c.args.list (r.Other c.in-Other.list c.in-Other.ready) = subst (IsOf c.args.list) c.in-Other.is c.in_ok-read.ensures.is in
    let x : Tables → Nest ℕ = λ n. items_nest n c.args.list.value.items.items in
    let b = c.args.moved.now.items in
    let a = c.sync_list.new.moved.items in
    IfOk-weaker c.sync_list.result (λ r. NodesRenewed c.read_listed.new.vm.tree c.sync_list.new.vm.tree b a (stamp_of c.args.parent.now) x (λ n. code_nest n r.value)) (λ r. NodesRenewed c.args.vm.now.tree c.sync_list.new.vm.tree b a (stamp_of c.args.parent.now) x (λ n. code_nest n r.value))
    (λ r h. nodes_after c.args.vm.now.tree c.read_listed.new.vm.tree c.sync_list.new.vm.tree b b a (stamp_of c.args.parent.now) x (λ n. code_nest n r.value) (roots_same c.args.vm.now.tree c.read_listed.new.vm.tree c.in_ok-read.ensures.tree) refl h)
    (subst (λ (l : Box Listed Global). IfOk c.sync_list.result (λ r. NodesRenewed c.read_listed.new.vm.tree c.sync_list.new.vm.tree b a (stamp_of c.args.parent.now) (λ n. items_nest n l.value.items.items) (λ n. code_nest n r.value))) is.0 c.sync_list.ensures.nodes)

pub lists::relist-returns-else-is_empty-clause-asked : goal.lists::relist-returns-else-is_empty-clause-asked
lists::relist-returns-else-is_empty-clause-asked g t c =
    let z : Tables → Listing = λ n. seen_listing n c.args.list.value.listing in
    let key = c.args.list.value.listing.key in
    let s = seen_spot c.args.list.value.spot in
    let p = trail_view c.args.trail.now in
    let xs : Tables → List Item = λ n. map (seen_item_code n) c.args.list.value.items.items in
    let is : IsOf c.args.list (r.Other c.in-Other.list c.in-Other.ready) = subst (IsOf c.args.list) c.in-Other.is c.in_ok-read.ensures.is in
    let gives : (n : Tables) (u : Source → Bool) → Gives (first_value (spot_pairs (state_of n c.read_listed.new.vm u) c.args.list.value.spot.id.1)) c.args.list (r.Other c.in-Other.list c.in-Other.ready) =
    λ n u. subst (Gives (first_value (spot_pairs (state_of n c.read_listed.new.vm u) c.args.list.value.spot.id.1)) c.args.list) c.in-Other.is (c.in_ok-read.ensures.gives n u) in
    let es = c.in-Other.ready.value.entries in
    let l : vec_len es ≡ length es.items = search rules in
    let some = some_counted es.items (vec_len es) l (subst (λ (x : Ready). nat_eq (vec_len x.entries) 0 ≡ false) c.deref.ensures (sym c.is_empty.ensures ∙ c.if-is_empty.false)) in
    on_ok_weaker c.sync_list.result
    (λ h. relist_asks c.args.app.now c.args.cells.now z key (λ n. refl) s c.args.left p xs (seen_left es.items) c.args.vm.now c.read_listed.new.vm c.args.moved.now.asked c.sync_list.new.moved.asked (λ e. some (none_left es.items e)) c.in_ok-read.ensures.step gives h)
    (subst (λ (b : Box Listed Global). OnOk c.sync_list.result (Asks c.args.app.now c.args.cells.now (AsksSync (λ n. seen_listing n b.value.listing) c.args.left (items ∷ p) (seen_left es.items) (λ n. map (seen_item_code n) b.value.items.items)) c.read_listed.new.vm c.args.moved.now.asked c.sync_list.new.moved.asked)) is.0 c.sync_list.ensures.asked)

pub lists::relist-returns-in-Same-clause-ok : goal.lists::relist-returns-in-Same-clause-ok
lists::relist-returns-in-Same-clause-ok g t c =
    let z : Tables → Listing = λ n. seen_listing n c.args.list.value.listing in
    let key = c.args.list.value.listing.key in
    let s = seen_spot c.args.list.value.spot in
    let p = trail_view c.args.trail.now in
    let xs : Tables → List Item = λ n. map (seen_item_code n) c.args.list.value.items.items in
    let is : IsOf c.args.list (r.Same c.in-Same.list c.in-Same.values) = subst (IsOf c.args.list) c.in-Same.is c.in_ok-read.ensures.is in
    let gives : (n : Tables) (u : Source → Bool) → Gives (first_value (spot_pairs (state_of n c.read_listed.new.vm u) c.args.list.value.spot.id.1)) c.args.list (r.Same c.in-Same.list c.in-Same.values) =
    λ n u. subst (Gives (first_value (spot_pairs (state_of n c.read_listed.new.vm u) c.args.list.value.spot.id.1)) c.args.list) c.in-Same.is (c.in_ok-read.ensures.gives n u) in
    let es = entries_now key c.in-Same.values in
    IfOk-weaker c.stay_list.result
    (λ r. Renews c.args.app.now c.args.cells.now (Syncs z s c.args.left p es xs) c.read_listed.new.vm (λ n. seen_code n r.value) c.stay_list.new.vm)
    (λ r. Renews c.args.app.now c.args.cells.now (Relisting c.args.app.now c.args.cells.now z key (λ n. refl) s c.args.left p xs) c.args.vm.now (λ n. seen_code n r.value) c.stay_list.new.vm)
    (λ r h. listed_syncs c.args.app.now c.args.cells.now z key (λ n. refl) s c.args.left p xs es c.args.vm.now c.read_listed.new.vm c.stay_list.new.vm (λ n. seen_code n r.value) (λ e. is.1 (none_now key c.in-Same.values e)) c.in_ok-read.ensures.step
    (λ n u. sym (ap (λ vs. entries key 0 [] vs) (gives n u))) h)
    (subst (λ (b : Box Listed Global). IfOk c.stay_list.result (λ r. Renews c.args.app.now c.args.cells.now (Syncs (λ n. seen_listing n b.value.listing) (seen_spot b.value.spot) c.args.left p (entries_now b.value.listing.key c.in-Same.values) (λ n. map (seen_item_code n) b.value.items.items)) c.read_listed.new.vm (λ n. seen_code n r.value) c.stay_list.new.vm)) is.0 c.stay_list.ensures.ok)

pub lists::relist-returns-in-Same-clause-fails : goal.lists::relist-returns-in-Same-clause-fails
lists::relist-returns-in-Same-clause-fails g t c =
    let z : Tables → Listing = λ n. seen_listing n c.args.list.value.listing in
    let key = c.args.list.value.listing.key in
    let s = seen_spot c.args.list.value.spot in
    let p = trail_view c.args.trail.now in
    let xs : Tables → List Item = λ n. map (seen_item_code n) c.args.list.value.items.items in
    let is : IsOf c.args.list (r.Same c.in-Same.list c.in-Same.values) = subst (IsOf c.args.list) c.in-Same.is c.in_ok-read.ensures.is in
    let gives : (n : Tables) (u : Source → Bool) → Gives (first_value (spot_pairs (state_of n c.read_listed.new.vm u) c.args.list.value.spot.id.1)) c.args.list (r.Same c.in-Same.list c.in-Same.values) =
    λ n u. subst (Gives (first_value (spot_pairs (state_of n c.read_listed.new.vm u) c.args.list.value.spot.id.1)) c.args.list) c.in-Same.is (c.in_ok-read.ensures.gives n u) in
    let es = entries_now key c.in-Same.values in
    IfErr-weaker c.stay_list.result
    (RenewFails {A = PlainCode} c.args.app.now c.args.cells.now (Syncs z s c.args.left p es xs) c.read_listed.new.vm)
    (RenewFails {A = PlainCode} c.args.app.now c.args.cells.now (Relisting c.args.app.now c.args.cells.now z key (λ n. refl) s c.args.left p xs) c.args.vm.now)
    (λ f h. listed_syncs_fails c.args.app.now c.args.cells.now z key (λ n. refl) s c.args.left p xs es c.args.vm.now c.read_listed.new.vm f (λ e. is.1 (none_now key c.in-Same.values e)) c.in_ok-read.ensures.step
    (λ n u. sym (ap (λ vs. entries key 0 [] vs) (gives n u))) h)
    (subst (λ (b : Box Listed Global). IfErr c.stay_list.result (RenewFails {A = PlainCode} c.args.app.now c.args.cells.now (Syncs (λ n. seen_listing n b.value.listing) (seen_spot b.value.spot) c.args.left p (entries_now b.value.listing.key c.in-Same.values) (λ n. map (seen_item_code n) b.value.items.items)) c.read_listed.new.vm)) is.0 c.stay_list.ensures.fails)

pub lists::relist-returns-in-Same-clause-moved : goal.lists::relist-returns-in-Same-clause-moved
lists::relist-returns-in-Same-clause-moved g t c =
    let is : IsOf c.args.list (r.Same c.in-Same.list c.in-Same.values) = subst (IsOf c.args.list) c.in-Same.is c.in_ok-read.ensures.is in
    subst (λ (b : Box Listed Global). IfOk c.stay_list.result (λ r. CodeMoved c.args.moved.now c.stay_list.new.moved (λ n. listed_code (seen_listing n b.value.listing) (seen_spot b.value.spot) (all_items (map (seen_item_code n) b.value.items.items))) (λ n. seen_code n r.value))) is.0 c.stay_list.ensures.moved

pub lists::relist-returns-in-Same-clause-nodes : goal.lists::relist-returns-in-Same-clause-nodes
lists::relist-returns-in-Same-clause-nodes g t c =
    let is : IsOf c.args.list (r.Same c.in-Same.list c.in-Same.values) = subst (IsOf c.args.list) c.in-Same.is c.in_ok-read.ensures.is in
    let x : Tables → Nest ℕ = λ n. items_nest n c.args.list.value.items.items in
    let b = c.args.moved.now.items in
    let a = c.stay_list.new.moved.items in
    IfOk-weaker c.stay_list.result (λ r. NodesRenewed c.read_listed.new.vm.tree c.stay_list.new.vm.tree b a (stamp_of c.args.parent.now) x (λ n. code_nest n r.value)) (λ r. NodesRenewed c.args.vm.now.tree c.stay_list.new.vm.tree b a (stamp_of c.args.parent.now) x (λ n. code_nest n r.value))
    (λ r h. nodes_after c.args.vm.now.tree c.read_listed.new.vm.tree c.stay_list.new.vm.tree b b a (stamp_of c.args.parent.now) x (λ n. code_nest n r.value) (roots_same c.args.vm.now.tree c.read_listed.new.vm.tree c.in_ok-read.ensures.tree) refl h)
    (subst (λ (l : Box Listed Global). IfOk c.stay_list.result (λ r. NodesRenewed c.read_listed.new.vm.tree c.stay_list.new.vm.tree b a (stamp_of c.args.parent.now) (λ n. items_nest n l.value.items.items) (λ n. code_nest n r.value))) is.0 c.stay_list.ensures.nodes)

pub lists::relist-returns-in-Same-clause-asked : goal.lists::relist-returns-in-Same-clause-asked
lists::relist-returns-in-Same-clause-asked g t c =
    let z : Tables → Listing = λ n. seen_listing n c.args.list.value.listing in
    let key = c.args.list.value.listing.key in
    let s = seen_spot c.args.list.value.spot in
    let p = trail_view c.args.trail.now in
    let xs : Tables → List Item = λ n. map (seen_item_code n) c.args.list.value.items.items in
    let is : IsOf c.args.list (r.Same c.in-Same.list c.in-Same.values) = subst (IsOf c.args.list) c.in-Same.is c.in_ok-read.ensures.is in
    let gives : (n : Tables) (u : Source → Bool) → Gives (first_value (spot_pairs (state_of n c.read_listed.new.vm u) c.args.list.value.spot.id.1)) c.args.list (r.Same c.in-Same.list c.in-Same.values) =
    λ n u. subst (Gives (first_value (spot_pairs (state_of n c.read_listed.new.vm u) c.args.list.value.spot.id.1)) c.args.list) c.in-Same.is (c.in_ok-read.ensures.gives n u) in
    let es = entries_now key c.in-Same.values in
    on_ok_weaker c.stay_list.result
    (λ h. relist_asks c.args.app.now c.args.cells.now z key (λ n. refl) s c.args.left p xs es c.args.vm.now c.read_listed.new.vm c.args.moved.now.asked c.stay_list.new.moved.asked (λ e. is.1 (none_now key c.in-Same.values e)) c.in_ok-read.ensures.step
    (λ n u. sym (ap (λ vs. entries key 0 [] vs) (gives n u))) h)
    (subst (λ (b : Box Listed Global). OnOk c.stay_list.result (Asks c.args.app.now c.args.cells.now (AsksSync (λ n. seen_listing n b.value.listing) c.args.left (items ∷ p) (entries_now b.value.listing.key c.in-Same.values) (λ n. map (seen_item_code n) b.value.items.items)) c.read_listed.new.vm c.args.moved.now.asked c.stay_list.new.moved.asked)) is.0 c.stay_list.ensures.asked)

-- without items

pub lists::renew_listed-returns-then-stale-clause-ok : goal.lists::renew_listed-returns-then-stale-clause-ok
lists::renew_listed-returns-then-stale-clause-ok g t c =
    let z : Tables → Listing = λ n. seen_listing n c.args.list.value.listing in
    let s = seen_spot c.args.list.value.spot in
    let p = trail_view c.args.trail.now in
    let key = c.args.list.value.listing.key in
    let xs : Tables → List Item = λ n. map (seen_item_code n) c.args.list.value.items.items in
    IfOk-weaker c.relist.result (λ r. Renews c.args.app.now c.args.cells.now (Relists z s c.args.left p xs) c.ask_list.new.vm (λ n. seen_code n r.value) c.relist.new.vm)
    (λ r. Renews c.args.app.now c.args.cells.now (Updating c.args.app.now c.args.cells.now z key (λ n. refl) s c.args.left p xs) c.args.vm.now (λ n. seen_code n r.value) c.relist.new.vm)
    (λ r h. listed_reads c.args.app.now c.args.cells.now z key (λ n. refl) s c.args.left p xs c.args.vm.now c.ask_list.new.vm c.relist.new.vm (λ n. seen_code n r.value) (λ n u agrees. c.in_ok-asked.ensures.exact n u agrees ∙ c.if-stale.true) c.ask_list.ensures.still h)
    (subst (λ (b : Box Listed Global). IfOk c.relist.result (λ r. Renews c.args.app.now c.args.cells.now (Relists (λ n. seen_listing n b.value.listing) (seen_spot b.value.spot) c.args.left p (λ n. map (seen_item_code n) b.value.items.items)) c.ask_list.new.vm (λ n. seen_code n r.value) c.relist.new.vm)) c.in_ok-asked.ensures.list c.relist.ensures.ok)

pub lists::renew_listed-returns-then-stale-clause-fails : goal.lists::renew_listed-returns-then-stale-clause-fails
lists::renew_listed-returns-then-stale-clause-fails g t c =
    let z : Tables → Listing = λ n. seen_listing n c.args.list.value.listing in
    let s = seen_spot c.args.list.value.spot in
    let p = trail_view c.args.trail.now in
    let key = c.args.list.value.listing.key in
    let xs : Tables → List Item = λ n. map (seen_item_code n) c.args.list.value.items.items in
    IfErr-weaker c.relist.result (RenewFails {A = PlainCode} c.args.app.now c.args.cells.now (Relists z s c.args.left p xs) c.ask_list.new.vm) (RenewFails {A = PlainCode} c.args.app.now c.args.cells.now (Updating c.args.app.now c.args.cells.now z key (λ n. refl) s c.args.left p xs) c.args.vm.now)
    (λ f h. listed_reads_fails c.args.app.now c.args.cells.now z key (λ n. refl) s c.args.left p xs c.args.vm.now c.ask_list.new.vm f (λ n u agrees. c.in_ok-asked.ensures.exact n u agrees ∙ c.if-stale.true) c.ask_list.ensures.still h)
    (subst (λ (b : Box Listed Global). IfErr c.relist.result (RenewFails {A = PlainCode} c.args.app.now c.args.cells.now (Relists (λ n. seen_listing n b.value.listing) (seen_spot b.value.spot) c.args.left p (λ n. map (seen_item_code n) b.value.items.items)) c.ask_list.new.vm)) c.in_ok-asked.ensures.list c.relist.ensures.fails)

pub lists::renew_listed-returns-then-stale-clause-moved : goal.lists::renew_listed-returns-then-stale-clause-moved
lists::renew_listed-returns-then-stale-clause-moved g t c =
    subst (λ (b : Box Listed Global). IfOk c.relist.result (λ r. CodeMoved c.args.moved.now c.relist.new.moved (λ n. listed_code (seen_listing n b.value.listing) (seen_spot b.value.spot) (all_items (map (seen_item_code n) b.value.items.items))) (λ n. seen_code n r.value))) c.in_ok-asked.ensures.list c.relist.ensures.moved

pub lists::renew_listed-returns-then-stale-clause-nodes : goal.lists::renew_listed-returns-then-stale-clause-nodes
lists::renew_listed-returns-then-stale-clause-nodes g t c =
    let x : Tables → Nest ℕ = λ n. items_nest n c.args.list.value.items.items in
    let b = c.args.moved.now.items in
    let a = c.relist.new.moved.items in
    IfOk-weaker c.relist.result (λ r. NodesRenewed c.ask_list.new.vm.tree c.relist.new.vm.tree b a (stamp_of c.args.parent.now) x (λ n. code_nest n r.value)) (λ r. NodesRenewed c.args.vm.now.tree c.relist.new.vm.tree b a (stamp_of c.args.parent.now) x (λ n. code_nest n r.value))
    (λ r h. nodes_after c.args.vm.now.tree c.ask_list.new.vm.tree c.relist.new.vm.tree b b a (stamp_of c.args.parent.now) x (λ n. code_nest n r.value) (roots_same c.args.vm.now.tree c.ask_list.new.vm.tree c.in_ok-asked.ensures.tree) refl h)
    (subst (λ (l : Box Listed Global). IfOk c.relist.result (λ r. NodesRenewed c.ask_list.new.vm.tree c.relist.new.vm.tree b a (stamp_of c.args.parent.now) (λ n. items_nest n l.value.items.items) (λ n. code_nest n r.value))) c.in_ok-asked.ensures.list c.relist.ensures.nodes)

pub lists::renew_listed-returns-then-stale-clause-asked : goal.lists::renew_listed-returns-then-stale-clause-asked
lists::renew_listed-returns-then-stale-clause-asked g t c =
    let z : Tables → Listing = λ n. seen_listing n c.args.list.value.listing in
    let key = c.args.list.value.listing.key in
    let s = seen_spot c.args.list.value.spot in
    let p = trail_view c.args.trail.now in
    let xs : Tables → List Item = λ n. map (seen_item_code n) c.args.list.value.items.items in
    on_ok_weaker c.relist.result
    (λ h. listed_asks c.args.app.now c.args.cells.now z key (λ n. refl) s c.args.left p xs c.args.vm.now c.ask_list.new.vm c.args.moved.now.asked c.relist.new.moved.asked (λ n u agrees. c.in_ok-asked.ensures.exact n u agrees ∙ c.if-stale.true) c.ask_list.ensures.still h)
    (subst (λ (b : Box Listed Global). OnOk c.relist.result (Asks c.args.app.now c.args.cells.now (AsksRelist (λ n. seen_listing n b.value.listing) (seen_spot b.value.spot) c.args.left p (λ n. map (seen_item_code n) b.value.items.items)) c.ask_list.new.vm c.args.moved.now.asked c.relist.new.moved.asked)) c.in_ok-asked.ensures.list c.relist.ensures.asked)

pub lists::renew_listed-returns-else-stale-clause-ok : goal.lists::renew_listed-returns-else-stale-clause-ok
lists::renew_listed-returns-else-stale-clause-ok g t c =
    let z : Tables → Listing = λ n. seen_listing n c.args.list.value.listing in
    let s = seen_spot c.args.list.value.spot in
    let p = trail_view c.args.trail.now in
    let key = c.args.list.value.listing.key in
    let xs : Tables → List Item = λ n. map (seen_item_code n) c.args.list.value.items.items in
    IfOk-weaker c.walk_list.result (λ r. Renews c.args.app.now c.args.cells.now (GoesAlong z s c.args.left p xs) c.ask_list.new.vm (λ n. seen_code n r.value) c.walk_list.new.vm)
    (λ r. Renews c.args.app.now c.args.cells.now (Updating c.args.app.now c.args.cells.now z key (λ n. refl) s c.args.left p xs) c.args.vm.now (λ n. seen_code n r.value) c.walk_list.new.vm)
    (λ r h. listed_goes c.args.app.now c.args.cells.now z key (λ n. refl) s c.args.left p xs c.args.vm.now c.ask_list.new.vm c.walk_list.new.vm (λ n. seen_code n r.value) (λ n u agrees. c.in_ok-asked.ensures.exact n u agrees ∙ c.if-stale.false) c.ask_list.ensures.still h)
    (subst (λ (b : Box Listed Global). IfOk c.walk_list.result (λ r. Renews c.args.app.now c.args.cells.now (GoesAlong (λ n. seen_listing n b.value.listing) (seen_spot b.value.spot) c.args.left p (λ n. map (seen_item_code n) b.value.items.items)) c.ask_list.new.vm (λ n. seen_code n r.value) c.walk_list.new.vm)) c.in_ok-asked.ensures.list c.walk_list.ensures.ok)

pub lists::renew_listed-returns-else-stale-clause-fails : goal.lists::renew_listed-returns-else-stale-clause-fails
lists::renew_listed-returns-else-stale-clause-fails g t c =
    let z : Tables → Listing = λ n. seen_listing n c.args.list.value.listing in
    let s = seen_spot c.args.list.value.spot in
    let p = trail_view c.args.trail.now in
    let key = c.args.list.value.listing.key in
    let xs : Tables → List Item = λ n. map (seen_item_code n) c.args.list.value.items.items in
    IfErr-weaker c.walk_list.result (RenewFails {A = PlainCode} c.args.app.now c.args.cells.now (GoesAlong z s c.args.left p xs) c.ask_list.new.vm) (RenewFails {A = PlainCode} c.args.app.now c.args.cells.now (Updating c.args.app.now c.args.cells.now z key (λ n. refl) s c.args.left p xs) c.args.vm.now)
    (λ f h. listed_goes_fails c.args.app.now c.args.cells.now z key (λ n. refl) s c.args.left p xs c.args.vm.now c.ask_list.new.vm f (λ n u agrees. c.in_ok-asked.ensures.exact n u agrees ∙ c.if-stale.false) c.ask_list.ensures.still h)
    (subst (λ (b : Box Listed Global). IfErr c.walk_list.result (RenewFails {A = PlainCode} c.args.app.now c.args.cells.now (GoesAlong (λ n. seen_listing n b.value.listing) (seen_spot b.value.spot) c.args.left p (λ n. map (seen_item_code n) b.value.items.items)) c.ask_list.new.vm)) c.in_ok-asked.ensures.list c.walk_list.ensures.fails)

pub lists::renew_listed-returns-else-stale-clause-moved : goal.lists::renew_listed-returns-else-stale-clause-moved
lists::renew_listed-returns-else-stale-clause-moved g t c =
    subst (λ (b : Box Listed Global). IfOk c.walk_list.result (λ r. CodeMoved c.args.moved.now c.walk_list.new.moved (λ n. listed_code (seen_listing n b.value.listing) (seen_spot b.value.spot) (all_items (map (seen_item_code n) b.value.items.items))) (λ n. seen_code n r.value))) c.in_ok-asked.ensures.list c.walk_list.ensures.moved

pub lists::renew_listed-returns-else-stale-clause-nodes : goal.lists::renew_listed-returns-else-stale-clause-nodes
lists::renew_listed-returns-else-stale-clause-nodes g t c =
    let x : Tables → Nest ℕ = λ n. items_nest n c.args.list.value.items.items in
    let b = c.args.moved.now.items in
    let a = c.walk_list.new.moved.items in
    IfOk-weaker c.walk_list.result (λ r. NodesRenewed c.ask_list.new.vm.tree c.walk_list.new.vm.tree b a (stamp_of c.args.parent.now) x (λ n. code_nest n r.value)) (λ r. NodesRenewed c.args.vm.now.tree c.walk_list.new.vm.tree b a (stamp_of c.args.parent.now) x (λ n. code_nest n r.value))
    (λ r h. nodes_after c.args.vm.now.tree c.ask_list.new.vm.tree c.walk_list.new.vm.tree b b a (stamp_of c.args.parent.now) x (λ n. code_nest n r.value) (roots_same c.args.vm.now.tree c.ask_list.new.vm.tree c.in_ok-asked.ensures.tree) refl h)
    (subst (λ (l : Box Listed Global). IfOk c.walk_list.result (λ r. NodesRenewed c.ask_list.new.vm.tree c.walk_list.new.vm.tree b a (stamp_of c.args.parent.now) (λ n. items_nest n l.value.items.items) (λ n. code_nest n r.value))) c.in_ok-asked.ensures.list c.walk_list.ensures.nodes)

pub lists::renew_listed-returns-else-stale-clause-asked : goal.lists::renew_listed-returns-else-stale-clause-asked
lists::renew_listed-returns-else-stale-clause-asked g t c =
    let z : Tables → Listing = λ n. seen_listing n c.args.list.value.listing in
    let key = c.args.list.value.listing.key in
    let s = seen_spot c.args.list.value.spot in
    let p = trail_view c.args.trail.now in
    let xs : Tables → List Item = λ n. map (seen_item_code n) c.args.list.value.items.items in
    on_ok_weaker c.walk_list.result
    (λ h. listed_asks_along c.args.app.now c.args.cells.now z key (λ n. refl) s c.args.left p xs c.args.vm.now c.ask_list.new.vm c.args.moved.now.asked c.walk_list.new.moved.asked (λ n u agrees. c.in_ok-asked.ensures.exact n u agrees ∙ c.if-stale.false) c.ask_list.ensures.still h)
    (subst (λ (b : Box Listed Global). OnOk c.walk_list.result (Asks c.args.app.now c.args.cells.now (AsksList c.args.left (items ∷ p) (λ n. map (seen_item_code n) b.value.items.items)) c.ask_list.new.vm c.args.moved.now.asked c.walk_list.new.moved.asked)) c.in_ok-asked.ensures.list c.walk_list.ensures.asked)

-- a list that wasn't touched

pub along::walk_entered-returns-in_ok-with_items-in-Ok-clause-ok : goal.along::walk_entered-returns-in_ok-with_items-in-Ok-clause-ok
along::walk_entered-returns-in_ok-with_items-in-Ok-clause-ok g t c =
    let l = c.args.list.value in
    let d : c.deref_mut.result.now ≡ l = c.deref_mut.ensures.value in
    let made : (n : Tables) → seen_code n c.in_ok-with_items-in-Ok.field-0.value ≡ listed_code (seen_listing n l.listing) (seen_spot l.spot) (all_items (map (seen_item_code n) c.walk_items.new.items.items)) =
    λ n. c.in_ok-with_items-in-Ok.ensures n ∙ ap (λ (x : Listed). listed_code (seen_listing n x.listing) (seen_spot x.spot) (all_items (map (seen_item_code n) c.walk_items.new.items.items))) d in
    list_goes c.args.app.now c.args.cells.now (λ n. seen_listing n l.listing) (seen_spot l.spot) c.args.left (trail_view c.args.trail.now) (trail_view c.push.new.self) c.in_ok-push.ensures.view l.items.items c.deref_mut.result.now.items.items (ap (λ (x : Listed). x.items.items) d)
    (λ n. all_items (map (seen_item_code n) c.walk_items.new.items.items)) (λ n. seen_code n c.in_ok-with_items-in-Ok.field-0.value) c.args.vm.now c.walk_items.new.vm made c.in-Ok.ensures.ok

pub along::walk_entered-returns-in-Err-clause-fails : goal.along::walk_entered-returns-in-Err-clause-fails
along::walk_entered-returns-in-Err-clause-fails g t c =
    let l = c.args.list.value in
    let d : c.deref_mut.result.now ≡ l = c.deref_mut.ensures.value in
    subst (RenewFails {A = PlainCode} c.args.app.now c.args.cells.now (EntersList (λ n. seen_listing n l.listing) (seen_spot l.spot) c.args.left (trail_view c.args.trail.now) (λ n. map (seen_item_code n) l.items.items)) c.args.vm.now) (sym c.lost_items.ensures)
    (list_goes_fails c.args.app.now c.args.cells.now (λ n. seen_listing n l.listing) (seen_spot l.spot) c.args.left (trail_view c.args.trail.now) (trail_view c.push.new.self) c.in_ok-push.ensures.view l.items.items c.deref_mut.result.now.items.items (ap (λ (x : Listed). x.items.items) d)
    c.args.vm.now c.in-Err.fault c.in-Err.ensures.fails)

pub along::walk_entered-returns-in_ok-with_items-in-Ok-clause-moved : goal.along::walk_entered-returns-in_ok-with_items-in-Ok-clause-moved
along::walk_entered-returns-in_ok-with_items-in-Ok-clause-moved g t c =
    let l = c.args.list.value in
    let d : c.deref_mut.result.now ≡ l = c.deref_mut.ensures.value in
    let made : (n : Tables) → seen_code n c.in_ok-with_items-in-Ok.field-0.value ≡ listed_code (seen_listing n l.listing) (seen_spot l.spot) (all_items (map (seen_item_code n) c.walk_items.new.items.items)) =
    λ n. c.in_ok-with_items-in-Ok.ensures n ∙ ap (λ (x : Listed). listed_code (seen_listing n x.listing) (seen_spot x.spot) (all_items (map (seen_item_code n) c.walk_items.new.items.items))) d in
    list_along c.args.moved.now c.walk_items.new.moved (λ n. seen_listing n l.listing) (seen_spot l.spot) l.items.items c.walk_items.new.items.items (λ n. seen_code n c.in_ok-with_items-in-Ok.field-0.value)
    (subst (λ (x : Listed). ItemsAlong c.args.moved.now c.walk_items.new.moved x.items.items c.walk_items.new.items.items) d c.in-Ok.ensures.moved) made

pub along::walk_entered-returns-in_ok-with_items-in-Ok-clause-nodes : goal.along::walk_entered-returns-in_ok-with_items-in-Ok-clause-nodes
along::walk_entered-returns-in_ok-with_items-in-Ok-clause-nodes g t c =
    let l = c.args.list.value in
    let d : c.deref_mut.result.now ≡ l = c.deref_mut.ensures.value in
    let made : (n : Tables) → seen_code n c.in_ok-with_items-in-Ok.field-0.value ≡ listed_code (seen_listing n l.listing) (seen_spot l.spot) (all_items (map (seen_item_code n) c.walk_items.new.items.items)) =
    λ n. c.in_ok-with_items-in-Ok.ensures n ∙ ap (λ (x : Listed). listed_code (seen_listing n x.listing) (seen_spot x.spot) (all_items (map (seen_item_code n) c.walk_items.new.items.items))) d in
    nodes_made c.args.vm.now.tree c.walk_items.new.vm.tree c.args.moved.now.items c.walk_items.new.moved.items (stamp_of c.args.parent.now) (λ n. items_nest n l.items.items) c.in_ok-with_items-in-Ok.field-0.value (λ n. listed_code (seen_listing n l.listing) (seen_spot l.spot) (all_items (map (seen_item_code n) c.walk_items.new.items.items))) made
    (subst (λ (x : Listed). NodesRenewed c.args.vm.now.tree c.walk_items.new.vm.tree c.args.moved.now.items c.walk_items.new.moved.items (stamp_of c.args.parent.now) (λ n. items_nest n x.items.items) (λ n. items_nest n c.walk_items.new.items.items)) d c.in-Ok.ensures.nodes)

pub along::walk_entered-returns-in_ok-with_items-in-Ok-clause-asked : goal.along::walk_entered-returns-in_ok-with_items-in-Ok-clause-asked
along::walk_entered-returns-in_ok-with_items-in-Ok-clause-asked g t c =
    let d : c.deref_mut.result.now ≡ c.args.list.value = c.deref_mut.ensures.value in
    subst (λ w. Asks c.args.app.now c.args.cells.now (AsksItems c.args.left w (λ n. map (seen_item_code n) c.args.list.value.items.items)) c.args.vm.now c.args.moved.now.asked c.walk_items.new.moved.asked) c.in_ok-push.ensures.view
    (subst (λ (x : Listed). Asks c.args.app.now c.args.cells.now (AsksItems c.args.left (trail_view c.push.new.self) (λ n. map (seen_item_code n) x.items.items)) c.args.vm.now c.args.moved.now.asked c.walk_items.new.moved.asked) d c.in-Ok.ensures.asked)

pub along::walk_item-returns-in-Ok-clause-ok : goal.along::walk_item-returns-in-Ok-clause-ok
along::walk_item-returns-in-Ok-clause-ok g t c =
    let x = c.args.item.now in
    let a = c.args.app.now in
    let q : Path = item (plain (view x.spot.key)) x.spot.occurrence ∷ trail_view c.args.trail.now in
    let y : ItemCode = record { spot = x.spot; comment = x.comment; body = c.renew_codes.new.codes } in
    along_renews a c.args.cells.now c.args.left (trail_view c.args.trail.now) q x.spot x.comment x.body (λ n. seen_item_code n x) c.args.vm.now (λ n. item_is n x) refl c.renew_codes.new.codes (λ n. seen_item_code n y) c.renew_codes.new.vm (λ n. item_is n y)
    (region_entered few a c.args.cells.now p.Codes (λ n. positions_in (lives_of (seen_codes n x.body))) (λ n. seen_codes n x.body) (Below a c.args.cells.now c.args.left q q x.body)
    c.args.vm.now c.enters_body.new.vm c.renew_codes.new.vm (λ n. seen_codes n c.renew_codes.new.codes) (λ n u agrees. c.in_ok-enters_body.ensures.asked n u agrees ∙ c.if-branch.true) c.enters_body.ensures.still
    (subst (λ w. Renews a c.args.cells.now (λ n run. along_codes_as by_number run c.args.left w 0 (seen_codes n x.body)) c.enters_body.new.vm (λ n. seen_codes n c.renew_codes.new.codes) c.renew_codes.new.vm) c.in_ok-enter_item.ensures.view c.in-Ok.ensures.ok))

pub along::walk_item-returns-in-Err-clause-fails : goal.along::walk_item-returns-in-Err-clause-fails
along::walk_item-returns-in-Err-clause-fails g t c =
    let x = c.args.item.now in
    let a = c.args.app.now in
    let q : Path = item (plain (view x.spot.key)) x.spot.occurrence ∷ trail_view c.args.trail.now in
    along_fails a c.args.cells.now c.args.left (trail_view c.args.trail.now) q x.spot x.comment x.body (λ n. seen_item_code n x) c.args.vm.now (λ n. item_is n x) refl c.in-Err.fault
    (region_fails few a c.args.cells.now p.Codes (λ n. positions_in (lives_of (seen_codes n x.body))) (λ n. seen_codes n x.body) (Below a c.args.cells.now c.args.left q q x.body)
    c.args.vm.now c.enters_body.new.vm c.in-Err.fault (λ n u agrees. c.in_ok-enters_body.ensures.asked n u agrees ∙ c.if-branch.true) c.enters_body.ensures.still
    (subst (λ w. RenewFails {A = PlainCodes} a c.args.cells.now (λ n run. along_codes_as by_number run c.args.left w 0 (seen_codes n x.body)) c.enters_body.new.vm c.in-Err.fault) c.in_ok-enter_item.ensures.view c.in-Err.ensures.fails))

pub along::walk_item-returns-in-Ok-clause-moved : goal.along::walk_item-returns-in-Ok-clause-moved
along::walk_item-returns-in-Ok-clause-moved g t c =
    let x = c.args.item.now in
    let y : ItemCode = record { spot = x.spot; comment = x.comment; body = c.renew_codes.new.codes } in
    kept_moved c.args.moved.now c.renew_codes.new.moved c.close.new.self false (λ n. seen_item_code n x) (λ n. seen_item_code n y) (λ n. seen_codes n x.body) (λ n. seen_codes n c.renew_codes.new.codes)
    (λ n. ap (λ (z : Item). z.1.1) (item_is n x)) (λ n. ap (λ (z : Item). z.1.1) (item_is n y)) (body_counted c.args.moved.now c.ask.new.self c.renew_codes.new.moved c.renew_codes.new.moved (λ n. seen_codes n x.body) (λ n. seen_codes n c.renew_codes.new.codes) c.ask.ensures.items refl c.in-Ok.ensures.moved)
    (let e = c.close.ensures.items in omega (arith, e))

pub along::walk_item-returns-in-Ok-clause-nodes : goal.along::walk_item-returns-in-Ok-clause-nodes
along::walk_item-returns-in-Ok-clause-nodes g t c =
    let x = c.args.item.now in
    let y : ItemCode = record { spot = x.spot; comment = x.comment; body = c.renew_codes.new.codes } in
    let m = c.args.moved.now.items in
    nodes_within c.args.vm.now.tree c.enters_body.new.vm.tree c.renew_codes.new.vm.tree c.renew_codes.new.vm.tree m c.ask.new.self.items c.renew_codes.new.moved.items c.close.new.self.items (stamp_of c.args.parent.now) (λ n. item_nest n x) (λ n. item_nest n y)
    (refs_rooted c.args.vm.now c.enters_body.new.vm _ c.enters_body.ensures.counted.rest) c.ask.ensures.items
    (nodes_item c.enters_body.new.vm.tree c.renew_codes.new.vm.tree c.ask.new.self.items c.renew_codes.new.moved.items (stamp_of c.args.parent.now) x y refl c.in-Ok.ensures.nodes) (roots_refl c.renew_codes.new.vm.tree) c.close.ensures.items

pub along::walk_item-returns-in-Ok-clause-asked : goal.along::walk_item-returns-in-Ok-clause-asked
along::walk_item-returns-in-Ok-clause-asked g t c =
    let x = c.args.item.now in
    let a = c.args.app.now in
    let q : Path = item (plain (view x.spot.key)) x.spot.occurrence ∷ trail_view c.args.trail.now in
    item_asks a c.args.cells.now c.args.left (trail_view c.args.trail.now) q x.spot x.comment x.body (λ n. seen_item_code n x) c.args.vm.now (λ n. item_is n x) refl c.args.moved.now.asked c.close.new.self.asked
    (asks_entered a c.args.cells.now (λ n run. along_body_as by_number run c.args.left q (seen_codes n x.body)) (AsksIn c.args.left q (λ n. seen_codes n x.body)) (λ n. seen_codes n c.renew_codes.new.codes) c.args.vm.now c.enters_body.new.vm c.renew_codes.new.vm
    c.args.moved.now.asked c.ask.new.self.asked c.renew_codes.new.moved.asked c.close.new.self.asked c.mark-mark.result.asked c.mark-mark.result.evaluated
    c.in_ok-ask.ensures.asked c.mark-mark.ensures.asked c.mark-mark.ensures.evaluated c.close.ensures.asked c.enters_body.ensures.still
    (region_entered few a c.args.cells.now p.Codes (λ n. positions_in (lives_of (seen_codes n x.body))) (λ n. seen_codes n x.body) (Below a c.args.cells.now c.args.left q q x.body)
    c.args.vm.now c.enters_body.new.vm c.renew_codes.new.vm (λ n. seen_codes n c.renew_codes.new.codes) (λ n u agrees. c.in_ok-enters_body.ensures.asked n u agrees ∙ c.if-branch.true) c.enters_body.ensures.still
    (subst (λ w. Renews a c.args.cells.now (λ n run. along_codes_as by_number run c.args.left w 0 (seen_codes n x.body)) c.enters_body.new.vm (λ n. seen_codes n c.renew_codes.new.codes) c.renew_codes.new.vm) c.in_ok-enter_item.ensures.view c.in-Ok.ensures.ok))
    (subst (λ w. Asks a c.args.cells.now (AsksIn c.args.left w (λ n. seen_codes n x.body)) c.enters_body.new.vm c.ask.new.self.asked c.renew_codes.new.moved.asked) c.in_ok-enter_item.ensures.view c.in-Ok.ensures.asked))

pub along::walk_item-returns-in-Ok-clause-key : goal.along::walk_item-returns-in-Ok-clause-key
along::walk_item-returns-in-Ok-clause-key g t c = λ n.
    let x = c.args.item.now in
    let y : ItemCode = record { spot = x.spot; comment = x.comment; body = c.renew_codes.new.codes } in
    ap spot_key (item_is n y) ∙ sym (ap spot_key (item_is n x))

pub along::walk_item-returns-else-branch-clause-ok : goal.along::walk_item-returns-else-branch-clause-ok
along::walk_item-returns-else-branch-clause-ok g t c =
    let x = c.args.item.now in
    let a = c.args.app.now in
    let q : Path = item (plain (view x.spot.key)) x.spot.occurrence ∷ trail_view c.args.trail.now in
    along_renews a c.args.cells.now c.args.left (trail_view c.args.trail.now) q x.spot x.comment x.body (λ n. seen_item_code n x) c.args.vm.now (λ n. item_is n x) refl x.body (λ n. seen_item_code n x) c.enters_body.new.vm (λ n. item_is n x)
    (region_passed few a c.args.cells.now p.Codes (λ n. positions_in (lives_of (seen_codes n x.body))) (λ n. seen_codes n x.body) (Below a c.args.cells.now c.args.left q q x.body)
    c.args.vm.now c.enters_body.new.vm (λ n u agrees. c.in_ok-enters_body.ensures.asked n u agrees ∙ c.if-branch.false) c.enters_body.ensures.still)

pub along::walk_item-returns-else-branch-clause-moved : goal.along::walk_item-returns-else-branch-clause-moved
along::walk_item-returns-else-branch-clause-moved g t c =
    let x = c.args.item.now in
    let m = c.args.moved.now in
    kept_moved m m c.ask.new.self false (λ n. seen_item_code n x) (λ n. seen_item_code n x) (λ n. seen_codes n x.body) (λ n. seen_codes n x.body)
    (λ n. ap (λ (z : Item). z.1.1) (item_is n x)) (λ n. ap (λ (z : Item). z.1.1) (item_is n x)) (stays_moved m (λ n. seen_codes n x.body)) (let e = c.ask.ensures.items in omega (arith, e))

pub along::walk_item-returns-else-branch-clause-nodes : goal.along::walk_item-returns-else-branch-clause-nodes
along::walk_item-returns-else-branch-clause-nodes g t c =
    nodes_same c.args.vm.now.tree c.enters_body.new.vm.tree c.args.moved.now.items c.ask.new.self.items (stamp_of c.args.parent.now) (λ n. item_nest n c.args.item.now) (refs_rooted c.args.vm.now c.enters_body.new.vm _ c.enters_body.ensures.counted.rest) c.ask.ensures.items

pub along::walk_item-returns-else-branch-clause-asked : goal.along::walk_item-returns-else-branch-clause-asked
along::walk_item-returns-else-branch-clause-asked g t c =
    let x = c.args.item.now in
    let a = c.args.app.now in
    let q : Path = item (plain (view x.spot.key)) x.spot.occurrence ∷ trail_view c.args.trail.now in
    item_asks a c.args.cells.now c.args.left (trail_view c.args.trail.now) q x.spot x.comment x.body (λ n. seen_item_code n x) c.args.vm.now (λ n. item_is n x) refl c.args.moved.now.asked c.ask.new.self.asked
    (asks_passed a c.args.cells.now (λ n run. along_body_as by_number run c.args.left q (seen_codes n x.body)) (AsksIn c.args.left q (λ n. seen_codes n x.body)) (λ n. seen_codes n x.body) c.args.vm.now c.args.vm.now c.args.moved.now.asked c.ask.new.self.asked c.in_ok-ask.ensures.asked
    (region_passed few a c.args.cells.now p.Codes (λ n. positions_in (lives_of (seen_codes n x.body))) (λ n. seen_codes n x.body) (Below a c.args.cells.now c.args.left q q x.body)
    c.args.vm.now c.args.vm.now (λ n u agrees. c.in_ok-enters_body.ensures.asked n u agrees ∙ c.if-branch.false) (does_nothing c.args.vm.now)) refl)

pub along::walk_items-loop-item-init : goal.along::walk_items-loop-item-init
along::walk_items-loop-item-init g t c = record {
  unvisited = search rules;
  trail = search rules;
  calm = c.requires.calm;
  walks = items_begin c.args.app.now c.args.cells.now c.args.left (trail_view c.args.trail.now) c.args.items.now.items c.deref_mut-item-items.result.now c.args.vm.now c.deref_mut-item-items.ensures.value;
  moved = along_begin c.args.moved.now c.args.items.now.items c.deref_mut-item-items.result.now;
  asks = items_asked c.args.app.now c.args.cells.now c.args.left (trail_view c.args.trail.now) c.args.items.now.items c.deref_mut-item-items.result.now c.args.vm.now c.args.moved.now.asked c.deref_mut-item-items.ensures.value;
  nodes = row_begin item_nest c.args.vm.now.tree c.args.moved.now.items (stamp_of c.args.parent.now) c.args.items.now.items c.deref_mut-item-items.result.now;
}

pub along::walk_items-loop-item-preserved : goal.along::walk_items-loop-item-preserved
along::walk_items-loop-item-preserved g t c = record {
  unvisited = (
    length-set c.loop-item.item-items c.loop-item.item-index c.walk_item.new.item ∙ c.loop-item.invariant.unvisited.0,
    λ k d le. let ne : k ≢ c.loop-item.item-index = omega (arith, le) in get_or-set_other c.loop-item.item-items c.loop-item.item-index k c.walk_item.new.item d ne ∙ c.loop-item.invariant.unvisited.1 k d (omega (arith, le)),
  );
  trail = c.in-Ok.ensures.trail ∙ c.loop-item.invariant.trail;
  calm = c.in-Ok.ensures.calm;
  walks = items_next c.args.app.now c.args.cells.now c.args.left (trail_view c.args.trail.now) c.loop-item.item-items c.loop-item.item-index c.item-item.result (let lt = c.loop-item-test.true in let e = c.loop-item.invariant.unvisited.0 in omega (arith, lt, e)) c.item-item.is c.args.items.now.items c.args.vm.now c.loop-item.vm c.walk_item.new.vm c.walk_item.new.item c.loop-item.invariant.walks
      (subst (λ w. Renews c.args.app.now c.args.cells.now (AlongItem c.args.left (trail_view w) (λ n. seen_item_code n c.item-item.result)) c.loop-item.vm (λ n. seen_item_code n c.walk_item.new.item) c.walk_item.new.vm) c.loop-item.invariant.trail
      (subst (λ z. Renews c.args.app.now c.args.cells.now (AlongItem c.args.left (trail_view c.loop-item.trail) (λ n. seen_item_code n z)) c.loop-item.vm (λ n. seen_item_code n c.walk_item.new.item) c.walk_item.new.vm) (sym c.item-item.is) c.in-Ok.ensures.ok));
  moved = along_next c.args.moved.now c.loop-item.moved c.walk_item.new.moved c.args.items.now.items c.loop-item.item-items c.loop-item.item-index c.item-item.result c.walk_item.new.item (let lt = c.loop-item-test.true in let e = c.loop-item.invariant.unvisited.0 in omega (arith, lt, e))
      (c.loop-item.invariant.unvisited.0 ∙ ap length c.deref_mut-item-items.ensures.value)
      (c.item-item.is ∙ (c.loop-item.invariant.unvisited.1 c.loop-item.item-index c.item-item.result (omega arith) ∙ ap (λ xs. get_or xs c.loop-item.item-index c.item-item.result) c.deref_mut-item-items.ensures.value)) c.loop-item.invariant.moved
      (subst (λ z. KeptMoved c.loop-item.moved c.walk_item.new.moved false (λ n. seen_item_code n z) (λ n. seen_item_code n c.walk_item.new.item)) (sym c.item-item.is) c.in-Ok.ensures.moved)
      (subst (λ z. (n : Tables) → spot_key (seen_item_code n c.walk_item.new.item) ≡ spot_key (seen_item_code n z)) (sym c.item-item.is) c.in-Ok.ensures.key);
  asks = items_ask c.args.app.now c.args.cells.now c.args.left (trail_view c.args.trail.now) c.args.items.now.items c.loop-item.item-items c.loop-item.item-index c.item-item.result c.walk_item.new.item c.args.vm.now c.loop-item.vm c.walk_item.new.vm c.args.moved.now.asked c.loop-item.moved.asked c.walk_item.new.moved.asked
      (let lt = c.loop-item-test.true in let e = c.loop-item.invariant.unvisited.0 in omega (arith, lt, e)) c.item-item.is c.loop-item.invariant.asks
      (subst (λ w. Asks c.args.app.now c.args.cells.now (AsksItem c.args.app.now c.args.cells.now c.args.left (trail_view w) c.item-item.result) c.loop-item.vm c.loop-item.moved.asked c.walk_item.new.moved.asked) c.loop-item.invariant.trail
      (subst (λ z. Asks c.args.app.now c.args.cells.now (AsksItem c.args.app.now c.args.cells.now c.args.left (trail_view c.loop-item.trail) z) c.loop-item.vm c.loop-item.moved.asked c.walk_item.new.moved.asked) (sym c.item-item.is) c.in-Ok.ensures.asked))
      (subst (λ w. Renews c.args.app.now c.args.cells.now (AlongItem c.args.left (trail_view w) (λ n. seen_item_code n c.item-item.result)) c.loop-item.vm (λ n. seen_item_code n c.walk_item.new.item) c.walk_item.new.vm) c.loop-item.invariant.trail
      (subst (λ z. Renews c.args.app.now c.args.cells.now (AlongItem c.args.left (trail_view c.loop-item.trail) (λ n. seen_item_code n z)) c.loop-item.vm (λ n. seen_item_code n c.walk_item.new.item) c.walk_item.new.vm) (sym c.item-item.is) c.in-Ok.ensures.ok));
  nodes = row_next item_nest c.args.vm.now.tree c.loop-item.vm.tree c.walk_item.new.vm.tree c.args.moved.now.items c.loop-item.moved.items c.walk_item.new.moved.items (stamp_of c.args.parent.now) c.args.items.now.items c.loop-item.item-items c.loop-item.item-index c.item-item.result c.walk_item.new.item (let lt = c.loop-item-test.true in let e = c.loop-item.invariant.unvisited.0 in omega (arith, lt, e))
      (c.loop-item.invariant.unvisited.0 ∙ ap length c.deref_mut-item-items.ensures.value)
      (c.item-item.is ∙ (c.loop-item.invariant.unvisited.1 c.loop-item.item-index c.item-item.result (omega arith) ∙ ap (λ xs. get_or xs c.loop-item.item-index c.item-item.result) c.deref_mut-item-items.ensures.value)) c.loop-item.invariant.nodes
      (subst (λ z. NodesRenewed c.loop-item.vm.tree c.walk_item.new.vm.tree c.loop-item.moved.items c.walk_item.new.moved.items (stamp_of c.args.parent.now) (λ n. item_nest n z) (λ n. item_nest n c.walk_item.new.item)) (sym c.item-item.is) c.in-Ok.ensures.nodes);
}

pub along::walk_items-returns-in-Err-clause-fails : goal.along::walk_items-returns-in-Err-clause-fails
along::walk_items-returns-in-Err-clause-fails g t c =
    items_fail c.args.app.now c.args.cells.now c.args.left (trail_view c.args.trail.now) c.loop-item.item-items c.loop-item.item-index c.item-item.result (let lt = c.loop-item-test.true in let e = c.loop-item.invariant.unvisited.0 in omega (arith, lt, e)) c.item-item.is c.args.items.now.items c.args.vm.now c.loop-item.vm c.in-Err.fault c.loop-item.invariant.walks
    (subst (λ w. RenewFails {A = Item} c.args.app.now c.args.cells.now (AlongItem c.args.left (trail_view w) (λ n. seen_item_code n c.item-item.result)) c.loop-item.vm c.in-Err.fault) c.loop-item.invariant.trail
    (subst (λ z. RenewFails {A = Item} c.args.app.now c.args.cells.now (AlongItem c.args.left (trail_view c.loop-item.trail) (λ n. seen_item_code n z)) c.loop-item.vm c.in-Err.fault) (sym c.item-item.is) c.in-Err.ensures.fails))

pub along::walk_items-returns-clause-ok : goal.along::walk_items-returns-clause-ok
along::walk_items-returns-clause-ok g t c =
    items_end c.args.app.now c.args.cells.now c.args.left (trail_view c.args.trail.now) c.args.items.now.items _ c.args.vm.now c.loop-item.vm c.loop-item.item-items c.loop-item.item-index (let le = c.loop-item-test.false in let e = c.loop-item.invariant.unvisited.0 in omega (arith, le, e)) c.loop-item.invariant.walks
    (written c.loop-item.item-items (drop (length c.loop-item.item-items) c.args.items.now.items) c.args.items.now.len
    (c.args.items.now.ok.0 ∙ (ap length (sym c.deref_mut-item-items.ensures.value) ∙ sym c.loop-item.invariant.unvisited.0)))

pub along::walk_items-returns-clause-moved : goal.along::walk_items-returns-clause-moved
along::walk_items-returns-clause-moved g t c =
    along_end c.args.moved.now c.loop-item.moved c.args.items.now.items _ c.loop-item.item-items c.loop-item.item-index (c.loop-item.invariant.unvisited.0 ∙ ap length c.deref_mut-item-items.ensures.value) (let le = c.loop-item-test.false in let e = c.loop-item.invariant.unvisited.0 in omega (arith, le, e))
    (written c.loop-item.item-items (drop (length c.loop-item.item-items) c.args.items.now.items) c.args.items.now.len
    (c.args.items.now.ok.0 ∙ (ap length (sym c.deref_mut-item-items.ensures.value) ∙ sym c.loop-item.invariant.unvisited.0))) c.loop-item.invariant.moved

pub along::walk_items-returns-clause-nodes : goal.along::walk_items-returns-clause-nodes
along::walk_items-returns-clause-nodes g t c =
    items_renewed c.args.vm.now.tree c.loop-item.vm.tree c.args.moved.now.items c.loop-item.moved.items (stamp_of c.args.parent.now) c.args.items.now.items _
    (row_end item_nest c.args.vm.now.tree c.loop-item.vm.tree c.args.moved.now.items c.loop-item.moved.items (stamp_of c.args.parent.now) c.args.items.now.items _ c.loop-item.item-items c.loop-item.item-index (c.loop-item.invariant.unvisited.0 ∙ ap length c.deref_mut-item-items.ensures.value) (let le = c.loop-item-test.false in let e = c.loop-item.invariant.unvisited.0 in omega (arith, le, e))
    (written c.loop-item.item-items (drop (length c.loop-item.item-items) c.args.items.now.items) c.args.items.now.len
    (c.args.items.now.ok.0 ∙ (ap length (sym c.deref_mut-item-items.ensures.value) ∙ sym c.loop-item.invariant.unvisited.0))) c.loop-item.invariant.nodes)

pub along::walk_items-returns-clause-asked : goal.along::walk_items-returns-clause-asked
along::walk_items-returns-clause-asked g t c =
    items_all_asked c.args.app.now c.args.cells.now c.args.left (trail_view c.args.trail.now) c.args.items.now.items c.loop-item.item-items c.loop-item.item-index c.args.vm.now c.loop-item.vm c.args.moved.now.asked c.loop-item.moved.asked
    (let le = c.loop-item-test.false in let e = c.loop-item.invariant.unvisited.0 in omega (arith, le, e)) c.loop-item.invariant.asks

pub lists::renew_unlisted-returns-in_ok-without_items-in-Ok-clause-moved : goal.lists::renew_unlisted-returns-in_ok-without_items-in-Ok-clause-moved
lists::renew_unlisted-returns-in_ok-without_items-in-Ok-clause-moved g t c =
    let z : Tables → Listing = λ n. seen_listing n c.args.list.value.listing in
    let s = seen_spot c.args.list.value.spot in
    let p = trail_view c.args.trail.now in
    let k = stamp_of c.args.list.value.comment in
    let cs : Tables → PlainCodes = λ n. seen_codes n c.args.list.value.body in
    let es = c.in_ok-read.read.1.value.entries in
    let l : vec_len es ≡ length es.items = search rules in
    let d : c.deref_mut.result.now ≡ c.args.list.value = c.deref_mut.ensures.value ∙ (ap (λ (b : Box Unlisted Global). b.value) c.first_of-list.ensures ∙ ap (λ (b : Box Unlisted Global). b.value) c.in_ok-read.ensures.list) in
    let old : Tables → PlainCode = λ n. unlisted_code (z n) s k (cs n) in
    let mid : (n : Tables) → seen_code n c.in_ok-without_items-in-Ok.field-0.value ≡ unlisted_code (z n) s k (seen_codes n c.renew_else.new.body) =
    λ n. c.in_ok-without_items-in-Ok.ensures n ∙ ap (λ (x : Unlisted). unlisted_code (seen_listing n x.listing) (seen_spot x.spot) (stamp_of x.comment) (seen_codes n c.renew_else.new.body)) d in
    code_moved c.args.moved.now c.renew_else.new.moved old (λ n. seen_code n c.in_ok-without_items-in-Ok.field-0.value) old (λ n. unlisted_code (z n) s k (seen_codes n c.renew_else.new.body)) (λ n. refl) mid
    (subst (λ (x : Unlisted). CodesMoved c.args.moved.now c.renew_else.new.moved (λ n. seen_codes n x.body) (λ n. seen_codes n c.renew_else.new.body)) d c.in-Ok.ensures.moved)

pub lists::renew_unlisted-returns-in_ok-without_items-in-Ok-clause-nodes : goal.lists::renew_unlisted-returns-in_ok-without_items-in-Ok-clause-nodes
lists::renew_unlisted-returns-in_ok-without_items-in-Ok-clause-nodes g t c =
    let l = c.args.list.value in
    let d : c.deref_mut.result.now ≡ l = c.deref_mut.ensures.value ∙ (ap (λ (b : Box Unlisted Global). b.value) c.first_of-list.ensures ∙ ap (λ (b : Box Unlisted Global). b.value) c.in_ok-read.ensures.list) in
    let mid : (n : Tables) → seen_code n c.in_ok-without_items-in-Ok.field-0.value ≡ unlisted_code (seen_listing n l.listing) (seen_spot l.spot) (stamp_of l.comment) (seen_codes n c.renew_else.new.body) =
    λ n. c.in_ok-without_items-in-Ok.ensures n ∙ ap (λ (x : Unlisted). unlisted_code (seen_listing n x.listing) (seen_spot x.spot) (stamp_of x.comment) (seen_codes n c.renew_else.new.body)) d in
    let b = c.args.moved.now.items in
    let a = c.renew_else.new.moved.items in
    let new = c.renew_else.new.vm.tree in
    let x : Tables → Nest ℕ = λ n. codes_nest n l.body in
    let y : Tables → Nest ℕ = λ n. codes_nest n c.renew_else.new.body in
    let k : Tables → Nest ℕ = λ n. nest_comment (stamp_of l.comment) in
    nodes_made c.args.vm.now.tree new b a (stamp_of c.args.parent.now) (λ n. body_nest n l.body l.comment) c.in_ok-without_items-in-Ok.field-0.value (λ n. unlisted_code (seen_listing n l.listing) (seen_spot l.spot) (stamp_of l.comment) (seen_codes n c.renew_else.new.body)) mid
    (nodes_after c.args.vm.now.tree c.read_unlisted.new.vm.tree new b b a (stamp_of c.args.parent.now) (λ n. joined (x n) (k n)) (λ n. joined (y n) (k n)) (roots_same c.args.vm.now.tree c.read_unlisted.new.vm.tree c.in_ok-read.ensures.tree) refl
    (nodes_beside c.read_unlisted.new.vm.tree new b a (stamp_of c.args.parent.now) x y k
    (subst (λ (z : Unlisted). NodesRenewed c.read_unlisted.new.vm.tree new b a (stamp_of c.args.parent.now) (λ n. codes_nest n z.body) y) d c.in-Ok.ensures.nodes)))

pub lists::renew_unlisted-returns-else-is_empty-clause-moved : goal.lists::renew_unlisted-returns-else-is_empty-clause-moved
lists::renew_unlisted-returns-else-is_empty-clause-moved g t c =
    let z : Tables → Listing = λ n. seen_listing n c.args.list.value.listing in
    let s = seen_spot c.args.list.value.spot in
    let p = trail_view c.args.trail.now in
    let k = stamp_of c.args.list.value.comment in
    let cs : Tables → PlainCodes = λ n. seen_codes n c.args.list.value.body in
    let es = c.in_ok-read.read.1.value.entries in
    let l : vec_len es ≡ length es.items = search rules in
    IfOk-weaker c.begin_list.result (λ r. (n : Tables) → IsListed (live_of (seen_code n r.value))) (λ r. CodeMoved c.args.moved.now c.args.moved.now (λ n. unlisted_code (z n) s k (cs n)) (λ n. seen_code n r.value))
    (λ r h. begun_moved c.args.moved.now z s k cs (λ n. seen_code n r.value) h) c.begin_list.ensures.some

pub lists::renew_unlisted-returns-else-is_empty-clause-nodes : goal.lists::renew_unlisted-returns-else-is_empty-clause-nodes
lists::renew_unlisted-returns-else-is_empty-clause-nodes g t c =
    let x : Tables → Nest ℕ = λ n. body_nest n c.args.list.value.body c.args.list.value.comment in
    let b = c.args.moved.now.items in
    if_ok_two c.begin_list.result
    (λ r h m. nodes_after c.args.vm.now.tree c.read_unlisted.new.vm.tree c.begin_list.new.vm.tree b b b (stamp_of c.args.parent.now) x (λ n. code_nest n r.value) (roots_same c.args.vm.now.tree c.read_unlisted.new.vm.tree c.in_ok-read.ensures.tree) refl
    (nodes_replaced c.read_unlisted.new.vm.tree c.begin_list.new.vm.tree b b (stamp_of c.args.parent.now) x (λ n. code_nest n r.value) h m refl))
    (subst (λ (l : Box Unlisted Global). IfOk c.begin_list.result (λ r. (n : Tables) → Replaces c.read_unlisted.new.vm.tree.forest c.begin_list.new.vm.tree.forest (stamp_of c.args.parent.now) (body_nest n l.value.body l.value.comment) (code_nest n r.value))) c.in_ok-read.ensures.list c.begin_list.ensures.nodes)
    c.begin_list.ensures.moves

pub lists::renew_unlisted-returns-in_ok-without_items-in-Ok-clause-ok : goal.lists::renew_unlisted-returns-in_ok-without_items-in-Ok-clause-ok
lists::renew_unlisted-returns-in_ok-without_items-in-Ok-clause-ok g t c =
    let z : Tables → Listing = λ n. seen_listing n c.args.list.value.listing in
    let s = seen_spot c.args.list.value.spot in
    let p = trail_view c.args.trail.now in
    let k = stamp_of c.args.list.value.comment in
    let cs : Tables → PlainCodes = λ n. seen_codes n c.args.list.value.body in
    let es = c.in_ok-read.read.1.value.entries in
    let l : vec_len es ≡ length es.items = search rules in
    let none = none_counted es.items (vec_len es) l (subst (λ (x : Ready). nat_eq (vec_len x.entries) 0 ≡ true) c.deref.ensures (sym c.is_empty.ensures ∙ c.if-is_empty.true)) in
    let d : c.deref_mut.result.now ≡ c.args.list.value = c.deref_mut.ensures.value ∙ (ap (λ (b : Box Unlisted Global). b.value) c.first_of-list.ensures ∙ ap (λ (b : Box Unlisted Global). b.value) c.in_ok-read.ensures.list) in
    let ds : Tables → PlainCodes = λ n. seen_codes n c.renew_else.new.body in
    let mid : (n : Tables) → seen_code n c.in_ok-without_items-in-Ok.field-0.value ≡ unlisted_code (z n) s k (ds n) =
    λ n. c.in_ok-without_items-in-Ok.ensures n ∙ ap (λ (x : Unlisted). unlisted_code (seen_listing n x.listing) (seen_spot x.spot) (stamp_of x.comment) (ds n)) d in
    renews_as c.args.app.now c.args.cells.now (Unlisting c.args.app.now c.args.cells.now z c.args.list.value.listing.key (λ n. refl) s c.args.left p k cs) (λ n. unlisted_code (z n) s k (ds n)) (λ n. seen_code n c.in_ok-without_items-in-Ok.field-0.value) c.args.vm.now c.renew_else.new.vm (λ n. sym (mid n))
    (unlisted_stays c.args.app.now c.args.cells.now z c.args.list.value.listing.key (λ n. refl) s c.args.left p k cs c.args.vm.now c.read_unlisted.new.vm c.renew_else.new.vm ds c.in_ok-read.ensures.step
    (λ n u. sym (ap seen_left none) ∙ c.in_ok-read.ensures.entries n u)
    (subst (λ (x : Unlisted). Renews c.args.app.now c.args.cells.now (λ n run. along_body_as by_number run c.args.left (otherwise ∷ p) (seen_codes n x.body)) c.read_unlisted.new.vm ds c.renew_else.new.vm) d c.in-Ok.ensures.ok))

pub lists::renew_unlisted-returns-in_ok-without_items-in-Ok-clause-asked : goal.lists::renew_unlisted-returns-in_ok-without_items-in-Ok-clause-asked
lists::renew_unlisted-returns-in_ok-without_items-in-Ok-clause-asked g t c =
    let z : Tables → Listing = λ n. seen_listing n c.args.list.value.listing in
    let s = seen_spot c.args.list.value.spot in
    let p = trail_view c.args.trail.now in
    let k = stamp_of c.args.list.value.comment in
    let cs : Tables → PlainCodes = λ n. seen_codes n c.args.list.value.body in
    let es = c.in_ok-read.read.1.value.entries in
    let l : vec_len es ≡ length es.items = search rules in
    let none = none_counted es.items (vec_len es) l (subst (λ (x : Ready). nat_eq (vec_len x.entries) 0 ≡ true) c.deref.ensures (sym c.is_empty.ensures ∙ c.if-is_empty.true)) in
    let d : c.deref_mut.result.now ≡ c.args.list.value = c.deref_mut.ensures.value ∙ (ap (λ (b : Box Unlisted Global). b.value) c.first_of-list.ensures ∙ ap (λ (b : Box Unlisted Global). b.value) c.in_ok-read.ensures.list) in
    unlisted_asks c.args.app.now c.args.cells.now z c.args.list.value.listing.key (λ n. refl) s c.args.left p k cs c.args.vm.now c.read_unlisted.new.vm c.args.moved.now.asked c.renew_else.new.moved.asked c.in_ok-read.ensures.step
    (λ n u. sym (ap seen_left none) ∙ c.in_ok-read.ensures.entries n u)
    (subst (λ (x : Unlisted). Asks c.args.app.now c.args.cells.now (AsksBody c.args.left (otherwise ∷ p) (λ n. seen_codes n x.body)) c.read_unlisted.new.vm c.args.moved.now.asked c.renew_else.new.moved.asked) d c.in-Ok.ensures.asked)

pub lists::renew_unlisted-returns-in-Err-clause-fails : goal.lists::renew_unlisted-returns-in-Err-clause-fails
lists::renew_unlisted-returns-in-Err-clause-fails g t c =
    let z : Tables → Listing = λ n. seen_listing n c.args.list.value.listing in
    let s = seen_spot c.args.list.value.spot in
    let p = trail_view c.args.trail.now in
    let k = stamp_of c.args.list.value.comment in
    let cs : Tables → PlainCodes = λ n. seen_codes n c.args.list.value.body in
    let es = c.in_ok-read.read.1.value.entries in
    let l : vec_len es ≡ length es.items = search rules in
    let none = none_counted es.items (vec_len es) l (subst (λ (x : Ready). nat_eq (vec_len x.entries) 0 ≡ true) c.deref.ensures (sym c.is_empty.ensures ∙ c.if-is_empty.true)) in
    let d : c.deref_mut.result.now ≡ c.args.list.value = c.deref_mut.ensures.value ∙ (ap (λ (b : Box Unlisted Global). b.value) c.first_of-list.ensures ∙ ap (λ (b : Box Unlisted Global). b.value) c.in_ok-read.ensures.list) in
    subst (RenewFails {A = PlainCode} c.args.app.now c.args.cells.now (Unlisting c.args.app.now c.args.cells.now z c.args.list.value.listing.key (λ n. refl) s c.args.left p k cs) c.args.vm.now) (sym c.lost_list.ensures)
    (unlisted_stays_fails c.args.app.now c.args.cells.now z c.args.list.value.listing.key (λ n. refl) s c.args.left p k cs c.args.vm.now c.read_unlisted.new.vm c.in-Err.fault c.in_ok-read.ensures.step
    (λ n u. sym (ap seen_left none) ∙ c.in_ok-read.ensures.entries n u)
    (subst (λ (x : Unlisted). RenewFails {A = PlainCodes} c.args.app.now c.args.cells.now (λ n run. along_body_as by_number run c.args.left (otherwise ∷ p) (seen_codes n x.body)) c.read_unlisted.new.vm c.in-Err.fault) d c.in-Err.ensures.fails))

pub lists::renew_unlisted-returns-else-is_empty-clause-ok : goal.lists::renew_unlisted-returns-else-is_empty-clause-ok
lists::renew_unlisted-returns-else-is_empty-clause-ok g t c =
    let z : Tables → Listing = λ n. seen_listing n c.args.list.value.listing in
    let s = seen_spot c.args.list.value.spot in
    let p = trail_view c.args.trail.now in
    let k = stamp_of c.args.list.value.comment in
    let cs : Tables → PlainCodes = λ n. seen_codes n c.args.list.value.body in
    let es = c.in_ok-read.read.1.value.entries in
    let l : vec_len es ≡ length es.items = search rules in
    let some = some_counted es.items (vec_len es) l (subst (λ (x : Ready). nat_eq (vec_len x.entries) 0 ≡ false) c.deref.ensures (sym c.is_empty.ensures ∙ c.if-is_empty.false)) in
    IfOk-weaker c.begin_list.result
    (λ r. Renews c.args.app.now c.args.cells.now (ListsFresh z s c.args.left p (seen_left es.items) (gone c.args.app.now c.args.cells.now z c.args.list.value.listing.key (λ n. refl) s c.args.left p k cs)) c.read_unlisted.new.vm (λ n. seen_code n r.value) c.begin_list.new.vm)
    (λ r. Renews c.args.app.now c.args.cells.now (Unlisting c.args.app.now c.args.cells.now z c.args.list.value.listing.key (λ n. refl) s c.args.left p k cs) c.args.vm.now (λ n. seen_code n r.value) c.begin_list.new.vm)
    (λ r h. unlisted_lists c.args.app.now c.args.cells.now z c.args.list.value.listing.key (λ n. refl) s c.args.left p k cs (seen_left es.items) c.args.vm.now c.read_unlisted.new.vm c.begin_list.new.vm (λ n. seen_code n r.value) (λ e. some (none_left es.items e)) c.in_ok-read.ensures.step
    c.in_ok-read.ensures.entries h)
    (subst (λ (b : Box Unlisted Global). IfOk c.begin_list.result (λ r. Renews c.args.app.now c.args.cells.now (ListsFresh (λ n. seen_listing n b.value.listing) (seen_spot b.value.spot) c.args.left (trail_view c.args.trail.now) (seen_left es.items) (λ n q. times_in q (lives_of (seen_codes n b.value.body)) + times_comment q (stamp_of b.value.comment))) c.read_unlisted.new.vm (λ n. seen_code n r.value) c.begin_list.new.vm)) c.in_ok-read.ensures.list c.begin_list.ensures.ok)

pub lists::renew_unlisted-returns-else-is_empty-clause-asked : goal.lists::renew_unlisted-returns-else-is_empty-clause-asked
lists::renew_unlisted-returns-else-is_empty-clause-asked g t c =
    let z : Tables → Listing = λ n. seen_listing n c.args.list.value.listing in
    let s = seen_spot c.args.list.value.spot in
    let p = trail_view c.args.trail.now in
    let k = stamp_of c.args.list.value.comment in
    let cs : Tables → PlainCodes = λ n. seen_codes n c.args.list.value.body in
    let es = c.in_ok-read.read.1.value.entries in
    let l : vec_len es ≡ length es.items = search rules in
    let some = some_counted es.items (vec_len es) l (subst (λ (x : Ready). nat_eq (vec_len x.entries) 0 ≡ false) c.deref.ensures (sym c.is_empty.ensures ∙ c.if-is_empty.false)) in
    on_ok_always c.begin_list.result
    (unlisted_asks_none c.args.app.now c.args.cells.now z c.args.list.value.listing.key (λ n. refl) s c.args.left p k cs (seen_left es.items) c.args.vm.now c.read_unlisted.new.vm c.args.moved.now.asked (λ e. some (none_left es.items e)) c.in_ok-read.ensures.step c.in_ok-read.ensures.entries)

pub lists::renew_unlisted-returns-else-is_empty-clause-fails : goal.lists::renew_unlisted-returns-else-is_empty-clause-fails
lists::renew_unlisted-returns-else-is_empty-clause-fails g t c =
    let z : Tables → Listing = λ n. seen_listing n c.args.list.value.listing in
    let s = seen_spot c.args.list.value.spot in
    let p = trail_view c.args.trail.now in
    let k = stamp_of c.args.list.value.comment in
    let cs : Tables → PlainCodes = λ n. seen_codes n c.args.list.value.body in
    let es = c.in_ok-read.read.1.value.entries in
    let l : vec_len es ≡ length es.items = search rules in
    let some = some_counted es.items (vec_len es) l (subst (λ (x : Ready). nat_eq (vec_len x.entries) 0 ≡ false) c.deref.ensures (sym c.is_empty.ensures ∙ c.if-is_empty.false)) in
    IfErr-weaker c.begin_list.result
    (RenewFails {A = PlainCode} c.args.app.now c.args.cells.now (ListsFresh z s c.args.left p (seen_left es.items) (gone c.args.app.now c.args.cells.now z c.args.list.value.listing.key (λ n. refl) s c.args.left p k cs)) c.read_unlisted.new.vm)
    (RenewFails {A = PlainCode} c.args.app.now c.args.cells.now (Unlisting c.args.app.now c.args.cells.now z c.args.list.value.listing.key (λ n. refl) s c.args.left p k cs) c.args.vm.now)
    (λ f h. unlisted_lists_fails c.args.app.now c.args.cells.now z c.args.list.value.listing.key (λ n. refl) s c.args.left p k cs (seen_left es.items) c.args.vm.now c.read_unlisted.new.vm f (λ e. some (none_left es.items e)) c.in_ok-read.ensures.step
    c.in_ok-read.ensures.entries h)
    (subst (λ (b : Box Unlisted Global). IfErr c.begin_list.result (RenewFails {A = PlainCode} c.args.app.now c.args.cells.now (ListsFresh (λ n. seen_listing n b.value.listing) (seen_spot b.value.spot) c.args.left (trail_view c.args.trail.now) (seen_left es.items) (λ n q. times_in q (lives_of (seen_codes n b.value.body)) + times_comment q (stamp_of b.value.comment))) c.read_unlisted.new.vm)) c.in_ok-read.ensures.list c.begin_list.ensures.fails)

-- an item

pub syncing::kept_item-returns-in_ok-settled-in-Ok-clause-ok : goal.syncing::kept_item-returns-in_ok-settled-in-Ok-clause-ok
syncing::kept_item-returns-in_ok-settled-in-Ok-clause-ok g t c =
    let e = c.args.entry.value in
    let o = c.args.old.value in
    let q : Path = item (plain (view e.key)) e.occurrence ∷ trail_view c.args.trail.now in
    let x : ItemCode = c.deref_mut.result.now in
    let is : x ≡ o = c.deref_mut.ensures.value ∙ ap (λ (b : Box ItemCode Global). b.value) (c.in_ok-kept.ensures.item ∙ c.in_ok-old.ensures.item) in
    let given : Does (given_item x.spot e) c.args.vm.now c.begin_item.new.vm =
    does_then (λ n st. st) (given_item x.spot e) c.args.vm.now c.placed.new.vm c.begin_item.new.vm c.in_ok-old.ensures.step
    (subst (λ (y : ItemCode). Does (given_item y.spot e) c.placed.new.vm c.begin_item.new.vm) (ap (λ (b : Box ItemCode Global). b.value) c.in_ok-old.ensures.item ∙ sym is) c.in_ok-kept.ensures.step) in
    let y : ItemCode = record { spot = x.spot; comment = x.comment; body = c.renew_body.new.codes } in
    let r : ItemCode = c.in_ok-settled-in-Ok.field-0.value in
    let same : r ≡ y = ap (λ (b : Box ItemCode Global). b.value) c.in_ok-settled-in-Ok.ensures.item in
    let new : (n : Tables) → seen_item_code n r ≡ (seen_item_spot x.spot, (stamp_of x.comment, seen_codes n c.renew_body.new.codes)) = λ n. ap (seen_item_code n) same ∙ item_is n y in
    subst (λ (w : ItemCode). Renews c.args.app.now c.args.cells.now (KeptItem c.args.left q (seen_entry e) (λ n. seen_item_code n w)) c.args.vm.now (λ n. seen_item_code n r) c.renew_body.new.vm) is
    (kept_renews c.args.app.now c.args.cells.now c.args.left q e x.spot x.comment x.body (λ n. seen_item_code n x) c.args.vm.now c.begin_item.new.vm
    (λ n. item_is n x) given c.renew_body.new.codes (λ n. seen_item_code n r) c.renew_body.new.vm new
    (subst (λ w. Renews c.args.app.now c.args.cells.now (λ n run. along_body_as by_number run c.args.left w (seen_codes n x.body)) c.begin_item.new.vm (λ n. seen_codes n c.renew_body.new.codes) c.renew_body.new.vm) c.in_ok-kept.ensures.view c.in-Ok.ensures.ok))

pub syncing::kept_item-returns-in-Err-clause-fails : goal.syncing::kept_item-returns-in-Err-clause-fails
syncing::kept_item-returns-in-Err-clause-fails g t c =
    let e = c.args.entry.value in
    let o = c.args.old.value in
    let q : Path = item (plain (view e.key)) e.occurrence ∷ trail_view c.args.trail.now in
    let x : ItemCode = c.deref_mut.result.now in
    let is : x ≡ o = c.deref_mut.ensures.value ∙ ap (λ (b : Box ItemCode Global). b.value) (c.in_ok-kept.ensures.item ∙ c.in_ok-old.ensures.item) in
    let given : Does (given_item x.spot e) c.args.vm.now c.begin_item.new.vm =
    does_then (λ n st. st) (given_item x.spot e) c.args.vm.now c.placed.new.vm c.begin_item.new.vm c.in_ok-old.ensures.step
    (subst (λ (y : ItemCode). Does (given_item y.spot e) c.placed.new.vm c.begin_item.new.vm) (ap (λ (b : Box ItemCode Global). b.value) c.in_ok-old.ensures.item ∙ sym is) c.in_ok-kept.ensures.step) in
    subst (RenewFails {A = Item} c.args.app.now c.args.cells.now (KeptItem c.args.left q (seen_entry e) (λ n. seen_item_code n o)) c.args.vm.now) (sym c.lost_item.ensures)
    (subst (λ (w : ItemCode). RenewFails {A = Item} c.args.app.now c.args.cells.now (KeptItem c.args.left q (seen_entry e) (λ n. seen_item_code n w)) c.args.vm.now c.in-Err.fault) is
    (kept_fails c.args.app.now c.args.cells.now c.args.left q e x.spot x.comment x.body (λ n. seen_item_code n x) c.args.vm.now c.begin_item.new.vm
    (λ n. item_is n x) given c.in-Err.fault
    (subst (λ w. RenewFails {A = p.Codes} c.args.app.now c.args.cells.now (λ n run. along_body_as by_number run c.args.left w (seen_codes n x.body)) c.begin_item.new.vm c.in-Err.fault) c.in_ok-kept.ensures.view c.in-Err.ensures.fails)))

pub syncing::kept_item-returns-in_ok-settled-in-Ok-clause-moved : goal.syncing::kept_item-returns-in_ok-settled-in-Ok-clause-moved
syncing::kept_item-returns-in_ok-settled-in-Ok-clause-moved g t c =
    let e = c.args.entry.value in
    let o = c.args.old.value in
    let q : Path = item (plain (view e.key)) e.occurrence ∷ trail_view c.args.trail.now in
    let x : ItemCode = c.deref_mut.result.now in
    let is : x ≡ o = c.deref_mut.ensures.value ∙ ap (λ (b : Box ItemCode Global). b.value) (c.in_ok-kept.ensures.item ∙ c.in_ok-old.ensures.item) in
    let y : ItemCode = record { spot = x.spot; comment = x.comment; body = c.renew_body.new.codes } in
    let r : ItemCode = c.in_ok-settled-in-Ok.field-0.value in
    let same : r ≡ y = ap (λ (b : Box ItemCode Global). b.value) c.in_ok-settled-in-Ok.ensures.item in
    let new : (n : Tables) → seen_item_code n r ≡ (seen_item_spot x.spot, (stamp_of x.comment, seen_codes n c.renew_body.new.codes)) = λ n. ap (seen_item_code n) same ∙ item_is n y in
    moved_kept c.args.moved.now c.placed.new.moved c.renew_body.new.moved c.args.moves (λ n. seen_item_code n o) (λ n. seen_item_code n r) (λ n. seen_codes n x.body) (λ n. seen_codes n c.renew_body.new.codes)
    (λ n. ap (λ (z : Item). z.1.1) (ap (seen_item_code n) (sym is) ∙ item_is n x)) (λ n. ap (λ (z : Item). z.1.1) (new n)) c.in_ok-old.ensures.moved c.in-Ok.ensures.moved

pub syncing::kept_item-returns-in_ok-settled-in-Ok-clause-asked : goal.syncing::kept_item-returns-in_ok-settled-in-Ok-clause-asked
syncing::kept_item-returns-in_ok-settled-in-Ok-clause-asked g t c =
    let e = c.args.entry.value in
    let o = c.args.old.value in
    let q : Path = item (plain (view e.key)) e.occurrence ∷ trail_view c.args.trail.now in
    let x : ItemCode = c.deref_mut.result.now in
    let is : x ≡ o = c.deref_mut.ensures.value ∙ ap (λ (b : Box ItemCode Global). b.value) (c.in_ok-kept.ensures.item ∙ c.in_ok-old.ensures.item) in
    let given : Does (given_item x.spot e) c.args.vm.now c.begin_item.new.vm =
    does_then (λ n st. st) (given_item x.spot e) c.args.vm.now c.placed.new.vm c.begin_item.new.vm c.in_ok-old.ensures.step
    (subst (λ (y : ItemCode). Does (given_item y.spot e) c.placed.new.vm c.begin_item.new.vm) (ap (λ (b : Box ItemCode Global). b.value) c.in_ok-old.ensures.item ∙ sym is) c.in_ok-kept.ensures.step) in
    subst (λ k. Asks c.args.app.now c.args.cells.now (AsksKept c.args.left q (seen_entry e) (λ n. seen_item_code n o)) c.args.vm.now k c.renew_body.new.moved.asked) c.placed.ensures.asked
    (subst (λ (w : ItemCode). Asks c.args.app.now c.args.cells.now (AsksKept c.args.left q (seen_entry e) (λ n. seen_item_code n w)) c.args.vm.now c.placed.new.moved.asked c.renew_body.new.moved.asked) is
    (kept_asks c.args.app.now c.args.cells.now c.args.left q e x.spot x.comment x.body (λ n. seen_item_code n x) c.args.vm.now c.begin_item.new.vm (λ n. item_is n x) given c.placed.new.moved.asked c.renew_body.new.moved.asked
    (subst (λ w. Asks c.args.app.now c.args.cells.now (AsksBody c.args.left w (λ n. seen_codes n x.body)) c.begin_item.new.vm c.placed.new.moved.asked c.renew_body.new.moved.asked) c.in_ok-kept.ensures.view c.in-Ok.ensures.asked)))

pub syncing::kept_item-returns-in_ok-settled-in-Ok-clause-key : goal.syncing::kept_item-returns-in_ok-settled-in-Ok-clause-key
syncing::kept_item-returns-in_ok-settled-in-Ok-clause-key g t c = λ n.
    let e = c.args.entry.value in
    let o = c.args.old.value in
    let q : Path = item (plain (view e.key)) e.occurrence ∷ trail_view c.args.trail.now in
    let x : ItemCode = c.deref_mut.result.now in
    let is : x ≡ o = c.deref_mut.ensures.value ∙ ap (λ (b : Box ItemCode Global). b.value) (c.in_ok-kept.ensures.item ∙ c.in_ok-old.ensures.item) in
    let y : ItemCode = record { spot = x.spot; comment = x.comment; body = c.renew_body.new.codes } in
    let r : ItemCode = c.in_ok-settled-in-Ok.field-0.value in
    let same : r ≡ y = ap (λ (b : Box ItemCode Global). b.value) c.in_ok-settled-in-Ok.ensures.item in
    let new : (n : Tables) → seen_item_code n r ≡ (seen_item_spot x.spot, (stamp_of x.comment, seen_codes n c.renew_body.new.codes)) = λ n. ap (seen_item_code n) same ∙ item_is n y in
    ap spot_key (new n) ∙ sym (ap spot_key (ap (seen_item_code n) (sym is) ∙ item_is n x))

pub syncing::kept_item-returns-in_ok-settled-in-Ok-clause-nodes : goal.syncing::kept_item-returns-in_ok-settled-in-Ok-clause-nodes
syncing::kept_item-returns-in_ok-settled-in-Ok-clause-nodes g t c =
    let e = c.args.entry.value in
    let o = c.args.old.value in
    let q : Path = item (plain (view e.key)) e.occurrence ∷ trail_view c.args.trail.now in
    let x : ItemCode = c.deref_mut.result.now in
    let is : x ≡ o = c.deref_mut.ensures.value ∙ ap (λ (b : Box ItemCode Global). b.value) (c.in_ok-kept.ensures.item ∙ c.in_ok-old.ensures.item) in
    let y : ItemCode = record { spot = x.spot; comment = x.comment; body = c.renew_body.new.codes } in
    let r : ItemCode = c.in_ok-settled-in-Ok.field-0.value in
    let same : r ≡ y = ap (λ (b : Box ItemCode Global). b.value) c.in_ok-settled-in-Ok.ensures.item in
    let new : (n : Tables) → seen_item_code n r ≡ (seen_item_spot x.spot, (stamp_of x.comment, seen_codes n c.renew_body.new.codes)) = λ n. ap (seen_item_code n) same ∙ item_is n y in
    let p = stamp_of c.args.seat.now.parent in
    let was = c.placed.new.vm.tree in
    let now = c.renew_body.new.vm.tree in
    record {
      mid = was;
      places = c.in_ok-old.ensures.places;
      renewed = subst (λ (z : ItemCode). NodesRenewed was now (c.args.moved.now.items + one_if c.args.moves) c.renew_body.new.moved.items p (λ n. item_nest n o) (λ n. item_nest n z)) (sym same)
          (subst (λ (z : ItemCode). NodesRenewed was now (c.args.moved.now.items + one_if c.args.moves) c.renew_body.new.moved.items p (λ n. item_nest n z) (λ n. item_nest n y)) is
          (nodes_item was now (c.args.moved.now.items + one_if c.args.moves) c.renew_body.new.moved.items p x y refl
          (nodes_after was c.begin_item.new.vm.tree now (c.args.moved.now.items + one_if c.args.moves) c.placed.new.moved.items c.renew_body.new.moved.items p (λ n. codes_nest n x.body) (λ n. codes_nest n c.renew_body.new.codes)
          (roots_same was c.begin_item.new.vm.tree c.in_ok-kept.ensures.tree) c.in_ok-old.ensures.moved c.in-Ok.ensures.nodes)));
      settles = λ n. subst (λ (z : ItemCode). Settles now c.args.moves c.args.seat.now c.settled.new.seat (item_nest n z)) (sym same) (c.in_ok-settled-in-Ok.ensures.settles n);
    }

pub syncing::entry_item-returns-in-Some-clause-ok : goal.syncing::entry_item-returns-in-Some-clause-ok
syncing::entry_item-returns-in-Some-clause-ok g t c =
    let e = c.args.next.entry.value in
    subst (λ o. IfOk c.kept_item.result (λ r. Renews c.args.app.now c.args.cells.now (OneItem (λ n. seen_listing n c.args.listing.now) c.args.left (item (plain (view e.key)) e.occurrence ∷ trail_view c.args.trail.now) (seen_entry e) (unboxed o)) c.args.vm.now (λ n. seen_item_code n r.value) c.kept_item.new.vm))
    (sym c.in-Some.is) c.kept_item.ensures.ok

pub syncing::entry_item-returns-in-Some-clause-fails : goal.syncing::entry_item-returns-in-Some-clause-fails
syncing::entry_item-returns-in-Some-clause-fails g t c =
    let e = c.args.next.entry.value in
    subst (λ o. IfErr c.kept_item.result (RenewFails {A = Item} c.args.app.now c.args.cells.now (OneItem (λ n. seen_listing n c.args.listing.now) c.args.left (item (plain (view e.key)) e.occurrence ∷ trail_view c.args.trail.now) (seen_entry e) (unboxed o)) c.args.vm.now))
    (sym c.in-Some.is) c.kept_item.ensures.fails

pub syncing::entry_item-returns-in-None-clause-ok : goal.syncing::entry_item-returns-in-None-clause-ok
syncing::entry_item-returns-in-None-clause-ok g t c =
    let e = c.args.next.entry.value in
    let z : Tables → Listing = λ n. seen_listing n c.args.listing.now in
    subst (λ o. IfOk c.new_item.result (λ r. Renews c.args.app.now c.args.cells.now (OneItem z c.args.left (item (plain (view e.key)) e.occurrence ∷ trail_view c.args.trail.now) (seen_entry e) (unboxed o)) c.args.vm.now (λ n. seen_item_code n r.value) c.new_item.new.vm))
    (sym c.in-None.is) (subst (λ w. IfOk c.new_item.result (λ r. Renews c.args.app.now c.args.cells.now (FreshItem z c.args.left (item (plain (view e.key)) e.occurrence ∷ w) (seen_entry e)) c.args.vm.now (λ n. seen_item_code n r.value) c.new_item.new.vm)) c.requires.base c.new_item.ensures.ok)

pub syncing::entry_item-returns-in-None-clause-fails : goal.syncing::entry_item-returns-in-None-clause-fails
syncing::entry_item-returns-in-None-clause-fails g t c =
    let e = c.args.next.entry.value in
    let z : Tables → Listing = λ n. seen_listing n c.args.listing.now in
    subst (λ o. IfErr c.new_item.result (RenewFails {A = Item} c.args.app.now c.args.cells.now (OneItem z c.args.left (item (plain (view e.key)) e.occurrence ∷ trail_view c.args.trail.now) (seen_entry e) (unboxed o)) c.args.vm.now))
    (sym c.in-None.is) (subst (λ w. IfErr c.new_item.result (RenewFails {A = Item} c.args.app.now c.args.cells.now (FreshItem z c.args.left (item (plain (view e.key)) e.occurrence ∷ w) (seen_entry e)) c.args.vm.now)) c.requires.base c.new_item.ensures.fails)

pub syncing::entry_item-returns-in-Some-clause-moved : goal.syncing::entry_item-returns-in-Some-clause-moved
syncing::entry_item-returns-in-Some-clause-moved g t c =
    subst (λ o. IfOk c.kept_item.result (λ r. ItemMoved c.args.moved.now c.kept_item.new.moved c.args.next.moves (unboxed o) r.value)) (sym c.in-Some.is) c.kept_item.ensures.moved

pub syncing::entry_item-returns-in-Some-clause-key : goal.syncing::entry_item-returns-in-Some-clause-key
syncing::entry_item-returns-in-Some-clause-key g t c =
    subst (λ o. IfOk c.kept_item.result (λ r. (n : Tables) → HasKey n (unboxed o) (entry_key (seen_entry c.args.next.entry.value)) r.value)) (sym c.in-Some.is) c.kept_item.ensures.key

pub syncing::entry_item-returns-in-Some-clause-asked : goal.syncing::entry_item-returns-in-Some-clause-asked
syncing::entry_item-returns-in-Some-clause-asked g t c =
    let e = c.args.next.entry.value in
    subst (λ o. OnOk c.kept_item.result (Asks c.args.app.now c.args.cells.now (AsksOne c.args.left (item (plain (view e.key)) e.occurrence ∷ trail_view c.args.trail.now) (seen_entry e) (unboxed o)) c.args.vm.now c.args.moved.now.asked c.kept_item.new.moved.asked)) (sym c.in-Some.is) c.kept_item.ensures.asked

pub syncing::entry_item-returns-in-None-clause-moved : goal.syncing::entry_item-returns-in-None-clause-moved
syncing::entry_item-returns-in-None-clause-moved g t c =
    subst (λ o. IfOk c.new_item.result (λ r. ItemMoved c.args.moved.now c.args.moved.now c.args.next.moves (unboxed o) r.value)) (sym c.in-None.is)
    (IfOk-weaker c.new_item.result (λ r. (n : Tables) → spot_key (seen_item_code n r.value) ≡ entry_key (seen_entry c.args.next.entry.value)) (λ r. ItemMoved c.args.moved.now c.args.moved.now c.args.next.moves None r.value) (λ r h. refl) c.new_item.ensures.key)

pub syncing::entry_item-returns-in-None-clause-key : goal.syncing::entry_item-returns-in-None-clause-key
syncing::entry_item-returns-in-None-clause-key g t c =
    subst (λ o. IfOk c.new_item.result (λ r. (n : Tables) → HasKey n (unboxed o) (entry_key (seen_entry c.args.next.entry.value)) r.value)) (sym c.in-None.is) c.new_item.ensures.key

pub syncing::entry_item-returns-in-None-clause-asked : goal.syncing::entry_item-returns-in-None-clause-asked
syncing::entry_item-returns-in-None-clause-asked g t c =
    let e = c.args.next.entry.value in
    subst (λ o. OnOk c.new_item.result (Asks c.args.app.now c.args.cells.now (AsksOne c.args.left (item (plain (view e.key)) e.occurrence ∷ trail_view c.args.trail.now) (seen_entry e) (unboxed o)) c.args.vm.now c.args.moved.now.asked c.args.moved.now.asked)) (sym c.in-None.is)
    (on_ok_always c.new_item.result (asks_just c.args.app.now c.args.cells.now 0 c.args.vm.now c.args.moved.now.asked c.args.moved.now.asked (omega arith)))

pub syncing::entry_item-returns-in-Some-clause-nodes : goal.syncing::entry_item-returns-in-Some-clause-nodes
syncing::entry_item-returns-in-Some-clause-nodes g t c =
    subst (λ o. IfOk c.kept_item.result (λ r. OneKept c.args.vm.now.tree c.kept_item.new.vm.tree c.args.moved.now.items c.kept_item.new.moved.items c.args.next.moves c.args.seat.now c.kept_item.new.seat (unboxed o) r.value)) (sym c.in-Some.is) c.kept_item.ensures.nodes

pub syncing::entry_item-returns-in-None-clause-nodes : goal.syncing::entry_item-returns-in-None-clause-nodes
syncing::entry_item-returns-in-None-clause-nodes g t c =
    subst (λ o. IfOk c.new_item.result (λ r. OneKept c.args.vm.now.tree c.new_item.new.vm.tree c.args.moved.now.items c.args.moved.now.items c.args.next.moves c.args.seat.now c.args.seat.now (unboxed o) r.value)) (sym c.in-None.is)
    (if_ok_two c.new_item.result (λ r s m. record { seats = s; moves = m; counts = refl; same = refl }) c.new_item.ensures.seats c.new_item.ensures.moves)

-- the items

pub syncing::sync_items-loop-done-init : goal.syncing::sync_items-loop-done-init
syncing::sync_items-loop-done-init g t c = record {
  trail = refl;
  calm = c.requires.calm;
  listing = refl;
  spot = refl;
  base = c.requires.base;
  ready = c.requires.ready;
  onward = sync_begin c.args.app.now c.args.cells.now c.args.left c.args.begun.now.listing (trail_view c.args.trail.now) c.args.begun.now.work.waiting.items (there c.args.begun.now.work.olds.items) c.new-done.result.items c.args.vm.now c.new-done.ensures.items;
  moved = syncing_begin c.args.moved.now c.args.begun.now.work c.new-done.result.items c.new-done.ensures.items;
  asks = sync_asked c.args.app.now c.args.cells.now c.args.left c.args.begun.now.listing (trail_view c.args.trail.now) (seen_left c.args.begun.now.work.waiting.items) c.args.begun.now.work.olds.items c.args.vm.now c.args.moved.now.asked;
  stayed = λ n run. refl;
  nodes = nodes_begin c.args.vm.now.tree c.args.moved.now.items c.args.begun.now.seat c.args.begun.now.work c.new-done.result.items c.new-done.ensures.items c.requires.rising;
}

pub syncing::sync_items-loop-done-preserved : goal.syncing::sync_items-loop-done-preserved
syncing::sync_items-loop-done-preserved g t c =
    let z = c.args.begun.now.listing in
    let base = trail_view c.args.trail.now in
    let x = c.in-Some.next in
    let e = x.entry.value in
    let o = unboxed x.old in
    let w = c.loop-done.begun.work in
    let v = c.next.new.self in
    let q : Path = item (plain (view e.key)) e.occurrence ∷ base in
    let took : Taking w v x = subst (Follows w v) c.in-Some.is c.in_ok-next.ensures in
    let after = work_next w v v.waiting.items e o c.loop-done.invariant.ready took.waits refl took.keys took.taken in
    record {
      trail = c.in-Ok.ensures.trail ∙ c.loop-done.invariant.trail;
      calm = c.entry_item.ensures.calm;
      listing = c.loop-done.invariant.listing;
      spot = c.loop-done.invariant.spot;
      base = c.loop-done.invariant.base ∙ ap trail_view (sym c.in-Ok.ensures.trail);
      ready = after.1;
      onward = sync_next c.args.app.now c.args.cells.now c.args.left z base (All c.args.app.now c.args.cells.now c.args.left z base c.args.begun.now.work.waiting.items (there c.args.begun.now.work.olds.items))
          c.loop-done.done.items c.add_item.new.items.items w.waiting.items v.waiting.items e c.in-Ok.item.value q w.olds.items v.olds.items o c.args.vm.now c.loop-done.vm c.entry_item.new.vm
          took.waits refl after.0 c.in_ok-add_item-in-Ok.ensures c.loop-done.invariant.onward
          (subst (λ y. Renews c.args.app.now c.args.cells.now (OneItem (λ n. seen_listing n z) c.args.left (item (plain (view e.key)) e.occurrence ∷ trail_view y) (seen_entry e) o) c.loop-done.vm (λ n. seen_item_code n c.in-Ok.item.value) c.entry_item.new.vm)
          c.loop-done.invariant.trail
          (subst (λ (l : ListingCode). Renews c.args.app.now c.args.cells.now (OneItem (λ n. seen_listing n l) c.args.left (item (plain (view e.key)) e.occurrence ∷ trail_view c.loop-done.trail) (seen_entry e) o) c.loop-done.vm (λ n. seen_item_code n c.in-Ok.item.value) c.entry_item.new.vm) c.loop-done.invariant.listing c.in-Ok.ensures.ok));
      moved = syncing_next c.args.moved.now c.loop-done.moved c.entry_item.new.moved c.args.begun.now.work w v c.loop-done.done.items c.add_item.new.items.items e o x.moves c.in-Ok.item.value
          c.requires.ready c.loop-done.invariant.ready took.waits took.keys took.taken took.moves c.in-Ok.ensures.moved c.in-Ok.ensures.key c.in_ok-add_item-in-Ok.ensures c.loop-done.invariant.moved;
      asks = sync_asks c.args.app.now c.args.cells.now c.args.left z base (AsksOf c.args.app.now c.args.cells.now c.args.left z base (seen_left c.args.begun.now.work.waiting.items) c.args.begun.now.work.olds.items)
          w.waiting.items v.waiting.items e c.in-Ok.item.value q w.olds.items v.olds.items o c.args.vm.now c.loop-done.vm c.entry_item.new.vm c.args.moved.now.asked c.loop-done.moved.asked c.entry_item.new.moved.asked
          took.waits refl after.0 c.loop-done.invariant.asks
          (subst (λ y. Asks c.args.app.now c.args.cells.now (AsksOne c.args.left (item (plain (view e.key)) e.occurrence ∷ trail_view y) (seen_entry e) o) c.loop-done.vm c.loop-done.moved.asked c.entry_item.new.moved.asked) c.loop-done.invariant.trail c.in-Ok.ensures.asked)
          (subst (λ y. Renews c.args.app.now c.args.cells.now (OneItem (λ n. seen_listing n z) c.args.left (item (plain (view e.key)) e.occurrence ∷ trail_view y) (seen_entry e) o) c.loop-done.vm (λ n. seen_item_code n c.in-Ok.item.value) c.entry_item.new.vm)
          c.loop-done.invariant.trail
          (subst (λ (l : ListingCode). Renews c.args.app.now c.args.cells.now (OneItem (λ n. seen_listing n l) c.args.left (item (plain (view e.key)) e.occurrence ∷ trail_view c.loop-done.trail) (seen_entry e) o) c.loop-done.vm (λ n. seen_item_code n c.in-Ok.item.value) c.entry_item.new.vm) c.loop-done.invariant.listing c.in-Ok.ensures.ok));
      stayed = stays_one c.args.left c.args.begun.now.stayed c.loop-done.begun.stayed c.count_stayed.new.stayed (seen_left c.args.begun.now.work.waiting.items) (seen_left w.waiting.items) (seen_left v.waiting.items) c.args.begun.now.work.olds.items w.olds.items v.olds.items (seen_entry e) o
          (next_left w.waiting.items v.waiting.items e took.waits) after.0 c.in_ok-count_stayed.ensures c.loop-done.invariant.stayed;
      nodes = nodes_next c.args.vm.now.tree c.loop-done.vm.tree c.entry_item.new.vm.tree c.args.moved.now.items c.loop-done.moved.items c.entry_item.new.moved.items c.args.begun.now.seat c.loop-done.begun.seat c.entry_item.new.seat c.args.begun.now.work w v
          c.loop-done.done.items c.add_item.new.items.items e o x.moves c.in-Ok.item.value c.loop-done.invariant.ready took.waits took.taken took.moves c.in-Ok.ensures.nodes c.in_ok-add_item-in-Ok.ensures c.loop-done.invariant.nodes;
    }

pub syncing::sync_items-returns-in-Err-clause-fails : goal.syncing::sync_items-returns-in-Err-clause-fails
syncing::sync_items-returns-in-Err-clause-fails g t c =
    let z = c.args.begun.now.listing in
    let base = trail_view c.args.trail.now in
    let x = c.in-Some.next in
    let e = x.entry.value in
    let o = unboxed x.old in
    let w = c.loop-done.begun.work in
    let v = c.next.new.self in
    let q : Path = item (plain (view e.key)) e.occurrence ∷ base in
    let took : Taking w v x = subst (Follows w v) c.in-Some.is c.in_ok-next.ensures in
    let after = work_next w v v.waiting.items e o c.loop-done.invariant.ready took.waits refl took.keys took.taken in
    sync_fails c.args.app.now c.args.cells.now c.args.left z base (All c.args.app.now c.args.cells.now c.args.left z base c.args.begun.now.work.waiting.items (there c.args.begun.now.work.olds.items))
    c.loop-done.done.items w.waiting.items v.waiting.items e q w.olds.items v.olds.items o c.args.vm.now c.loop-done.vm c.in-Err.fault
    took.waits refl after.0 c.loop-done.invariant.onward
    (subst (λ y. RenewFails {A = Item} c.args.app.now c.args.cells.now (OneItem (λ n. seen_listing n z) c.args.left (item (plain (view e.key)) e.occurrence ∷ trail_view y) (seen_entry e) o) c.loop-done.vm c.in-Err.fault)
    c.loop-done.invariant.trail
    (subst (λ (l : ListingCode). RenewFails {A = Item} c.args.app.now c.args.cells.now (OneItem (λ n. seen_listing n l) c.args.left (item (plain (view e.key)) e.occurrence ∷ trail_view c.loop-done.trail) (seen_entry e) o) c.loop-done.vm c.in-Err.fault) c.loop-done.invariant.listing c.in-Err.ensures.fails))

pub syncing::sync_items-returns-clause-ok : goal.syncing::sync_items-returns-clause-ok
syncing::sync_items-returns-clause-ok g t c =
    let z = c.args.begun.now.listing in
    let base = trail_view c.args.trail.now in
    let w = c.loop-done.begun.work in
    let v = c.next.new.self in
    let ended : (w.waiting.items ≡ []) × (v.olds ≡ w.olds) = subst (Follows w v) c.in_default.is c.in_ok-next.ensures in
    sync_end c.args.app.now c.args.cells.now c.args.left z base (All c.args.app.now c.args.cells.now c.args.left z base c.args.begun.now.work.waiting.items (there c.args.begun.now.work.olds.items))
    c.loop-done.done.items (there v.olds.items) w.waiting.items w.olds.items c.args.vm.now c.loop-done.vm c.end_left.new.vm ended.0 (ap (λ os. there os.items) ended.1) c.loop-done.invariant.onward
    c.in_ok-end_left.ensures.step

pub syncing::sync_items-returns-clause-moved : goal.syncing::sync_items-returns-clause-moved
syncing::sync_items-returns-clause-moved g t c =
    let w = c.loop-done.begun.work in
    let ended : (w.waiting.items ≡ []) × (c.next.new.self.olds ≡ w.olds) = subst (Follows w c.next.new.self) c.in_default.is c.in_ok-next.ensures in
    (syncing_end c.args.moved.now c.loop-done.moved c.args.begun.now.work w c.loop-done.done.items c.loop-done.invariant.ready ended.0 c.loop-done.invariant.moved).0

pub syncing::sync_items-returns-clause-asked : goal.syncing::sync_items-returns-clause-asked
syncing::sync_items-returns-clause-asked g t c =
    let w = c.loop-done.begun.work in
    let v = c.next.new.self in
    let ended : (w.waiting.items ≡ []) × (v.olds ≡ w.olds) = subst (Follows w v) c.in_default.is c.in_ok-next.ensures in
    sync_all_asked c.args.app.now c.args.cells.now c.args.left c.args.begun.now.listing (trail_view c.args.trail.now) (AsksOf c.args.app.now c.args.cells.now c.args.left c.args.begun.now.listing (trail_view c.args.trail.now) (seen_left c.args.begun.now.work.waiting.items) c.args.begun.now.work.olds.items)
    (seen_left w.waiting.items) w.olds.items c.args.vm.now c.loop-done.vm c.args.moved.now.asked c.loop-done.moved.asked (ap seen_left ended.0) c.loop-done.invariant.asks

pub syncing::sync_items-returns-clause-stayed : goal.syncing::sync_items-returns-clause-stayed
syncing::sync_items-returns-clause-stayed g t c = λ n run.
    let w = c.loop-done.begun.work in
    let v = c.next.new.self in
    let ended : (w.waiting.items ≡ []) × (v.olds ≡ w.olds) = subst (Follows w v) c.in_default.is c.in_ok-next.ensures in
    let all = c.loop-done.invariant.stayed n run in
    let none : stay_count (seen_left w.waiting.items) (olds_there n run c.args.left w.olds.items) ≡ 0 = ap (λ es. stay_count (seen_left es) (olds_there n run c.args.left w.olds.items)) ended.0 in
    omega (arith, all, none)

pub syncing::sync_items-returns-clause-keys : goal.syncing::sync_items-returns-clause-keys
syncing::sync_items-returns-clause-keys g t c =
    let w = c.loop-done.begun.work in
    let ended : (w.waiting.items ≡ []) × (c.next.new.self.olds ≡ w.olds) = subst (Follows w c.next.new.self) c.in_default.is c.in_ok-next.ensures in
    (syncing_end c.args.moved.now c.loop-done.moved c.args.begun.now.work w c.loop-done.done.items c.loop-done.invariant.ready ended.0 c.loop-done.invariant.moved).1

pub syncing::sync_items-returns-clause-nodes : goal.syncing::sync_items-returns-clause-nodes
syncing::sync_items-returns-clause-nodes g t c =
    let w = c.loop-done.begun.work in
    let v = c.next.new.self in
    let ended : (w.waiting.items ≡ []) × (v.olds ≡ w.olds) = subst (Follows w v) c.in_default.is c.in_ok-next.ensures in
    nodes_end c.args.vm.now.tree c.loop-done.vm.tree c.end_left.new.vm.tree c.args.moved.now.items c.loop-done.moved.items c.args.begun.now.seat c.loop-done.begun.seat c.args.begun.now.work w c.loop-done.done.items (there v.olds.items)
    (ap (λ os. there os.items) ended.1) c.in_ok-end_left.ensures.unseats c.in_ok-end_left.ensures.moves c.loop-done.invariant.nodes

-- all of them

pub syncing::sync_list-returns-in_ok-end_sync-in-Ok-clause-ok : goal.syncing::sync_list-returns-in_ok-end_sync-in-Ok-clause-ok
syncing::sync_list-returns-in_ok-end_sync-in-Ok-clause-ok g t c =
    let l = c.args.list.value in
    let d : Begun = c.deref_mut.result.now in
    let b : Begun = c.in_ok-begun.begun.value in
    let is : b ≡ d = sym c.deref_mut.ensures.value in
    let below : trail_view c.begin_sync.new.trail ≡ items ∷ trail_view c.args.trail.now = c.in_ok-begun.ensures.view in
    let listing : d.listing ≡ l.listing = ap (λ (x : Begun). x.listing) (sym is) ∙ c.in_ok-begun.ensures.listing in
    let spot : d.spot ≡ l.spot = ap (λ (x : Begun). x.spot) (sym is) ∙ c.in_ok-begun.ensures.spot in
    let waits : d.work.waiting.items ≡ c.args.ready.value.entries.items = ap (λ (x : Begun). x.work.waiting.items) (sym is) ∙ ap (λ v. v.items) c.in_ok-begun.ensures.waiting in
    let olds : there d.work.olds.items ≡ l.items.items = ap (λ (x : Begun). there x.work.olds.items) (sym is) ∙ c.in_ok-begun.ensures.olds in
    let news = c.in-Ok.items.items in
    let made : (n : Tables) → seen_code n c.in_ok-end_sync-in-Ok.field-0.value ≡ listed_code (seen_listing n l.listing) (seen_spot l.spot) (all_items (map (seen_item_code n) news)) =
    λ n. c.in_ok-end_sync-in-Ok.ensures n ∙ ap₂ (λ (x : ListingCode) (y : Spot). listed_code (seen_listing n x) (seen_spot y) (all_items (map (seen_item_code n) news))) (c.in-Ok.ensures.listing ∙ listing) (c.in-Ok.ensures.spot ∙ spot) in
    list_syncs c.args.app.now c.args.cells.now c.args.left l.listing (seen_spot l.spot) (trail_view c.args.trail.now) (trail_view c.begin_sync.new.trail) (seen_left c.args.ready.value.entries.items) (seen_left d.work.waiting.items) l.items.items (there d.work.olds.items)
    below (ap seen_left waits) olds (λ n. all_items (map (seen_item_code n) news)) (λ n. seen_code n c.in_ok-end_sync-in-Ok.field-0.value) c.args.vm.now c.sync_items.new.vm made
    (subst (λ (z : ListingCode). Renews c.args.app.now c.args.cells.now (SyncItems (λ n. seen_listing n z) c.args.left (trail_view c.begin_sync.new.trail) (seen_left d.work.waiting.items) (λ n. map (seen_item_code n) (there d.work.olds.items))) c.args.vm.now (λ n. all_items (map (seen_item_code n) news)) c.sync_items.new.vm) listing c.in-Ok.ensures.ok)

pub syncing::sync_list-returns-in-Err-clause-fails : goal.syncing::sync_list-returns-in-Err-clause-fails
syncing::sync_list-returns-in-Err-clause-fails g t c =
    let l = c.args.list.value in
    let d : Begun = c.deref_mut.result.now in
    let b : Begun = c.in_ok-begun.begun.value in
    let is : b ≡ d = sym c.deref_mut.ensures.value in
    let below : trail_view c.begin_sync.new.trail ≡ items ∷ trail_view c.args.trail.now = c.in_ok-begun.ensures.view in
    let listing : d.listing ≡ l.listing = ap (λ (x : Begun). x.listing) (sym is) ∙ c.in_ok-begun.ensures.listing in
    let spot : d.spot ≡ l.spot = ap (λ (x : Begun). x.spot) (sym is) ∙ c.in_ok-begun.ensures.spot in
    let waits : d.work.waiting.items ≡ c.args.ready.value.entries.items = ap (λ (x : Begun). x.work.waiting.items) (sym is) ∙ ap (λ v. v.items) c.in_ok-begun.ensures.waiting in
    let olds : there d.work.olds.items ≡ l.items.items = ap (λ (x : Begun). there x.work.olds.items) (sym is) ∙ c.in_ok-begun.ensures.olds in
    subst (RenewFails {A = PlainCode} c.args.app.now c.args.cells.now (Syncs (λ n. seen_listing n l.listing) (seen_spot l.spot) c.args.left (trail_view c.args.trail.now) (seen_left c.args.ready.value.entries.items) (λ n. map (seen_item_code n) l.items.items)) c.args.vm.now) (sym c.lost_sync.ensures)
    (list_sync_fails c.args.app.now c.args.cells.now c.args.left l.listing (seen_spot l.spot) (trail_view c.args.trail.now) (trail_view c.begin_sync.new.trail) (seen_left c.args.ready.value.entries.items) (seen_left d.work.waiting.items) l.items.items (there d.work.olds.items)
    below (ap seen_left waits) olds c.args.vm.now c.in-Err.fault
    (subst (λ (z : ListingCode). RenewFails {A = ItemCodes} c.args.app.now c.args.cells.now (SyncItems (λ n. seen_listing n z) c.args.left (trail_view c.begin_sync.new.trail) (seen_left d.work.waiting.items) (λ n. map (seen_item_code n) (there d.work.olds.items))) c.args.vm.now c.in-Err.fault) listing c.in-Err.ensures.fails))

pub syncing::sync_list-returns-in_ok-end_sync-in-Ok-clause-moved : goal.syncing::sync_list-returns-in_ok-end_sync-in-Ok-clause-moved
syncing::sync_list-returns-in_ok-end_sync-in-Ok-clause-moved g t c =
    let l = c.args.list.value in
    let d : Begun = c.deref_mut.result.now in
    let b : Begun = c.in_ok-begun.begun.value in
    let is : b ≡ d = sym c.deref_mut.ensures.value in
    let below : trail_view c.begin_sync.new.trail ≡ items ∷ trail_view c.args.trail.now = c.in_ok-begun.ensures.view in
    let listing : d.listing ≡ l.listing = ap (λ (x : Begun). x.listing) (sym is) ∙ c.in_ok-begun.ensures.listing in
    let spot : d.spot ≡ l.spot = ap (λ (x : Begun). x.spot) (sym is) ∙ c.in_ok-begun.ensures.spot in
    let waits : d.work.waiting.items ≡ c.args.ready.value.entries.items = ap (λ (x : Begun). x.work.waiting.items) (sym is) ∙ ap (λ v. v.items) c.in_ok-begun.ensures.waiting in
    let olds : there d.work.olds.items ≡ l.items.items = ap (λ (x : Begun). there x.work.olds.items) (sym is) ∙ c.in_ok-begun.ensures.olds in
    let news = c.in-Ok.items.items in
    let made : (n : Tables) → seen_code n c.in_ok-end_sync-in-Ok.field-0.value ≡ listed_code (seen_listing n l.listing) (seen_spot l.spot) (all_items (map (seen_item_code n) news)) =
    λ n. c.in_ok-end_sync-in-Ok.ensures n ∙ ap₂ (λ (x : ListingCode) (y : Spot). listed_code (seen_listing n x) (seen_spot y) (all_items (map (seen_item_code n) news))) (c.in-Ok.ensures.listing ∙ listing) (c.in-Ok.ensures.spot ∙ spot) in
    let ks = c.args.ready.value.keys in
    code_counted c.args.moved.now c.begin_sync.new.moved c.sync_items.new.moved c.settle.new.self (λ n. listed_code (seen_listing n l.listing) (seen_spot l.spot) (all_items (map (seen_item_code n) l.items.items))) (λ n. seen_code n c.in_ok-end_sync-in-Ok.field-0.value) c.begin_sync.ensures.moved c.settle.ensures.items
    (list_moved c.begin_sync.new.moved c.sync_items.new.moved (λ n. seen_listing n l.listing) (seen_spot l.spot) d.work l.items.items news ks c.args.ready.value.entries.items (λ n. seen_code n c.in_ok-end_sync-in-Ok.field-0.value)
    olds waits (subst (λ (x : Begun). x.work.keys ≡ map code_key l.items.items) is c.in_ok-begun.ensures.keys) (subst (λ (x : Begun). count_moves (reverse (seen_steps x.work.steps.items)) ≡ moves_between x.work.keys ks) is c.in_ok-begun.ensures.moves)
    c.requires.keys c.in-Ok.ensures.moved c.in-Ok.ensures.keys made)

pub syncing::sync_list-returns-in_ok-end_sync-in-Ok-clause-nodes : goal.syncing::sync_list-returns-in_ok-end_sync-in-Ok-clause-nodes
syncing::sync_list-returns-in_ok-end_sync-in-Ok-clause-nodes g t c =
    let l = c.args.list.value in
    let d : Begun = c.deref_mut.result.now in
    let b : Begun = c.in_ok-begun.begun.value in
    let is : b ≡ d = sym c.deref_mut.ensures.value in
    let listing : d.listing ≡ l.listing = ap (λ (x : Begun). x.listing) (sym is) ∙ c.in_ok-begun.ensures.listing in
    let spot : d.spot ≡ l.spot = ap (λ (x : Begun). x.spot) (sym is) ∙ c.in_ok-begun.ensures.spot in
    let olds : there d.work.olds.items ≡ l.items.items = ap (λ (x : Begun). there x.work.olds.items) (sym is) ∙ c.in_ok-begun.ensures.olds in
    let news = c.in-Ok.items.items in
    let made : (n : Tables) → seen_code n c.in_ok-end_sync-in-Ok.field-0.value ≡ listed_code (seen_listing n l.listing) (seen_spot l.spot) (all_items (map (seen_item_code n) news)) =
    λ n. c.in_ok-end_sync-in-Ok.ensures n ∙ ap₂ (λ (x : ListingCode) (y : Spot). listed_code (seen_listing n x) (seen_spot y) (all_items (map (seen_item_code n) news))) (c.in-Ok.ensures.listing ∙ listing) (c.in-Ok.ensures.spot ∙ spot) in
    let old = c.args.vm.now.tree in
    let new = c.sync_items.new.vm.tree in
    nodes_made old new c.args.moved.now.items c.settle.new.self.items (stamp_of c.args.parent.now) (λ n. items_nest n l.items.items) c.in_ok-end_sync-in-Ok.field-0.value (λ n. listed_code (seen_listing n l.listing) (seen_spot l.spot) (all_items (map (seen_item_code n) news))) made
    (list_synced old new c.args.moved.now.items c.begin_sync.new.moved.items c.sync_items.new.moved.items c.settle.new.self.items c.args.parent.now d.seat (there d.work.olds.items) news l.items.items
    (ap (λ (x : Begun). x.seat.parent) (sym is) ∙ c.in_ok-begun.ensures.parent) (subst (λ (x : Begun). (n : Tables) → IsBefore (items_nest n l.items.items) (stamp_of x.seat.next)) is c.in_ok-begun.ensures.before) olds
    c.begin_sync.ensures.moved c.settle.ensures.items c.in-Ok.ensures.nodes)

pub syncing::sync_list-returns-in_ok-end_sync-in-Ok-clause-asked : goal.syncing::sync_list-returns-in_ok-end_sync-in-Ok-clause-asked
syncing::sync_list-returns-in_ok-end_sync-in-Ok-clause-asked g t c =
    let l = c.args.list.value in
    let d : Begun = c.deref_mut.result.now in
    let b : Begun = c.in_ok-begun.begun.value in
    let is : b ≡ d = sym c.deref_mut.ensures.value in
    let below : trail_view c.begin_sync.new.trail ≡ items ∷ trail_view c.args.trail.now = c.in_ok-begun.ensures.view in
    let listing : d.listing ≡ l.listing = ap (λ (x : Begun). x.listing) (sym is) ∙ c.in_ok-begun.ensures.listing in
    let waits : d.work.waiting.items ≡ c.args.ready.value.entries.items = ap (λ (x : Begun). x.work.waiting.items) (sym is) ∙ ap (λ v. v.items) c.in_ok-begun.ensures.waiting in
    let olds : there d.work.olds.items ≡ l.items.items = ap (λ (x : Begun). there x.work.olds.items) (sym is) ∙ c.in_ok-begun.ensures.olds in
    let none : d.stayed ≡ 0 = ap (λ (x : Begun). x.stayed) (sym is) ∙ c.in_ok-begun.ensures.stayed in
    let es = seen_left c.args.ready.value.entries.items in
    let m0 = c.begin_sync.new.moved.asked in
    let m = c.sync_items.new.moved.asked in
    let counted : c.deref.result.now.stayed ≡ c.sync_items.new.begun.stayed = search rules in
    let kept : (n : Tables) (run : Runs) → stay_count es (old_items run c.args.left (map (seen_item_code n) l.items.items)) ≡ c.deref.result.now.stayed = λ n run.
    let all = c.in-Ok.ensures.stayed n run in
    let same : stay_count (seen_left d.work.waiting.items) (old_items run c.args.left (map (seen_item_code n) (there d.work.olds.items))) ≡ stay_count es (old_items run c.args.left (map (seen_item_code n) l.items.items)) =
    ap₂ (λ fs ys. stay_count (seen_left fs) (old_items run c.args.left (map (seen_item_code n) ys))) waits olds in
    omega (arith, all, same, none, counted) in
    asks_together c.args.app.now c.args.cells.now (AsksStaying (λ n. seen_listing n l.listing) c.args.left (items ∷ trail_view c.args.trail.now) es (λ n. map (seen_item_code n) l.items.items))
    (λ n run. stay_count es (old_items run c.args.left (map (seen_item_code n) l.items.items))) c.args.vm.now c.args.moved.now.asked m0 m c.settle.new.self.asked c.deref.result.now.stayed c.in_ok-begun.ensures.asked kept
    (subst (λ q. Asks c.args.app.now c.args.cells.now (AsksStaying (λ n. seen_listing n l.listing) c.args.left q es (λ n. map (seen_item_code n) l.items.items)) c.args.vm.now m0 m) below
    (subst (λ fs. Asks c.args.app.now c.args.cells.now (AsksStaying (λ n. seen_listing n l.listing) c.args.left (trail_view c.begin_sync.new.trail) (seen_left fs) (λ n. map (seen_item_code n) l.items.items)) c.args.vm.now m0 m) waits
    (subst (λ ys. Asks c.args.app.now c.args.cells.now (AsksStaying (λ n. seen_listing n l.listing) c.args.left (trail_view c.begin_sync.new.trail) (seen_left d.work.waiting.items) (λ n. map (seen_item_code n) ys)) c.args.vm.now m0 m) olds
    (subst (λ (z : ListingCode). Asks c.args.app.now c.args.cells.now (AsksStaying (λ n. seen_listing n z) c.args.left (trail_view c.begin_sync.new.trail) (seen_left d.work.waiting.items) (λ n. map (seen_item_code n) (there d.work.olds.items))) c.args.vm.now m0 m) listing c.in-Ok.ensures.asked))))
    (settled_at m0 c.mark-mark.result.asked m c.settle.new.self.asked c.deref.result.now.stayed c.mark-mark.ensures.asked c.settle.ensures.asked)

-- a list whose keys stay

pub staying::stay_items-loop-kept-init : goal.staying::stay_items-loop-kept-init
staying::stay_items-loop-kept-init g t c = record {
  unvisited = search rules;
  trail = search rules;
  calm = c.requires.calm;
  index = refl;
  stays = stays_begin c.args.app.now c.args.cells.now c.args.left (trail_view c.args.trail.now) c.args.values.now c.args.items.now.items c.deref_mut-kept-items.result.now c.args.vm.now;
  moved = along_begin c.args.moved.now c.args.items.now.items c.deref_mut-kept-items.result.now;
  asks = stays_asked c.args.app.now c.args.cells.now c.args.left (trail_view c.args.trail.now) c.args.values.now c.args.items.now.items c.args.vm.now c.args.moved.now.asked;
  nodes = row_begin item_nest c.args.vm.now.tree c.args.moved.now.items (stamp_of c.args.parent.now) c.args.items.now.items c.deref_mut-kept-items.result.now;
}

pub staying::stay_items-loop-kept-preserved : goal.staying::stay_items-loop-kept-preserved
staying::stay_items-loop-kept-preserved g t c =
    let w = c.loop-kept in
    let lt : w.kept-index < length w.kept-items = (let l = c.loop-kept-test.true in let e = w.invariant.unvisited.0 in omega (arith, l, e)) in
    let long : length w.kept-items ≡ length c.args.items.now.items = w.invariant.unvisited.0 ∙ ap length c.deref_mut-kept-items.ensures.value in
    let at : c.kept-item.result ≡ get_or c.args.items.now.items w.kept-index c.kept-item.result =
    c.kept-item.is ∙ (w.invariant.unvisited.1 w.kept-index c.kept-item.result (omega arith) ∙ ap (λ xs. get_or xs w.kept-index c.kept-item.result) c.deref_mut-kept-items.ensures.value) in
    let given : GivesAt c.args.values.now w.index c.kept-item.result.spot w.vm c.give_at.new.vm = subst (λ (z : ItemCode). GivesAt c.args.values.now w.index z.spot w.vm c.give_at.new.vm) (sym c.kept-item.is) c.in_ok-give_at.ensures.step in
    let gives : GivesAt c.args.values.now w.kept-index c.kept-item.result.spot w.vm c.give_at.new.vm = subst (λ i. GivesAt c.args.values.now i c.kept-item.result.spot w.vm c.give_at.new.vm) w.invariant.index given in
    record {
      unvisited = (
        length-set w.kept-items w.kept-index c.walk_item.new.item ∙ w.invariant.unvisited.0,
        λ k d le. let ne : k ≢ w.kept-index = omega (arith, le) in get_or-set_other w.kept-items w.kept-index k c.walk_item.new.item d ne ∙ w.invariant.unvisited.1 k d (omega (arith, le)),
      );
      trail = c.in-Ok.ensures.trail ∙ w.invariant.trail;
      calm = c.in-Ok.ensures.calm;
      index = ap (λ i. i + 1) w.invariant.index;
      stays = stays_next c.args.app.now c.args.cells.now c.args.left (trail_view c.args.trail.now) c.args.values.now c.args.items.now.items w.kept-items c.args.vm.now w.vm c.give_at.new.vm c.walk_item.new.vm w.kept-index c.kept-item.result c.walk_item.new.item lt long at w.invariant.stays gives
          (subst (λ y. Renews c.args.app.now c.args.cells.now (AlongItem c.args.left (trail_view y) (λ n. seen_item_code n c.kept-item.result)) c.give_at.new.vm (λ n. seen_item_code n c.walk_item.new.item) c.walk_item.new.vm) w.invariant.trail
          (subst (λ z. Renews c.args.app.now c.args.cells.now (AlongItem c.args.left (trail_view w.trail) (λ n. seen_item_code n z)) c.give_at.new.vm (λ n. seen_item_code n c.walk_item.new.item) c.walk_item.new.vm) (sym c.kept-item.is) c.in-Ok.ensures.ok));
      moved = along_next c.args.moved.now w.moved c.walk_item.new.moved c.args.items.now.items w.kept-items w.kept-index c.kept-item.result c.walk_item.new.item lt long at w.invariant.moved
          (subst (λ z. KeptMoved w.moved c.walk_item.new.moved false (λ n. seen_item_code n z) (λ n. seen_item_code n c.walk_item.new.item)) (sym c.kept-item.is) c.in-Ok.ensures.moved)
          (subst (λ z. (n : Tables) → spot_key (seen_item_code n c.walk_item.new.item) ≡ spot_key (seen_item_code n z)) (sym c.kept-item.is) c.in-Ok.ensures.key);
      asks = stays_ask c.args.app.now c.args.cells.now c.args.left (trail_view c.args.trail.now) c.args.values.now c.args.items.now.items w.kept-items c.args.vm.now w.vm c.give_at.new.vm c.walk_item.new.vm c.args.moved.now.asked w.moved.asked c.walk_item.new.moved.asked w.kept-index c.kept-item.result c.walk_item.new.item lt long at w.invariant.asks gives
          (subst (λ y. Asks c.args.app.now c.args.cells.now (AsksItem c.args.app.now c.args.cells.now c.args.left (trail_view y) c.kept-item.result) c.give_at.new.vm w.moved.asked c.walk_item.new.moved.asked) w.invariant.trail
          (subst (λ z. Asks c.args.app.now c.args.cells.now (AsksItem c.args.app.now c.args.cells.now c.args.left (trail_view w.trail) z) c.give_at.new.vm w.moved.asked c.walk_item.new.moved.asked) (sym c.kept-item.is) c.in-Ok.ensures.asked))
          (subst (λ y. Renews c.args.app.now c.args.cells.now (AlongItem c.args.left (trail_view y) (λ n. seen_item_code n c.kept-item.result)) c.give_at.new.vm (λ n. seen_item_code n c.walk_item.new.item) c.walk_item.new.vm) w.invariant.trail
          (subst (λ z. Renews c.args.app.now c.args.cells.now (AlongItem c.args.left (trail_view w.trail) (λ n. seen_item_code n z)) c.give_at.new.vm (λ n. seen_item_code n c.walk_item.new.item) c.walk_item.new.vm) (sym c.kept-item.is) c.in-Ok.ensures.ok));
      nodes = row_next item_nest c.args.vm.now.tree w.vm.tree c.walk_item.new.vm.tree c.args.moved.now.items w.moved.items c.walk_item.new.moved.items (stamp_of c.args.parent.now) c.args.items.now.items w.kept-items w.kept-index c.kept-item.result c.walk_item.new.item lt long at w.invariant.nodes
          (nodes_after w.vm.tree c.give_at.new.vm.tree c.walk_item.new.vm.tree w.moved.items w.moved.items c.walk_item.new.moved.items (stamp_of c.args.parent.now) (λ n. item_nest n c.kept-item.result) (λ n. item_nest n c.walk_item.new.item) (roots_same w.vm.tree c.give_at.new.vm.tree c.in_ok-give_at.ensures.tree) refl
          (subst (λ z. NodesRenewed c.give_at.new.vm.tree c.walk_item.new.vm.tree w.moved.items c.walk_item.new.moved.items (stamp_of c.args.parent.now) (λ n. item_nest n z) (λ n. item_nest n c.walk_item.new.item)) (sym c.kept-item.is) c.in-Ok.ensures.nodes));
    }

pub staying::stay_items-returns-in-Err-clause-fails : goal.staying::stay_items-returns-in-Err-clause-fails
staying::stay_items-returns-in-Err-clause-fails g t c =
    let w = c.loop-kept in
    let lt : w.kept-index < length w.kept-items = (let l = c.loop-kept-test.true in let e = w.invariant.unvisited.0 in omega (arith, l, e)) in
    let long : length w.kept-items ≡ length c.args.items.now.items = w.invariant.unvisited.0 ∙ ap length c.deref_mut-kept-items.ensures.value in
    let at : c.kept-item.result ≡ get_or c.args.items.now.items w.kept-index c.kept-item.result =
    c.kept-item.is ∙ (w.invariant.unvisited.1 w.kept-index c.kept-item.result (omega arith) ∙ ap (λ xs. get_or xs w.kept-index c.kept-item.result) c.deref_mut-kept-items.ensures.value) in
    let given : GivesAt c.args.values.now w.index c.kept-item.result.spot w.vm c.give_at.new.vm = subst (λ (z : ItemCode). GivesAt c.args.values.now w.index z.spot w.vm c.give_at.new.vm) (sym c.kept-item.is) c.in_ok-give_at.ensures.step in
    let gives : GivesAt c.args.values.now w.kept-index c.kept-item.result.spot w.vm c.give_at.new.vm = subst (λ i. GivesAt c.args.values.now i c.kept-item.result.spot w.vm c.give_at.new.vm) w.invariant.index given in
    stays_fails c.args.app.now c.args.cells.now c.args.left (trail_view c.args.trail.now) c.args.values.now c.args.items.now.items w.kept-items c.args.vm.now w.vm c.give_at.new.vm w.kept-index c.kept-item.result c.in-Err.fault lt long at w.invariant.stays gives
    (subst (λ y. RenewFails {A = Item} c.args.app.now c.args.cells.now (AlongItem c.args.left (trail_view y) (λ n. seen_item_code n c.kept-item.result)) c.give_at.new.vm c.in-Err.fault) w.invariant.trail
    (subst (λ z. RenewFails {A = Item} c.args.app.now c.args.cells.now (AlongItem c.args.left (trail_view w.trail) (λ n. seen_item_code n z)) c.give_at.new.vm c.in-Err.fault) (sym c.kept-item.is) c.in-Err.ensures.fails))

pub staying::stay_items-returns-clause-ok : goal.staying::stay_items-returns-clause-ok
staying::stay_items-returns-clause-ok g t c =
    let w = c.loop-kept in
    let long : length w.kept-items ≡ length c.args.items.now.items = w.invariant.unvisited.0 ∙ ap length c.deref_mut-kept-items.ensures.value in
    stays_end c.args.app.now c.args.cells.now c.args.left (trail_view c.args.trail.now) c.args.values.now c.args.items.now.items w.kept-items _ c.args.vm.now w.vm c.end_none.new.vm w.kept-index (let le = c.loop-kept-test.false in let e = w.invariant.unvisited.0 in omega (arith, le, e)) long
    (written w.kept-items (drop (length w.kept-items) c.args.items.now.items) c.args.items.now.len (c.args.items.now.ok.0 ∙ (ap length (sym c.deref_mut-kept-items.ensures.value) ∙ sym w.invariant.unvisited.0)))
    w.invariant.stays c.in_ok-end_none.ensures.step

pub staying::stay_items-returns-clause-moved : goal.staying::stay_items-returns-clause-moved
staying::stay_items-returns-clause-moved g t c =
    let w = c.loop-kept in
    along_end c.args.moved.now w.moved c.args.items.now.items _ w.kept-items w.kept-index (w.invariant.unvisited.0 ∙ ap length c.deref_mut-kept-items.ensures.value) (let le = c.loop-kept-test.false in let e = w.invariant.unvisited.0 in omega (arith, le, e))
    (written w.kept-items (drop (length w.kept-items) c.args.items.now.items) c.args.items.now.len (c.args.items.now.ok.0 ∙ (ap length (sym c.deref_mut-kept-items.ensures.value) ∙ sym w.invariant.unvisited.0))) w.invariant.moved

pub staying::stay_items-returns-clause-nodes : goal.staying::stay_items-returns-clause-nodes
staying::stay_items-returns-clause-nodes g t c =
    let w = c.loop-kept in
    nodes_within c.args.vm.now.tree c.args.vm.now.tree w.vm.tree c.end_none.new.vm.tree c.args.moved.now.items c.args.moved.now.items w.moved.items w.moved.items (stamp_of c.args.parent.now) (λ n. items_nest n c.args.items.now.items) (λ n. items_nest n _) (roots_refl c.args.vm.now.tree) refl
    (items_renewed c.args.vm.now.tree w.vm.tree c.args.moved.now.items w.moved.items (stamp_of c.args.parent.now) c.args.items.now.items _
    (row_end item_nest c.args.vm.now.tree w.vm.tree c.args.moved.now.items w.moved.items (stamp_of c.args.parent.now) c.args.items.now.items _ w.kept-items w.kept-index (w.invariant.unvisited.0 ∙ ap length c.deref_mut-kept-items.ensures.value) (let le = c.loop-kept-test.false in let e = w.invariant.unvisited.0 in omega (arith, le, e))
    (written w.kept-items (drop (length w.kept-items) c.args.items.now.items) c.args.items.now.len (c.args.items.now.ok.0 ∙ (ap length (sym c.deref_mut-kept-items.ensures.value) ∙ sym w.invariant.unvisited.0))) w.invariant.nodes))
    c.in_ok-end_none.ensures.roots refl

pub staying::stay_items-returns-clause-asked : goal.staying::stay_items-returns-clause-asked
staying::stay_items-returns-clause-asked g t c =
    let w = c.loop-kept in
    let long : length w.kept-items ≡ length c.args.items.now.items = w.invariant.unvisited.0 ∙ ap length c.deref_mut-kept-items.ensures.value in
    stays_all_asked c.args.app.now c.args.cells.now c.args.left (trail_view c.args.trail.now) c.args.values.now c.args.items.now.items w.kept-items c.args.vm.now w.vm c.args.moved.now.asked w.moved.asked w.kept-index
    (let le = c.loop-kept-test.false in let e = w.invariant.unvisited.0 in omega (arith, le, e)) long w.invariant.asks

pub staying::stay_list-returns-in_ok-end_stay-in-Ok-clause-ok : goal.staying::stay_list-returns-in_ok-end_stay-in-Ok-clause-ok
staying::stay_list-returns-in_ok-end_stay-in-Ok-clause-ok g t c =
    let l = c.args.list.value in
    let d : c.deref_mut.result.now ≡ l = c.deref_mut.ensures.value ∙ ap (λ (b : Box Listed Global). b.value) c.in_ok-begun.ensures.list in
    let made : (n : Tables) → seen_code n c.in_ok-end_stay-in-Ok.field-0.value ≡ listed_code (seen_listing n l.listing) (seen_spot l.spot) (all_items (map (seen_item_code n) c.stay_items.new.items.items)) =
    λ n. c.in_ok-end_stay-in-Ok.ensures n ∙ ap (λ (x : Listed). listed_code (seen_listing n x.listing) (seen_spot x.spot) (all_items (map (seen_item_code n) c.stay_items.new.items.items))) d in
    let es = entries_now l.listing.key c.args.values in
    let es2 = entries_now l.listing.key c.in_ok-begun.begun.1 in
    let same : es2 ≡ es = ap (entries_now l.listing.key) c.in_ok-begun.ensures.values in
    let keys : entry_keys es2 ≡ map code_key c.deref_mut.result.now.items.items = ap entry_keys same ∙ (c.requires.keys ∙ ap (λ (x : Listed). map code_key x.items.items) (sym d)) in
    list_syncs c.args.app.now c.args.cells.now c.args.left l.listing (seen_spot l.spot) (trail_view c.args.trail.now) (trail_view c.begin_stay.new.trail) es es2 l.items.items c.deref_mut.result.now.items.items
    c.in_ok-begun.ensures.view same (ap (λ (x : Listed). x.items.items) d) (λ n. all_items (map (seen_item_code n) c.stay_items.new.items.items)) (λ n. seen_code n c.in_ok-end_stay-in-Ok.field-0.value) c.args.vm.now c.stay_items.new.vm made (c.in-Ok.ensures.ok l.listing.key keys l.listing)

pub staying::stay_list-returns-in-Err-clause-fails : goal.staying::stay_list-returns-in-Err-clause-fails
staying::stay_list-returns-in-Err-clause-fails g t c =
    let l = c.args.list.value in
    let d : c.deref_mut.result.now ≡ l = c.deref_mut.ensures.value ∙ ap (λ (b : Box Listed Global). b.value) c.in_ok-begun.ensures.list in
    let es = entries_now l.listing.key c.args.values in
    let es2 = entries_now l.listing.key c.in_ok-begun.begun.1 in
    let same : es2 ≡ es = ap (entries_now l.listing.key) c.in_ok-begun.ensures.values in
    let keys : entry_keys es2 ≡ map code_key c.deref_mut.result.now.items.items = ap entry_keys same ∙ (c.requires.keys ∙ ap (λ (x : Listed). map code_key x.items.items) (sym d)) in
    subst (RenewFails {A = PlainCode} c.args.app.now c.args.cells.now (Syncs (λ n. seen_listing n l.listing) (seen_spot l.spot) c.args.left (trail_view c.args.trail.now) es (λ n. map (seen_item_code n) l.items.items)) c.args.vm.now) (sym c.lost_stay.ensures)
    (list_sync_fails c.args.app.now c.args.cells.now c.args.left l.listing (seen_spot l.spot) (trail_view c.args.trail.now) (trail_view c.begin_stay.new.trail) es es2 l.items.items c.deref_mut.result.now.items.items
    c.in_ok-begun.ensures.view same (ap (λ (x : Listed). x.items.items) d) c.args.vm.now c.in-Err.fault (c.in-Err.ensures.fails l.listing.key keys l.listing))

pub staying::stay_list-returns-in_ok-end_stay-in-Ok-clause-moved : goal.staying::stay_list-returns-in_ok-end_stay-in-Ok-clause-moved
staying::stay_list-returns-in_ok-end_stay-in-Ok-clause-moved g t c =
    let l = c.args.list.value in
    let d : c.deref_mut.result.now ≡ l = c.deref_mut.ensures.value ∙ ap (λ (b : Box Listed Global). b.value) c.in_ok-begun.ensures.list in
    let made : (n : Tables) → seen_code n c.in_ok-end_stay-in-Ok.field-0.value ≡ listed_code (seen_listing n l.listing) (seen_spot l.spot) (all_items (map (seen_item_code n) c.stay_items.new.items.items)) =
    λ n. c.in_ok-end_stay-in-Ok.ensures n ∙ ap (λ (x : Listed). listed_code (seen_listing n x.listing) (seen_spot x.spot) (all_items (map (seen_item_code n) c.stay_items.new.items.items))) d in
    code_counted c.args.moved.now c.begin_stay.new.moved c.stay_items.new.moved c.settle.new.self (λ n. listed_code (seen_listing n l.listing) (seen_spot l.spot) (all_items (map (seen_item_code n) l.items.items))) (λ n. seen_code n c.in_ok-end_stay-in-Ok.field-0.value) c.begin_stay.ensures.moved c.settle.ensures.items
    (list_along c.begin_stay.new.moved c.stay_items.new.moved (λ n. seen_listing n l.listing) (seen_spot l.spot) l.items.items c.stay_items.new.items.items (λ n. seen_code n c.in_ok-end_stay-in-Ok.field-0.value)
    (subst (λ (x : Listed). ItemsAlong c.begin_stay.new.moved c.stay_items.new.moved x.items.items c.stay_items.new.items.items) d c.in-Ok.ensures.moved) made)

pub staying::stay_list-returns-in_ok-end_stay-in-Ok-clause-nodes : goal.staying::stay_list-returns-in_ok-end_stay-in-Ok-clause-nodes
staying::stay_list-returns-in_ok-end_stay-in-Ok-clause-nodes g t c =
    let l = c.args.list.value in
    let d : c.deref_mut.result.now ≡ l = c.deref_mut.ensures.value ∙ ap (λ (b : Box Listed Global). b.value) c.in_ok-begun.ensures.list in
    let made : (n : Tables) → seen_code n c.in_ok-end_stay-in-Ok.field-0.value ≡ listed_code (seen_listing n l.listing) (seen_spot l.spot) (all_items (map (seen_item_code n) c.stay_items.new.items.items)) =
    λ n. c.in_ok-end_stay-in-Ok.ensures n ∙ ap (λ (x : Listed). listed_code (seen_listing n x.listing) (seen_spot x.spot) (all_items (map (seen_item_code n) c.stay_items.new.items.items))) d in
    let new = c.stay_items.new.vm.tree in
    nodes_made c.args.vm.now.tree new c.args.moved.now.items c.settle.new.self.items (stamp_of c.args.parent.now) (λ n. items_nest n l.items.items) c.in_ok-end_stay-in-Ok.field-0.value (λ n. listed_code (seen_listing n l.listing) (seen_spot l.spot) (all_items (map (seen_item_code n) c.stay_items.new.items.items))) made
    (nodes_counted c.args.vm.now.tree new c.args.moved.now.items c.begin_stay.new.moved.items c.stay_items.new.moved.items c.settle.new.self.items (stamp_of c.args.parent.now) (λ n. items_nest n l.items.items) (λ n. items_nest n c.stay_items.new.items.items) c.begin_stay.ensures.moved c.settle.ensures.items
    (subst (λ (x : Listed). NodesRenewed c.args.vm.now.tree new c.begin_stay.new.moved.items c.stay_items.new.moved.items (stamp_of c.args.parent.now) (λ n. items_nest n x.items.items) (λ n. items_nest n c.stay_items.new.items.items)) d c.in-Ok.ensures.nodes))

pub staying::stay_list-returns-in_ok-end_stay-in-Ok-clause-asked : goal.staying::stay_list-returns-in_ok-end_stay-in-Ok-clause-asked
staying::stay_list-returns-in_ok-end_stay-in-Ok-clause-asked g t c =
    let l = c.args.list.value in
    let d : c.deref_mut.result.now ≡ l = c.deref_mut.ensures.value ∙ ap (λ (b : Box Listed Global). b.value) c.in_ok-begun.ensures.list in
    let es = entries_now l.listing.key c.args.values in
    let es2 = entries_now l.listing.key c.in_ok-begun.begun.1 in
    let same : es2 ≡ es = ap (entries_now l.listing.key) c.in_ok-begun.ensures.values in
    let keys : entry_keys es2 ≡ map code_key c.deref_mut.result.now.items.items = ap entry_keys same ∙ (c.requires.keys ∙ ap (λ (x : Listed). map code_key x.items.items) (sym d)) in
    let m0 = c.begin_stay.new.moved.asked in
    let m = c.stay_items.new.moved.asked in
    let many : length l.items.items ≡ c.len-stayed.result = search rules in
    asks_together c.args.app.now c.args.cells.now (AsksStaying (λ n. seen_listing n l.listing) c.args.left (items ∷ trail_view c.args.trail.now) es (λ n. map (seen_item_code n) l.items.items))
    (λ n run. stay_count es (old_items run c.args.left (map (seen_item_code n) l.items.items))) c.args.vm.now c.args.moved.now.asked m0 m c.settle.new.self.asked c.len-stayed.result c.in_ok-begun.ensures.asked
    (λ n run. all_stay es l.items.items c.requires.keys n run c.args.left ∙ many)
    (subst (λ q. Asks c.args.app.now c.args.cells.now (AsksStaying (λ n. seen_listing n l.listing) c.args.left q es (λ n. map (seen_item_code n) l.items.items)) c.args.vm.now m0 m) c.in_ok-begun.ensures.view
    (subst (λ fs. Asks c.args.app.now c.args.cells.now (AsksStaying (λ n. seen_listing n l.listing) c.args.left (trail_view c.begin_stay.new.trail) fs (λ n. map (seen_item_code n) l.items.items)) c.args.vm.now m0 m) same
    (subst (λ (x : Listed). Asks c.args.app.now c.args.cells.now (AsksStaying (λ n. seen_listing n l.listing) c.args.left (trail_view c.begin_stay.new.trail) es2 (λ n. map (seen_item_code n) x.items.items)) c.args.vm.now m0 m) d (c.in-Ok.ensures.asked l.listing.key keys l.listing))))
    (settled_at m0 c.mark-mark.result.asked m c.settle.new.self.asked c.len-stayed.result c.mark-mark.ensures.asked c.settle.ensures.asked)
