use Rattle.std.proofs.Common.{◌∙◌, List, [], map, subst}
use Rattle.std.specs.Prelude.{OnOk}
use Rattle.gl_plain.specs.Live.{times_items}
use Rattle.gl_plain.specs.Naming.{by_number, dropped_as}
use Rattle.gl_machine.specs.Code.{items_of}
use Rattle.gl_vm.specs.Steps.{Does}
use Rattle.gl_code.specs.CodeView.{seen_item_code, all_items}
use Rattle.gl_code.specs.declared.code.ItemCode.{ItemCode}
use Rattle.gl_vm.specs.View.{Tables}
use Rattle.gl_seats.specs.Parts.{item_nest}
use Rattle.gl_seats.specs.Seats.{UnseatsEach}
use Rattle.gl_update.proofs.Results.{on_ok_two}
use Rattle.gl_update.proofs.staying.end_none.Goals as goal

pub returns-clause-step : goal.returns-clause-step
returns-clause-step c =
    subst (λ (xs : List ItemCode). OnOk c.end_items.result (Does (λ n. dropped_as by_number (λ q. times_items q (items_of (all_items (map (seen_item_code n) xs))))) c.args.vm.now c.end_items.new.vm))
    (c.as_slice.ensures.value ∙ c.new-none.ensures.items) c.end_items.ensures.step

pub returns-clause-roots : goal.returns-clause-roots
returns-clause-roots c =
    let n : Tables = record { fields = λ k. []; modifier = λ k. [] } in
    let old = c.args.vm.now.tree in
    let new = c.end_items.new.vm.tree in
    on_ok_two c.end_items.result
    (λ gone moves. record {
      forest = subst (λ (xs : List ItemCode). UnseatsEach old.forest new.forest (map (item_nest n) xs)) (c.as_slice.ensures.value ∙ c.new-none.ensures.items) (gone n);
      moves = moves;
    })
    c.end_items.ensures.unseats c.end_items.ensures.moves
