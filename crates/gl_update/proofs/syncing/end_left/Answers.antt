use Rattle.std.proofs.Common.{◌∙◌, ap, subst, map}
use Rattle.std.proofs.lemmas.Result.{on_ok_weaker}
use Rattle.gl_plain.specs.Live.{times_items}
use Rattle.gl_plain.specs.Naming.{by_number, dropped_as}
use Rattle.gl_machine.specs.Code.{items_of}
use Rattle.gl_vm.specs.Steps.{Does}
use Rattle.gl_code.specs.CodeView.{seen_item_code, all_items}
use Rattle.gl_update.specs.ListItems.{there}
use Rattle.std.specs.Prelude.{Option}
use Rattle.std.specs.declared.vec.Vec.{Vec}
use Rattle.std.specs.declared.alloc.Global.{Global}
use Rattle.gl_code.specs.declared.code.ItemCode.{ItemCode}
use Rattle.gl_seats.specs.Parts.{item_nest}
use Rattle.gl_seats.specs.Seats.{UnseatsEach}
use Rattle.gl_update.proofs.OldKeys.{there_is}
use Rattle.gl_update.proofs.syncing.end_left.Goals as goal

pub returns-clause-step : goal.returns-clause-step
returns-clause-step c = on_ok_weaker c.end_items.result
    (λ d. subst (λ xs. Does (λ n. dropped_as by_number (λ q. times_items q (items_of (all_items (map (seen_item_code n) xs))))) c.args.vm.now c.end_items.new.vm) (c.as_slice.ensures.value ∙ (c.in_ok-olds.ensures ∙ (there_is c.replace-untaken.result.items ∙ ap (λ (v : Vec (Option ItemCode) Global). there v.items) c.replace-untaken.ensures.value))) d)
    c.end_items.ensures.step

pub returns-clause-unseats : goal.returns-clause-unseats
returns-clause-unseats c = on_ok_weaker c.end_items.result
    (λ gone n. subst (λ xs. UnseatsEach c.args.vm.now.tree.forest c.end_items.new.vm.tree.forest (map (item_nest n) xs)) (c.as_slice.ensures.value ∙ (c.in_ok-olds.ensures ∙ (there_is c.replace-untaken.result.items ∙ ap (λ (v : Vec (Option ItemCode) Global). there v.items) c.replace-untaken.ensures.value))) (gone n))
    c.end_items.ensures.unseats
