use Rattle.std.proofs.Common.{◌≡◌, map, subst}
use Rattle.gl_plain.specs.Counts.{positions_items}
use Rattle.gl_machine.specs.Code.{items_of}
use Rattle.gl_guards.specs.Along.{enters_few}
use Rattle.gl_vm.specs.View.{state_of}
use Rattle.gl_code.specs.CodeView.{seen_item_code, all_items}
use Rattle.gl_update.specs.declared.taken.Listed.{Listed}
use Rattle.gl_update.proofs.taken.ask_items.Goals as goal

pub returns-clause-asked : goal.returns-clause-asked
returns-clause-asked c = λ n u agrees.
    subst (λ (x : Listed). enters_few (state_of n c.args.vm.now u) (positions_items (items_of (all_items (map (seen_item_code n) x.items.items)))) ≡ c.in_ok-enters.enters) c.deref.ensures (c.in_ok-enters.ensures.asked n u agrees)
