use Rattle.std.proofs.Common.{map, sym}
use Rattle.gl_plain.specs.Ids.{modifier_id, occurs}
use Rattle.gl_vm.specs.Steps.{on_count}
use Rattle.gl_ends.proofs.Joins.{ends_as}
use Rattle.gl_ends.proofs.NodeMods.{spots_on}
use Rattle.gl_ends.proofs.tags.end_installed.Goals as goal

pub returns-clause-ends : goal.returns-clause-ends
returns-clause-ends c n =
    ends_as n c.args.vm.now c.end_modifiers.new.self (on_count c.args.vm.now.mods c.args.node) (λ q. occurs q (map (λ x. modifier_id x.id.1) c.args.mods.now))
    (spots_on c.args.vm.now.mods c.args.node c.on_node.result.now c.sound.ensures (sym c.on_node.ensures) c.args.mods.now (c.are_all.ensures c.if-not-are_all.false))
    (record { step = λ led touched agrees. c.end_modifiers.ensures.step n touched agrees })
