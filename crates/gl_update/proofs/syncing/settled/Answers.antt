use Rattle.std.proofs.Common.{◌∙◌, ap₂, subst, sym}
use Rattle.gl_code.specs.declared.code.ItemCode.{ItemCode}
use Rattle.gl_seats.specs.Parts.{body_nest}
use Rattle.gl_seats.proofs.CodeRows.{item_body}
use Rattle.gl_update.specs.Standing.{Settles}
use Rattle.gl_update.proofs.syncing.settled.Goals as goal

pub returns-clause-settles : goal.returns-clause-settles
returns-clause-settles c = λ n.
    subst (Settles c.args.vm.now.tree c.args.moves c.args.seat.now c.settle_item.new.seat) (ap₂ (λ (y z : ItemCode). body_nest n y.body z.comment) c.deref.ensures c.deref-2.ensures ∙ sym (item_body n c.args.item.value)) (c.in_ok-settle_item.ensures.settles n)
