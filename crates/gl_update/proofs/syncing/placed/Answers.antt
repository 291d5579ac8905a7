use Rattle.std.proofs.Common.{◌∙◌, ap₂, subst, sym}
use Rattle.gl_code.specs.declared.code.ItemCode.{ItemCode}
use Rattle.gl_seats.specs.Parts.{body_nest}
use Rattle.gl_seats.proofs.CodeRows.{item_body}
use Rattle.gl_update.specs.Standing.{Places}
use Rattle.gl_update.proofs.syncing.placed.Goals as goal

pub returns-clause-places : goal.returns-clause-places
returns-clause-places c = λ n.
    subst (Places c.args.vm.now.tree c.place_item.new.vm.tree c.args.moves c.args.seat.now) (ap₂ (λ (y z : ItemCode). body_nest n y.body z.comment) c.deref.ensures c.deref-2.ensures ∙ sym (item_body n c.args.item.value)) (c.in_ok-place_item.ensures.places n)
