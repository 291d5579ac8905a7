use Rattle.std.proofs.Common.{◌∙◌, ap, sym}
use Rattle.gl_meaning.specs.Parts.{attribute_value}
use Rattle.gl_update.proofs.Spots.{if_ok, pairs_are}
use Rattle.gl_update.proofs.positions.attribute.Goals as goal

pub returns-in-Some : goal.returns-in-Some
returns-in-Some c =
    if_ok c.attribute_over.result (λ o e n u. ap attribute_value (pairs_are n c.args.vm.now u c.args.id c.in-Some.ids.now c.sound.ensures.stamped c.in-Some.ensures) ∙ sym (e n u)) c.attribute_over.ensures
