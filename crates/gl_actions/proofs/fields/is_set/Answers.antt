use Rattle.std.proofs.Common.{arith}
use Rattle.gl_actions.proofs.FieldLaws.{tells_is}
use Rattle.gl_actions.proofs.fields.is_set.Goals as goal

pub returns-in-Some : goal.returns-in-Some
returns-in-Some c =
    let same = c.if-number.false in
    let number = c.number.ensures in
    tells_is c.args.number c.args.set.now.field c.args.set.now.owner.1 c.same.result c.args.fields.now c.args.name.now c.in-Some.field.now (omega (arith, same, number)) c.in-Some.ensures c.same.ensures
