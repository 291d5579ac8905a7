use Rattle.std.specs.Char.{IsScalar}
use Rattle.std.specs.Option.{SomeIff}
use Rattle.std.specs.Str.{chars}
use Rattle.gl_exprs.proofs.References.{row_found, row_missing}
use Rattle.gl_exprs.proofs.decode.named_code.Goals as goal

pub returns-in-Some : goal.returns-in-Some
returns-in-Some c =
    let value : SomeIff c.from_u32.result (IsScalar c.in-Some.number) c.in-Some.number = rw c.from.ensures at c.from_u32.ensures.value in
    row_found (chars c.args.name.now) c.in-Some.number c.references.result c.from_u32.result c.references.ensures c.in-Some.ensures.value value

pub returns-in-None : goal.returns-in-None
returns-in-None c = row_missing (chars c.args.name.now) c.references.result c.references.ensures c.in-None.ensures.value
