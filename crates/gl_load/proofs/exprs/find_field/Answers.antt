use Rattle.std.proofs.Common.{refl}
use Rattle.gl_script.proofs.Named.{named-plain}
use Rattle.gl_load.proofs.exprs.find_field.Goals as goal

pub returns-in-Some : goal.returns-in-Some
returns-in-Some c =
    let there = rw c.as_str.ensures.value at c.in-Some.ensures in
    rw (named-plain c.args.field.now c.args.class.now.fields, ← there) refl

pub returns-in_ok-copy-in-None : goal.returns-in_ok-copy-in-None
returns-in_ok-copy-in-None c =
    let none = rw c.as_str.ensures.value at c.in-None.ensures in
    rw (named-plain c.args.field.now c.args.class.now.fields, ← none, c.in_ok-copy-in-None.ensures) refl
