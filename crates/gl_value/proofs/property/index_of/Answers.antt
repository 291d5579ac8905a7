use Rattle.std.proofs.Common.{arith, rules, refl}
use Rattle.std.proofs.lemmas.Bool.{false≢true}
use Rattle.gl_value.proofs.Indexes.{no_plain_start, not_read, read_decimal, kept}
use Rattle.gl_value.proofs.property.index_of.Goals as goal

pub returns-then-not-has_plain_start : goal.returns-then-not-has_plain_start
returns-then-not-has_plain_start c =
    no_plain_start c.args.text.now c.utf8.text (λ h. false≢true (c.if-not-has_plain_start.ensures.1 h)) 9007199254740991 (omega arith)

pub returns-in-Ok : goal.returns-in-Ok
returns-in-Ok c =
    kept c.args.text.now c.in-Ok.number c.within.result (read_decimal c.args.text.now c.parse.result c.in-Ok.number (c.if-not-has_plain_start.ensures.0 refl) c.parse.ensures.value.0 c.in-Ok.is) (search rules) c.within.ensures

pub returns-in-Err : goal.returns-in-Err
returns-in-Err c = not_read c.args.text.now c.parse.result c.in-Err.field-0 c.utf8.text c.parse.ensures.value.0 c.in-Err.is 9007199254740991 (omega arith)
