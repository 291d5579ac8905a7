use Rattle.std.proofs.Common.{arith, rules, refl}
use Rattle.std.specs.Str.{chars}
use Rattle.std.proofs.lemmas.Bool.{false≢true}
use Rattle.gl_value.proofs.Indexes.{no_plain_start, not_read, read_decimal}
use Rattle.gl_run.proofs.Sizes.{asks_none, asks}
use Rattle.gl_run.proofs.command.rows_in.Goals as goal

pub returns-then-not-has_plain_start-clause-told : goal.returns-then-not-has_plain_start-clause-told
returns-then-not-has_plain_start-clause-told c =
    asks_none (chars c.args.text.now) (no_plain_start c.args.text.now c.utf8.text (λ h. false≢true (c.if-not-has_plain_start.ensures.1 h)) 10000 (omega arith))

pub returns-in-Ok-clause-told : goal.returns-in-Ok-clause-told
returns-in-Ok-clause-told c =
    asks (chars c.args.text.now) c.in-Ok.number c.within.result (read_decimal c.args.text.now c.parse.result c.in-Ok.number (c.if-not-has_plain_start.ensures.0 refl) c.parse.ensures.value.0 c.in-Ok.is) (search rules) c.within.ensures

pub returns-in-Err-clause-told : goal.returns-in-Err-clause-told
returns-in-Err-clause-told c =
    asks_none (chars c.args.text.now) (not_read c.args.text.now c.parse.result c.in-Err.field-0 c.utf8.text c.parse.ensures.value.0 c.in-Err.is 10000 (omega arith))
