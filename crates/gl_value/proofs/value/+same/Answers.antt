use Rattle.std.proofs.Common.{rules}
use Rattle.std.specs.Prelude.{nat_eq}
use Rattle.gl_value.proofs.Values.{differ_values, differ_members}
use Rattle.gl_value.proofs.value.+same.Goals as goal

pub List::same-returns-then-len : goal.List::same-returns-then-len
List::same-returns-then-len t c = differ_values nat_eq c.args.self.now c.args.other.now (λ e. c.if-len.true (search rules))

pub Record::same-returns-then-len : goal.Record::same-returns-then-len
Record::same-returns-then-len t c = differ_members nat_eq c.args.self.now c.args.other.now (λ e. c.if-len.true (search rules))
