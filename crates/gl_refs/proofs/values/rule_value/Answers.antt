use Rattle.std.proofs.lemmas.Bool.{le-ltb}
use Rattle.gl_refs.proofs.values.rule_value.Goals as goal

pub returns-else-helper-lt2 : goal.returns-else-helper-lt2
returns-else-helper-lt2 c = rw c.in-Call.is (rw (le-ltb c.in-Call.helper 2 c.if-helper-lt2.false) c.called.ensures)
