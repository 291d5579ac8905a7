use Rattle.std.proofs.Common.{◌≡◌, true}
use Rattle.gl_refs.proofs.Meanings.{cold, within}
use Rattle.gl_refs.proofs.laws.meaning_stays.Goals as goal

pub returns-clause-untouched : goal.returns-clause-untouched
returns-clause-untouched c touched old new same i h = cold touched old new same i h

pub returns-clause-apart : goal.returns-clause-apart
returns-clause-apart c inside old new same i h = within (λ q. inside q ≡ true) old new same i h
