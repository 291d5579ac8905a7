use Rattle.std.proofs.Common.{sym}
use Rattle.std.specs.Str.Iter.{chars_rest}
use Rattle.gl_exprs.proofs.Scanned.{next_char}
use Rattle.gl_exprs.proofs.scan.Scan.next.Goals as goal

pub returns : goal.returns
returns c = next_char chars_rest _ _ c.next-first.result _ _ _ c.self.invariant c.chars-characters.ensures.rest c.as_str-self-inside.ensures (sym c.self.view_is) c.next-first.ensures.steps.0
