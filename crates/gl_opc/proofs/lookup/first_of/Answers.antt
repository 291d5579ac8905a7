use Rattle.std.proofs.Common.{sym}
use Rattle.std.specs.Str.Iter.{chars_rest}
use Rattle.gl_opc.proofs.Lookups.{first_char}
use Rattle.gl_opc.proofs.lookup.first_of.Goals as goal

pub returns : goal.returns
returns c =
    first_char chars_rest _ _ c.next-first.result c.as_str.result.now c.as_str-2.result.now c.args.text.now c.as_str.ensures.utf8 c.chars-left.ensures.rest c.as_str-2.ensures (sym c.as_str.ensures.value) c.next-first.ensures.steps.0
