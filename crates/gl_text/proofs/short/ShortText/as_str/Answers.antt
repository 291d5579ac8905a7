use Rattle.std.proofs.Common.{take}
use Rattle.std.specs.Str.{IsUtf8}
use Rattle.std.proofs.lemmas.Str.{IsUtf8-had}
use Rattle.gl_text.proofs.short.ShortText.as_str.Goals as goal

pub from_utf8_unchecked-requires : goal.from_utf8_unchecked-requires
from_utf8_unchecked-requires c =
    let kept : IsUtf8 (take c.self.inside.len c.self.inside.bytes) = IsUtf8-had _ c.self.invariant.2 in
    rw (← c.from.ensures) at kept
