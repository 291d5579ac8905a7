use Rattle.std.proofs.Common.{arith, ◌≡◌, ◌+◌, ◌++◌, length, take}
use Rattle.std.specs.Str.{IsUtf8}
use Rattle.std.proofs.lemmas.Str.{IsUtf8-had, IsUtf8-append}
use Rattle.gl_text.proofs.short.ShortText.push_str.Goals as goal

pub invariant_of-self : goal.invariant_of-self
invariant_of-self c =
    let kept : IsUtf8 (take c.self.inside.len c.self.inside.bytes) = IsUtf8-had _ c.self.invariant.2 in
    let front : IsUtf8 (take c.from-len.result c.self.inside.bytes) = rw (← c.from-len.ensures) at kept in
    let text = c.as_bytes.ensures.value in
    let whole : take (c.from-len.result + length c.args.text.now) c.copy_in.new.bytes ≡ take c.from-len.result c.self.inside.bytes ++ c.args.text.now = rw text at c.copy_in.ensures.front in (
      omega (arith, c.if-len-text.false, c.from-len.ensures, c.self.invariant.0),
      c.copy_in.ensures.len,
      ∣ rw (← whole) at (IsUtf8-append _ _ front c.utf8.text) ∣₁,
    )

-- src/short.rt:66:13
pub returns-then-len-text-clause-utf8 : goal.returns-then-len-text-clause-utf8
returns-then-len-text-clause-utf8 c =
    let kept : IsUtf8 (take c.self.inside.len c.self.inside.bytes) = IsUtf8-had _ c.self.invariant.2 in
    rw c.self.view_is at kept

-- src/short.rt:58:5
pub returns-clause-utf8 : goal.returns-clause-utf8
returns-clause-utf8 c =
    let kept : IsUtf8 (take c.self.inside.len c.self.inside.bytes) = IsUtf8-had _ c.self.invariant.2 in
    rw c.self.view_is at kept
