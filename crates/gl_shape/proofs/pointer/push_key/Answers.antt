use Rattle.std.proofs.Common.{◌≡◌, ◌∙◌, sym, arith}
use Rattle.std.proofs.lemmas.Iterator.{YieldsList-from_chars}
use Rattle.std.proofs.lemmas.Iterator.Consumers.{YieldsList-end}
use Rattle.std.proofs.lemmas.Grind.{common_steps}
use Rattle.std.proofs.lemmas.List.{map-id}
use Rattle.std.specs.Str.{chars}
use Rattle.gl_meaning.specs.Pointer.{key_step}
use Rattle.gl_shape.proofs.pointer.push_key.Goals as goal

pub returns : goal.returns
unfolding key_step
returns c =
    let all = YieldsList-end (YieldsList-from_chars c.args.key.now c.utf8.key cc) c.loop-character.yielded _ c.loop-character.yielded_by _ _ c.in-None.is c.next.ensures.steps in
    let same : c.loop-character.yielded ≡ chars c.args.key.now = sym (map-id _) ∙ all.0 in
    grind (arith, common_steps)
