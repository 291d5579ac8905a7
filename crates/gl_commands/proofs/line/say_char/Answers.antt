use Rattle.std.proofs.Common.{◌≡◌, ◌∷◌, ◌∙◌, [], ap}
use Rattle.std.specs.Str.{chars}
use Rattle.gl_base.proofs.Chars.{chars-encode}
use Rattle.gl_commands.proofs.line.say_char.Goals as goal

pub returns : goal.returns
returns g c =
    let one : chars c.encode_utf8.result.now ≡ c.args.character ∷ [] = ap chars c.encode_utf8.ensures.value ∙ chars-encode c.args.character c.ranges.character.0 in
    rw one at c.say.ensures
