use Rattle.std.proofs.Common.{◌≡◌, ◌∷◌, ◌∙◌, sym, codes}
use Rattle.std.specs.List.{flat_map}
use Rattle.std.specs.Str.{chars}
use Rattle.std.proofs.lemmas.Iterator.{YieldsList-from_chars}
use Rattle.std.proofs.lemmas.Iterator.Consumers.{YieldsList-end}
use Rattle.std.proofs.lemmas.List.{map-id}
use Rattle.gl_value.specs.Quote.{escaped}
use Rattle.gl_commands.proofs.Saying.{says_more, says_step}
use Rattle.gl_commands.proofs.line.say_quoted.Goals as goal

pub loop-character-preserved : goal.loop-character-preserved
loop-character-preserved g c = says_step _ _ _ _ _ _ _ _ _ _ _ _ escaped 34 c.loop-character.yielded c.in-Some.character c.loop-character.invariant c.say_escaped-whole.ensures

pub returns : goal.returns
returns g c =
    let all = YieldsList-end (YieldsList-from_chars c.args.text.now c.utf8.text cc) c.loop-character.yielded _ c.loop-character.yielded_by _ _ c.in-None.is c.next.ensures.steps in
    let same : c.loop-character.yielded ≡ chars c.args.text.now = sym (map-id _) ∙ all.0 in
    rw (← same) (says_more _ _ _ _ _ _ _ _ _ _ _ _ (34 ∷ flat_map escaped c.loop-character.yielded) (codes "\"") c.loop-character.invariant c.say_ascii.ensures)
