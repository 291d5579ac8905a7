use Rattle.std.proofs.Common.{◌∙◌, rules, sym}
use Rattle.std.specs.Str.{IsUtf8}
use Rattle.gl_value.proofs.Paths.{split-end}
use Rattle.gl_each.proofs.keying.is_name.Goals as goal

pub returns-in-None : goal.returns-in-None
returns-in-None c t =
    let u : IsUtf8 c.args.key.now = search rules in
    record {
      index = sym c.is_word.ensures ∙ c.if-is_word.false;
      identity = sym c.is_word-else-is_word.ensures ∙ c.if-is_word-2.false;
      piece = split-end c.args.key.now u c.in-None.ensures.cases;
    }
