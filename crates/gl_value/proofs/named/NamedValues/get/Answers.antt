use Rattle.std.proofs.Common.{◌≡◌, ◌∙◌, rules}
use Rattle.std.specs.Str.{chars}
use Rattle.gl_value.specs.View.{seen_entries}
use Rattle.gl_value.proofs.NamedLaws.{named-found}
use Rattle.gl_value.proofs.named.NamedValues.get.Goals as goal

pub returns : goal.returns
returns c =
    let same : seen_entries c.as_slice.result.now ≡ c.args.self.now = search rules in
    c.value_of.ensures ∙ rw (← same) (named-found (chars c.args.name.now) c.as_slice.result.now)
