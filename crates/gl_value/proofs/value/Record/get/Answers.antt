use Rattle.std.proofs.Common.{◌≡◌, ◌∙◌, rules}
use Rattle.std.specs.Str.{chars}
use Rattle.gl_value.specs.View.{seen_pairs}
use Rattle.gl_value.proofs.Properties.{named-pair}
use Rattle.gl_value.proofs.value.Record.get.Goals as goal

pub returns : goal.returns
returns c =
    let same : seen_pairs c.as_slice.result.now ≡ c.args.self.now = search rules in
    c.value_at.ensures ∙ rw (← same) (named-pair (chars c.args.key.now) c.as_slice.result.now)
