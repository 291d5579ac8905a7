use Rattle.std.proofs.Common.{◌∙◌, ap}
use Rattle.gl_each.specs.Counted.{counts, key_values, put_counts}
use Rattle.gl_each.specs.View.{seen_keys}
use Rattle.gl_each.proofs.Keyings.{put_all}
use Rattle.gl_each.proofs.keying.counted.Goals as goal

pub returns : goal.returns
returns c = c.put.ensures ∙ ap (put_counts (seen_keys c.args.keys.items)) c.as_slice-2.ensures.value ∙ put_all (seen_keys c.args.keys.items) c.in_ok-counts.counts.items (c.in_ok-counts.ensures ∙ ap (λ l. counts (key_values (seen_keys l))) c.as_slice.ensures.value)
