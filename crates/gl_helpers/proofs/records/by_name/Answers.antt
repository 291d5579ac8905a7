use Rattle.std.proofs.Common.{◌∙◌, ap, refl, drop, ◌+◌}
use Rattle.std.specs.Str.{chars}
use Rattle.gl_base.proofs.Lists.{drop_item}
use Rattle.gl_helpers.proofs.Lends.{put_named}
use Rattle.gl_helpers.proofs.records.by_name.Goals as goal

pub loop-name-preserved : goal.loop-name-preserved
loop-name-preserved c =
    let l = c.loop-name in
    let e = c.loop-name-item.result in
    let here = drop_item c.args.named.now l.name-index e c.loop-name-test.true c.loop-name-item.is in
    put_named c.in_ok-key.key _ e l.map.entries c.insert.new.self.entries (drop (l.name-index + 1) c.args.named.now) _ (ap chars c.in_ok-key.ensures.ok ∙ c.as_str.ensures.value) refl c.in_ok-insert.ensures.entries (rw here at l.invariant)
