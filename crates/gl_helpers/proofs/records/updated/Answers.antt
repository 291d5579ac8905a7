use Rattle.std.proofs.Common.{◌∙◌, ap}
use Rattle.gl_value.specs.View.{view}
use Rattle.gl_helpers.specs.Records.{put_pair}
use Rattle.gl_helpers.proofs.Puts.{changed_record}
use Rattle.gl_helpers.proofs.records.updated.Goals as goal

pub returns-in_ok-changed-in-Record-clause-value : goal.returns-in_ok-changed-in-Record-clause-value
returns-in_ok-changed-in-Record-clause-value c =
    let u = c.args.update.now in
    rw c.in-Record.is (c.not_deep.ensures ∙ changed_record u.name.now (view u.is.now) u.key.now (view u.value.now) c.in-Record.record _ (rw c.in-Record.is at c.if-has_property.ensures) (c.in_ok-changed-in-Record.ensures.value ∙ ap (put_pair u.key.now (view u.value.now)) c.as_slice-pairs.ensures))
