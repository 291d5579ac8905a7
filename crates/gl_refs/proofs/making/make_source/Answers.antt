use Rattle.std.proofs.Common.{sym, subst, ap, ◌∙◌}
use Rattle.gl_tags.specs.Tags as tg
use Rattle.gl_refs.specs.State.{is_combined, IsSound}
use Rattle.gl_refs.specs.View.{rows_of}
use Rattle.gl_refs.proofs.Rows.{some_is}
use Rattle.gl_refs.proofs.Tagging.{tags_changed, tag_made, tag_unowned, tag_unled, tag_again}
use Rattle.gl_refs.proofs.Seen.{rows_same}
use Rattle.gl_refs.specs.Watch.{Watched}
use Rattle.gl_refs.proofs.Watching.{watched_tags, watched_tagged}
use Rattle.gl_refs.proofs.making.make_source.Goals as goal

pub make-requires-clause-sound : goal.make-requires-clause-sound
make-requires-clause-sound c =
    let t = c.args.tags.now in
    tag_made t c.dirtyable.new.self (rows_of c.args.rows.now) c.requires.sound c.constant.ensures.sound c.in_ok-tag.tag t.clock t.count c.in_ok-tag.ensures.given c.dirtyable.ensures.rest

pub make-requires-clause-fresh : goal.make-requires-clause-fresh
make-requires-clause-fresh c i u e f =
    let t = c.args.tags.now in
    tag_unowned t c.dirtyable.new.self (rows_of c.args.rows.now) c.requires.sound c.constant.ensures.sound c.in_ok-tag.tag t.clock t.count c.in_ok-tag.ensures.given c.dirtyable.ensures.rest i (f ∙ sym e)

pub make-requires-clause-unled : goal.make-requires-clause-unled
make-requires-clause-unled c u e =
    let t = c.args.tags.now in
    subst (tg.IsUnled c.dirtyable.new.self) (some_is c.in_ok-tag.tag u e)
    (tag_unled t c.dirtyable.new.self (rows_of c.args.rows.now) c.requires.sound c.constant.ensures.sound c.in_ok-tag.tag t.clock t.count c.in_ok-tag.ensures.given c.dirtyable.ensures.rest)

pub free-requires-clause-unled : goal.free-requires-clause-unled
free-requires-clause-unled c d =
    let t = c.args.tags.now in
    tag_unled t c.dirtyable.new.self (rows_of c.args.rows.now) c.requires.sound c.constant.ensures.sound c.in_ok-tag.tag t.clock t.count c.in_ok-tag.ensures.given c.dirtyable.ensures.rest

pub returns-in-Err-clause-tags : goal.returns-in-Err-clause-tags
returns-in-Err-clause-tags c =
    let t = c.args.tags.now in
    tag_again t c.dirtyable.new.self (rows_of c.args.rows.now) c.requires.sound c.constant.ensures.sound c.in_ok-tag.tag t.clock t.count c.in_ok-tag.ensures.given c.dirtyable.ensures.rest c.free.new.self c.free.ensures.ends

pub returns-in-Err-clause-sound : goal.returns-in-Err-clause-sound
returns-in-Err-clause-sound c =
    let t = c.args.tags.now in
    let again = tag_again t c.dirtyable.new.self (rows_of c.args.rows.now) c.requires.sound c.constant.ensures.sound c.in_ok-tag.tag t.clock t.count c.in_ok-tag.ensures.given c.dirtyable.ensures.rest c.free.new.self c.free.ensures.ends in
    rows_same (IsSound c.free.new.self) c.args.rows.now c.make.new.rows c.in-Err.ensures.err
    (tags_changed t c.free.new.self (rows_of c.args.rows.now) c.requires.sound c.constant-in-Err.ensures.sound (c.free.ensures.rest.count ∙ c.dirtyable.ensures.rest.count) (λ k d. again k) (λ k u e. again u) (λ k e. sym (ap is_combined (again k)) ∙ e))

pub returns-in-Ok-clause-watched : goal.returns-in-Ok-clause-watched
returns-in-Ok-clause-watched c w old =
    let t = c.args.tags.now in
    c.make.ensures.watched w (watched_tagged t c.dirtyable.new.self (rows_of c.args.rows.now) c.requires.sound c.in_ok-tag.tag t.clock t.count c.in_ok-tag.ensures.given c.dirtyable.ensures.rest w old)

pub returns-in-Err-clause-watched : goal.returns-in-Err-clause-watched
returns-in-Err-clause-watched c w old =
    let t = c.args.tags.now in
    let again = tag_again t c.dirtyable.new.self (rows_of c.args.rows.now) c.requires.sound c.constant.ensures.sound c.in_ok-tag.tag t.clock t.count c.in_ok-tag.ensures.given c.dirtyable.ensures.rest c.free.new.self c.free.ensures.ends in
    rows_same (λ x. Watched c.free.new.self x w) c.args.rows.now c.make.new.rows c.in-Err.ensures.err
    (watched_tags t c.free.new.self (rows_of c.args.rows.now) c.requires.sound (λ k d. again k) (λ k u e. again u) (c.free.ensures.rest.clock ∙ c.dirtyable.ensures.rest.clock) w old)
