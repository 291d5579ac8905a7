use Rattle.gl_refs.specs.Forms.{source_form}
use Rattle.gl_value.specs.View.{view}
use Rattle.gl_refs.specs.View.{rows_of}
use Rattle.gl_refs.proofs.Setting.{set_sound}
use Rattle.gl_refs.proofs.Seen.{put_sets, put_rows}
use Rattle.gl_refs.proofs.Watching.{watched_set}
use Rattle.gl_refs.proofs.writing.put.Goals as goal

pub dirty-requires-clause-dirtyable : goal.dirty-requires-clause-dirtyable
dirty-requires-clause-dirtyable c =
    let s = c.source_tag-tag.ensures in
    c.requires.sound.fits c.args.id (record { form = source_form s.kind c.source_tag-tag.result s.was; last = s.last }) s.is

pub returns-clause-sound : goal.returns-clause-sound
returns-clause-sound c =
    let s = c.source_tag-tag.ensures in
    set_sound c.args.tags.now c.dirty.new.self (rows_of c.args.rows.now) (rows_of c.put_value.new.rows) c.args.id (view c.args.value) c.requires.sound
    (put_sets c.args.rows.now c.put_value.new.rows c.args.id c.args.value c.put_value.ensures.value s.kind c.source_tag-tag.result s.was s.last s.is c.args.tags.now c.dirty.new.self c.dirty.ensures)
    c.constant.ensures.sound

pub returns-clause-rows : goal.returns-clause-rows
returns-clause-rows c kind tag was last old = put_rows c.args.rows.now c.put_value.new.rows c.args.id c.args.value c.put_value.ensures.value kind tag was last old

pub returns-clause-watched : goal.returns-clause-watched
returns-clause-watched c old =
    let s = c.source_tag-tag.ensures in
    watched_set c.args.tags.now c.dirty.new.self (rows_of c.args.rows.now) (rows_of c.put_value.new.rows) c.args.id c.source_tag-tag.result s.kind s.was (view c.args.value) s.last c.requires.sound
    (put_sets c.args.rows.now c.put_value.new.rows c.args.id c.args.value c.put_value.ensures.value s.kind c.source_tag-tag.result s.was s.last s.is c.args.tags.now c.dirty.new.self c.dirty.ensures)
    s.is c.args.watch.now c.touch.new.self (record { covers = c.touch.ensures.wider; hot = c.touch.ensures.hotter }) c.touch.ensures.touched old
