use Rattle.std.proofs.Common.{sym, subst, ◌∙◌}
use Rattle.gl_refs.specs.State.{EndsTag}
use Rattle.gl_refs.specs.View.{rows_of}
use Rattle.gl_refs.proofs.Leading.{own_live, own_moves, unled}
use Rattle.gl_refs.proofs.Seen.{end_sound}
use Rattle.gl_refs.proofs.Watching.{watched_ended}
use Rattle.gl_refs.proofs.writing.end.Goals as goal

pub free_tag-requires-clause-live : goal.free_tag-requires-clause-live
free_tag-requires-clause-live c u e = own_live c.args.tags.now (rows_of c.args.rows.now) c.requires.sound c.args.id u (sym c.own_tag-tag.ensures ∙ e)

pub free_tag-requires-clause-not_constant : goal.free_tag-requires-clause-not_constant
free_tag-requires-clause-not_constant c u e = own_moves c.args.tags.now (rows_of c.args.rows.now) c.requires.sound c.args.id u (sym c.own_tag-tag.ensures ∙ e)

pub free_tag-requires-clause-unled : goal.free_tag-requires-clause-unled
free_tag-requires-clause-unled c u e d = unled c.args.tags.now (rows_of c.args.rows.now) c.args.id u c.requires.sound c.requires.unread (sym c.own_tag-tag.ensures ∙ e) d

pub returns-clause-sound : goal.returns-clause-sound
returns-clause-sound c =
    end_sound c.args.rows.now c.take_out.new.rows c.args.tags.now c.free_tag.new.tags c.args.id c.requires.sound c.requires.unread c.take_out.ensures.ends
    (subst (EndsTag c.args.tags.now c.free_tag.new.tags) c.own_tag-tag.ensures c.free_tag.ensures.ends) c.free_tag.ensures.sound

pub returns-clause-watched : goal.returns-clause-watched
returns-clause-watched c w old =
    watched_ended c.args.rows.now c.take_out.new.rows c.args.tags.now c.free_tag.new.tags c.args.id c.requires.sound c.requires.unread c.take_out.ensures.ends
    (subst (EndsTag c.args.tags.now c.free_tag.new.tags) c.own_tag-tag.ensures c.free_tag.ensures.ends) c.free_tag.ensures.sound w old
