use Rattle.gl_refs.proofs.Tagging.{made_or_not}
use Rattle.gl_refs.specs.View.{seen_kind}
use Rattle.gl_refs.proofs.Watching.{watched_or_not}
use Rattle.gl_refs.proofs.making.make.Goals as goal

pub returns-clause-sound : goal.returns-clause-sound
returns-clause-sound c =
    let q = c.requires in
    made_or_not c.put_in.result c.args.tags.now c.args.rows.now c.put_in.new.rows c.args.kind q.sound c.stamps.ensures q.parts q.known q.fits q.fresh q.unled c.put_in.ensures.ok c.put_in.ensures.err

pub returns-clause-watched : goal.returns-clause-watched
returns-clause-watched c w old = watched_or_not c.put_in.result c.args.tags.now c.args.rows.now c.put_in.new.rows (seen_kind c.args.kind) c.put_in.ensures.ok c.put_in.ensures.err w old
