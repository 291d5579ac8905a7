use Rattle.std.specs.Prelude.{◌≡◌, ◌++◌, codes, take, flat_map}
use Rattle.gl_meaning.specs.View.{manifest_view}
use Rattle.gl_code.specs.Tables.{tables_of}
use Rattle.gl_session.specs.Writing.{told_id}
use Rattle.gl_session.proofs.writing.push_updates.Given as goal

abbrev pub invariant-loop-id : goal.invariant-loop-id
invariant-loop-id l = l.out ≡ l.initial.out ++ flat_map (told_id (codes "update ") (tables_of (manifest_view l.app.manifest)) l.vm) (take l.id-index l.ids)
