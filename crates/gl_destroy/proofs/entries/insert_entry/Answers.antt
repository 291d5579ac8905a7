use Rattle.gl_destroy.proofs.Looks.{put_adds}
use Rattle.gl_destroy.proofs.entries.insert_entry.Goals as goal

pub returns-clause-ok : goal.returns-clause-ok
returns-clause-ok c = put_adds c.put.result c.args.entries.now c.put.new.entries (record { what = c.args.what; children = c.new-children.result }) c.new-children.ensures c.put.ensures.ok
