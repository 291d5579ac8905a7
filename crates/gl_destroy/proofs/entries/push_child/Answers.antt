use Rattle.std.proofs.Common.{refl}
use Rattle.gl_destroy.proofs.Looks.{listed_look, same_look, on_err}
use Rattle.gl_destroy.proofs.entries.push_child.Goals as goal

pub returns-in_err-push-clause-err : goal.returns-in_err-push-clause-err
returns-in_err-push-clause-err c = on_err c.from_residual.result (same_look c.args.entries.now c.args.parent c.get_mut.result.now (record { what = c.get_mut.result.now.what; children = record c.get_mut.result.now.children { list = c.push.new.self } }) c.get_mut.ensures.value refl c.in_err-push.ensures.items)

pub returns-clause-ok : goal.returns-clause-ok
returns-clause-ok c = listed_look c.args.entries.now c.args.parent c.args.id c.get_mut.result.now (record { what = c.get_mut.result.now.what; children = record c.get_mut.result.now.children { list = c.push.new.self } }) c.get_mut.ensures.value refl c.in_ok-push.ensures.items
