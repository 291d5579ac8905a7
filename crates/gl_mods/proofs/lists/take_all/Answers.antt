use Rattle.std.proofs.Common.{None, sym, ap, ◌∙◌}
use Rattle.gl_mods.proofs.AtNodes.{changed, taken_ids, ids_at-is, items_of}
use Rattle.gl_mods.proofs.lists.take_all.Goals as goal

pub returns-clause-taken : goal.returns-clause-taken
returns-clause-taken c =
    ap (λ v. v.items) c.unwrap_or.ensures
    ∙ (taken_ids c.remove.result c.new.result c.new.ensures.items ∙ (ap items_of c.remove.ensures.value ∙ sym (ids_at-is c.args.lists.now c.args.node)))

pub returns-clause-left : goal.returns-clause-left
returns-clause-left c = changed c.args.lists.now c.remove.new.self c.args.node None c.remove.ensures.updates.0
