use Rattle.std.proofs.Common.{◌∷◌, [], Some, ◌++◌, sym, ap, ◌∙◌}
use Rattle.gl_mods.specs.Mods.{ids_at}
use Rattle.gl_mods.specs.View.{lists_in}
use Rattle.gl_mods.proofs.AtNodes.{changed, one_more}
use Rattle.gl_mods.proofs.lists.push_first.Goals as goal

pub returns-clause-ok : goal.returns-clause-ok
returns-clause-ok c =
    let old = c.args.lists.now in
    one_more c.args.node c.args.id (λ m. ids_at m (lists_in old)) (λ m. ids_at m (lists_in c.insert.new.self)) c.push.new.self.items
    (changed old c.insert.new.self c.args.node (Some c.push.new.self) ((c.in_ok-insert.ensures {u = tt}).updates.0))
    (c.in_ok-push.ensures.items ∙ (ap (λ xs. xs ++ c.args.id ∷ []) (c.new-ids.ensures.items ∙ sym c.requires)))
