use Rattle.std.proofs.Common.{◌∷◌, [], Some, ◌++◌, sym, ap, ◌∙◌, is_some}
use Rattle.std.specs.BTreeMap.{get}
use Rattle.gl_arena.specs.Id.{id_cmp}
use Rattle.gl_mods.specs.Mods.{ids_at}
use Rattle.gl_mods.specs.View.{lists_in}
use Rattle.gl_mods.proofs.AtNodes.{changed, one_more, none_more, ids_at-is, items_of, on_err}
use Rattle.gl_mods.proofs.lists.push_at.Goals as goal

pub push_first-requires : goal.push_first-requires
push_first-requires c =
    ids_at-is c.get_mut.follows.lender-at-none c.args.node
    ∙ (ap (λ m. items_of (get id_cmp m c.args.node)) c.get_mut.follows.holds-at-none ∙ ap items_of (sym c.in-None.ensures.value))

pub returns-in_err-push-in-Some-clause-err : goal.returns-in_err-push-in-Some-clause-err
returns-in_err-push-in-Some-clause-err c =
    let old = c.args.lists.now in
    let w = c.push.new.self in
    on_err c.from_residual.result
    (none_more c.args.node (λ m. ids_at m (lists_in old)) (λ m. ids_at m (lists_in (c.get_mut.follows.lender w))) w.items
    (changed old (c.get_mut.follows.lender w) c.args.node (Some w) ((c.get_mut.follows.holds w).3 (ap is_some (sym c.in-Some.ensures.value))).0)
    (c.in_err-push-in-Some.ensures.items ∙ (ap items_of c.in-Some.ensures.value ∙ sym (ids_at-is old c.args.node))))

pub returns-in_ok-push-in-Some-clause-ok : goal.returns-in_ok-push-in-Some-clause-ok
returns-in_ok-push-in-Some-clause-ok c =
    let old = c.args.lists.now in
    let w = c.push.new.self in
    one_more c.args.node c.args.id (λ m. ids_at m (lists_in old)) (λ m. ids_at m (lists_in (c.get_mut.follows.lender w))) w.items
    (changed old (c.get_mut.follows.lender w) c.args.node (Some w) ((c.get_mut.follows.holds w).3 (ap is_some (sym c.in-Some.ensures.value))).0)
    (c.in_ok-push-in-Some.ensures.items ∙ ap (λ xs. xs ++ c.args.id ∷ []) (ap items_of c.in-Some.ensures.value ∙ sym (ids_at-is old c.args.node)))
