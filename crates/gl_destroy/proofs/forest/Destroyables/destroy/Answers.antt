use Rattle.std.proofs.Common.{◌<◌, ◌++◌, sym, ap, subst, ◌∙◌}
use Rattle.gl_destroy.specs.Forest.{times, tree_at, without, destroy_lines}
use Rattle.gl_destroy.specs.Links.{forest_in}
use Rattle.gl_destroy.specs.View.{look_in, seen_pairs}
use Rattle.gl_destroy.proofs.Links.{shown, whole, is_tree}
use Rattle.gl_destroy.proofs.Calls.{all_live, all_once, lines, removed, removed_stands}
use Rattle.gl_destroy.proofs.forest.Destroyables.destroy.Goals as goal

pub parents_first-requires : goal.parents_first-requires
parents_first-requires c =
    let s = c.self.inside in
    is_tree (look_in s.entries) s.entries.made s.trees.list.items (forest_in (look_in s.entries) s.entries.made s.trees.list.items) c.args.id c.self.invariant.forest (subst (λ t. 0 < times c.args.id t.forest) (sym c.self.view_is) c.requires)

pub end_all-requires-clause-live : goal.end_all-requires-clause-live
end_all-requires-clause-live c =
    let s = c.self.inside in
    all_live s.entries s.trees.list.items (forest_in (look_in s.entries) s.entries.made s.trees.list.items) c.args.id c.as_slice-2.result.now c.self.invariant.forest (subst (λ t. 0 < times c.args.id t.forest) (sym c.self.view_is) c.requires)
    (ap seen_pairs (c.as_slice-2.ensures.value ∙ c.reverse.ensures.items) ∙ c.in_ok-order.ensures)

pub end_all-requires-clause-once : goal.end_all-requires-clause-once
end_all-requires-clause-once c =
    let s = c.self.inside in
    all_once s.entries s.trees.list.items (forest_in (look_in s.entries) s.entries.made s.trees.list.items) c.args.id c.as_slice-2.result.now c.self.invariant.forest (subst (λ t. 0 < times c.args.id t.forest) (sym c.self.view_is) c.requires)
    (ap seen_pairs (c.as_slice-2.ensures.value ∙ c.reverse.ensures.items) ∙ c.in_ok-order.ensures)

pub invariant_of-self : goal.invariant_of-self
invariant_of-self c =
    let s = c.self.inside in
    let f = forest_in (look_in s.entries) s.entries.made s.trees.list.items in
    let lt = subst (λ t. 0 < times c.args.id t.forest) (sym c.self.view_is) c.requires in
    let order = ap seen_pairs (c.as_slice-2.ensures.value ∙ c.reverse.ensures.items) ∙ c.in_ok-order.ensures in
    whole (look_in c.end_all.new.entries) c.end_all.new.entries.made s.trees.list.items _
    (removed s.entries s.trees.list.items f c.args.id c.as_slice-2.result.now c.self.invariant.forest lt order c.end_all.new.entries c.end_all.ensures.ended c.end_all.ensures.made)
    (removed_stands s.entries s.trees.list.items f c.args.id c.as_slice-2.result.now c.self.invariant.forest lt order c.end_all.new.entries c.self.invariant.stands c.end_all.ensures.ended)

pub returns-clause-forest : goal.returns-clause-forest
returns-clause-forest c =
    let s = c.self.inside in
    shown (look_in c.end_all.new.entries) c.end_all.new.entries.made s.trees.list.items _
    (removed s.entries s.trees.list.items (forest_in (look_in s.entries) s.entries.made s.trees.list.items) c.args.id c.as_slice-2.result.now c.self.invariant.forest (subst (λ t. 0 < times c.args.id t.forest) (sym c.self.view_is) c.requires)
    (ap seen_pairs (c.as_slice-2.ensures.value ∙ c.reverse.ensures.items) ∙ c.in_ok-order.ensures)
    c.end_all.new.entries c.end_all.ensures.ended c.end_all.ensures.made)
    ∙ ap (λ t. without c.args.id t.forest) c.self.view_is

pub returns-clause-log : goal.returns-clause-log
returns-clause-log c =
    let s = c.self.inside in
    c.in_ok-tell.ensures.ok
    ∙ ap (λ ls. c.args.log.now ++ ls)
    (lines s.entries s.trees.list.items (forest_in (look_in s.entries) s.entries.made s.trees.list.items) c.args.id c.as_slice.result.now c.self.invariant.forest (subst (λ t. 0 < times c.args.id t.forest) (sym c.self.view_is) c.requires)
    (ap seen_pairs (c.as_slice.ensures.value ∙ c.reverse.ensures.items) ∙ c.in_ok-order.ensures)
    ∙ ap (λ t. destroy_lines (tree_at c.args.id t.forest)) c.self.view_is)
