use Rattle.std.proofs.Common.{◌<◌, ◌≤◌, sym, ap, subst, ◌∙◌}
use Rattle.gl_arena.proofs.Mapped.{live_of_mapped}
use Rattle.gl_mods.specs.Mods.{times, Drops}
use Rattle.gl_mods.specs.Kept.{seen, ended}
use Rattle.gl_arena.specs.Arena.{named}
use Rattle.gl_mods.specs.View.{seen_installed, seen_table, lists_in}
use Rattle.gl_mods.proofs.Calls.{node_lives, node_once, dropped_kept, dropped}
use Rattle.gl_mods.proofs.Seen.{ended_seen}
use Rattle.gl_mods.proofs.mods.Mods.drop_node.Goals as goal

pub end_all-requires-clause-live : goal.end_all-requires-clause-live
end_all-requires-clause-live c = λ i lt.
    let s = c.self.inside in
    let ids = c.as_slice.ensures.value ∙ c.take_all-ids.ensures.taken in
    live_of_mapped seen_installed s.table i (node_lives (seen_table s.table) (lists_in s.lists) s.installs.items s.updates.items c.args.node c.self.invariant i (subst (λ is. 0 < times i is) ids lt))

pub end_all-requires-clause-once : goal.end_all-requires-clause-once
end_all-requires-clause-once c = λ i.
    let s = c.self.inside in
    let ids = c.as_slice.ensures.value ∙ c.take_all-ids.ensures.taken in
    subst (λ is. times i is ≤ 1) (sym ids) (node_once (seen_table s.table) (lists_in s.lists) s.installs.items s.updates.items c.args.node c.self.invariant i)

pub invariant_of-self : goal.invariant_of-self
invariant_of-self c =
    let s = c.self.inside in
    let ids = c.as_slice.ensures.value ∙ c.take_all-ids.ensures.taken in
    dropped_kept (seen_table s.table) (seen_table c.end_all.new.table) (lists_in s.lists) (lists_in c.take_all-ids.new.lists) s.installs.items s.updates.items c.args.node c.self.invariant
    (λ i. ended_seen s.table c.end_all.new.table (λ k. times k c.as_slice.result.now) c.end_all.ensures.ended i ∙ ap (λ is. ended (λ k. times k is) (named (seen_table s.table)) i) ids)
    c.end_all.ensures.made c.take_all-ids.ensures.left

pub returns : goal.returns
returns c =
    let s = c.self.inside in
    let ids = c.as_slice.ensures.value ∙ c.take_all-ids.ensures.taken in
    subst (λ t. Drops t (seen (seen_table c.end_all.new.table) (lists_in c.take_all-ids.new.lists) s.installs.items s.updates.items) c.args.node) c.self.view_is
    (dropped (seen_table s.table) (seen_table c.end_all.new.table) (lists_in s.lists) (lists_in c.take_all-ids.new.lists) s.installs.items s.updates.items c.args.node c.self.invariant
    (λ i. ended_seen s.table c.end_all.new.table (λ k. times k c.as_slice.result.now) c.end_all.ensures.ended i ∙ ap (λ is. ended (λ k. times k is) (named (seen_table s.table)) i) ids)
    c.end_all.ensures.made c.take_all-ids.ensures.left)
