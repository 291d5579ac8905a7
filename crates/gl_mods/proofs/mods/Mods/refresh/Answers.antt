use Rattle.std.proofs.Common.{sym, subst, IsSome}
use Rattle.gl_arena.specs.Arena.{named}
use Rattle.gl_arena.proofs.Mapped.{live_of_mapped}
use Rattle.gl_mods.specs.Mods.{Refreshes}
use Rattle.gl_mods.specs.Kept.{seen}
use Rattle.gl_mods.specs.View.{seen_installed, seen_table, lists_in}
use Rattle.gl_mods.proofs.Calls.{refreshed_kept, refreshed}
use Rattle.gl_mods.proofs.Seen.{put_seen}
use Rattle.gl_mods.proofs.mods.Mods.refresh.Goals as goal

pub invariant_of-self-2 : goal.invariant_of-self-2
invariant_of-self-2 c =
    let s = c.self.inside in
    let live = live_of_mapped seen_installed s.table c.args.id (subst (λ t. IsSome (named t.table c.args.id)) (sym c.self.view_is) c.requires) in
    let p = put_seen s.table c.put_values.new.table c.args.id c.args.args c.args.named live c.put_values.ensures in
    refreshed_kept (seen_table s.table) (seen_table c.put_values.new.table) (lists_in s.lists) s.installs.items s.updates.items c.args.id p.was c.args.args c.args.named c.self.invariant p.live p.put
    c.push.new.self.items c.in_ok-push.ensures.items

pub returns-clause-ok : goal.returns-clause-ok
returns-clause-ok c =
    let s = c.self.inside in
    let live = live_of_mapped seen_installed s.table c.args.id (subst (λ t. IsSome (named t.table c.args.id)) (sym c.self.view_is) c.requires) in
    let p = put_seen s.table c.put_values.new.table c.args.id c.args.args c.args.named live c.put_values.ensures in
    subst (λ t. Refreshes t (seen (seen_table c.put_values.new.table) (lists_in s.lists) s.installs.items c.push.new.self.items) c.args.id c.args.args c.args.named) c.self.view_is
    (refreshed (seen_table s.table) (seen_table c.put_values.new.table) (lists_in s.lists) s.installs.items s.updates.items c.args.id p.was c.args.args c.args.named c.self.invariant p.live p.put
    c.push.new.self.items c.in_ok-push.ensures.items)
