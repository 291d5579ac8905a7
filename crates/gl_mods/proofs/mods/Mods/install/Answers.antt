use Rattle.std.proofs.Common.{subst}
use Rattle.gl_arena.proofs.Mapped.{gives-mapped, ends-mapped}
use Rattle.gl_mods.specs.Mods.{Installs, IsSame}
use Rattle.gl_mods.specs.Kept.{seen}
use Rattle.gl_mods.specs.View.{seen_installed, seen_table, lists_in}
use Rattle.gl_mods.specs.declared.installed.Installed.{Installed}
use Rattle.gl_mods.proofs.Calls.{installed_kept, installed, undone_kept, undone}
use Rattle.gl_mods.proofs.mods.Mods.install.Goals as goal

pub invariant_of-self-in-Ok : goal.invariant_of-self-in-Ok
invariant_of-self-in-Ok c =
    let s = c.self.inside in
    let it : Installed = record { node = c.args.node; place = c.args.place; name = c.args.name; args = c.args.args; named = c.args.named } in
    installed_kept (seen_table s.table) (seen_table c.put.new.table) (lists_in s.lists) s.installs.items s.updates.items c.in_ok-id.id (seen_installed it) c.self.invariant
    (gives-mapped seen_installed s.table c.put.new.table c.in_ok-id.id it c.in_ok-id.ensures.ok)
    (lists_in c.list.new.lists) c.list.new.installs.items c.in-Ok.ensures.ok c.in-Ok.ensures.installs

pub returns-in-Ok-clause-ok : goal.returns-in-Ok-clause-ok
returns-in-Ok-clause-ok c =
    let s = c.self.inside in
    let it : Installed = record { node = c.args.node; place = c.args.place; name = c.args.name; args = c.args.args; named = c.args.named } in
    subst (λ t. Installs t (seen (seen_table c.put.new.table) (lists_in c.list.new.lists) c.list.new.installs.items s.updates.items) c.in_ok-id.id (seen_installed it)) c.self.view_is
    (installed (seen_table s.table) (seen_table c.put.new.table) (lists_in s.lists) s.installs.items s.updates.items c.in_ok-id.id (seen_installed it) c.self.invariant
    (gives-mapped seen_installed s.table c.put.new.table c.in_ok-id.id it c.in_ok-id.ensures.ok)
    (lists_in c.list.new.lists) c.list.new.installs.items c.in-Ok.ensures.ok c.in-Ok.ensures.installs)

pub invariant_of-self-in-Err : goal.invariant_of-self-in-Err
invariant_of-self-in-Err c =
    let s = c.self.inside in
    let it : Installed = record { node = c.args.node; place = c.args.place; name = c.args.name; args = c.args.args; named = c.args.named } in
    undone_kept (seen_table s.table) (seen_table c.put.new.table) (lists_in s.lists) s.installs.items s.updates.items c.in_ok-id.id (seen_installed it) c.self.invariant
    (gives-mapped seen_installed s.table c.put.new.table c.in_ok-id.id it c.in_ok-id.ensures.ok)
    (seen_table c.remove.new.self) (lists_in c.list.new.lists) c.list.new.installs.items
    (ends-mapped seen_installed c.put.new.table c.remove.new.self c.in_ok-id.id c.remove.ensures.ends) c.in-Err.ensures.err c.in-Err.ensures.kept

pub returns-in-Err-clause-err : goal.returns-in-Err-clause-err
returns-in-Err-clause-err c =
    let s = c.self.inside in
    let it : Installed = record { node = c.args.node; place = c.args.place; name = c.args.name; args = c.args.args; named = c.args.named } in
    subst (λ t. IsSame t (seen (seen_table c.remove.new.self) (lists_in c.list.new.lists) c.list.new.installs.items s.updates.items)) c.self.view_is
    (undone (seen_table s.table) (seen_table c.put.new.table) (lists_in s.lists) s.installs.items s.updates.items c.in_ok-id.id (seen_installed it) c.self.invariant
    (gives-mapped seen_installed s.table c.put.new.table c.in_ok-id.id it c.in_ok-id.ensures.ok)
    (seen_table c.remove.new.self) (lists_in c.list.new.lists) c.list.new.installs.items
    (ends-mapped seen_installed c.put.new.table c.remove.new.self c.in_ok-id.id c.remove.ensures.ends) c.in-Err.ensures.err c.in-Err.ensures.kept)
