use Rattle.gl_vm.proofs.Starts as s
use Rattle.gl_vm.proofs.vm.Vm.new.Goals as goal

pub returns-clause-state : goal.returns-clause-state
returns-clause-state c n =
    let r = c.in_ok-refs.ensures in
    let t = c.in_ok-tree.ensures in
    let b = c.in_ok-scopes.ensures in
    let i = c.in_ok-instances.ensures in
    let m = c.in_ok-mods.ensures in
    s.starts (record { refs = c.in_ok-refs.refs; tree = c.in_ok-tree.tree; scopes = c.in_ok-scopes.scopes; instances = c.in_ok-instances.instances; mods = c.in_ok-mods.mods }) r.rows.0 t.nodes i.empty b.empty m.table r.rows.1 t.stamps i.made b.made m.made
    r.counts.2 m.installs m.updates n
