-- What leaves references as they are keeps a machine calm.
use Rattle.std.proofs.Common.{◌≡◌, sym, subst, ◌∙◌, ap}
use Rattle.gl_vm.specs.View.{Calm, Tables}
use Rattle.gl_vm.specs.declared.vm.Vm.{Vm}
use Rattle.gl_plain.specs.State.{State}
use Rattle.gl_nodes.specs.Tree.{Tree}
use Rattle.gl_vm.specs.Steps.{Follows}

pub tree_calm : (vm vm' : Vm) → vm' ≡ record vm { tree = vm'.tree } → Calm vm → Calm vm'
tree_calm vm vm' e k = subst Calm (sym e) (record { unread = k.unread; led = k.led })

pub mods_calm : (vm vm' : Vm) → vm' ≡ record vm { mods = vm'.mods } → Calm vm → Calm vm'
mods_calm vm vm' e k = subst Calm (sym e) (record { unread = k.unread; led = k.led })

-- What hangs in the tree is all the same to what is kept.
pub hung_follows : (n : Tables) (st : State) (vm vm' : Vm) → (vm' ≡ record vm { tree = vm'.tree }) × (vm'.tree.nodes ≡ vm.tree.nodes) → Follows n st vm → Follows n st vm'
hung_follows n st vm vm' e x =
    let t : Tree = record vm.tree { forest = vm'.tree.forest; made = vm'.tree.made; moves = vm'.tree.moves; inserts = vm'.tree.inserts } in
    let same : vm' ≡ record vm { tree = t } = e.0 ∙ ap (λ nodes. record vm { tree = record vm'.tree { nodes = nodes } }) e.1 in
    subst (λ (w : Vm). Follows n st w) (sym same) (record { state = x.state; agrees = x.agrees })
