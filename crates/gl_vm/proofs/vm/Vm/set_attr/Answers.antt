use Rattle.std.proofs.lemmas.Result.{on_ok_weaker}
use Rattle.std.specs.Prelude.{option_map}
use Rattle.std.specs.Str.{chars}
use Rattle.gl_nodes.specs.Node as n
use Rattle.gl_nodes.specs.Tree.{node_at}
use Rattle.gl_vm.proofs.States.{on_ok}
use Rattle.gl_vm.proofs.NodeSteps.{told_step, attr_step, changed_roots}
use Rattle.gl_vm.proofs.vm.Vm.set_attr.Goals as goal

pub returns-clause-step : goal.returns-clause-step
returns-clause-step c = on_ok c.set_attr.result (λ done flat was e. told_step c.args.self.now c.set_attr.new.self c.args.node was (n.attributed (chars c.args.name.now) (option_map (λ v. chars v.now) c.args.value)) e (done.stamps) flat) c.set_attr.ensures.ok c.set_attr.ensures.flat

pub returns-clause-once : goal.returns-clause-once
returns-clause-once c =
    on_ok c.set_attr.result
    (λ done flat tag attrs e once. attr_step c.args.self.now c.set_attr.new.self c.args.node tag attrs (chars c.args.name.now) (option_map (λ v. chars v.now) c.args.value) c.flat.ensures.stamped e once (done.stamps) flat)
    c.set_attr.ensures.ok c.set_attr.ensures.flat

pub returns-clause-roots : goal.returns-clause-roots
returns-clause-roots c = on_ok_weaker c.set_attr.result (changed_roots c.args.self.now.tree c.set_attr.new.self c.args.node (option_map (n.attributed (chars c.args.name.now) (option_map (λ v. chars v.now) c.args.value)) (node_at c.args.self.now.tree c.args.node))) c.set_attr.ensures.ok
