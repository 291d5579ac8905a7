use Rattle.std.proofs.Common.{◌∙◌, subst}
use Rattle.gl_meaning.specs.View.{path_view}
use Rattle.gl_plain.specs.Ids.{an_instance}
use Rattle.gl_plain.specs.State.{named_as, instance_row, make}
use Rattle.gl_vm.specs.View.{stamps}
use Rattle.gl_vm.specs.Steps.{Does}
use Rattle.gl_code.proofs.instances.instantiate.Goals as goal

pub returns-clause-step : goal.returns-clause-step
returns-clause-step c =
    subst (λ p. Does (λ n. make an_instance (instance_row (record { id = c.args.vm.now.instances.made; path = p; cells = named_as (n.fields c.args.class) (stamps c.args.cells) }))) c.args.vm.now c.instance.new.self) c.in_ok-kept.ensures
    (subst (λ is. Does (λ n. make an_instance (instance_row (record { id = c.args.vm.now.instances.made; path = path_view c.in_ok-kept.kept; cells = named_as (n.fields c.args.class) (stamps is) }))) c.args.vm.now c.instance.new.self)
    (c.in_ok-ids.ensures ∙ c.as_slice.ensures) c.in_ok-id.ensures.step)
