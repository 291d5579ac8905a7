use Rattle.std.proofs.Common.{subst}
use Rattle.gl_plain.specs.Naming.{by_number}
use Rattle.gl_machine.specs.Step.{step_as}
use Rattle.gl_append.specs.Stepping.{StepsIn}
use Rattle.gl_code.proofs.Rooting.{roots_refl, roots_then}
use Rattle.gl_append.proofs.RunSteps.{reached_first, reached_next, reached_end, reached_limit}
use Rattle.gl_append.proofs.machine.Machine.run.Goals as goal

pub loop-init : goal.loop-init
loop-init c = record { reaches = reached_first c.args.app.now c.args.cells.now c.args.vm.now c.args.self.now; calm = c.requires.calm; roots = roots_refl c.args.vm.now.tree }

pub returns-in-Finished-clause-ok : goal.returns-in-Finished-clause-ok
returns-in-Finished-clause-ok c =
    reached_end c.args.app.now c.args.cells.now c.args.vm.now c.loop.vm c.step.new.vm c.args.self.now c.loop.self c.step.new.self c.loop.invariant.reaches
    (subst (λ r. StepsIn c.args.app.now c.args.cells.now (λ env store. step_as by_number env store) c.loop.vm c.loop.self c.step.new.vm c.step.new.self r) c.in-Finished.is c.in_ok-step.ensures.step)

pub returns-in-TooDeep-clause-deep : goal.returns-in-TooDeep-clause-deep
returns-in-TooDeep-clause-deep c =
    reached_limit c.args.app.now c.args.cells.now c.args.vm.now c.loop.vm c.step.new.vm c.args.self.now c.loop.self c.step.new.self c.loop.invariant.reaches
    (subst (λ r. StepsIn c.args.app.now c.args.cells.now (λ env store. step_as by_number env store) c.loop.vm c.loop.self c.step.new.vm c.step.new.self r) c.in-TooDeep.is c.in_ok-step.ensures.step)

pub loop-preserved : goal.loop-preserved
loop-preserved c = record {
  reaches = reached_next c.args.app.now c.args.cells.now c.args.vm.now c.loop.vm c.step.new.vm c.args.self.now c.loop.self c.step.new.self c.loop.invariant.reaches
      (subst (λ r. StepsIn c.args.app.now c.args.cells.now (λ env store. step_as by_number env store) c.loop.vm c.loop.self c.step.new.vm c.step.new.self r) c.in-Going.is c.in_ok-step.ensures.step);
  calm = c.in_ok-step.ensures.calm;
  roots = roots_then c.args.vm.now.tree c.loop.vm.tree c.step.new.vm.tree c.loop.invariant.roots c.in_ok-step.ensures.roots;
}

pub returns-in-Finished-clause-roots : goal.returns-in-Finished-clause-roots
returns-in-Finished-clause-roots c = roots_then c.args.vm.now.tree c.loop.vm.tree c.step.new.vm.tree c.loop.invariant.roots c.in_ok-step.ensures.roots
