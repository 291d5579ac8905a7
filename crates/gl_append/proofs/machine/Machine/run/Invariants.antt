use Rattle.gl_machine.specs.Mach.{going}
use Rattle.gl_vm.specs.View.{Calm}
use Rattle.gl_vm.specs.Steps.{Rooted}
use Rattle.gl_append.specs.Stepping.{ReachesIn}
use Rattle.gl_append.proofs.machine.Machine.run.Given as goal

abbrev pub invariant-loop : goal.invariant-loop
invariant-loop l = record {
  reaches : ReachesIn l.app l.cells going l.fn.vm l.fn.self l.vm l.self;
  calm : Calm l.vm;
  roots : Rooted l.fn.vm.tree l.vm.tree;
}
