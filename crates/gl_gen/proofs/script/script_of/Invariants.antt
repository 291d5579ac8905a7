use Rattle.std.specs.Prelude.{◌-◌}
use Rattle.gl_gen.proofs.Written.{Written}
use Rattle.gl_gen.proofs.script.script_of.Given as goal

abbrev pub invariant-loop-event : goal.invariant-loop-event
invariant-loop-event l = Written l.n (l.event - 1) l.number l.text
