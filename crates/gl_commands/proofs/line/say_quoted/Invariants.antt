use Rattle.std.proofs.Common.{◌∷◌}
use Rattle.std.specs.List.{flat_map}
use Rattle.gl_value.specs.Quote.{escaped}
use Rattle.gl_commands.specs.Lines.{SaysOn}
use Rattle.gl_commands.proofs.line.say_quoted.Given as goal

abbrev pub invariant-loop-character : goal.invariant-loop-character
invariant-loop-character g l = SaysOn l.fn.whole l.whole (g.E.Sink.took l.fn.err) (g.E.Sink.took l.err) (g.E.Sink.faults l.fn.err) (g.E.Sink.faults l.err) (g.E.Sink.wants l.fn.err) (g.E.Sink.wants l.err) (34 ∷ flat_map escaped l.yielded)
