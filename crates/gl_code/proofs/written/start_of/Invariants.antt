use Rattle.std.proofs.Common.{◌≡◌, drop}
use Rattle.std.specs.Str.{chars}
use Rattle.gl_base.specs.Names.{named}
use Rattle.gl_code.specs.View.{seen_slots}
use Rattle.gl_code.proofs.written.start_of.Given as goal

abbrev pub invariant-loop-slot : goal.invariant-loop-slot
invariant-loop-slot l = named (chars l.name) (seen_slots (drop l.slot-index l.slots)) ≡ named (chars l.name) (seen_slots l.slots)
