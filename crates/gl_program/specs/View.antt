-- What the code's programs stand for.
use Rattle.std.specs.Prelude.{List, map}
use Rattle.gl_program.specs.ClassProgram as c
use Rattle.gl_program.specs.Program as p
use Rattle.gl_program.specs.declared.program.Program.{Program}
use Rattle.gl_program.specs.declared.class_program.ClassProgram.{ClassProgram}

abbrev pub program_view : Program → p.Program
program_view x = record { words = x.words; texts = x.texts; names = x.names; ints = x.ints }

abbrev pub seen_programs : List Program → List p.Program
seen_programs xs = map program_view xs

abbrev pub class_program_view : ClassProgram → c.ClassProgram
class_program_view x = record { template = program_view x.template; getters = x.getters; actions = x.actions }

abbrev pub seen_class_programs : List ClassProgram → List c.ClassProgram
seen_class_programs xs = map class_program_view xs
