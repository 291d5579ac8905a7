-- What stands once in the pools of a program: each text and each name.
use Rattle.gl_meaning.specs.Laws.{NoRepeat}
use Rattle.gl_program.specs.Program.{Program}

abbrev pub HasEachOnce : Program → Type 0
HasEachOnce p = NoRepeat p.texts × NoRepeat p.names
