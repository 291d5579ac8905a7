-- The programs of a class: that of its template, those of its getters, and those of its actions.
use Rattle.std.specs.Prelude.{List}
use Rattle.gl_program.specs.Program.{Program}

pub record ClassProgram : Type 0 where
  pub template : Program
  pub getters : List Program
  pub actions : List Program
