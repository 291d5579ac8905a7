-- Programs that are added to a list.
use Rattle.std.specs.Prelude.{◌≡◌, List, ◌++◌}
use Rattle.gl_meaning.specs.Manifest.{ClassEntry, Manifest}
use Rattle.gl_program.specs.Program.{Program}
use Rattle.gl_opc.specs.Programs.{Scoped, LowerEach}

-- a program for each of the expressions was added
abbrev pub Adds : Manifest → ClassEntry → List Scoped → List Program → List Program → Type 0
Adds m c es old new = (more : List Program) × (new ≡ old ++ more) × LowerEach m c es more
