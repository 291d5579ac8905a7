-- When a program is that of a code: its words are those of the opcodes, and its pools are those of the code.
use Rattle.std.specs.Prelude.{◌≡◌, map, Some}
use Rattle.gl_ops.specs.Words.{decoded}
use Rattle.gl_program.specs.Program.{Program}
use Rattle.gl_opc.specs.Piece.{Code}

abbrev pub IsProgramOf : Program → Code → Type 0
IsProgramOf p x = (map decoded p.words ≡ map Some x.ops) × (p.texts ≡ x.texts) × (p.names ≡ x.names) × (p.ints ≡ x.ints)
