-- The bytes of a text, which stand in the text itself or in memory of their own.
use Rattle.std.specs.Prelude.{ℕ, List, string_bytes}
use Rattle.gl_text.specs.declared.text.Characters.{Characters}
use Rattle.gl_text.specs.declared.text.Characters.TheVariants.{Short, Long}

abbrev pub bytes_kept : Characters → List ℕ
bytes_kept (Short s) = s
bytes_kept (Long s) = string_bytes s.value
