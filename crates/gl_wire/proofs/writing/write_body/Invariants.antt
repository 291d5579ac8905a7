use Rattle.std.proofs.Common.{◌≡◌, ◌++◌, reverse, false, length}
use Rattle.std.specs.Prelude.{string_bytes}
use Rattle.gl_wire.specs.Json.{body_rows}
use Rattle.gl_wire.specs.View.{seen_stmts}
use Rattle.gl_wire.specs.Wire.{body_of}
use Rattle.gl_wire.specs.Written.{rows_text}
use Rattle.gl_wire.specs.declared.version.Version.TheVariants.{Second}
use Rattle.gl_wire.proofs.writing.write_body.Given as goal

-- what is written and what is left are all
abbrev pub invariant-loop-stmt : goal.invariant-loop-stmt
invariant-loop-stmt l = string_bytes l.text ++ rows_text l.later (body_rows Second (body_of (seen_stmts (reverse l.waiting.items)))) ≡ string_bytes l.fn.text ++ rows_text false (body_rows Second (body_of l.fn.body))

abbrev pub decreases-loop-stmt : goal.decreases-loop-stmt
decreases-loop-stmt l = length l.waiting.items
