use denote.Text.{Utf8}
use denote.Shadow.{shadow}
use Rattle.std.proofs.Common.{◌≡◌, length, drop, true}
use Rattle.gl_base.specs.Names.{named}
use Rattle.gl_base.specs.Texts.{is_ascii_text}
use Rattle.gl_names.specs.Table.{seen_rows, width}
use Rattle.std.specs.Str.{chars}
use Rattle.gl_names.proofs.table.first_number.Given as goal

-- the name is still to be found in the rows that are left
abbrev pub invariant-loop-row : goal.invariant-loop-row
invariant-loop-row l =
    (named (chars l.fn.name) (seen_rows l.left (drop l.row-index l.rows)) ≡ named (chars l.fn.name) (seen_rows l.fn.names l.fn.rows))
    × (is_ascii_text l.left ≡ true)
    × (width (drop l.row-index l.rows) ≡ length l.left)
    × shadow (Utf8 l.left)
