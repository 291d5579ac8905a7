use denote.Text.{Utf8}
use denote.Shadow.{shadow}
use Rattle.std.proofs.Common.{◌≡◌, length, drop, true}
use Rattle.gl_base.specs.Texts.{is_ascii_text}
use Rattle.gl_names.specs.Table.{name_of, seen_rows, width}
use Rattle.gl_names.proofs.table.first_name.Given as goal

-- the number is still to be found in the rows that are left
abbrev pub invariant-loop-row : goal.invariant-loop-row
invariant-loop-row l =
    (name_of l.fn.number (seen_rows l.tail (drop l.row-index l.rows)) ≡ name_of l.fn.number (seen_rows l.fn.names l.fn.rows))
    × (is_ascii_text l.tail ≡ true)
    × (width (drop l.row-index l.rows) ≡ length l.tail)
    × shadow (Utf8 l.tail)
