-- The script of the sample: 16 events, in turn a click on a row and a new order of the rows, at pseudo-random places.
use Rattle.std.specs.Prelude.{ℕ, zero, suc, List, ◌++◌, ◌+◌, ◌*◌, ◌%◌, ◌==◌, codes, map, if◌then◌else◌}
use Rattle.std.specs.List.{range_with_len}
use Rattle.std.specs.Fmt.{decimal}
use Rattle.gl_base.specs.Texts.{Text}
use Rattle.gl_gen.specs.Rows.{rows, moved, array}

-- the pseudo-random numbers that begin with n
abbrev pub following : ℕ → ℕ
following x = (1103515245 * x + 12345) % 2147483648

unfoldable pub random : ℕ → ℕ → ℕ
random n zero = n
random n (suc k) = following (random n k)

-- the node of the row at a place: the list is node 1, and then each row is a node and its text the next one
abbrev pub row_node : ℕ → ℕ
row_node place = 2 + 2 * place

-- a click on the node of that number
abbrev pub click : ℕ → Text
click node = codes "{\"fire\":" ++ (decimal node ++ codes ",\"event\":\"click\"}")

-- the rows are set to these
abbrev pub set_rows : List Text → Text
set_rows texts = codes "{\"set\":\"rows\",\"to\":" ++ (array texts ++ codes "}")

-- an event by its number: an even one is a click, and an odd one moves the rows before the place to the end
abbrev pub event_at : List Text → ℕ → ℕ → Text
event_at texts k place = if k % 2 == 0 then click (row_node place) else set_rows (moved place texts)

unfoldable pub event : ℕ → ℕ → Text
event n k = event_at (rows n) k (random n k % n)

unfoldable pub script : ℕ → Text
script n = array (map (event n) (range_with_len 0 16))
