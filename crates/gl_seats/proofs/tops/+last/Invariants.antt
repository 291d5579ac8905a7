use Rattle.std.proofs.Common.{◌≡◌}
use Rattle.gl_vm.specs.View.{Tables}
use Rattle.gl_code.specs.Hung.{tops}
use Rattle.gl_seats.specs.Parts.{code_nest, codes_nest, item_nest, items_nest}
use Rattle.gl_seats.specs.Seats.{last_of}
use Rattle.gl_seats.proofs.Rows.{row}
use Rattle.gl_seats.proofs.tops.+last.Given as goal

-- the last of what is left is the last of all
abbrev pub invariant-last_of_body-loop-code : goal.invariant-last_of_body-loop-code
invariant-last_of_body-loop-code l = record { left : (n : Tables) → last_of (tops (row (code_nest n) l.code-iterator.iter.rest.now)) ≡ last_of (tops (codes_nest n l.body)) }

abbrev pub invariant-last_of_items-loop-item : goal.invariant-last_of_items-loop-item
invariant-last_of_items-loop-item l = record { left : (n : Tables) → last_of (tops (row (item_nest n) l.item-iterator.iter.rest.now)) ≡ last_of (tops (items_nest n l.items)) }
