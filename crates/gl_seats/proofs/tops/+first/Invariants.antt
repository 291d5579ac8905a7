use Rattle.std.proofs.Common.{◌≡◌, drop}
use Rattle.gl_nodes.specs.Flat.{head_of}
use Rattle.gl_vm.specs.View.{Tables}
use Rattle.gl_code.specs.Hung.{tops}
use Rattle.gl_seats.specs.Parts.{code_nest, item_nest}
use Rattle.gl_seats.proofs.Rows.{row}
use Rattle.gl_seats.proofs.tops.+first.Given as goal

-- the first of what is left is the first of all
abbrev pub invariant-first_of_body-loop-code : goal.invariant-first_of_body-loop-code
invariant-first_of_body-loop-code l = record { left : (n : Tables) → head_of (tops (row (code_nest n) (drop l.code-index l.code-items))) ≡ head_of (tops (row (code_nest n) l.code-items)) }

abbrev pub invariant-first_of_items-loop-item : goal.invariant-first_of_items-loop-item
invariant-first_of_items-loop-item l = record { left : (n : Tables) → head_of (tops (row (item_nest n) (drop l.item-index l.items))) ≡ head_of (tops (row (item_nest n) l.items)) }
