-- The nodes of the parts of an updating program, nested as they were rendered.
use Rattle.std.specs.Prelude.{ℕ, List, map, Option}
use Rattle.gl_arena.specs.Id.{Id}
use Rattle.gl_nodes.specs.Flat.{stamp_of}
use Rattle.gl_machine.specs.Code.{live_of, lives_of, items_of}
use Rattle.gl_machine.specs.Shape.{Nest, joined, nest, nest_in, nest_items, nest_comment}
use Rattle.gl_vm.specs.View.{Tables}
use Rattle.gl_code.specs.CodeView.{seen_code, seen_codes, seen_item_code, all_items}
use Rattle.gl_code.specs.declared.code.Code.{Code}
use Rattle.gl_code.specs.declared.code.Codes.{Codes}
use Rattle.gl_code.specs.declared.code.ItemCode.{ItemCode}

-- those of a statement, of a list of statements, and of a body with the comment that stands after it
abbrev pub code_nest : Tables → Code → Nest ℕ
code_nest n code = nest (live_of (seen_code n code))

abbrev pub codes_nest : Tables → Codes → Nest ℕ
codes_nest n codes = nest_in (lives_of (seen_codes n codes))

abbrev pub body_nest : Tables → Codes → Option Id → Nest ℕ
body_nest n codes comment = joined (codes_nest n codes) (nest_comment (stamp_of comment))

-- those of an item, and of the items of a list
abbrev pub item_nest : Tables → ItemCode → Nest ℕ
item_nest n item = let x = seen_item_code n item in joined (nest_in (lives_of x.1.1)) (nest_comment x.1.0)

abbrev pub items_nest : Tables → List ItemCode → Nest ℕ
items_nest n items = nest_items (items_of (all_items (map (seen_item_code n) items)))
