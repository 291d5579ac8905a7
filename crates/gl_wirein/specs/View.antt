-- What the code's rows stand for.
use Rattle.std.specs.Prelude.{map, reverse}
use Rattle.gl_ast.specs.Template.{body_of, slots_of}
use Rattle.gl_ast.specs.View.{seen_stmts, seen_slots}
use Rattle.gl_wirein.specs.ReadRows as rows
use Rattle.gl_wirein.specs.declared.rows.Open.{Open}
use Rattle.gl_wirein.specs.declared.rows.Rows.{Rows}

-- the statements of a body and its blocks are held the last first
abbrev pub open_view : Open → rows.Open
open_view o = (body_of (reverse (seen_stmts o.stmts.items)), body_of o.otherwise, slots_of (reverse (seen_slots o.slots.items)))

-- and the open bodies the innermost last
abbrev pub rows_view : Rows → rows.State
rows_view r = (open_view r.innermost, reverse (map open_view r.outer.items))
