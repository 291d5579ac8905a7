-- The trees of templates.
use Rattle.std.specs.Prelude.{List, map, ◌++◌, Result, Ok}
use Rattle.gl_ast.specs.Template.{Body, body_of}
use Rattle.gl_ast.specs.declared.template.Template.{Template}
use Rattle.gl_load.specs.Refusal.{Refusal, ◌>>=◌}

abbrev pub tree_of : Template → Body
tree_of t = body_of t.body

abbrev pub seen_templates : List Template → List Body
seen_templates ts = map tree_of ts

-- the templates that are loaded, and then those that are left
abbrev pub after_trees : List Body → Result (List Body) Refusal → Result (List Body) Refusal
after_trees front rest = rest >>= λ trees. Ok (front ++ trees)
