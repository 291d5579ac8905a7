-- The tree of a template, and the JSON of a file.
use Rattle.std.specs.Prelude.{List, Option, Some, None, Result, Ok, Err}
use Rattle.serde_json.specs.Data.{Data}
use Rattle.gl_base.specs.Texts.{Text}
use Rattle.gl_ast.specs.Template.{Body}
use Rattle.gl_outside.specs.Shelf.{Entry}
use Rattle.gl_meaning.specs.JsonText.{read_json}
use Rattle.gl_load.specs.Load.{small_file, template_in}
use Rattle.gl_load.specs.Refusal.{Cause, not_json, Refusal, ◌>>=◌, in_file}

-- the tree that a file spells, or the refusal of that file
unfoldable pub tree_in : List Entry → Text → Result Body Refusal
tree_in files name = in_file name (template_in files name)

abbrev pub json_read : Option Data → Result Data Cause
json_read None = Err not_json
json_read (Some d) = Ok d

-- the JSON that a file holds
unfoldable pub json_held : List Entry → Text → Result Data Cause
json_held files name = small_file files name >>= λ bytes. json_read (read_json bytes)

-- and with the refusal of that file
unfoldable pub json_in : List Entry → Text → Result Data Refusal
json_in files name = in_file name (json_held files name)
