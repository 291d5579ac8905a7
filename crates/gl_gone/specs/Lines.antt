-- The line of what was destroyed.
use Rattle.std.specs.Prelude.{ℕ, List, [], ◌∷◌, ◌++◌, if◌then◌else◌, Option, Some, None, codes}
use Rattle.std.specs.Str.{bytes_eq}
use Rattle.gl_base.specs.Texts.{Text}
use Rattle.gl_meaning.specs.Manifest.{Manifest, ClassEntry}
use Rattle.gl_meaning.specs.Path.{into, Path}
use Rattle.gl_meaning.specs.Print.{line}
use Rattle.gl_meaning.specs.View.{path_view}
use Rattle.gl_lines.specs.Lines.{modifier_line}
use Rattle.gl_code.specs.Tables.{tables_of}
use Rattle.gl_gone.specs.declared.endings.Ending.{Ending}
use Rattle.gl_gone.specs.declared.endings.Ending.TheVariants as ending

-- the first class of a name
abbrev pub entry_named : Text → List ClassEntry → Option ClassEntry
entry_named x [] = None
entry_named x (c ∷ cs) = if bytes_eq x c.name then Some c else entry_named x cs

-- The class of the instance at a path: the path names it, but for the root's.
abbrev pub entry_at : Manifest → Path → Option ClassEntry
entry_at m [] = entry_named m.root m.classes
entry_at m (into c ∷ p) = entry_named c m.classes
entry_at m (s ∷ p) = None

-- an instance has a line where its class has teardown
abbrev pub class_line : Option ClassEntry → Text
class_line None = []
class_line (Some c) = if c.teardown then line (codes "destroy " ++ c.name) else []

-- the name of the modifier with a number
abbrev pub modifier_name : Manifest → ℕ → Text
modifier_name m k = (tables_of m).modifier k

abbrev pub ending_line : Manifest → Ending → Text
ending_line m (ending.Modifier i node name) = modifier_line (codes "destroy ") node.1 (modifier_name m name) []
ending_line m (ending.Instance o) = class_line (entry_at m (path_view o.value.path))
