-- An application with its programs, by the numbers of classes.
use Rattle.std.specs.Prelude.{ℕ, List, [], map, false, Option, Some, None, slice_get}
use Rattle.gl_base.specs.Texts.{Text}
use Rattle.gl_ast.specs.Template.{Body}
use Rattle.gl_meaning.specs.App.{App}
use Rattle.gl_meaning.specs.Eval.{class_named}
use Rattle.gl_meaning.specs.Manifest.{Manifest, ClassEntry}
use Rattle.gl_program.specs.ClassProgram.{ClassProgram}
use Rattle.gl_program.specs.Program.{Program}
use Rattle.gl_wire.specs.Symbols.{place_of, symbols_of}
use Rattle.gl_plain.specs.State.{Names, MScope, mscope}
use Rattle.gl_machine.specs.Sight.{Sight, sight, Passing}

-- The programs of the classes stand in the manifest's order.
pub record Env : Type 0 where
  pub app : App
  pub manifest : Manifest
  pub programs : List ClassProgram

abbrev pub class_or : Option ClassEntry → ClassEntry
class_or (Some c) = c
class_or None = record { name = []; file = []; fields = []; getters = []; actions = []; teardown = false }

-- the class of a number
abbrev pub class_no : Env → ℕ → ClassEntry
class_no env c = class_or (slice_get env.manifest.classes c)

abbrev pub program_or : Option Program → Program
program_or (Some p) = p
program_or None = record { words = []; texts = []; names = []; ints = [] }

abbrev pub programs_or : Option ClassProgram → ClassProgram
programs_or (Some p) = p
programs_or None = record { template = record { words = []; texts = []; names = []; ints = [] }; getters = []; actions = [] }

-- the program of a class's template, and that of one of its getters
abbrev pub program_no : Env → ℕ → Program
program_no env c = (programs_or (slice_get env.programs c)).template

abbrev pub getter_no : Env → ℕ → ℕ → Program
getter_no env c g = program_or (slice_get (programs_or (slice_get env.programs c)).getters g)

abbrev pub template_no : Env → ℕ → Body
template_no env c = (class_named (class_no env c).name env.app.classes).template

-- The program of a template names parameters by these.
abbrev pub symbols_at : Env → ℕ → List Text
symbols_at env c = symbols_of (template_no env c)

abbrev pub by_symbol : List Text → Text × ℕ → ℕ × ℕ
by_symbol ys x = (place_of ys x.0, x.1)

abbrev pub texts_of : Names → List Text
texts_of ns = map (λ n. n.0) ns

-- what the machine sees in a class's program where a template sees the scope
abbrev pub seen : Env → ℕ → MScope → Passing → Sight
seen env c (mscope i a l v) w = sight c i a (map (by_symbol (symbols_at env c)) l) w
