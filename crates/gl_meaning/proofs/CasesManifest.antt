-- Manifests with templates, and paths of the code, computed.
use Rattle.std.specs.Prelude.{◌≡◌, [], ◌∷◌, codes, refl, false}
use Rattle.gl_base.specs.Texts.{Text}
use Rattle.gl_ast.specs.Template.{Body, end, stmt, text_stmt}
use Rattle.gl_meaning.specs.App.{App}
use Rattle.gl_meaning.specs.Manifest.{Manifest, ClassEntry, class_of, app_of}
use Rattle.gl_meaning.specs.Path.{at, into}
use Rattle.gl_meaning.specs.View.{path_view}
use Rattle.gl_meaning.specs.declared.path.Path.{Path}

abbrev entry : Text → ClassEntry
entry n = record { name = n; file = n; fields = []; getters = []; actions = []; teardown = false }

abbrev shows : Text → Body
shows s = stmt (text_stmt s) end

abbrev two : Manifest
two = record { root = codes "A"; limit = 2; modifiers = []; classes = entry (codes "A") ∷ entry (codes "B") ∷ [] }

abbrev made : Body → Body → App
made b c = record { root = codes "A"; limit = 2; modifiers = []; classes = class_of (entry (codes "A")) b ∷ class_of (entry (codes "B")) c ∷ [] }

-- each class has the template in its place, and the empty one where there is none; those that are left over are nobody's
in_place : app_of two (shows (codes "x") ∷ shows (codes "y") ∷ shows (codes "z") ∷ []) ≡ made (shows (codes "x")) (shows (codes "y"))
in_place = refl

without : app_of two (shows (codes "x") ∷ []) ≡ made (shows (codes "x")) end
without = refl

-- the code's first step is the outermost
abbrev walked : Path
walked = record { steps = at 2 ∷ into (codes "B") ∷ [] }

innermost_first : path_view walked ≡ into (codes "B") ∷ at 2 ∷ []
innermost_first = refl
