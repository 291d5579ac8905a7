-- The first getter of a manifest that reaches itself.
use Rattle.std.specs.Prelude.{◌≡◌, ℕ, List, map, Option, Some, None}
use Rattle.gl_base.specs.Texts.{Text}
use Rattle.gl_ast.specs.Template.{Body}
use Rattle.gl_meaning.specs.App.{Class}
use Rattle.gl_meaning.specs.Known.{Getter, Reaches, IsFirstCycle, IsCyclic, HasNoCycle}
use Rattle.gl_meaning.specs.Manifest.{Manifest, app_of}
use Rattle.gl_meaning.specs.ManifestLimits as most

-- how many getters a class has at most
abbrev pub most_getters : ℕ
most_getters = most.getters

abbrev pub getter : Class → Text → Getter
getter c n = record { of_class = c; name = n }

-- the getters of a class, in their order
abbrev pub getters_in : Class → List Getter
getters_in c = map (λ g. getter c g.0) c.getters

-- the name is that of the first of these getters of the class that reaches itself, or none does
abbrev pub IsFirstIn : Class → Option Text → Type 0
IsFirstIn c None = (n : Text) → Reaches c n → ⊥
IsFirstIn c (Some n) = IsFirstCycle (getters_in c) (getter c n)

-- The answer for a manifest, whatever its templates are. With a class and a getter: the first getter of the application that
-- reaches itself is that one, in the class of that name. With none: no getter of the application reaches itself.
abbrev pub IsCycleOf : Manifest → Option (Text × Text) → Type 0
IsCycleOf m None = (templates : List Body) → HasNoCycle (app_of m templates)
IsCycleOf m (Some answer) =
    (templates : List Body) → (c : Class) × (c.name ≡ answer.0) × IsCyclic (app_of m templates) (getter c answer.1)
