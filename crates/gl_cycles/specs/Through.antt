-- The first getter that reaches itself, as a function.
use Rattle.std.specs.Prelude.{List, [], ◌∷◌, map, Bool, false, ◌&&◌, ◌||◌, Option, Some, None, if◌then◌else◌}
use Rattle.gl_base.specs.Names.{named, has_text}
use Rattle.gl_base.specs.Texts.{Text}
use Rattle.gl_ast.specs.Template.{Expr}
use Rattle.gl_meaning.specs.Known.{mentions}
use Rattle.gl_meaning.specs.Manifest.{ClassEntry}

abbrev pub Getters : Type 0
Getters = List (Text × Expr)

-- an expression, where there is one, mentions the member
abbrev pub mentioned : Text → Option Expr → Bool
mentioned x None = false
mentioned x (Some e) = has_text x (mentions e)

-- The getter leads to the member by mentions, where every getter in between is one of these names: by none in between, by
-- the others alone, or to the first name and from there on.
abbrev pub leads_through : List Text → Getters → Text → Text → Bool
leads_through [] gs g x = mentioned x (named g gs)
leads_through (k ∷ ks) gs g x = leads_through ks gs g x || (leads_through ks gs g k && leads_through ks gs k x)

abbrev pub names_of : Getters → List Text
names_of gs = map (λ g. g.0) gs

-- the getter leads to itself through getters of its class
abbrev pub reaches_itself : Getters → Text → Bool
reaches_itself gs g = leads_through (names_of gs) gs g g

-- the first of these names whose getter leads to itself
abbrev pub first_name : Getters → List Text → Option Text
first_name gs [] = None
first_name gs (n ∷ ns) = if reaches_itself gs n then Some n else first_name gs ns

abbrev pub or_next : Text → Option Text → Option (Text × Text) → Option (Text × Text)
or_next c (Some n) rest = Some (c, n)
or_next c None rest = rest

-- the class and the name of the first getter that leads to itself
abbrev pub cycle_of : List ClassEntry → Option (Text × Text)
cycle_of [] = None
cycle_of (c ∷ cs) = or_next c.name (first_name c.getters (names_of c.getters)) (cycle_of cs)
