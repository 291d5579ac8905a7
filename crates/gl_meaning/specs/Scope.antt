-- What was read for a value, and what is seen from a place of a template.
use Rattle.std.specs.Prelude.{List, [], ◌∷◌, ◌++◌, flat_map}
use Rattle.gl_base.specs.Texts.{Text}
use Rattle.gl_value.specs.Value.{undefined}
use Rattle.gl_ast.specs.Template.{Part, Slots}
use Rattle.gl_meaning.specs.Path.{Path, V}

-- What can be read, and change later.
pub data Source : Type 0 where
  -- a field of an instance
  cell : Path → Text → Source
  -- the value of an item of an `each`
  item_value : Path → Source
  -- the index of an item of an `each`
  item_index : Path → Source

-- A value with the sources that were read for it. A source may stand in the list more than once.
pub record Pair : Type 0 where
  pub value : V
  pub sources : List Source

-- what wasn't given
abbrev pub absent : Pair
absent = record { value = undefined; sources = [] }

-- a value for which nothing was read
abbrev pub of_value : V → Pair
of_value v = record { value = v; sources = [] }

abbrev pub sources_of : List Pair → List Source
sources_of ps = flat_map (λ p. p.sources) ps

abbrev pub NamedPairs : Type 0
NamedPairs = List (Text × Pair)

-- What is seen from a place: the path of `this`, the arguments, the block parameters with the innermost last, and what the
-- invocation of this component passed.
mutual
  pub data Scope : Type 0 where
    scope : Path → NamedPairs → NamedPairs → Passed → Scope

  -- The parts for which `...attributes` stands and the blocks for `yield`. The scope is that of the template that wrote both: in
  -- them `this`, arguments and block parameters mean those of that template.
  pub data Passed : Type 0 where
    nothing_passed : Passed
    passed : List Part → Slots → Scope → Passed

abbrev pub this_of : Scope → Path
this_of (scope t a l w) = t

abbrev pub arguments_of : Scope → NamedPairs
arguments_of (scope t a l w) = a

abbrev pub locals_of : Scope → NamedPairs
locals_of (scope t a l w) = l

abbrev pub passed_of : Scope → Passed
passed_of (scope t a l w) = w

-- with further block parameters, which are the innermost
abbrev pub with_locals : NamedPairs → Scope → Scope
with_locals more (scope t a l w) = scope t a (l ++ more) w

-- `this` and the arguments alone, as a getter sees them
abbrev pub own_scope : Scope → Scope
own_scope (scope t a l w) = scope t a [] nothing_passed

-- Parameters with the values given: one without a value is undefined, a value without a parameter is ignored.
abbrev pub bind : List Text → List Pair → NamedPairs
bind [] ps = []
bind (n ∷ ns) [] = (n, absent) ∷ bind ns []
bind (n ∷ ns) (p ∷ ps) = (n, p) ∷ bind ns ps
