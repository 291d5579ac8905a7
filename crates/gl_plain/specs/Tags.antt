-- The parts of a tag as a machine over words has them: all are bound in the order in which they are written, and are given to the element
-- where the tag ends. A value that another one overrides is bound too.
use Rattle.std.specs.Prelude.{ℕ, zero, suc, List, [], ◌∷◌, ◌++◌, map, filter, length, Bool, true, false, ◌||◌, not, if◌then◌else◌, codes}
use Rattle.std.specs.Str.{bytes_eq}
use Rattle.gl_base.specs.Texts.{Text}
use Rattle.gl_value.specs.Value.{text}
use Rattle.gl_ast.specs.Template.{AttrValue, fixed, live, Part, attribute, modifier, spread}
use Rattle.gl_meaning.specs.App.{App}
use Rattle.gl_meaning.specs.Path.{V}
use Rattle.gl_meaning.specs.Scope.{Pair, of_value, absent}
use Rattle.gl_meaning.specs.Eval.{values_in}
use Rattle.gl_meaning.specs.Parts.{Attrs, attribute_value, last_only, Written}
use Rattle.gl_plain.specs.Ids.{a_modifier, Id}
use Rattle.gl_plain.specs.State.{constant_form, Names, MScope, modifier_row, State, make, note_installed}
use Rattle.gl_plain.specs.Naming.{Naming, by_path}
use Rattle.gl_plain.specs.Binding.{BoundAll, Bound, old_ref, new_ref, bind_expr_as, bind_exprs_as, bind_pairs_as, Placed, place}
use Rattle.gl_plain.specs.Live.{AttrSpot, ModSpot}

-- Binding

-- an attribute with a text or a reference, or a modifier with the references of its arguments, of which the last have names
pub data Waiting : Type 0 where
  fixed_part : Text → Text → Waiting
  live_part : Text → ℕ → Waiting
  modifier_part : Text → List ℕ → Names → Waiting

pub record BoundParts : Type 0 where
  pub parts : List Waiting
  pub made : List Id
  pub state : State

module _ (naming : Naming) where
  abbrev pub bind_attribute_as : App → MScope → Text → AttrValue → State → BoundParts
  bind_attribute_as app ms n (fixed t) st = record { parts = fixed_part n t ∷ []; made = []; state = st }
  bind_attribute_as app ms n (live e) st = let b = bind_expr_as naming app ms e st in record { parts = live_part n b.id ∷ []; made = b.made; state = b.state }

  abbrev pub bind_part_as : App → MScope → Part → State → BoundParts
  bind_part_as app ms (attribute n v) st = bind_attribute_as app ms n v st
  bind_part_as app ms (modifier n es ns) st =
      let b = bind_exprs_as naming app ms es st in let c = bind_pairs_as naming app ms ns b.state in
      record { parts = modifier_part n b.ids c.names ∷ []; made = b.made ++ c.made; state = c.state }
  bind_part_as app ms spread st = record { parts = []; made = []; state = st }

  abbrev pub bind_written_as : App → List (Written MScope) → State → BoundParts
  bind_written_as app [] st = record { parts = []; made = []; state = st }
  bind_written_as app (w ∷ ws) st =
      let b = bind_part_as app w.by w.part st in let c = bind_written_as app ws b.state in record { parts = b.parts ++ c.parts; made = b.made ++ c.made; state = c.state }

-- By paths.

abbrev pub bind_attribute : App → MScope → Text → AttrValue → State → BoundParts
bind_attribute = bind_attribute_as by_path

abbrev pub bind_part : App → MScope → Part → State → BoundParts
bind_part = bind_part_as by_path

abbrev pub bind_written : App → List (Written MScope) → State → BoundParts
bind_written = bind_written_as by_path

-- Attributes

pub data Given : Type 0 where
  fixed_given : Text → Given
  live_given : ℕ → Given

abbrev pub attributes_waiting : List Waiting → List (Text × Given)
attributes_waiting [] = []
attributes_waiting (fixed_part n t ∷ ws) = (n, fixed_given t) ∷ attributes_waiting ws
attributes_waiting (live_part n r ∷ ws) = (n, live_given r) ∷ attributes_waiting ws
attributes_waiting (modifier_part n rs ns ∷ ws) = attributes_waiting ws

-- each name once, in the place of the first
abbrev pub names_waiting : List (Text × Given) → List Text
names_waiting [] = []
names_waiting (w ∷ ws) = w.0 ∷ filter (λ n. not (bytes_eq w.0 n)) (names_waiting ws)

-- the values that the attribute of a name takes: all of that name for `class`, for any other name the last
abbrev pub taken_waiting : Text → List (Text × Given) → List (Text × Given)
taken_waiting n ws = let group = filter (λ w. bytes_eq n w.0) ws in if bytes_eq n (codes "class") then group else last_only group

abbrev pub is_live_given : Given → Bool
is_live_given (fixed_given t) = false
is_live_given (live_given r) = true

abbrev pub some_waiting_live : List (Text × Given) → Bool
some_waiting_live [] = false
some_waiting_live (w ∷ ws) = is_live_given w.1 || some_waiting_live ws

-- what a text is; where none of some values is live
abbrev pub given_pair : Given → Pair
given_pair (fixed_given t) = of_value (text t)
given_pair (live_given r) = absent

abbrev pub given_pairs : List (Text × Given) → List Pair
given_pairs ws = map (λ w. given_pair w.1) ws

-- the references of a position: a text beside a live value gets one of its own
abbrev pub given_ref : Given → State → Bound
given_ref (fixed_given t) st = new_ref (constant_form (text t)) st
given_ref (live_given r) st = old_ref r st

abbrev pub given_refs : List (Text × Given) → State → BoundAll
given_refs [] st = record { ids = []; made = []; state = st }
given_refs (w ∷ ws) st =
    let b = given_ref w.1 st in let c = given_refs ws b.state in record { ids = b.id ∷ c.ids; made = b.made ++ c.made; state = c.state }

pub record AttrsGiven : Type 0 where
  pub attrs : Attrs
  pub spots : List AttrSpot
  pub state : State

-- an attribute with the values it takes, of which one that takes a live value is a position
abbrev pub give_attr : Text → List (Text × Given) → State → (State → AttrsGiven) → AttrsGiven
give_attr n taken st rest =
    if some_waiting_live taken
    then (let x = place (given_refs taken st) in let r = rest x.state in record { attrs = (n, attribute_value x.pairs) ∷ r.attrs; spots = record { name = n; spot = x.spot } ∷ r.spots; state = r.state })
    else (let r = rest st in record { attrs = (n, attribute_value (given_pairs taken)) ∷ r.attrs; spots = r.spots; state = r.state })

abbrev pub give_attrs : List (Text × Given) → List Text → State → AttrsGiven
give_attrs ws [] st = record { attrs = []; spots = []; state = st }
give_attrs ws (n ∷ ns) st = give_attr n (taken_waiting n ws) st (give_attrs ws ns)

-- the attributes that an element gets, where its tag ends
abbrev pub flush_parts : List Waiting → State → AttrsGiven
flush_parts ps st = let ws = attributes_waiting ps in give_attrs ws (names_waiting ws) st

-- Modifiers

-- a modifier with the references of its arguments, of which the last have names
pub record WaitingModifier : Type 0 where
  pub name : Text
  pub ids : List ℕ
  pub names : Names

abbrev pub modifiers_waiting : List Waiting → List WaitingModifier
modifiers_waiting [] = []
modifiers_waiting (modifier_part n rs ns ∷ ws) = record { name = n; ids = rs; names = ns } ∷ modifiers_waiting ws
modifiers_waiting (fixed_part n t ∷ ws) = modifiers_waiting ws
modifiers_waiting (live_part n r ∷ ws) = modifiers_waiting ws

abbrev pub named_with : List Text → List V → List (Text × V)
named_with [] vs = []
named_with (n ∷ ns) [] = []
named_with (n ∷ ns) (v ∷ vs) = (n, v) ∷ named_with ns vs

abbrev pub first_values : ℕ → List V → List V
first_values zero vs = []
first_values (suc n) [] = []
first_values (suc n) (v ∷ vs) = v ∷ first_values n vs

abbrev pub values_from : ℕ → List V → List V
values_from zero vs = vs
values_from (suc n) [] = []
values_from (suc n) (v ∷ vs) = values_from n vs

-- a modifier in its place on a node, installed with the values of its position
abbrev pub install : ℕ → ℕ → WaitingModifier → Placed → ModSpot × State
install n i w x =
    let m = x.state.next a_modifier in let vs = values_in x.pairs in let names = map (λ y. y.0) w.names in (
      record { id = m; positional = length w.ids; names = names; spot = x.spot },
      note_installed m (make a_modifier (modifier_row (record { on_node = n; place = i; name = w.name; args = first_values (length w.ids) vs; names = named_with names (values_from (length w.ids) vs) })) x.state),
    )

pub record ModsGrown : Type 0 where
  pub spots : List ModSpot
  pub state : State

-- the modifiers of the node n, of which the first has the place i
abbrev pub install_all : ℕ → ℕ → List WaitingModifier → State → ModsGrown
install_all n i [] st = record { spots = []; state = st }
install_all n i (w ∷ ws) st =
    let x = install n i w (place (record { ids = w.ids ++ map (λ y. y.1) w.names; made = []; state = st })) in
    let r = install_all n (suc i) ws x.1 in record { spots = x.0 ∷ r.spots; state = r.state }

-- the modifiers are installed where the element ends
abbrev pub install_parts : ℕ → ℕ → List Waiting → State → ModsGrown
install_parts n i ps st = install_all n i (modifiers_waiting ps) st
