-- The parts of a tag, and what they come to.
use Rattle.std.specs.Prelude.{ℕ, List, ◌∷◌, ◌++◌, map, Bool, Some, [], filter, filter_map, not, if◌then◌else◌}
use Rattle.gl_value.specs.Value.{attribute_text, is_empty}
use Rattle.gl_meaning.specs.Scope.{Source, Pair}
use Rattle.gl_plain.specs.State.{State}
use Rattle.gl_plain.specs.Live.{AttrSpot, ModSpot}
use Rattle.gl_plain.specs.Tags as t
use Rattle.gl_vm.specs.View.{Tables, stamps, name_stamps, state_of, Agrees}
use Rattle.gl_vm.specs.declared.vm.Vm.{Vm}
use Rattle.gl_parts.specs.declared.waiting.Waiting.{Waiting}
use Rattle.gl_parts.specs.declared.waiting.Waiting.TheVariants as w
use Rattle.gl_base.specs.Texts.{Text}
use Rattle.gl_base.specs.Names.{has_text}
use Rattle.gl_meaning.specs.Parts.{Attrs, attribute_value, spaced}
use Rattle.gl_meaning.specs.Signs.{blank}
use Rattle.gl_plain.specs.Ids.{Id}
use Rattle.gl_plain.specs.Binding.{BoundAll, Placed}
use Rattle.gl_plain.specs.Tags.{Given, fixed_given, live_given, AttrsGiven, ModsGrown}
use Rattle.gl_vm.specs.Steps.{Follows}
use Rattle.gl_parts.specs.declared.attributes.Given.{Given as CodeGiven}
use Rattle.gl_parts.specs.declared.attributes.Given.TheVariants as g
use Rattle.gl_parts.specs.declared.attributes.Attribute.{Attribute}

abbrev pub seen_part : Tables → Waiting → t.Waiting
seen_part n (w.Fixed name text) = t.fixed_part name text
seen_part n (w.Live name id) = t.live_part name id.1
seen_part n (w.Modifier name args named) = t.modifier_part (n.modifier name) (stamps args) (name_stamps named)

abbrev pub seen_parts : Tables → List Waiting → List t.Waiting
seen_parts n xs = map (seen_part n) xs

-- Some state follows, and it is this.
pub record Comes (n : Tables) (vm : Vm) (P : State → Type 0) : Type 0 where
  pub state : State
  pub follows : Follows n state vm
  pub is : P state

-- From what was kept to what is kept it is this, whichever sources were touched, and whatever the manifest's names are.
abbrev pub Leads : (Tables → State → State → Type 0) → Vm → Vm → Type 0
Leads P old new = (n : Tables) (touched : Source → Bool) → Agrees touched old → Comes n new (P n (state_of n old touched))

abbrev pub seen_given : CodeGiven → Given
seen_given (g.Fixed text) = fixed_given text
seen_given (g.Live id) = live_given id.1

abbrev pub seen_attribute : Attribute → Text × Given
seen_attribute x = (x.name, seen_given x.given)

abbrev pub seen_attributes : List Attribute → List (Text × Given)
seen_attributes xs = map seen_attribute xs

-- those of the names that aren't among the first
abbrev pub other_names : List Text → List Text → List Text
other_names ks ns = filter (λ n. not (has_text n ks)) ns

-- the texts of the values that aren't left out
abbrev pub texts_given : List Pair → List Text
texts_given ps = filter_map (λ p. attribute_text p.value) ps

-- the texts that aren't empty
abbrev pub words_of : List Text → List Text
words_of ts = filter (λ t. not (is_empty t)) ts

-- a text that was begun, with others behind it
abbrev pub spaced_after : Text → List Text → Text
spaced_after out [] = out
spaced_after out (t ∷ ts) = if is_empty out then spaced (t ∷ ts) else out ++ blank ∷ spaced (t ∷ ts)

-- references and what was made for them, before others
abbrev pub bound_after : List ℕ → List Id → BoundAll → BoundAll
bound_after ids made b = record { ids = ids ++ b.ids; made = made ++ b.made; state = b.state }

-- attributes and their positions, before others
abbrev pub given_after : Attrs → List AttrSpot → AttrsGiven → AttrsGiven
given_after attrs spots r = record { attrs = attrs ++ r.attrs; spots = spots ++ r.spots; state = r.state }

-- an attribute with the value of a position, before others
abbrev pub attr_placed : Text → Placed → (State → AttrsGiven) → AttrsGiven
attr_placed n x rest = let r = rest x.state in record { attrs = (n, attribute_value x.pairs) ∷ r.attrs; spots = record { name = n; spot = x.spot } ∷ r.spots; state = r.state }

-- modifiers before others
abbrev pub grown_after : List ModSpot → ModsGrown → ModsGrown
grown_after spots r = record { spots = spots ++ r.spots; state = r.state }
