-- What the code's values stand for: an action's owner is the number of an instance.
use Rattle.std.specs.Prelude.{ℕ, List, map}
use Rattle.gl_base.specs.Texts.{Text}
use Rattle.gl_value.specs.Value as v
use Rattle.gl_value.specs.declared.value.Value.{Value}
use Rattle.gl_value.specs.declared.value.Pair.{Pair}
use Rattle.gl_value.specs.declared.value.Value.TheVariants as code

abbrev pub view : Value → v.Value ℕ
view code.Undefined = v.undefined
view code.Null = v.null
view (code.Bool b) = v.boolean b
view (code.Int i) = v.integer i
view (code.Text t) = v.text t
view (code.List vs) = v.list (v.values_of vs)
view (code.Record ps) = v.pairs (v.pairs_of ps)
view (code.Act a) = v.action a.owner a.name (v.values_of a.fixed)

abbrev pub seen_items : List Value → List (v.Value ℕ)
seen_items vs = map view vs

abbrev pub seen_pair : Pair → Text × v.Value ℕ
seen_pair p = (p.key, view p.value)

abbrev pub seen_pairs : List Pair → List (Text × v.Value ℕ)
seen_pairs ps = map seen_pair ps

-- a name with the code's value
abbrev pub Entry : Type 0
Entry = Text × Value

abbrev pub seen_entry : Entry → Text × v.Value ℕ
seen_entry e = (e.0, view e.1)

abbrev pub seen_entries : List Entry → List (Text × v.Value ℕ)
seen_entries es = map seen_entry es
